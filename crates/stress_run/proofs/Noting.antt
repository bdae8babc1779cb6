-- From the notes of each worker to those of a run.
use Rattle.std.proofs.Common.{◌≡◌, ℕ, zero, suc, ◌<◌, Bool, true, false, List, [], ◌∷◌, ◌++◌, length, map, All}
use Rattle.std.proofs.Common.{flat_map, get_or, refl, ap, sym, subst, ◌∙◌, arith}
use Rattle.std.proofs.lemmas.List.{length-map}
use Rattle.std.proofs.lemmas.List.Elements.{All-head, All-tail}
use Rattle.std.specs.List.{AllZip}
use Rattle.atomic_table.specs.Seated.{TableId}
use Rattle.tickets.specs.Views.{PassView, fresh_pass}
use Rattle.tickets.specs.declared.note.Note.{Note}
use Rattle.event_records.specs.declared.event.Event.{Event}
use Rattle.event_records.specs.declared.kind.Kind.{Kind}
use Rattle.event_rings.specs.Ring.{TokenView}
use Rattle.stress_run.specs.Workers.{WorkerView}
use Rattle.stress_run.specs.Noted.{AreNotesOf, AreNotesOfAll, KeepsNotes}
use Rattle.stress_run.specs.Crew.{SizesView, IsNew, IsCrew, token_of}
use Rattle.stress_run.specs.Inner.Crew.{AreClosed}

abbrev sent_by : WorkerView → List Event
sent_by w = w.sent

abbrev noted_by : WorkerView → List Note
noted_by w = w.pass.noted

tokens_sent : (after : List WorkerView) → map (λ (token : TokenView). token.sent) (map token_of after) ≡ map sent_by after
tokens_sent [] = refl
tokens_sent (a ∷ rest) = ap (λ (l : List (List Event)). a.sent ∷ l) (tokens_sent rest)

joined_notes : (after : List WorkerView) → flat_map noted_by after ≡ flat_map (λ part. part) (map noted_by after)
joined_notes [] = refl
joined_notes (a ∷ rest) = ap (λ (l : List Note). a.pass.noted ++ l) (joined_notes rest)

module _ (key : TableId) (sizes : SizesView) (notes : Bool) (on : notes ≡ true) where
  kept_at : (rows : List (List Kind)) (workers after : List WorkerView) → AllZip (IsNew key sizes) rows workers → AllZip (KeepsNotes notes) workers after
      → All (λ a. a.stopped ≡ false) after → (t : ℕ) → t < length after
      → AreNotesOf (get_or (map sent_by after) t []) (get_or (map noted_by after) t [])
  kept_at rows [] [] new kept running t h = absurd (omega arith)
  kept_at rows [] (a ∷ rest) new kept running t h = absurd kept
  kept_at rows (w ∷ ws) [] new kept running t h = absurd (omega arith)
  kept_at [] (w ∷ ws) (a ∷ rest) new kept running t h = absurd new
  kept_at (r ∷ rs) (w ∷ ws) (a ∷ rest) new kept running zero h =
      let nothing_sent = new.0.sent in
      let nothing_noted = ap (λ (p : PassView). p.noted) new.0.pass in
      kept.0 on (All-head (λ (v : WorkerView). v.stopped ≡ false) a rest running)
      (subst (λ (l : List Event). AreNotesOf l w.pass.noted) (sym nothing_sent) (subst (AreNotesOf []) (sym nothing_noted) tt))
  kept_at (r ∷ rs) (w ∷ ws) (a ∷ rest) new kept running (suc t) h =
      kept_at rs ws rest new.1 kept.1 (All-tail (λ (v : WorkerView). v.stopped ≡ false) a rest running) t (omega arith)

  -- the notes of a run are those of its lists
  pub noted_all : (rows : List (List Kind)) (workers after : List WorkerView) → IsCrew key sizes rows workers → AllZip (KeepsNotes notes) workers after
      → (tokens : List TokenView) (pass : PassView) → AreClosed (fresh_pass key 0) after tokens pass
      → (lists : List (List Event)) → lists ≡ map (λ token. token.sent) tokens → AreNotesOfAll lists pass.noted
  noted_all rows workers after crew kept tokens pass closed lists sealed =
      let are : lists ≡ map sent_by after = sealed ∙ ap (map (λ (token : TokenView). token.sent)) closed.tokens_are ∙ tokens_sent after in
      let long = ap length are in
      let sent_long = length-map after sent_by in
      let noted_long = length-map after noted_by in
      record {
        parts = map noted_by after;
        one_each = omega arith;
        each = λ t h. subst (λ (l : List (List Event)). AreNotesOf (get_or l t []) (get_or (map noted_by after) t [])) (sym are)
            (kept_at rows workers after crew.each kept closed.running t (omega arith));
        together = closed.noted ∙ joined_notes after;
      }

-- a pass that has drawn and noted nothing
pub new_pass : (p : PassView) (key : TableId) (n : ℕ) → p.key ≡ key → p.left ≡ n → p.drawn ≡ [] → p.noted ≡ [] → p ≡ fresh_pass key n
new_pass p key n k left drawn noted = λ i. record { key = k i; left = left i; drawn = drawn i; noted = noted i }
