-- Closing the workers one by one, and the fault that stands.
use Rattle.std.proofs.Common.{◌≡◌, ℕ, ◌+◌, List, [], ◌∷◌, ◌++◌, All, flat_map, IsPermutation, false, Option, Some, None, IfNone, IfSome, refl, ap}
use Rattle.std.proofs.Common.{sym, subst, ◌∙◌, arith, append-nil, append_assoc, ◌⊎◌, inl, inr}
use Rattle.std.proofs.lemmas.List.{map-append}
use Rattle.std.proofs.lemmas.List.Elements.{All-nil, All-push, All-weaker, Contains-push, Contains-append_left}
use Rattle.std.proofs.lemmas.Bool.{false≢true}
use Rattle.std.proofs.lemmas.List.Sums.{sum_by-append, sum_by-cons}
use Rattle.std.proofs.lemmas.List.Sorted.{IsPermutation-refl, IsPermutation-trans, IsPermutation-append}
use Rattle.std.proofs.lemmas.Grind.{flat_map-append}
use Rattle.tickets.specs.Views.{PassView}
use Rattle.tickets.specs.declared.note.Note.{Note}
use Rattle.event_rings.specs.Ring.{TokenView}
use Rattle.stress_run.specs.Workers.{WorkerView}
use Rattle.stress_run.specs.Crew.{IsFaultOfWorker, IsNotAfterStall, token_of}
use Rattle.stress_run.specs.Inner.Crew.{AreClosed, Stands}
use Rattle.stress_run.specs.Faults.{IsNotAfter}
use Rattle.stress_run.specs.declared.faults.RunFault.{RunFault}
use Rattle.stress_run.specs.declared.faults.RunFault.TheVariants.{Memory, Stalled}
use Rattle.stress_run.proofs.Order.{not_after}

-- before the first worker is closed
pub closed_none : (rest : PassView) → AreClosed rest [] [] rest
closed_none rest = record {
  running = All-nil (λ (w : WorkerView). w.stopped ≡ false);
  tokens_are = refl;
  key = refl;
  left = omega arith;
  drawn = subst (λ l. IsPermutation l rest.drawn) (sym (append-nil rest.drawn)) (IsPermutation-refl rest.drawn);
  noted = sym (append-nil rest.noted);
}

-- after one more worker is closed
pub closed_more : (rest : PassView) (workers : List WorkerView) (tokens : List TokenView) (pass : PassView) (w : WorkerView)
    (tokens' : List TokenView) (pass' : PassView)
    → AreClosed rest workers tokens pass → w.stopped ≡ false → tokens' ≡ tokens ++ token_of w ∷ [] → pass'.key ≡ pass.key → pass'.left ≡ pass.left + w.pass.left
    → IsPermutation (pass.drawn ++ w.pass.drawn) pass'.drawn → pass'.noted ≡ pass.noted ++ w.pass.noted → AreClosed rest (workers ++ w ∷ []) tokens' pass'
closed_more rest workers tokens pass w tokens' pass' p runs token key left drawn noted = record {
  running = All-push (λ (v : WorkerView). v.stopped ≡ false) workers w p.running runs;
  tokens_are = token ∙ ap (λ l. l ++ token_of w ∷ []) p.tokens_are ∙ sym (map-append token_of workers (w ∷ []));
  key = key ∙ p.key;
  left = let was = p.left in let more = sum_by-append left_of workers (w ∷ []) in let one = sum_by-cons left_of w [] in omega (arith, left, was, more, one);
  drawn = subst (λ l. IsPermutation l pass'.drawn) (sym all) (IsPermutation-trans ((rest.drawn ++ flat_map drawn_of workers) ++ w.pass.drawn)
      (pass.drawn ++ w.pass.drawn) pass'.drawn (IsPermutation-append
      (rest.drawn ++ flat_map drawn_of workers) pass.drawn w.pass.drawn w.pass.drawn p.drawn (IsPermutation-refl w.pass.drawn)) drawn);
  noted = noted ∙ ap (λ l. l ++ w.pass.noted) p.noted ∙ sym all_noted;
}
  where
    left_of : WorkerView → ℕ
    left_of v = v.pass.left

    drawn_of : WorkerView → List ℕ
    drawn_of v = v.pass.drawn

    noted_of : WorkerView → List Note
    noted_of v = v.pass.noted

    all_noted : rest.noted ++ flat_map noted_of (workers ++ w ∷ []) ≡ (rest.noted ++ flat_map noted_of workers) ++ w.pass.noted
    all_noted = ap (λ l. rest.noted ++ l) (flat_map-append noted_of workers (w ∷ []) ∙ ap (λ l. flat_map noted_of workers ++ l) (append-nil w.pass.noted))
        ∙ sym (append_assoc rest.noted (flat_map noted_of workers) w.pass.noted)

    all : rest.drawn ++ flat_map drawn_of (workers ++ w ∷ []) ≡ (rest.drawn ++ flat_map drawn_of workers) ++ w.pass.drawn
    all = ap (λ l. rest.drawn ++ l) (flat_map-append drawn_of workers (w ∷ []) ∙ ap (λ l. flat_map drawn_of workers ++ l) (append-nil w.pass.drawn))
        ∙ sym (append_assoc rest.drawn (flat_map drawn_of workers) w.pass.drawn)

-- a fact that follows if there is none
pub at_none : {F : Type 0} (o : Option F) (Q : Type 0) → (o ≡ None → Q) → IfNone o Q
at_none None Q f = f refl
at_none (Some x) Q f = tt

-- a fact that is known if there is none, and there is none
pub none_of : {F : Type 0} (o : Option F) (P : Type 0) → o ≡ None → IfNone o P → P
none_of None P e p = p
none_of (Some x) P e p = cc

-- the workers that are done are closed, if no fault stands; a standing fault counts no later than the one that stood
-- at first and than each stall of theirs
pub record IsClosing (rest : PassView) (done : List WorkerView) (standing : Option RunFault) (tokens : List TokenView) (pass : PassView)
    (fault : Option RunFault) : Type 0 where
  pub closed : IfNone fault ((standing ≡ None) × AreClosed rest done tokens pass)
  pub first : IfSome standing (λ before. IfSome fault (λ f. IsNotAfter f before))
  pub stalls : IfSome fault (λ f. All (IsNotAfterStall f) done)
  pub stands : IfSome fault (Stands standing done)

-- before the first worker is closed
pub closing_none : (rest : PassView) (standing : Option RunFault) → IsClosing rest [] standing [] rest standing
closing_none rest None = record { closed = (refl, closed_none rest); first = tt; stalls = tt; stands = tt }
closing_none rest (Some f) = record { closed = tt; first = inr (refl, omega arith); stalls = All-nil (IsNotAfterStall f); stands = inl refl }

no_some : (f : RunFault) → Some f ≡ None → ⊥
no_some f e = cc

module _ (rest : PassView) (done : List WorkerView) (w : WorkerView) where
  still_first : (standing fault fault' : Option RunFault) → (fault ≡ None → standing ≡ None)
      → IfSome standing (λ before. IfSome fault (λ f. IsNotAfter f before)) → IfSome fault (λ before. IfSome fault' (λ f. IsNotAfter f before))
      → IfSome standing (λ before. IfSome fault' (λ f. IsNotAfter f before))
  still_first None fault fault' none p q = tt
  still_first (Some g) fault None none p q = tt
  still_first (Some g) None (Some f) none p q = absurd (no_some g (none refl))
  still_first (Some g) (Some b) (Some f) none p q = not_after f b g q p

  still_stalls : (fault fault' : Option RunFault) → (fault ≡ None → All (λ v. v.stopped ≡ false) done)
      → IfSome fault (λ f. All (IsNotAfterStall f) done) → IfSome fault (λ before. IfSome fault' (λ f. IsNotAfter f before))
      → IfSome fault' (λ f. IsNotAfterStall f w) → IfSome fault' (λ f. All (IsNotAfterStall f) (done ++ w ∷ []))
  still_stalls fault None running p q new = tt
  still_stalls None (Some f) running p q new =
      All-push (IsNotAfterStall f) done w (All-weaker (λ (v : WorkerView). v.stopped ≡ false) (IsNotAfterStall f)
      (λ v runs stopped. absurd (false≢true (sym runs ∙ stopped))) done (running refl)) new
  still_stalls (Some b) (Some f) running p q new =
      All-push (IsNotAfterStall f) done w (All-weaker (IsNotAfterStall b) (IsNotAfterStall f)
      (λ v h stopped. not_after f b (Stalled v.thread) q (h stopped)) done p) new

  still_stands : (standing fault fault' : Option RunFault) → IfSome fault (Stands standing done)
      → IfSome fault' (λ f. (fault ≡ Some f) ⊎ ((f ≡ Memory) ⊎ IsFaultOfWorker f w)) → IfSome fault' (Stands standing (done ++ w ∷ []))
  still_stands standing fault None p new = tt
  still_stands standing None (Some f) p (inl e) = absurd (no_some f (sym e))
  still_stands standing (Some b) (Some f) p (inl e) =
      subst (Stands standing (done ++ w ∷ [])) (same_fault b f e)
      (elim p [
        | inl was ↦ inl was
        | inr (inl memory) ↦ inr (inl memory)
        | inr (inr own) ↦ inr (inr (own.0, Contains-append_left done (w ∷ []) own.0 own.1, own.2))
      ])
    where
      same_fault : (x y : RunFault) → Some x ≡ Some y → x ≡ y
      same_fault x y same = cc
  still_stands standing fault (Some f) p (inr (inl memory)) = inr (inl memory)
  still_stands standing fault (Some f) p (inr (inr own)) =
      inr (inr (w, Contains-push done w, own))

  -- after one more worker is closed: its token is kept, and the fault that counts is chosen
  pub closing_more : (standing : Option RunFault) (tokens : List TokenView) (pass : PassView) (fault : Option RunFault) (tokens' : List TokenView)
      (pass' : PassView) (fault' : Option RunFault)
      → IsClosing rest done standing tokens pass fault
      → pass'.key ≡ pass.key
      → IfSome fault (λ before. IfSome fault' (λ f. IsNotAfter f before))
      → IfSome fault' (λ f. IsNotAfterStall f w)
      → IfSome fault' (λ f. (fault ≡ Some f) ⊎ ((f ≡ Memory) ⊎ IsFaultOfWorker f w))
      → IfNone fault' ((fault ≡ None) × (w.stopped ≡ false))
      → IfNone fault' (tokens' ≡ tokens ++ token_of w ∷ [])
      → IfNone fault' (pass'.left ≡ pass.left + w.pass.left)
      → IfNone fault' (IsPermutation (pass.drawn ++ w.pass.drawn) pass'.drawn)
      → IfNone fault' (pass'.noted ≡ pass.noted ++ w.pass.noted)
      → IsClosing rest (done ++ w ∷ []) standing tokens' pass' fault'
  closing_more standing tokens pass fault tokens' pass' fault' p key not_later stall stands runs token left drawn noted = record {
    closed = at_none fault' _ (λ none.
        let run = none_of fault' _ none runs in
        let was = none_of fault _ run.0 p.closed in (
          was.0,
          closed_more rest done tokens pass w tokens' pass' was.1 run.1 (none_of fault' _ none token) key (none_of fault' _ none left)
              (none_of fault' _ none drawn) (none_of fault' _ none noted),
        ));
    first = still_first standing fault fault' (λ none. (none_of fault _ none p.closed).0) p.first not_later;
    stalls = still_stalls fault fault' (λ none. let was = none_of fault _ none p.closed in was.1.running) p.stalls not_later stall;
    stands = still_stands standing fault fault' p.stands stands;
  }

-- after the last worker is closed
pub all_closed : (rest : PassView) (workers done left : List WorkerView) (standing : Option RunFault) (tokens : List TokenView) (pass : PassView)
    (fault : Option RunFault) → workers ≡ done ++ left → left ≡ [] → IsClosing rest done standing tokens pass fault
    → IsClosing rest workers standing tokens pass fault
all_closed rest workers done left standing tokens pass fault are none p =
    subst (λ ws. IsClosing rest ws standing tokens pass fault) (sym (are ∙ ap (λ l. done ++ l) none ∙ append-nil done)) p
