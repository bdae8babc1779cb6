-- The list under a lock: it is what the log leaves of the initial values.
use Rattle.std.proofs.Common.{◌≡◌, ℕ, Bool, true, false, List, [], ◌∷◌, ◌++◌, Option, Some, None, refl, sym, ap, ◌∙◌, subst}
use Rattle.std.specs.Prelude.{if◌then◌else◌, option_and_then, option_to_list, IsSome}
use Rattle.std.proofs.lemmas.Bool.{eq-eqb}
use Rattle.std.proofs.lemmas.List.{map-append}
use Rattle.tickets.specs.declared.note.Effect.{Effect}
use Rattle.tickets.specs.declared.note.Effect.TheVariants as effect
use Rattle.tickets.specs.declared.note.Note.{Note}
use Rattle.tickets.specs.Log.{note_at}
use Rattle.history_merge.specs.declared.operation.OpKind.{OpKind}
use Rattle.tickets.specs.Queue.{after_each, bounded_after, bounded_after_one, queue_after, queue_after_one}
use Rattle.history_merge.specs.Queue.{accept, accept_all, IsAccepted}
use Rattle.stress_run.specs.Bounded.{accept_all_within, accept_within}
use Rattle.stress_run.specs.Noted.{kind_noted, kinds_noted}
use Rattle.recorder_core.proofs.Effects.{accept_more}

-- one more note, of an operation that is accepted
pub legal_more : (initial : List ℕ) (notes : List Note) (call : ℕ) (e : Effect) (look : ℕ) (s t : List ℕ)
    → accept_all initial (kinds_noted notes) ≡ Some s → accept s (kind_noted e) ≡ Some t
    → accept_all initial (kinds_noted (notes ++ note_at call e look ∷ [])) ≡ Some t
legal_more initial notes call e look s t legal one =
    ap (accept_all initial) (map-append (λ (n : Note). kind_noted n.effect) notes (note_at call e look ∷ []))
    ∙ accept_more initial (kinds_noted notes) (kind_noted e) s t legal one

-- a successful enqueue is accepted
pub put_accepts : (old new : List ℕ) (v : ℕ) (b : Bool) → new ≡ (if b then old ++ v ∷ [] else old) → b ≡ true
    → accept old (kind_noted (effect.Enq v)) ≡ Some new
put_accepts old new v b is taken = ap (λ (q : List ℕ). Some q) (sym (is ∙ ap (λ (c : Bool). if c then old ++ v ∷ [] else old) taken))

-- a failed enqueue is accepted, and changes nothing
pub refusal_accepts : (old new : List ℕ) (v : ℕ) (b : Bool) → new ≡ (if b then old ++ v ∷ [] else old) → b ≡ false
    → accept old (kind_noted (effect.Not v)) ≡ Some new
refusal_accepts old new v b is refused = ap (λ (q : List ℕ). Some q) (sym (is ∙ ap (λ (c : Bool). if c then old ++ v ∷ [] else old) refused))

-- a dequeue of the first value is accepted
pub take_accepts : (old new : List ℕ) (v : ℕ) → old ≡ option_to_list (Some v) ++ new → accept old (kind_noted (effect.Deq v)) ≡ Some new
take_accepts old new v is =
    ap (λ (q : List ℕ). accept q (kind_noted (effect.Deq v))) is ∙ ap (λ (b : Bool). if b then Some new else None) (eq-eqb v v refl)

-- a dequeue that finds the list empty is accepted
pub none_accepts : (old new : List ℕ) → old ≡ [] → old ≡ option_to_list None ++ new → accept old (kind_noted effect.Empty) ≡ Some new
none_accepts old new empty is = ap (λ (q : List ℕ). accept q (kind_noted effect.Empty)) empty ∙ ap (λ (q : List ℕ). Some q) (sym empty ∙ is)

-- ---- a ring, or nodes

-- a step for each effect of a note, and the same for the kind of its operation, lead to the same queue
same_all : (one : List ℕ → Effect → Option (List ℕ)) (all : List ℕ → List OpKind → Option (List ℕ)) (accepts : List ℕ → OpKind → Option (List ℕ))
    → ((queue : List ℕ) (e : Effect) → one queue e ≡ accepts queue (kind_noted e)) → ((queue : List ℕ) → all queue [] ≡ Some queue)
    → ((queue : List ℕ) (k : OpKind) (ks : List OpKind) → all queue (k ∷ ks) ≡ option_and_then (λ next. all next ks) (accepts queue k))
    → (queue : List ℕ) (notes : List Note) → after_each one queue notes ≡ all queue (kinds_noted notes)
same_all one all accepts same none more queue [] = sym (none queue)
same_all one all accepts same none more queue (n ∷ notes) =
    ap (option_and_then (λ next. after_each one next notes)) (same queue n.effect)
    ∙ by_first (λ next. same_all one all accepts same none more next notes) (accepts queue (kind_noted n.effect))
    ∙ sym (more queue (kind_noted n.effect) (kinds_noted notes))
  where
    by_first : ((next : List ℕ) → after_each one next notes ≡ all next (kinds_noted notes)) → (o : Option (List ℕ)) →
        option_and_then (λ next. after_each one next notes) o ≡ option_and_then (λ next. all next (kinds_noted notes)) o
    by_first later None = refl
    by_first later (Some next) = later next

same_step : (queue : List ℕ) (e : Effect) → queue_after_one queue e ≡ accept queue (kind_noted e)
same_step queue (effect.Enq v) = refl
same_step queue (effect.Not v) = refl
same_step [] (effect.Deq v) = refl
same_step (x ∷ xs) (effect.Deq v) = refl
same_step [] effect.Empty = refl
same_step (x ∷ xs) effect.Empty = refl

same_within : (room : ℕ) (queue : List ℕ) (e : Effect) → bounded_after_one room queue e ≡ accept_within room queue (kind_noted e)
same_within room queue (effect.Enq v) = refl
same_within room queue (effect.Not v) = refl
same_within room queue (effect.Deq v) = same_step queue (effect.Deq v)
same_within room queue effect.Empty = same_step queue effect.Empty

-- if a queue accepts the effects of notes, it accepts the kinds of their operations
pub noted_accepted : (queue : List ℕ) (notes : List Note) → IsSome (queue_after queue notes) → IsAccepted queue (kinds_noted notes)
noted_accepted queue notes some_left =
    subst IsSome (same_all queue_after_one accept_all accept same_step (λ _. refl) (λ _ _ _. refl) queue notes) some_left

-- the same for a bounded queue
pub noted_within : (room room' : ℕ) (queue queue' : List ℕ) (notes : List Note) → room ≡ room' → queue ≡ queue' → IsSome (bounded_after room queue notes)
    → IsSome (accept_all_within room' queue' (kinds_noted notes))
noted_within room room' queue queue' notes same_room same_values some_left =
    subst (λ (n : ℕ). IsSome (accept_all_within n queue' (kinds_noted notes))) same_room
    (subst (λ (values : List ℕ). IsSome (accept_all_within room values (kinds_noted notes))) same_values
    (subst IsSome (same_all (bounded_after_one room) (accept_all_within room) (accept_within room) (same_within room) (λ _. refl) (λ _ _ _. refl) queue notes)
    some_left))
