-- The order of operations is that of their steps.
use Rattle.std.proofs.Common.{◌≡◌, ℕ, Bool, true, false, cond, List, [], ◌∷◌, Option, Some, None, refl, sym, ◌∙◌, ap}
use Rattle.std.proofs.Common.{subst, inl, inr}
use Rattle.std.specs.Prelude.{Contains, find, nat_eq, flat_map, ◌↔◌}
use Rattle.std.specs.List.{cons_option}
use Rattle.std.proofs.lemmas.Bool.{eqb-true}
use Rattle.std.proofs.lemmas.Option.{same_Some}
use Rattle.std.proofs.lemmas.List.Sorted.{IsPermutation-sym, Contains-permutation}
use Rattle.event_records.specs.declared.event.Event.{Event}
use Rattle.event_records.specs.declared.event.What.{What}
use Rattle.event_records.specs.declared.event.What.TheVariants.{CallEnq, RetEnq, RetNot, CallDeq, RetDeq, RetEmpty}
use Rattle.history_merge.specs.declared.operation.Operation.{Operation}
use Rattle.history_merge.specs.declared.operation.OpKind.{OpKind}
use Rattle.history_merge.specs.declared.operation.OpKind.TheVariants.{Enqueue, Dequeue, DequeueEmpty, EnqueueFailed}
use Rattle.history_merge.specs.Merge.{IsMerged}
use Rattle.history_merge.specs.Operations.{Precedes, operations_of, operation_of, kind_of}
use Rattle.recorder_core.specs.Setting.{Setting}
use Rattle.recorder_core.specs.Schedule.{Attempt, accepted, events}
use Rattle.recorder_core.specs.Laws.{collected_in, collected_lists, operation_call, operation_return, call_of_kind}
use Rattle.recorder_core.specs.Laws.{return_of_kind, ReturnsBeforeAsk}
use Rattle.recorder_core.proofs.Collecting.{list_at}
use Rattle.recorder_core.proofs.Members.{joined_contains}
use Rattle.recorder_core.proofs.Precedence.{place_of, lower_stands_before, stands_before_is_lower, collected_is_event}
use Rattle.history_merge.proofs.Distinct.{contains_cons, not_in_none}
use Rattle.history_merge.proofs.Lists.{contains_head, one_deeper}

found_among : {X : Type 0} (p : X → Bool) (xs : List X) (x : X) → find p xs ≡ Some x → Contains xs x × (p x ≡ true)
found_among p [] x is = cc
found_among {X} p (y ∷ xs) x is = by_head (p y) refl (found_among p xs x) is
  where
    by_head : (b : Bool) → p y ≡ b → (find p xs ≡ Some x → Contains xs x × (p x ≡ true))
        → cond b (Some y) (find p xs) ≡ Some x
        → Contains (y ∷ xs) x × (p x ≡ true)
    by_head true passes more e = let same : y ≡ x = cc in (subst (λ (z : X). Contains (y ∷ xs) z) same (contains_head y xs), ap p (sym same) ∙ passes)
    by_head false passes more e = let m = more e in (one_deeper y xs x m.0, m.1)

whats_of : (call answer : What) (kind : OpKind) → kind_of call answer ≡ Some kind
    → (call ≡ call_of_kind kind) × (answer ≡ return_of_kind kind)
whats_of (CallEnq v) RetEnq kind is = let same : Enqueue v ≡ kind = same_Some (Enqueue v) kind is in (ap call_of_kind same, ap return_of_kind same)
whats_of (CallEnq v) RetNot kind is = let same : EnqueueFailed v ≡ kind = same_Some (EnqueueFailed v) kind is in (ap call_of_kind same, ap return_of_kind same)
whats_of CallDeq (RetDeq v) kind is = let same : Dequeue v ≡ kind = same_Some (Dequeue v) kind is in (ap call_of_kind same, ap return_of_kind same)
whats_of CallDeq RetEmpty kind is = let same : DequeueEmpty ≡ kind = same_Some DequeueEmpty kind is in (ap call_of_kind same, ap return_of_kind same)
whats_of _ _ kind is = cc

-- the call and the return of an operation
made_by : (call answer : Event) (o : Operation) → operation_of call (Some answer) ≡ Some o
    → answer.thread ≡ call.thread
    → (call ≡ operation_call o) × (answer ≡ operation_return o)
made_by call answer o is threads = by_kind (kind_of call.what answer.what) refl is
  where
    as_operation : Option OpKind → Option Operation
    as_operation k = elim k [ None ↦ None | Some x ↦ Some (record { call = call.ticket; ret = answer.ticket; thread = call.thread; kind = x }) ]

    by_kind : (k : Option OpKind) → kind_of call.what answer.what ≡ k → as_operation k ≡ Some o
        → (call ≡ operation_call o) × (answer ≡ operation_return o)
    by_kind None is' e = cc
    by_kind (Some kind) is' e =
        let made : Operation = record { call = call.ticket; ret = answer.ticket; thread = call.thread; kind = kind } in
        let same : made ≡ o = same_Some made o e in
        let whats = whats_of call.what answer.what kind is' in (
          ap (λ (w : What). let x : Event = record { ticket = call.ticket; thread = call.thread; what = w } in x) whats.0 ∙ ap operation_call same,
          ap (λ (w : What). let x : Event = record { ticket = answer.ticket; thread = answer.thread; what = w } in x) whats.1
              ∙ ap (λ (t : ℕ). let x : Event = record { ticket = answer.ticket; thread = t; what = return_of_kind kind } in x) threads
              ∙ ap operation_return same,
        )

-- the call and the return of an operation are events of the history
pub operation_events : (events : List Event) (o : Operation) → Contains (operations_of events) o
    → Contains events (operation_call o) × Contains events (operation_return o)
operation_events [] o among = absurd (not_in_none o among)
operation_events (e ∷ later) o among = by_made (operation_of e (find (λ r. nat_eq r.thread e.thread) later)) refl (operation_events later o) among
  where
    first : (found : Option Event) → find (λ r. nat_eq r.thread e.thread) later ≡ found → operation_of e found ≡ Some o
        → Contains (e ∷ later) (operation_call o) × Contains (e ∷ later) (operation_return o)
    first None is made = cc
    first (Some answer) is made =
        let f = found_among (λ (r : Event). nat_eq r.thread e.thread) later answer is in
        let m = made_by e answer o made (eqb-true answer.thread e.thread f.1) in
        (subst (Contains (e ∷ later)) m.0 (contains_head e later), subst (Contains (e ∷ later)) m.1 (one_deeper e later answer f.0))

    by_made : (made : Option Operation) → operation_of e (find (λ r. nat_eq r.thread e.thread) later) ≡ made
        → (Contains (operations_of later) o → Contains later (operation_call o) × Contains later (operation_return o))
        →
        Contains (cons_option made (operations_of later)) o → Contains (e ∷ later) (operation_call o) × Contains (e ∷ later) (operation_return o)
    by_made None is more there = let m = more there in (one_deeper e later (operation_call o) m.0, one_deeper e later (operation_return o) m.1)
    by_made (Some p) is more there = elim (contains_cons p (operations_of later) o there) [
      | inl same ↦ first (find (λ r. nat_eq r.thread e.thread) later) refl (is ∙ ap (λ (x : Operation). Some x) same)
      | inr rest ↦ let m = more rest in (one_deeper e later (operation_call o) m.0, one_deeper e later (operation_return o) m.1)
    ]

-- ---- in the collected history

module _ (setting : Setting) (schedule : List Attempt) (merged : List Event)
    (is : IsMerged (collected_lists setting schedule) merged) where
  -- an event of the collected history is one of its thread's
  placed : (e : Event) → Contains merged e → (t : ℕ) × Contains (events setting t (accepted setting schedule)) e
  placed e among =
      let all = flat_map (λ (list : List Event). list) (collected_lists setting schedule) in
      let j = joined_contains (collected_lists setting schedule) e (Contains-permutation merged all e (IsPermutation-sym _ _ is.holds_each_once) among) in
      let l = list_at (λ t. collected_in setting schedule t) setting.threads j.0 j.1 j.2 in
      (j.0, collected_is_event setting schedule j.0 e (subst (λ (list : List Event). Contains list e) l.1 j.3))

  -- an operation precedes another if and only if its return step comes before the other's ask
  pub precedes_as_stands : (x y : Operation) → Contains (operations_of merged) x → Contains (operations_of merged) y
      → Precedes x y ↔ ReturnsBeforeAsk setting schedule x y
  precedes_as_stands x y in_x in_y =
      let ret = placed (operation_return x) (operation_events merged x in_x).1 in
      let call = placed (operation_call y) (operation_events merged y in_y).0 in (
        lower_stands_before setting schedule (operation_return x) (operation_call y) (place_of setting ret.0 schedule (operation_return x) ret.1)
            (place_of setting call.0 schedule (operation_call y) call.1),
        stands_before_is_lower setting schedule (operation_return x) (operation_call y),
      )
