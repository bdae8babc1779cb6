-- The operations of a history, thread by thread.
use Rattle.std.proofs.Common.{◌≡◌, ℕ, zero, suc, ◌+◌, ◌*◌, ◌<◌, Bool, true, false, cond, List, [], ◌∷◌, ◌++◌, length}
use Rattle.std.proofs.Common.{Option, Some, None, refl, sym}
use Rattle.std.proofs.Common.{◌∙◌, ap, arith}
use Rattle.std.specs.Prelude.{All, Contains, filter, filter_map, find, slice_get, IsPermutation, option_to_list}
use Rattle.std.specs.Prelude.{nat_eq}
use Rattle.std.specs.List.{range_with_len, cons_option}
use Rattle.std.proofs.lemmas.Bool.{ne_eqb, eq-eqb}
use Rattle.std.proofs.lemmas.List.Elements.{All-head, All-tail}
use Rattle.std.proofs.lemmas.List.Sorted.{IsPermutation-trans, IsPermutation-append_right}
use Rattle.event_records.specs.declared.event.Event.{Event}
use Rattle.event_records.specs.Projection.{projection}
use Rattle.event_records.specs.Turns.{TakesTurns}
use Rattle.history_merge.specs.declared.operation.Operation.{Operation}
use Rattle.history_merge.specs.Operations.{operations_of, operation_of}
use Rattle.recorder_core.specs.Replay.{operation_in}
use Rattle.recorder_core.proofs.Runs.{same_number}
use Rattle.recorder_core.proofs.Blocks.{blocks, no_blocks, blocks_lead, same_permutation}
use Rattle.history_merge.proofs.Turns.{answer_is_return}
use Rattle.history_merge.proofs.Formed.{no_operation}
use Rattle.history_merge.proofs.Lists.{contains_head, one_deeper, option_cons}

-- the first element that passes is among those that pass
find_filter : {X : Type 0} (p : X → Bool) (xs : List X) → find p (filter p xs) ≡ find p xs
find_filter p [] = refl
find_filter {X} p (x ∷ xs) = by_head (p x) refl (find_filter p xs)
  where
    by_head : (b : Bool) → p x ≡ b → find p (filter p xs) ≡ find p xs
        → find p (cond b (x ∷ filter p xs) (filter p xs)) ≡ cond b (Some x) (find p xs)
    by_head true is more = rw is refl
    by_head false is more = more

-- the operations are those of each thread's events
pub operations_by_thread : (events : List Event) (n : ℕ) → ((e : Event) → Contains events e → e.thread < n)
    → IsPermutation (operations_of events) (blocks (λ t. operations_of (projection t events)) n)
operations_by_thread [] n low = same_permutation _ _ (no_blocks n)
operations_by_thread (e ∷ later) n low =
    let p : Event → Bool = λ r. nat_eq r.thread e.thread in
    let made = operation_of e (find p later) in
    let ih = operations_by_thread later n (λ x among. low x (one_deeper e later x among)) in
    let here : operations_of (projection e.thread (e ∷ later)) ≡ option_to_list made ++ operations_of (projection e.thread later) =
    rw (same_number e.thread) (ap (λ (o : Option Event). cons_option (operation_of e o) (operations_of (projection e.thread later)))
    (find_filter p later) ∙ option_cons made (operations_of (projection e.thread later))) in
    let a = same_permutation _ _ (option_cons made (operations_of later)) in
    let b = IsPermutation-append_right (option_to_list made) _ _ ih in
    let c = blocks_lead (λ t. operations_of (projection t later)) (λ t. operations_of (projection t (e ∷ later))) e.thread n (option_to_list made)
    (low e (contains_head e later)) here (λ t other. rw (ne_eqb e.thread t other) refl) in
    IsPermutation-trans _ _ _ a (IsPermutation-trans _ _ _ b c)

-- ---- the operations of one thread, by their numbers

-- the operation of the events at two places
abbrev operation_between : List Event → ℕ → ℕ → Option Operation
operation_between events i j = elim (slice_get events i) [
  | None ↦ None
  | Some call ↦ operation_of call (slice_get events j)
]

later_number : (call answer : Event) (rest : List Event) (n : ℕ)
    → operation_in (call ∷ answer ∷ rest) (suc n) ≡ operation_in rest n
later_number call answer rest n =
    let all = call ∷ answer ∷ rest in
    let e : 2 * suc n ≡ suc (suc (2 * n)) = omega arith in
    let f : 2 * suc n + 1 ≡ suc (suc (2 * n + 1)) = omega arith in
    ap (λ (i : ℕ). operation_between all i (2 * suc n + 1)) e ∙ ap (operation_between all (suc (suc (2 * n)))) f

later_numbers : (call answer : Event) (rest : List Event) (a h : ℕ)
    → filter_map (operation_in (call ∷ answer ∷ rest)) (range_with_len (suc a) h)
    ≡ filter_map (operation_in rest) (range_with_len a h)
later_numbers call answer rest a zero = refl
later_numbers call answer rest a (suc h) =
    let e : suc a + 1 ≡ suc (a + 1) = omega arith in
    rw (e, later_number call answer rest a) (ap (cons_option (operation_in rest a)) (later_numbers call answer rest (a + 1) h))

-- the operations of one thread are its calls with their answers
pub operations_in_turn : (t : ℕ) (events : List Event) (h : ℕ) → TakesTurns events → All (λ e. e.thread ≡ t) events
    → length events ≡ 2 * h
    → operations_of events ≡ filter_map (operation_in events) (range_with_len 0 h)
operations_in_turn t [] zero turns own long = refl
operations_in_turn t [] (suc h) turns own long = absurd (omega arith)
operations_in_turn t (e ∷ []) h turns own long = absurd turns
operations_in_turn t (call ∷ answer ∷ rest) zero turns own long = absurd (omega arith)
operations_in_turn t (call ∷ answer ∷ rest) (suc h) turns own long =
    let own' = All-tail (λ (e : Event). e.thread ≡ t) call (answer ∷ rest) own in
    let threads : answer.thread ≡ call.thread = All-head (λ (e : Event). e.thread ≡ t) answer rest own'
    ∙ sym (All-head (λ (e : Event). e.thread ≡ t) call (answer ∷ rest) own) in
    let found : nat_eq answer.thread call.thread ≡ true = eq-eqb answer.thread call.thread threads in
    let more = operations_in_turn t rest h turns.1 (All-tail (λ (e : Event). e.thread ≡ t) answer rest own') (omega arith) in
    rw (found, no_operation answer (find (λ r. nat_eq r.thread answer.thread) rest) (answer_is_return call.what answer.what turns.0))
    (ap (cons_option (operation_of call (Some answer))) (more ∙ sym (later_numbers call answer rest 0 h)))
