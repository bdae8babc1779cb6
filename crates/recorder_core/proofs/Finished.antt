-- A machine is done if its threads are.
use Rattle.std.proofs.Common.{◌≡◌, ℕ, zero, suc, Bool, true, List, [], ◌∷◌, length, Option, Some, None, refl, sym, ap}
use Rattle.std.proofs.Common.{◌∙◌, arith}
use Rattle.std.proofs.lemmas.Bool.{and_parts, and_from, eqb-true, eq-eqb}
use Rattle.std.specs.List.{slice_get, list_all}
use Rattle.recorder_core.specs.Setting.{Setting}
use Rattle.recorder_core.specs.View.{MachineView}
use Rattle.recorder_core.specs.Inner.Seen.{is_thread_done}
use Rattle.recorder_core.specs.Schedule.{Attempt, accepted, in_ring}
use Rattle.recorder_core.specs.After.{IsAfter, thread_after}
use Rattle.recorder_core.specs.Laws.{IsDone}
use Rattle.recorder_core.proofs.Counts.{Counted, counted}
use Rattle.recorder_core.proofs.Threads.{seen_ring}
use Rattle.recorder_core.proofs.Steps.{thread_is}

all_at : {X : Type 0} (p : X → Bool) (xs : List X) → list_all p xs ≡ true → (k : ℕ) (x : X) → slice_get xs k ≡ Some x
    → p x ≡ true
all_at p [] h k x is = cc
all_at p (y ∷ xs) h zero x is = ap (λ (o : Option _). test p o) (sym is) ∙ (and_parts (p y) (list_all p xs) h).0
  where
    test : {Y : Type 0} → (Y → Bool) → Option Y → Bool
    test q None = true
    test q (Some z) = q z
all_at p (y ∷ xs) h (suc k) x is = all_at p xs (and_parts (p y) (list_all p xs) h).1 k x is

all_from : {X : Type 0} (p : X → Bool) (xs : List X) → ((k : ℕ) (x : X) → slice_get xs k ≡ Some x → p x ≡ true)
    → list_all p xs ≡ true
all_from p [] h = refl
all_from p (y ∷ xs) h = and_from (p y) (list_all p xs) (h 0 y refl) (all_from p xs (λ k x is. h (suc k) x is))

-- a machine whose threads are done is that of a done schedule
pub done_from : (setting : Setting) (old : MachineView) (schedule : List Attempt) → IsAfter setting old schedule
    → list_all is_thread_done old.threads ≡ true → IsDone setting schedule
done_from setting old schedule left h = λ t within.
    let steps = accepted setting schedule in
    let k : Counted setting t steps = counted setting t schedule in
    let p = and_parts _ _ (all_at is_thread_done old.threads h t (thread_after setting t steps) (left.each t within)) in
    let e : length (thread_after setting t steps).ring ≡ 0 = eqb-true _ _ p.1 in
    let r : length (thread_after setting t steps).ring ≡ in_ring t steps = seen_ring setting t steps k in
    (p.0, omega (arith, e, r, k.drained_below))

-- a machine of a done schedule has threads that are done
pub done_to : (setting : Setting) (old : MachineView) (schedule : List Attempt) → IsAfter setting old schedule
    → IsDone setting schedule
    → list_all is_thread_done old.threads ≡ true
done_to setting old schedule left done =
    let steps = accepted setting schedule in
    all_from is_thread_done old.threads (λ t x at.
    let f = thread_is setting old steps t x left at in
    let d = done t f.0 in
    let k : Counted setting t steps = counted setting t schedule in
    let r : length (thread_after setting t steps).ring ≡ in_ring t steps = seen_ring setting t steps k in
    ap is_thread_done f.1 ∙ and_from _ _ d.0 (eq-eqb _ _ (omega (arith, r, d.1))))
