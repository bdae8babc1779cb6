-- A run on a queue that holds its initial values already has no fault about them.
use Rattle.std.proofs.Common.{◌≡◌, ◌+◌, ◌≤◌, ℕ, Bool, true, List, [], Err, arith, length, slice_index_or, subst, sym}
use Rattle.std.proofs.lemmas.Bool.{cases_lt}
use Rattle.stress_run.specs.Preloaded.{AreTaken, AreTakenBefore}
use Rattle.std.specs.Prelude.{IfErr}
use Rattle.std.specs.declared.result.Result.{Result}
use Rattle.event_records.specs.Question.{Question}
use Rattle.event_records.specs.declared.kind.Kind.{Kind}
use Rattle.event_records.specs.declared.kind.Answer.{Answer}
use Rattle.recorder_core.specs.Initial.{AreInitialNames}
use Rattle.stress_run.specs.Crew.{SizesView}
use Rattle.stress_run.specs.Failed.{IsFaultOfRun}
use Rattle.stress_run.specs.Faults.{IsWithinLimits}
use Rattle.stress_run.specs.declared.faults.RunFault.{RunFault}
use Rattle.stress_run.specs.declared.faults.RunFault.TheVariants.{Limit, Roles, Memory, Stalled, CloseLost, Uncertified, Preload}

-- one more value was enqueued
pub one_more_taken : (may_preload : ℕ → ℕ → Bool → Type 0) (values : List ℕ) (count : ℕ) → AreTakenBefore may_preload values count
    → may_preload count (slice_index_or values count 0) true → AreTakenBefore may_preload values (count + 1)
one_more_taken may_preload values count taken one place below = grind (arith, cases_lt)

-- all values were enqueued
pub taken_to_end : (may_preload : ℕ → ℕ → Bool → Type 0) (values : List ℕ) (count : ℕ) → length values ≤ count → AreTakenBefore may_preload values count
    → AreTaken may_preload values
taken_to_end may_preload values count all taken place below = taken place (omega (arith, all, below))

no_names : AreInitialNames []
no_names = record {
  not_too_many = omega arith;
  are_distinct = λ j k d before below. absurd (omega (arith, below));
  above_names = λ k d below. absurd (omega (arith, below));
}

module _ (may : Question → Answer → Type 0) (initial : List ℕ) (rows : List (List Kind)) (sizes : SizesView) where
  -- its fault is one of a run from these initial values
  within_from : (fault : RunFault) → IsWithinLimits sizes.ring sizes.tries → IsFaultOfRun may [] rows sizes fault → IsFaultOfRun may initial rows sizes fault
  within_from Limit within is = absurd (is (within, no_names))
  within_from Roles within is = is
  within_from Memory within is = is
  within_from (Stalled t) within is = is
  within_from (CloseLost t) within is = is
  within_from (Uncertified t) within is = is
  within_from (Preload place) within is = absurd (omega (arith, is))

  -- its fault is one of a run from these initial values with the sizes that were asked for
  pub fault_from : (asked : SizesView) (fault : RunFault) → sizes ≡ asked → IsWithinLimits asked.ring asked.tries → IsFaultOfRun may [] rows sizes fault
      → IsFaultOfRun may initial rows asked fault
  fault_from asked fault same within is = subst (λ s. IsFaultOfRun may initial rows s fault) same
      (within_from fault (subst (λ s. IsWithinLimits s.ring s.tries) (sym same) within) is)

-- its fault names no initial value
pub names_no_value : {A : Type 0} (may : Question → Answer → Type 0) (rows : List (List Kind)) (sizes : SizesView) (result : Result A RunFault) (place : ℕ)
    → result ≡ Err (Preload place) → IfErr result (IsFaultOfRun may [] rows sizes) → ⊥
names_no_value may rows sizes result place same is =
    let below = subst (λ r. IfErr r (IsFaultOfRun may [] rows sizes)) same is in omega (arith, below)
