use Rattle.std.proofs.Common.{arith}
use Rattle.recorder_core.proofs.Fitting.{merged_is_complete_from, recorded_is_fit}
use Rattle.stress_run.proofs.runs.Recorded.history.Goals as goal

pub merged_from-requires-clause-complete : goal.merged_from-requires-clause-complete
merged_from-requires-clause-complete c =
    λ merged is. merged_is_complete_from _ merged (recorded_is_fit _ c.self.invariant.0) is _ (rw c.as_slice.ensures.value c.self.invariant.1)

pub merged_from-requires-clause-few : goal.merged_from-requires-clause-few
merged_from-requires-clause-few c = omega (arith, c.self.invariant.0.not_too_long)

pub merged_from-requires-clause-few_initial : goal.merged_from-requires-clause-few_initial
merged_from-requires-clause-few_initial c = rw c.as_slice.ensures.value c.self.invariant.1.not_too_many
