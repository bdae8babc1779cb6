use Rattle.verdicts.proofs.Common.{slice_get, Some, ℕ, ◌<◌, ◌≢◌}
use Rattle.verdicts.proofs.lookup.stands_before.Given as goal

abbrev pub invariant-loop-place : goal.invariant-loop-place
invariant-loop-place l = (i : ℕ) → i < l.place → slice_get l.values i ≢ Some l.first
