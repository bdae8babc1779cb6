use Rattle.std.proofs.Common.{◌≡◌, ℕ}
use Rattle.std.specs.Prelude.{◌||◌}
use Rattle.history_stats.specs.Inner.AtOnce.{is_kept_before, is_left_before}
use Rattle.history_stats.proofs.queued.first_dequeues.Given as goal

abbrev pub invariant-loop-operation : goal.invariant-loop-operation
invariant-loop-operation l = (gap v : ℕ)
    → (is_kept_before gap l.first v || is_left_before l.moment gap l.operation-iterator v)
    ≡ is_left_before l.moment gap l.operations v
