use Rattle.std.proofs.Common.{◌≡◌, ◌+◌, ℕ, count_by, not, take}
use Rattle.history_stats.specs.Inner.AtOnce.{count_before, is_kept_before}
use Rattle.history_stats.proofs.queued.add_initial.Given as goal

abbrev pub invariant-loop-value : goal.invariant-loop-value
invariant-loop-value l = (gap : ℕ) → count_by (λ v. not (is_kept_before gap l.takes v)) (take l.value-index l.values) + count_before gap l.departures.items
    ≡ l.value-index + count_before gap l.fn.departures.items
