use Rattle.std.proofs.Common.{ℕ, ◌≤◌, ◌-◌, length, nat_lt}
use Rattle.std.specs.Prelude.{count_by}
use Rattle.history_stats.specs.Inner.Overtaking.{AreTallied}
use Rattle.history_stats.proofs.overtaking.put_before.Given as goal

abbrev pub invariant-loop-put : goal.invariant-loop-put
invariant-loop-put l = record {
  few : l.put ≤ count_by (λ s. nat_lt s.put l.ticket) l.stays;
  tallied : (limit : ℕ) → AreTallied limit l.stays l.place l.fn.tally.levels.items
      → AreTallied limit l.stays l.put l.tally.levels.items;
}

abbrev pub decreases-loop-put : goal.decreases-loop-put
decreases-loop-put l = length l.stays - l.put
