use Rattle.empty_witness.proofs.Common.{All, dequeue_call, length, take, ◌-◌, ◌≤◌}
use Rattle.empty_witness.proofs.cover.count_gone.Given as goal

abbrev pub invariant-loop-count : goal.invariant-loop-count
invariant-loop-count l = record {
  within : l.count ≤ length l.values;
  gone : All (λ value. dequeue_call value.life ≤ l.ticket) (take l.count l.values);
}

abbrev pub decreases-loop-count : goal.decreases-loop-count
decreases-loop-count l = length l.values - l.count
