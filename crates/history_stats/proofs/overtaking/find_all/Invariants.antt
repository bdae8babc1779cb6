use Rattle.std.proofs.Common.{◌≡◌, ℕ, ◌<◌, ◌≤◌, get_or, length, nat_lt, take}
use Rattle.std.specs.Prelude.{count_by, filter_map}
use Rattle.history_stats.specs.Inner.Overtaking.{AreTallied, overtaking_among}
use Rattle.history_stats.specs.declared.takings.Taking.{Taking}
use Rattle.history_stats.proofs.overtaking.find_all.Given as goal

abbrev pub invariant-loop-taking : goal.invariant-loop-taking
invariant-loop-taking l = record {
  few : (k : ℕ) (d : Taking) → l.taking-index ≤ k → k < length l.takings
      → l.put ≤ count_by (λ s. nat_lt s.put (get_or l.takings k d).enqueue_call) l.stays;
  within : l.put ≤ length l.stays;
  tallied : AreTallied (length l.calls) l.stays l.put l.tally.levels.items;
  found : l.found.items ≡ filter_map (overtaking_among l.calls l.stays) (take l.taking-index l.takings);
}
