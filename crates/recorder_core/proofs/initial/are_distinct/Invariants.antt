use Rattle.std.proofs.Common.{◌≡◌, ◌≢◌, ℕ, nat_eq, take}
use Rattle.std.specs.Prelude.{AllPairs}
use Rattle.std.specs.List.{list_any}
use Rattle.std.specs.Ordering.{nat_cmp}
use Rattle.std.specs.BTreeSet.{contains}
use Rattle.recorder_core.proofs.initial.are_distinct.Given as goal

abbrev pub invariant-loop-value : goal.invariant-loop-value
invariant-loop-value l =
    ((v : ℕ) → contains nat_cmp l.seen v ≡ list_any (λ w. nat_eq w v) (take l.value-index l.values))
    × AllPairs (λ v w. v ≢ w) (take l.value-index l.values)
