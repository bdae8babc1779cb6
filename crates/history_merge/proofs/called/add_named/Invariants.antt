use Rattle.history_merge.proofs.Common.{contains, is_called_in, name_in, nat_cmp, nat_eq, take, ℕ, ◌&&◌, ◌||◌, ◌≡◌}
use Rattle.history_merge.proofs.called.add_named.Given as goal

abbrev pub invariant-loop-operation : goal.invariant-loop-operation
invariant-loop-operation l = (v : ℕ) → contains nat_cmp l.values v
    ≡ (contains nat_cmp l.initial.values v || (nat_eq (name_in v) l.name && is_called_in (take l.operation-index l.operations) v))
