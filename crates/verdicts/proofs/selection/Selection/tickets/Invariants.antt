use Rattle.verdicts.proofs.Common.{contains, filter, holds_ticket, List, nat_cmp, Operation, selects, ℕ, ◌++◌, ◌≡◌}
use Rattle.verdicts.proofs.selection.Selection.tickets.Given as goal

abbrev pub invariant-loop-operation : goal.invariant-loop-operation
invariant-loop-operation l = (seen : List Operation) × record {
  all : seen ++ l.operation-iterator ≡ l.operations;
  held : (t : ℕ) → contains nat_cmp l.tickets t
      ≡ holds_ticket (filter (selects (contains nat_cmp l.self.values) (contains nat_cmp l.self.calls)) seen) t;
}
