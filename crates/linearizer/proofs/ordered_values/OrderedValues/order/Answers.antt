use Rattle.linearizer.proofs.ordered_values.OrderedValues.order.Goals as goal

pub returns-clause-clear : goal.returns-clause-clear
returns-clause-clear c = rw (← c.self.view_is) c.self.invariant.0
