use Rattle.commands.proofs.Inputs.{begins_with_byte, begins_with_none}
use Rattle.commands.proofs.input.begins_as_yes.Goals as goal

pub returns-in-Some-clause-begins : goal.returns-in-Some-clause-begins
returns-in-Some-clause-begins g c = begins_with_byte _ _ (rw c.in-Some.is at c.in_ok-next.ensures.next)

pub returns-in-None-clause-begins : goal.returns-in-None-clause-begins
returns-in-None-clause-begins g c = begins_with_none _ (rw c.in-None.is at c.in_ok-next.ensures.next)
