use Rattle.tickets.proofs.Once.{drawn_once}
use Rattle.tickets.proofs.laws.each_ticket_is_drawn_once.Goals as goal

pub returns : goal.returns
returns c = drawn_once
