use Rattle.std.proofs.Common.{rules}
use Rattle.tickets.proofs.Ends.{parts}
use Rattle.tickets.proofs.pass.Pass.put.Goals as goal

pub split_seat-requires : goal.split_seat-requires
split_seat-requires c = (search rules, search rules, parts c.tickets.inside.table.shared.key _ _)
