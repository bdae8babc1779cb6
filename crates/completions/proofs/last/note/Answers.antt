use Rattle.std.proofs.Common.{arith}
use Rattle.completions.proofs.Walks.{noted}
use Rattle.completions.proofs.last.note.Goals as goal

pub returns : goal.returns
returns c = λ events are. noted events c.args.last.now c.args.event c.from.result c.from.ensures (omega arith) are
