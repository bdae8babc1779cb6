use Rattle.history_merge.proofs.Distinct.{contains_at}
use Rattle.history_merge.specs.Operations.{operations_of}
use Rattle.verdicts.specs.Selection.{contents_of}
use Rattle.conditions.proofs.Producing.{own_share}
use Rattle.conditions.proofs.sharing.share_of.Goals as goal

pub returns-in-Enqueue-clause-share : goal.returns-in-Enqueue-clause-share
returns-in-Enqueue-clause-share c =
    own_share (contents_of c.args.history.now) c.requires.knows.0 c.args.emptiness c.args.operation
    (contains_at (operations_of c.args.history.now.events) c.requires.among.0 c.args.operation c.requires.among.1) c.in-Enqueue.is
