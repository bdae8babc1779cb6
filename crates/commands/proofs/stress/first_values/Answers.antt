use Rattle.commands.proofs.Common.{◌+◌, arith, LEAST_INITIAL_NAME}
use Rattle.std.proofs.lemmas.Iterator.{items_from_collect, YieldsList-from_range}
use Rattle.commands.proofs.stress.first_values.Goals as goal

pub returns : goal.returns
returns c = items_from_collect c.collect.result c.collect.ensures.ran
    (YieldsList-from_range LEAST_INITIAL_NAME (LEAST_INITIAL_NAME + c.args.count) c.args.count (cc) (omega arith))
