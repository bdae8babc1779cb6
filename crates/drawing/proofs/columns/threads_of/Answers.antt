use Rattle.drawing.proofs.Common.{has_operations, refl, rules}
use Rattle.std.proofs.lemmas.Iterator.{YieldsList-from_range, items_from_collect}
use Rattle.std.proofs.lemmas.Iterator.Consumers.{YieldsList-from_filter}
use Rattle.drawing.specs.Layout.{threads_of}
use Rattle.drawing.proofs.columns.threads_of.Goals as goal

pub returns-clause-threads : goal.returns-clause-threads
unfolding threads_of
returns-clause-threads c =
    items_from_collect _ c.collect.ensures.ran (YieldsList-from_filter _ (has_operations c.args.operations.now)
    (YieldsList-from_range 0 64 64 c.filter.ensures.source refl) c.filter.ensures.closure (λ x b q k. search rules))
