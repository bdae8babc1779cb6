use Rattle.value_match.proofs.Fronts.{entries_moved}
use Rattle.parallel_finders.proofs.order.table_of.Goals as goal

pub by_return-requires : goal.by_return-requires
by_return-requires g c = record { are = entries_moved _ _ _ c.in_ok-fronts.ensures c.sort_fronts.ensures.permutation; rises = c.sort_fronts.ensures.rises }
