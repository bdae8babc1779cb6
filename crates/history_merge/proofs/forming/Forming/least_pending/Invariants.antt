use Rattle.history_merge.proofs.Common.{Event, HasFormed, List}
use Rattle.history_merge.proofs.Turns.{IsLeastBefore}
use Rattle.history_merge.proofs.forming.Forming.least_pending.Given as goal

abbrev pub invariant-loop-thread : goal.invariant-loop-thread
invariant-loop-thread l = (events : List Event) → HasFormed events l.self → IsLeastBefore events l.thread l.least
