use Rattle.linearizer.proofs.Common.{gaps_in, length, places_in, vec_len, ◌-◌}
use Rattle.linearizer.proofs.Choosing.{IsSwept}
use Rattle.linearizer.proofs.choice.put_in_order.Given as goal

abbrev pub invariant-loop-entries : goal.invariant-loop-entries
invariant-loop-entries l = IsSwept l.values l.entries l.dequeues l.taken.items l.first_in l.first_out (places_in l.order.items) (gaps_in l.order.items)

abbrev pub decreases-loop-entries : goal.decreases-loop-entries
decreases-loop-entries l = length l.values - vec_len l.order
