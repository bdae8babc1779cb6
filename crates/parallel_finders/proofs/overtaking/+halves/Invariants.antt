use Rattle.parallel_finders.proofs.Common.{◌*◌, ◌+◌}
use Rattle.parallel_finders.proofs.overtaking.+halves.Given as goal

abbrev pub decreases-left : goal.decreases-left
decreases-left g l = 2 * l.some + 1

abbrev pub decreases-right : goal.decreases-right
decreases-right g l = 2 * l.others + 1

abbrev pub decreases-first_overtaking_par : goal.decreases-first_overtaking_par
decreases-first_overtaking_par g l = 2 * l.pieces
