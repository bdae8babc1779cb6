use Rattle.parallel_finders.proofs.Common.{◌*◌, ◌+◌}
use Rattle.parallel_finders.proofs.windows.+halves.Given as goal

abbrev pub decreases-windows_at_par : goal.decreases-windows_at_par
decreases-windows_at_par g l = 2 * l.pieces

abbrev pub decreases-left : goal.decreases-left
decreases-left g l = 2 * l.some + 1

abbrev pub decreases-right : goal.decreases-right
decreases-right g l = 2 * l.others + 1
