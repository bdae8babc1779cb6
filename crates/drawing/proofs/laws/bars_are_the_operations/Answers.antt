use Rattle.drawing.proofs.Nearness.{bars_are_of_operations, no_other_bars}
use Rattle.drawing.proofs.laws.bars_are_the_operations.Goals as goal

pub returns : goal.returns
returns c = record { each = bars_are_of_operations; none_else = no_other_bars }
