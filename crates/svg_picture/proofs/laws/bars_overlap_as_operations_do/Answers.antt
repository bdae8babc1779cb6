use Rattle.svg_picture.proofs.Apart.{rows_are_apart, bars_overlap_in_time}
use Rattle.svg_picture.proofs.laws.bars_overlap_as_operations_do.Goals as goal

pub returns-clause-rows : goal.returns-clause-rows
returns-clause-rows c = rows_are_apart

pub returns-clause-overlap : goal.returns-clause-overlap
returns-clause-overlap c = bars_overlap_in_time
