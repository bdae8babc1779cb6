use Rattle.drawing.proofs.Below.{lanes_are_apart}
use Rattle.drawing.proofs.laws.lanes_stand_apart.Goals as goal

pub returns : goal.returns
returns c = lanes_are_apart
