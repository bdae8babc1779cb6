use Rattle.svg_picture.proofs.Apart.{lanes_are_apart}
use Rattle.svg_picture.proofs.laws.svg_lanes_stand_apart.Goals as goal

pub returns : goal.returns
returns c = lanes_are_apart
