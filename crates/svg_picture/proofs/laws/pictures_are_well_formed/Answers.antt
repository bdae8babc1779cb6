use Rattle.svg_picture.proofs.Documents.{pictures_are_well_formed}
use Rattle.svg_picture.proofs.laws.pictures_are_well_formed.Goals as goal

pub returns : goal.returns
returns c = pictures_are_well_formed
