use Rattle.drawing.proofs.Nearness.{lines_are_of_history}
use Rattle.drawing.proofs.laws.lines_of_evidence_are_drawn.Goals as goal

pub returns : goal.returns
returns c = lines_are_of_history
