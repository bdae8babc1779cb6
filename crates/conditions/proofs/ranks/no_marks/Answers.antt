use Rattle.conditions.proofs.SharedOut.{marks_begin}
use Rattle.conditions.proofs.ranks.no_marks.Goals as goal

pub returns : goal.returns
returns c = marks_begin
