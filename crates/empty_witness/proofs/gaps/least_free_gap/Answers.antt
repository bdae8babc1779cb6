use Rattle.empty_witness.proofs.Common.{course_of}
use Rattle.empty_witness.proofs.FreeGaps.{gap_of_window}
use Rattle.empty_witness.proofs.gaps.least_free_gap.Goals as goal

pub returns : goal.returns
returns c = λ history are. gap_of_window (course_of history) c.args.spans.now c.args.answer.now c.first_outside-gap.result are c.first_outside-gap.ensures
    c.then_some.result c.requires.late c.then_some.ensures
