use Rattle.history_text.proofs.Common.{fields_of, sym}
use Rattle.history_text.proofs.FormLines.{said_spelled, step_spells, thread_is_few}
use Rattle.history_text.proofs.step_line.StepItem.from_line.Goals as goal

pub step_of-requires : goal.step_of-requires
step_of-requires c =
    let is = said_spelled step_spells c.args.line (fields_of c.args.bytes.now) (c.in_ok-step.step, c.in_ok-step.numbers) (sym c.in_ok-step.ensures.value) in
    record { thread = thread_is_few c.in_ok-step.step _ _ is.line; has_line = is.line }

pub returns-clause-spelled : goal.returns-clause-spelled
returns-clause-spelled c = rw c.step_of.ensures (said_spelled step_spells _ _ _ (sym c.in_ok-step.ensures.value))
