use Rattle.commands.proofs.Common.{carries, HasScheduleText, IsScheduleTextFault, NoRoomForSchedule, refl, schedule_text}
use Rattle.commands.proofs.Inputs.{end_fault, text_fault, whole_input}
use Rattle.commands.specs.Inputs.{IsScheduleOf}
use Rattle.commands.proofs.input.schedule_of.Goals as goal

pub returns-in_err-schedule-clause-fault : goal.returns-in_err-schedule-clause-fault
returns-in_err-schedule-clause-fault g c = rw (carries c.from_residual.result _ c.from_residual.ensures.1)
    (text_fault HasScheduleText schedule_text IsScheduleTextFault NoRoomForSchedule (g.S.TextSource.ahead c.args.reader) _
    (rw c.new-text.ensures at c.in_err-schedule.ensures.fault))

pub returns-in_err-at_end-clause-fault : goal.returns-in_err-at_end-clause-fault
returns-in_err-at_end-clause-fault g c =
    let read = rw c.new-text.ensures at c.in_ok-schedule.ensures.schedule in
    rw (carries c.from_residual-in_err-at_end.result _ c.from_residual-in_err-at_end.ensures.1)
    (end_fault HasScheduleText schedule_text IsScheduleTextFault NoRoomForSchedule (g.S.TextSource.ahead c.args.reader) _ _ _ read.0 read.1
    c.in_err-at_end.ensures.fault)

pub returns-clause-schedule : goal.returns-clause-schedule
returns-clause-schedule g c =
    let read = rw c.new-text.ensures at c.in_ok-schedule.ensures.schedule in
    let end = c.in_ok-at_end.ensures.left in
    whole_input (g.S.TextSource.ahead c.args.reader) _ _ (schedule_text c.in_ok-schedule.schedule) (λ input. IsScheduleOf input c.in_ok-schedule.schedule)
    read.1 end.0 end.1 (read.0, record { bytes = refl; ending = refl })
