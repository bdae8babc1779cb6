use Rattle.history_text.proofs.Common.{arith, inl, inr, IsScheduleTextFault, ItemFault, line, LineFault}
use Rattle.history_text.proofs.Common.{lines_before_steps, NoRoom, NoRoomForSchedule, refl, schedule_header}
use Rattle.history_text.proofs.Common.{setting_in, step_format, ◌+◌}
use Rattle.history_text.proofs.FirstFaults.{carries, later_fault, line_fault}
use Rattle.history_text.proofs.reader.TextReader.schedule.Goals as goal
use Rattle.history_text.proofs.Consuming.{Takes-append}

pub returns-in_err-threads-clause-fault : goal.returns-in_err-threads-clause-fault
returns-in_err-threads-clause-fault g c = rw (carries c.from_residual-in_err-threads.result _ c.from_residual-in_err-threads.ensures.1)
    (line_fault (λ n e r f. LineFault setting_in n e f r) (IsScheduleTextFault c.args.self.now.lines) NoRoomForSchedule (c.args.self.now.lines + 2)
    _ _ _ (line schedule_header) _ (omega (arith, c.in_ok-header_line.ensures.lines)) c.in_err-threads.ensures.of_input c.in_ok-header_line.ensures.ok
    (λ e r k. inr (inl (r, refl, k))) c.in_err-threads.ensures.fault)

pub returns-in_err-items-clause-fault : goal.returns-in_err-items-clause-fault
returns-in_err-items-clause-fault g c = rw (carries c.from_residual-in_err-items.result _ c.from_residual-in_err-items.ensures.1)
    (let set = c.in_ok-threads in
    later_fault (λ n e r f. ItemFault step_format n e f r) (IsScheduleTextFault c.args.self.now.lines) (NoRoom step_format) NoRoomForSchedule
    (c.args.self.now.lines + 3) _ _ _ (lines_before_steps set.threads set.ring) _
    (omega (arith, c.in_ok-header_line.ensures.lines, set.ensures.lines)) (Takes-append _ _ _ _ _ c.in_ok-header_line.ensures.ok set.ensures.ok.0)
    (λ e r f k. inr (inr (set.threads, set.ring, set.ensures.ok.1, (r, refl, k))))
    (λ r k. (set.threads, set.ring, set.ensures.ok.1, (r, refl, k))) c.in_err-items.ensures.fault)

pub returns-clause-schedule : goal.returns-clause-schedule
returns-clause-schedule g c =
    let set = c.in_ok-threads.ensures.ok in
    let read = c.in_ok-items.ensures in (
      record { setting = set.1; steps = rw c.from_vec-steps.ensures read.each },
      rw c.from_vec-steps.ensures (Takes-append _ _ _ _ _ (Takes-append _ _ _ _ _ c.in_ok-header_line.ensures.ok set.0)
          (Takes-append _ _ _ _ _ read.taken.1 read.taken.2)),
    )
