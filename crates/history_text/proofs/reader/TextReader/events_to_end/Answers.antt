use Rattle.history_text.proofs.Common.{arith, ◌≡◌}
use Rattle.history_text.proofs.FirstFaults.{carries}
use Rattle.history_text.proofs.PendingFaults.{counted_taken, lacks_end, plain_taken}
use Rattle.history_text.proofs.reader.TextReader.events_to_end.Goals as goal
use Rattle.history_text.proofs.Consuming.{Takes-append}

pub returns-in_err-last_line-clause-fault : goal.returns-in_err-last_line-clause-fault
returns-in_err-last_line-clause-fault g c =
    let read = c.in_ok-open_calls.ensures.read in
    let failed = c.in_err-last_line.ensures in
    let same : c.as_slice.result.now ≡ c.collect_events.new.into.items = c.as_slice.ensures.value in
    rw (carries c.from_residual-in_err-last_line.result _ c.from_residual-in_err-last_line.ensures.1)
    (lacks_end c.args.is_pending _ _ c.collect_events.new.into.items read.1 _ _ _ failed.of_input c.in_ok-open_calls.field-0
    c.if-is_pending.true read.4 (omega (arith, c.in_ok-open_calls.ensures.lines)) (Takes-append _ _ _ _ _ read.2 read.3)
    (rw same at failed.fault))

pub returns-in_ok-last_line-clause-taken : goal.returns-in_ok-last_line-clause-taken
returns-in_ok-last_line-clause-taken g c =
    let read = c.in_ok-open_calls.ensures.read in
    counted_taken c.args.is_pending c.in_ok-open_calls.field-0 c.collect_events.new.into.items _ _ _ _ read.4 c.if-is_pending.true read.2 read.3
    (rw c.as_slice.ensures.value at c.in_ok-last_line.ensures.ok)

pub returns-else-is_pending-clause-taken : goal.returns-else-is_pending-clause-taken
returns-else-is_pending-clause-taken g c =
    let read = c.in_ok-open_calls.ensures.read in
    plain_taken c.args.is_pending c.in_ok-open_calls.field-0 c.collect_events.new.into.items _ _ _ read.4 c.if-is_pending.false read.2 read.3
