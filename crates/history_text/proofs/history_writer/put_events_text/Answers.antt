use Rattle.history_text.proofs.Common.{puts_then, stops_before, stops_inside, arith}
use Rattle.history_text.proofs.history_writer.put_events_text.Goals as goal

pub returns-in_err-put_before_events : goal.returns-in_err-put_before_events
returns-in_err-put_before_events g c = grind (arith, stops_before)

pub returns-in_err-put_each : goal.returns-in_err-put_each
returns-in_err-put_each g c = grind (arith, stops_inside)

pub returns : goal.returns
returns g c = grind (arith, puts_then)
