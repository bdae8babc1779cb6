use Rattle.history_text.proofs.Common.{puts_then, stops_before, stops_inside, arith}
use Rattle.text_lines.proofs.Appending.{on_ok}
use Rattle.history_text.proofs.WrittenClaims.{written_has_text}
use Rattle.history_text.proofs.history_writer.put_text.Goals as goal

pub returns-in_err-put_before_events-clause-text : goal.returns-in_err-put_before_events-clause-text
returns-in_err-put_before_events-clause-text g c = grind (arith, stops_before)

pub returns-in_err-put_events-clause-text : goal.returns-in_err-put_events-clause-text
returns-in_err-put_events-clause-text g c = grind (arith, stops_inside)

pub returns-clause-text : goal.returns-clause-text
returns-clause-text g c = grind (arith, puts_then)

pub returns-clause-readable : goal.returns-clause-readable
returns-clause-readable g c = grind (arith, on_ok, written_has_text)
