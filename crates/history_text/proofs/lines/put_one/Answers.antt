use Rattle.history_text.proofs.Common.{stops_before, arith, nat_tests, common_steps}
use Rattle.history_text.proofs.lines.put_one.Goals as goal

pub returns-in_err-make_room-clause-text : goal.returns-in_err-make_room-clause-text
returns-in_err-make_room-clause-text g c = grind (arith, nat_tests, common_steps, stops_before)
