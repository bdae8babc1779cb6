use Rattle.history_text.proofs.Common.{◌∙◌, arith, sym, take_rest, nat_tests, common_steps}
use Rattle.history_text.proofs.FormLines.{last_line_ok, last_line_faulty, item_line_ok}
use Rattle.history_text.proofs.item.item_in.Goals as goal

pub returns-in-Ok-clause-spelled : goal.returns-in-Ok-clause-spelled
returns-in-Ok-clause-spelled g c = grind (arith, nat_tests, common_steps, last_line_ok, take_rest)

pub returns-in-Err-clause-value : goal.returns-in-Err-clause-value
returns-in-Err-clause-value g c =
    last_line_faulty g.T.Item.format c.args.line c.args.count c.args.bytes.now _ c.in-Err.fault (sym c.is_last.ensures ∙ c.if-is_last.true)
    (take_rest c.args.bytes.now 4) (sym c.in-Err.is ∙ c.end_in.ensures.value)

pub returns-in-Ok-from_line-clause-spelled : goal.returns-in-Ok-from_line-clause-spelled
returns-in-Ok-from_line-clause-spelled g c = grind (arith, item_line_ok)
