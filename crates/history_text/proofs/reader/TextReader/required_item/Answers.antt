use Rattle.history_text.proofs.Common.{◌∙◌, ap, Input}
use Rattle.history_text.proofs.FirstFaults.{required_taken, next_line_faulty}
use Rattle.history_text.proofs.reader.TextReader.required_item.Goals as goal

pub returns-clause-ok : goal.returns-clause-ok
returns-clause-ok g c =
    rw (rw c.in_default.is at c.item_in_buffer.ensures.none) at
    (required_taken g.T.Item.format _ _ c.in_ok-line.line c.from_line.result c.in_ok-line.ensures.ok.0 (rw c.as_slice.ensures at c.from_line.ensures.spelled))

pub returns-clause-fault : goal.returns-clause-fault
returns-clause-fault g c =
    rw (rw c.in_default.is at c.item_in_buffer.ensures.none) at
    (next_line_faulty g.T.Item.format.read _ c.self.inside.lines _ _ c.in_ok-line.line c.from_line.result
    (ap (λ (i : Input). i.lines) c.self.view_is ∙ c.in_ok-line.ensures.lines) c.in_ok-line.ensures.ok (rw c.as_slice.ensures at c.from_line.ensures.value))
