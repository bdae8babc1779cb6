use Rattle.history_text.proofs.Common.{◌∙◌, ap, Input}
use Rattle.history_text.proofs.PendingFaults.{whole_line_faulty}
use Rattle.history_text.specs.Pending.{last_line_in}
use Rattle.history_text.proofs.reader.TextReader.last_line.Goals as goal

pub returns-clause-fault : goal.returns-clause-fault
returns-clause-fault g c =
    whole_line_faulty (λ n. last_line_in n c.args.count) _ c.self.inside.lines _ _ c.in_ok-line.line c.last_line_in.result
    (ap (λ (i : Input). i.lines) c.self.view_is ∙ c.in_ok-line.ensures.lines) c.in_ok-line.ensures.ok (rw c.as_slice.ensures at c.last_line_in.ensures.value)
