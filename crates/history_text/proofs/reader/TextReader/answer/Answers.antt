use Rattle.history_text.proofs.Common.{◌+◌, ◌∙◌, ◌≡◌, ap, FirstLineFault, Input, Line}
use Rattle.history_text.proofs.FirstFaults.{at_line}
use Rattle.history_text.proofs.reader.TextReader.answer.Goals as goal

pub returns-in-None-clause-fault : goal.returns-in-None-clause-fault
returns-in-None-clause-fault g c =
    let taken = c.in_ok-line.ensures.ok in
    let n : c.self.inside.lines ≡ c.args.self.now.lines + 1 = ap (λ (i : Input). i.lines) c.self.view_is ∙ c.in_ok-line.ensures.lines in
    at_line (λ end front. FirstLineFault (c.args.self.now.lines + 1) end (Line c.self.inside.lines) front) _ _ c.in_ok-line.line taken.0 taken.1
    (λ end rest. (rw c.as_slice.ensures at c.in-None.ensures, ap Line n))
