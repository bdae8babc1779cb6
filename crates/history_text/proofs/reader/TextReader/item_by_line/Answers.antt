use Rattle.history_text.proofs.Common.{◌+◌, ◌∙◌, ◌≡◌, [], ap, Cut, EndOfInput, Err, front_of, Input, item_at_front}
use Rattle.history_text.proofs.Common.{refl}
use Rattle.history_text.proofs.Consuming.{before_end}
use Rattle.history_text.proofs.FirstFaults.{items_faulty}
use Rattle.history_text.proofs.reader.TextReader.item_by_line.Goals as goal

pub returns-in-Some-clause-fault : goal.returns-in-Some-clause-fault
returns-in-Some-clause-fault g c =
    let taken = rw c.in-Some.is at c.in_ok-line.ensures.ok in
    let n : c.self.inside.lines ≡ c.args.self.now.lines + 1 = ap (λ (i : Input). i.lines) c.self.view_is ∙ c.in_ok-line.ensures.lines in
    rw (← n) (items_faulty g.T.Item.format c.self.inside.lines c.args.count _ _ c.in-Some.line c.item_in.result taken.0 taken.1
    (rw c.as_slice.ensures at c.item_in.ensures.value))

pub returns-then-is_counted-clause-fault : goal.returns-then-is_counted-clause-fault
returns-then-is_counted-clause-fault g c =
    let over = rw c.in_default.is at c.in_ok-line.ensures.ok in
    before_end _ _ EndOfInput [] (λ e b. item_at_front g.T.Item.format (c.args.self.now.lines + 1) c.args.count e (front_of b) ≡ Err Cut) over.0 over.1
    (rw (← c.limits-is_counted.ensures.is_counted, c.if-is_counted.true) refl)
