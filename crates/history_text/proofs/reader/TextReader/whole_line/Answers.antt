use Rattle.history_text.proofs.Common.{[], Cut, EndOfInput, front_of, NoLineFault, refl}
use Rattle.history_text.proofs.Consuming.{before_end}
use Rattle.history_text.proofs.reader.TextReader.whole_line.Goals as goal

pub returns-in-None-clause-fault : goal.returns-in-None-clause-fault
returns-in-None-clause-fault g c =
    let over = rw c.in-None.is at c.in_ok-line.ensures.ok in
    before_end _ _ EndOfInput [] (λ e b. NoLineFault c.args.too_long e Cut (front_of b)) over.0 over.1 refl
