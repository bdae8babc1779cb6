use Rattle.history_text.proofs.PendingFaults.{other_first}
use Rattle.history_text.proofs.reader.TextReader.first_line.Goals as goal

pub returns-in-None-clause-fault : goal.returns-in-None-clause-fault
returns-in-None-clause-fault g c =
    let taken = c.in_ok-line.ensures.ok in
    other_first _ _ c.in_ok-line.line taken.0 taken.1 (rw c.as_slice.ensures at c.in-None.ensures)
