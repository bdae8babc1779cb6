use Rattle.history_text.proofs.FirstFaults.{other_version}
use Rattle.history_text.proofs.reader.TextReader.version.Goals as goal

pub returns-in-None-clause-fault : goal.returns-in-None-clause-fault
returns-in-None-clause-fault g c =
    let taken = c.in_ok-line.ensures.ok in
    other_version _ _ c.in_ok-line.line taken.0 taken.1 (rw c.as_slice.ensures at c.in-None.ensures)
