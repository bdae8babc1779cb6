use Rattle.history_text.proofs.Consuming.{failure_ahead, more_ahead}
use Rattle.history_text.proofs.reader.at_end.Goals as goal
use Rattle.history_text.proofs.reader.at_end.Goals.{in-Ok-None, in-Ok-Some, in-Err}

pub returns-clause-fault : goal.returns-clause-fault
returns-clause-fault g c = elim c.match-next_byte.branch [
  | in-Ok-None w ↦ rw w.result-is tt
  | in-Ok-Some w ↦ rw w.result-is (more_ahead _ _ _ (rw (w.in-Ok-Some.is, w.in-Ok-Some.field-0-is) at c.next_byte.ensures.byte))
  | in-Err w ↦ let failed = rw w.in-Err.is at c.next_byte.ensures.failed in rw w.result-is (failure_ahead _ _ failed.0 failed.1)
]
