use Rattle.history_text.proofs.Common.{refl}
use Rattle.history_text.proofs.Consuming.{failure_ahead}
use Rattle.history_text.proofs.reader.peek.Goals as goal
use Rattle.history_text.proofs.reader.peek.Goals.{in-Ok, in-Err}

pub returns-clause-fault : goal.returns-clause-fault
returns-clause-fault g c = elim c.match-peek_byte.branch [
  | in-Ok w ↦ rw w.result-is tt
  | in-Err w ↦
      let failed = rw w.in-Err.is at c.peek_byte.ensures.failed in
      rw w.result-is (refl, failure_ahead _ _ c.peek_byte.ensures.left failed)
]
