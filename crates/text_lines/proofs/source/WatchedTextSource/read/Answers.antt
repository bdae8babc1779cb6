use Rattle.text_lines.proofs.Consuming.{ends, fails, gives, keeps_give}
use Rattle.text_lines.proofs.source.WatchedTextSource.read.Goals as goal
use Rattle.text_lines.proofs.source.WatchedTextSource.read.Goals.{in-Ok, in-Err}

pub returns-clause-bytes : goal.returns-clause-bytes
returns-clause-bytes g c = rw (← c.self.view_is) (elim c.match-read.branch [
  | in-Ok w ↦
      let took = rw w.in-Ok.is at c.read.ensures.bytes in rw w.result-is (gives _ _ _ took.0, λ none room. ends _ (took.1 none room))
  | in-Err w ↦ rw w.result-is (keeps_give _ _ (rw w.in-Err.is at c.read.ensures.bytes), fails _)
])
