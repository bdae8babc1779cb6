use Rattle.linearizer.proofs.Common.{dequeue_return, entered_by}
use Rattle.linearizer.proofs.Choosing.{AreTimedSoFar}
use Rattle.linearizer.proofs.by_time.by_time.Given as goal

abbrev pub invariant-loop-place : goal.invariant-loop-place
invariant-loop-place l = record {
  entries : AreTimedSoFar entered_by l.values l.place l.entries.items;
  dequeues : AreTimedSoFar dequeue_return l.values l.place l.dequeues.items;
}
