use Rattle.std.proofs.Common.{◌≡◌, ◌++◌, List, All}
use Rattle.std.specs.Vec.Iter.{into_iter_items}
use Rattle.stress_run.specs.Workers.{WorkerView}
use Rattle.stress_run.proofs.Closed.{IsClosing}
use Rattle.stress_run.proofs.closing.close_all.Given as goal

abbrev pub invariant-loop-worker : goal.invariant-loop-worker
invariant-loop-worker l =
    (goal.iterator-loop-worker).can_next l.worker-iterator
    × (goal.iterator-loop-worker).is_finite l.worker-iterator
    × All (λ w. w.pass.key ≡ l.tickets.key) (into_iter_items l.worker-iterator)
    × (l.closing.pass.key ≡ l.tickets.key)
    × ((done : List WorkerView) × (l.fn.workers.items ≡ done ++ into_iter_items l.worker-iterator)
    × IsClosing l.fn.rest done l.fn.standing l.closing.tokens.items l.closing.pass l.closing.fault)
