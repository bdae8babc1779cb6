-- Which plans a queue can run.
use Rattle.std.specs.Prelude.{List, AllPairs, Contains, ⊤}
use Rattle.event_records.specs.declared.kind.Kind.{Kind}
use Rattle.stress_run.specs.declared.proving.ProvedQueue.{ProvedQueue}
use Rattle.stress_run.specs.declared.proving.ProvedQueue.TheVariants.{OneLock, TwoLocks, LockFree, Ring}

-- at most one row has an operation of this kind
abbrev pub AtMostOneHas : Kind → List (List Kind) → Type 0
AtMostOneHas kind rows = AllPairs (λ row later. Contains row kind → ¬ (Contains later kind)) rows

-- no two rows both have an enqueue, and no two both have a dequeue
abbrev pub HasOneOfEach : List (List Kind) → Type 0
HasOneOfEach rows = (kind : Kind) → AtMostOneHas kind rows

-- the queue can run this plan: a ring has one producer and one consumer
abbrev pub CanRun : ProvedQueue → List (List Kind) → Type 0
CanRun Ring rows = HasOneOfEach rows
CanRun OneLock rows = ⊤
CanRun TwoLocks rows = ⊤
CanRun LockFree rows = ⊤
