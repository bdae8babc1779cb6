-- Plans of roles: each worker is a producer or a consumer.
use Rattle.std.specs.Prelude.{◌≡◌, ℕ, ◌-◌, List, ◌++◌, replicate}
use Rattle.event_records.specs.declared.kind.Kind.{Kind}
use Rattle.event_records.specs.declared.kind.Kind.TheVariants.{Enq, Deq}

-- this many workers with this many operations each: the first ones, the producers, only enqueue, the others only
-- dequeue
abbrev pub IsOfRoles : ℕ → ℕ → ℕ → List (List Kind) → Type 0
IsOfRoles workers producers operations rows =
    rows ≡ replicate producers (replicate operations Enq) ++ replicate (workers - producers) (replicate operations Deq)
