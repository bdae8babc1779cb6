-- Relations for looking up the lines of a claim.
use Rattle.std.specs.Prelude.{◌<◌, ℕ, List, AllPairs, Option, None, Some}
use Rattle.history_merge.specs.declared.operation.Operation.{Operation}
use Rattle.history_merge.specs.declared.operation.OpKind.{OpKind}
use Rattle.history_merge.specs.declared.operation.OpKind.TheVariants.{Enqueue, Dequeue}
use Rattle.claims.specs.declared.claimed.ClaimLine.{ClaimLine}
use Rattle.claims.specs.declared.claimed.ClaimLine.TheVariants.{Op, Initial}

-- each operation is called before the later ones
abbrev pub CallsRise : List Operation → Type 0
CallsRise operations = AllPairs (λ earlier later. earlier.call < later.call) operations

-- the value that an operation dequeued
abbrev pub value_dequeued : OpKind → Option ℕ
value_dequeued (Dequeue v) = Some v
value_dequeued _ = None

-- the value that an operation enqueued
abbrev pub value_enqueued : OpKind → Option ℕ
value_enqueued (Enqueue v) = Some v
value_enqueued _ = None

-- the value that the line dequeued
abbrev pub dequeued_by : ClaimLine → Option ℕ
dequeued_by (Op o) = value_dequeued o.kind
dequeued_by (Initial v) = None

-- the value that the line enqueued
abbrev pub enqueued_by : ClaimLine → Option ℕ
enqueued_by (Op o) = value_enqueued o.kind
enqueued_by (Initial v) = Some v
