-- The lines of a claim: operations, and for a `NO` also initial values.
use Rattle.std.specs.Prelude.{ℕ, Option, Some, None, List, [], map, length}
use Rattle.history_merge.specs.declared.operation.Operation.{Operation}
use Rattle.history_merge.specs.declared.operation.OpKind.{OpKind}
use Rattle.history_merge.specs.declared.operation.OpKind.TheVariants.{Enqueue}
use Rattle.claims.specs.declared.claimed.ClaimLine.{ClaimLine}
use Rattle.claims.specs.declared.claimed.ClaimLine.TheVariants.{Op, Initial}
use Rattle.claims.specs.declared.claimed.Claimed.{Claimed}
use Rattle.claims.specs.declared.claimed.Claimed.TheVariants.{Yes, No}

-- the number of lines of a claim
abbrev pub count_of_lines : Claimed → ℕ
count_of_lines (Yes order) = length order
count_of_lines (No kind lines) = length lines

-- the lines of a claim: those of a `YES` are operations
abbrev pub lines_in : Claimed → List ClaimLine
lines_in (Yes order) = map Op order
lines_in (No kind lines) = lines

-- the order of a `YES`
abbrev pub order_of : Claimed → List Operation
order_of (Yes order) = order
order_of (No kind lines) = []

-- the lines that show a `NO`
abbrev pub shown_by : Claimed → List ClaimLine
shown_by (Yes order) = []
shown_by (No kind lines) = lines

-- the kind of a line's operation; an initial value counts as enqueued
abbrev pub line_kind : ClaimLine → OpKind
line_kind (Op o) = o.kind
line_kind (Initial v) = Enqueue v

-- the ticket of a line's call; an initial value was there before all tickets
abbrev pub line_call : ClaimLine → Option ℕ
line_call (Op o) = Some o.call
line_call (Initial v) = None

-- the ticket of a line's return; an initial value was there before all tickets
abbrev pub line_return : ClaimLine → Option ℕ
line_return (Op o) = Some o.ret
line_return (Initial v) = None
