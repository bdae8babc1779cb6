-- Claims about a history, and when they are true.
use Rattle.std.specs.Prelude.{ℕ, List}
use Rattle.history_merge.specs.declared.operation.Operation.{Operation}
use Rattle.history_merge.specs.Legal.{IsLegalOrder}
use Rattle.value_match.specs.Violations.{FullViolation, fresh, repeat, order, witness}
use Rattle.claims.specs.declared.claimed.Claimed.{Claimed}
use Rattle.claims.specs.declared.claimed.Claimed.TheVariants.{Yes, No}
use Rattle.claims.specs.declared.claimed.ViolationKind.{ViolationKind}
use Rattle.claims.specs.declared.claimed.ViolationKind.TheVariants.{VFresh, VRepeat, VOrd, VWit}
use Rattle.claims.specs.Showing.{Shows}

-- the kind of a violation
abbrev pub kind_of : FullViolation → ViolationKind
kind_of (fresh deq enq) = VFresh
kind_of (repeat enq first second) = VRepeat
kind_of (order a b) = VOrd
kind_of (witness empty cover) = VWit

-- the lines are a linearization for a queue that holds these values first, or show a violation of the kind
abbrev pub IsTrueClaim : List ℕ → List Operation → Claimed → Type 0
IsTrueClaim initial operations (Yes lines) = IsLegalOrder initial operations lines
IsTrueClaim initial operations (No kind lines) = Shows initial operations kind lines
