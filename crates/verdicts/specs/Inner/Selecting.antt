-- Selection of initial values and operations by the lines of a violation.
use Rattle.std.specs.Prelude.{◌↔◌, ◌||◌, ℕ, Bool, IsTrue, List, Contains, filter_map, nat_eq, Option, Some, None}
use Rattle.std.specs.List.{list_any}
use Rattle.history_merge.specs.declared.operation.Operation.{Operation}
use Rattle.claims.specs.declared.claimed.ClaimLine.{ClaimLine}
use Rattle.claims.specs.declared.claimed.ClaimLine.TheVariants.{Op, Initial}
use Rattle.verdicts.specs.Selection.{value_of}

-- the value of a line
abbrev pub value_in : ClaimLine → Option ℕ
value_in (Op o) = value_of o.kind
value_in (Initial v) = Some v

-- the call of a line's operation
abbrev pub call_in : ClaimLine → Option ℕ
call_in (Op o) = Some o.call
call_in (Initial v) = None

-- the values are those of the lines, and the calls are those of the lines' operations
pub record SelectsNamed (lines : List ClaimLine) (values calls : ℕ → Bool) : Type 0 where
  pub values_named : (v : ℕ) → IsTrue (values v) ↔ Contains (filter_map value_in lines) v
  pub calls_named : (call : ℕ) → IsTrue (calls call) ↔ Contains (filter_map call_in lines) call

-- whether one of the operations was called or returned at this ticket
abbrev pub holds_ticket : List Operation → ℕ → Bool
holds_ticket operations ticket = list_any (λ o. nat_eq o.call ticket || nat_eq o.ret ticket) operations
