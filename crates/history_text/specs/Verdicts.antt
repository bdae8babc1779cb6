-- Texts of verdicts as they are written.
use Rattle.std.specs.Prelude.{ℕ, List, [], ◌∷◌, ◌++◌, codes, decimal}
use Rattle.std.specs.List.{flat_map}
use Rattle.history_merge.specs.declared.operation.Operation.{Operation}
use Rattle.history_merge.specs.declared.operation.OpKind.{OpKind}
use Rattle.history_merge.specs.declared.operation.OpKind.TheVariants.{Enqueue, Dequeue, DequeueEmpty, EnqueueFailed}
use Rattle.claims.specs.declared.claimed.ViolationKind.{ViolationKind}
use Rattle.claims.specs.declared.claimed.ViolationKind.TheVariants.{VFresh, VRepeat, VOrd, VWit}
use Rattle.claims.specs.declared.claimed.ClaimLine.{ClaimLine}
use Rattle.claims.specs.declared.claimed.ClaimLine.TheVariants.{Op, Initial}
use Rattle.claims.specs.declared.claimed.Claimed.{Claimed}
use Rattle.claims.specs.declared.claimed.Claimed.TheVariants as claimed
use Rattle.text_lines.specs.Lines.{line, spaced}
-- the places of a violation's operations and of the values of its cover, in the order in which they are shown
pub use Rattle.claims.specs.Shown.{maybe_place, places_of_step, violation_places}
-- the places of a verdict's operations and initial values, and its claim
pub use Rattle.claims.specs.Claiming.{verdict_places, violation_kind, IsWithin, lines_at, operations_at, claim_of}

-- the words of a kind of operation, with its value
abbrev pub kind_fields : OpKind → List (List ℕ)
kind_fields (Enqueue v) = codes "enq" ∷ decimal v ∷ []
kind_fields (Dequeue v) = codes "deq" ∷ decimal v ∷ []
kind_fields DequeueEmpty = codes "empty" ∷ []
kind_fields (EnqueueFailed v) = codes "not" ∷ decimal v ∷ []

-- the fields of an operation: call, return, thread, and kind
abbrev pub operation_fields : Operation → List (List ℕ)
operation_fields o = decimal o.call ∷ decimal o.ret ∷ decimal o.thread ∷ kind_fields o.kind

-- the line of an operation
abbrev pub operation_line : Operation → List ℕ
operation_line o = line (spaced (operation_fields o))

-- the fields of a line of a `NO`: of an operation, or of an initial value
abbrev pub claim_line_fields : ClaimLine → List (List ℕ)
claim_line_fields (Op o) = operation_fields o
claim_line_fields (Initial v) = codes "init" ∷ decimal v ∷ []

-- a line of a `NO`
abbrev pub claim_line : ClaimLine → List ℕ
claim_line l = line (spaced (claim_line_fields l))

-- the name of a kind of violation
abbrev pub kind_name : ViolationKind → List ℕ
kind_name VFresh = codes "VFresh"
kind_name VRepeat = codes "VRepeat"
kind_name VOrd = codes "VOrd"
kind_name VWit = codes "VWit"

-- the text of a verdict: a `YES` with its linearization, or a `NO` with its kind and the lines that show it
abbrev pub verdict_text : Claimed → List ℕ
verdict_text (claimed.Yes operations) = line (codes "YES") ++ flat_map operation_line operations
verdict_text (claimed.No kind lines) = line (codes "NO " ++ kind_name kind) ++ flat_map claim_line lines
