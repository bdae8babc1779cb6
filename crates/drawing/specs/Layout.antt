-- The content of a picture: labels, threads, tickets, the operations in rows, numbers and points of effect.
use Rattle.std.specs.Prelude.{ℕ, ◌+◌, ◌-◌, ◌++◌, codes, max, ◌&&◌, ◌||◌, if◌then◌else◌, nat_le, nat_eq, Bool, false}
use Rattle.std.specs.Prelude.{Option, Some, None, List, [], filter, find, map}
use Rattle.std.specs.Prelude.{length, take, decimal, replicate, fold}
use Rattle.std.specs.List.{list_any, range_with_len, position}
use Rattle.event_records.specs.declared.limits.TheConstants.{MAX_THREAD}
use Rattle.history_merge.specs.declared.operation.Operation.{Operation}
use Rattle.history_merge.specs.declared.operation.OpKind.{OpKind}
use Rattle.history_merge.specs.declared.operation.OpKind.TheVariants as kind
use Rattle.claims.specs.declared.claimed.ClaimLine.{ClaimLine}
use Rattle.claims.specs.declared.claimed.ClaimLine.TheVariants.{Op, Initial}
use Rattle.claims.specs.declared.claimed.Claimed.{Claimed}
use Rattle.drawing.specs.Claim.{lines_in}
use Rattle.drawing.specs.Pending.{is_pending}
use Rattle.drawing.specs.declared.scene.Row.{Row}
use Rattle.drawing.specs.declared.scene.Row.TheVariants as row
use Rattle.drawing.specs.Names.{value_text, name_of, initial_text}

-- ---- words

-- the number of digits of a number
abbrev pub digits : ℕ → ℕ
digits n = length (decimal n)

-- a value in full, or by its name
abbrev pub value_in : Bool → ℕ → List ℕ
value_in full v = if full then decimal v else value_text v

-- the word of a kind of operation
abbrev pub kind_word : OpKind → List ℕ
kind_word (kind.Enqueue v) = codes "enq"
kind_word (kind.Dequeue v) = codes "deq"
kind_word (kind.EnqueueFailed v) = codes "not"
kind_word kind.DequeueEmpty = codes "empty"

-- a blank and the value of an operation, in full or by its name; nothing if it has none
abbrev pub value_after : Bool → OpKind → List ℕ
value_after full (kind.Enqueue v) = codes " " ++ value_in full v
value_after full (kind.Dequeue v) = codes " " ++ value_in full v
value_after full (kind.EnqueueFailed v) = codes " " ++ value_in full v
value_after full kind.DequeueEmpty = []

-- a kind of operation and its value, in full or by its name
abbrev pub told : Bool → OpKind → List ℕ
told full kind = kind_word kind ++ value_after full kind

-- the label of an operation: its kind, and its value by its name
abbrev pub label : OpKind → List ℕ
label kind = told false kind

-- words after a number that is right-aligned in a column of this width, or after blanks if there is no number
abbrev pub numbered : ℕ → List ℕ → List ℕ → List ℕ
numbered wide number words = replicate (wide - length number) 32 ++ (number ++ (codes " " ++ words))

-- the label of an initial value, by its name
abbrev pub initial_label : ℕ → List ℕ
initial_label v = initial_text (name_of v)

-- ---- threads

-- some operation is of this thread
abbrev pub has_operations : List Operation → ℕ → Bool
has_operations operations thread = list_any (λ o. nat_eq o.thread thread) operations

-- the threads that have operations, the least first
unfoldable pub threads_of : List Operation → List ℕ
threads_of operations = filter (has_operations operations) (range_with_len 0 (MAX_THREAD + 1))

-- ---- labels

-- the length of the longest label of initial values and operations, or of `empty`
abbrev pub label_width : List ℕ → List Operation → ℕ
label_width initial operations =
    fold (λ widest len. max widest len) 5
    (map (λ v. length (initial_label v)) initial ++ map (λ o. length (label o.kind)) operations)

-- ---- operations in rows

-- the operation is of this thread, was called by this ticket, and hasn't returned before it, or never returned
abbrev pub is_under_way : Option ℕ → ℕ → ℕ → Operation → Bool
is_under_way added_from thread ticket o =
    nat_eq o.thread thread && (nat_le o.call ticket && (nat_le ticket o.ret || is_pending added_from o))

-- the operation of this thread that is under way at a ticket
abbrev pub under_way : Option ℕ → List Operation → ℕ → ℕ → Option Operation
under_way added_from operations thread ticket = find (is_under_way added_from thread ticket) operations

-- the operation that is called at this ticket
abbrev pub called_at : List Operation → ℕ → Option Operation
called_at operations ticket = find (λ o. nat_eq o.call ticket) operations

-- ---- the claim

-- a line belongs to a row: an operation to the row of its call, an initial value to its own; the calls of operations
-- differ
abbrev pub stands_in : Row → ClaimLine → Bool
stands_in (row.Ticket ticket) (Op listed) = nat_eq listed.call ticket
stands_in (row.Initial place v) (Initial listed) = nat_eq listed v
stands_in r line = false

-- the place of a row's line among these lines, from 0, if there is one
abbrev pub place_in : List ClaimLine → Row → Option ℕ
place_in lines r = position (stands_in r) lines

-- the place of a row's line in a claim
abbrev pub place_of : Claimed → Row → Option ℕ
place_of claimed r = place_in (lines_in claimed) r

-- the digits of the number of a place, from 1
abbrev pub number_at : Option ℕ → List ℕ
number_at None = []
number_at (Some place) = decimal (place + 1)

-- the greatest call of these operations
abbrev pub greatest_call : List Operation → ℕ
greatest_call operations = fold (λ greatest o. max greatest o.call) 0 operations

-- the ticket just before the effect of the operation at place i of an order: the greatest call of those up to it
abbrev pub point : List Operation → ℕ → ℕ
point order i = greatest_call (take (i + 1) order)
