-- The scene of a picture, which characters and pixels draw alike: its rows from top to bottom, and its lanes side by
-- side.
use Rattle.std.specs.Prelude.{ℕ, ◌+◌, ◌-◌, ◌==◌, ◌&&◌, ◌||◌, if◌then◌else◌, max, fold, length, decimal, nat_lt, nat_eq}
use Rattle.std.specs.Prelude.{Bool, Option}
use Rattle.std.specs.Prelude.{Some, None, List, [], ◌∷◌, ◌++◌, count_by, codes, option_map}
use Rattle.std.specs.List.{concat, find, flat_map, enumerate_from, list_any}
use Rattle.event_records.specs.declared.event.Event.{Event}
use Rattle.history_merge.specs.Initial.{HistoryView}
use Rattle.history_merge.specs.declared.operation.Operation.{Operation}
use Rattle.history_merge.specs.declared.operation.OpKind.{OpKind}
use Rattle.history_merge.specs.declared.operation.OpKind.TheVariants as kind
use Rattle.claims.specs.declared.claimed.Claimed.{Claimed}
use Rattle.claims.specs.declared.claimed.Claimed.TheVariants.{No}
use Rattle.claims.specs.declared.claimed.ViolationKind.TheVariants.{VRepeat}
use Rattle.drawing.specs.Claim.{order_of, line_kind}
use Rattle.drawing.specs.Drawn.{drawn_initial}
use Rattle.drawing.specs.Layout.{threads_of, point, stands_in}
use Rattle.drawing.specs.Bands.{bands_of, gap_time}
use Rattle.drawing.specs.Pending.{is_added}
use Rattle.drawing.specs.declared.bands.Band.{Band}
use Rattle.drawing.specs.declared.scene.Row.{Row}
use Rattle.drawing.specs.declared.scene.Row.TheVariants.{Head, Initial, ValuesLeftOut, Ticket, LeftOut, Effect}
use Rattle.drawing.specs.declared.canvas.Scene.{Scene}

-- the content of a picture: the drawn initial values and operations, the claim, their threads, bands and rows, and
-- the ticket from which returns were added, if some were
pub record SceneView : Type 0 where
  pub initial : List ℕ
  pub operations : List Operation
  pub claimed : Claimed
  pub threads : List ℕ
  pub bands : List Band
  pub rows : List Row
  pub added_from : Option ℕ

-- the scene of a value of the program
abbrev pub scene_on : Scene → SceneView
scene_on scene = record {
  initial = scene.initial.items;
  operations = scene.operations.items;
  claimed = scene.claimed.now;
  threads = scene.threads.items;
  bands = scene.bands.items;
  rows = scene.rows.items;
  added_from = scene.added_from;
}

-- ---- rows

-- the row of an initial value, with its place
abbrev pub initial_row : ℕ × ℕ → List Row
initial_row (place, v) = Initial place v ∷ []

-- the row of the initial values left out, below the drawn ones; none if all are drawn
abbrev pub values_left_out : ℕ → ℕ → List Row
values_left_out count drawn = if count == 0 then [] else ValuesLeftOut count drawn ∷ []

-- the rows of initial values and their head: those of the drawn ones, the front one first, and that of all others;
-- none without initial values
abbrev pub initial_rows : List ℕ → List ℕ → List Row
initial_rows [] drawn = []
initial_rows (front ∷ others) drawn =
    Head ∷ (flat_map initial_row (enumerate_from 0 drawn)
    ++ values_left_out (length (front ∷ others) - length drawn) (length drawn))

-- the row of the effect of operation i of an order, if it comes just after this ticket
abbrev pub effect_if : List Operation → ℕ → ℕ × Operation → List Row
effect_if order ticket (i, o) = if point order i == ticket then Effect o (i + 1) (point order i) ∷ [] else []

-- the rows of the effects just after this ticket
unfoldable pub effect_rows : List Operation → ℕ → List Row
effect_rows order ticket = flat_map (effect_if order ticket) (enumerate_from 0 order)

-- the row of an event, and those of the effects after it
abbrev pub event_rows : List Operation → Event → List Row
event_rows order e = Ticket e.ticket ∷ effect_rows order e.ticket

-- a drawn operation is called or returns at this ticket
abbrev pub has_row : List Operation → ℕ → Bool
has_row drawn ticket = list_any (λ o. nat_eq o.call ticket || nat_eq o.ret ticket) drawn

-- the row of this many events left out, the last at this ticket; none if the number is 0
abbrev pub left_out_rows : ℕ → ℕ → List Row
left_out_rows count last = if count == 0 then [] else LeftOut count last ∷ []

-- the rows of events, after this many events left out up to this ticket: one for each event of a drawn operation
abbrev pub rows_after : List Operation → List Operation → ℕ → ℕ → List Event → List Row
rows_after drawn order count last [] = left_out_rows count last
rows_after drawn order count last (e ∷ later) =
    if has_row drawn e.ticket then left_out_rows count last
    ++ (event_rows order e ++ rows_after drawn order 0 last later)
    else rows_after drawn order (count + 1) e.ticket later

-- the rows of a history, a claim about it, and its drawn operations
unfoldable pub rows_of : HistoryView → Claimed → List Operation → List Row
rows_of history claimed drawn =
    initial_rows history.initial (drawn_initial history claimed drawn)
    ++ rows_after drawn (order_of claimed) 0 0 history.events

-- the scene of a history, a claim about it, its drawn operations, and the ticket from which its returns were added
unfoldable pub scene_of : HistoryView → Claimed → List Operation → Option ℕ → SceneView
scene_of history claimed drawn added_from = record {
  initial = drawn_initial history claimed drawn;
  operations = drawn;
  claimed = claimed;
  threads = threads_of drawn;
  bands = bands_of claimed;
  rows = rows_of history claimed drawn;
  added_from = added_from;
}

-- ---- the order of rows

-- the gap of a row: the one just after this ticket, or none for the one before all tickets
abbrev pub gap_of : Row → Option ℕ
gap_of Head = None
gap_of (Initial place v) = None
gap_of (ValuesLeftOut count drawn) = None
gap_of (Ticket ticket) = Some ticket
gap_of (LeftOut count last) = Some last
gap_of (Effect o number point) = Some point

-- the time of a row
abbrev pub row_time : Row → ℕ
row_time r = gap_time (gap_of r)

-- the turn of a row among those of the same time
abbrev pub row_turn : Row → ℕ
row_turn Head = 0
row_turn (Initial place v) = place + 1
row_turn (ValuesLeftOut count drawn) = drawn + 1
row_turn (Ticket ticket) = 0
row_turn (LeftOut count last) = 0
row_turn (Effect o number point) = number

-- a row is above another
abbrev pub stands_above : Row → Row → Bool
stands_above other row =
    nat_lt (row_time other) (row_time row) ||
    (nat_eq (row_time other) (row_time row) && nat_lt (row_turn other) (row_turn row))

-- the number of a row, from 0, which is the number of rows above it
unfoldable pub row_number : List Row → Row → ℕ
row_number rows row = count_by (λ other. stands_above other row) rows

-- ---- words of a row

-- the words of a row in the column of tickets: its ticket, that its return was added, or the number of events or
-- initial values left out
abbrev pub ticket_words : Option ℕ → Row → List ℕ
ticket_words added_from (Ticket ticket) = if is_added added_from ticket then codes "pending" else decimal ticket
ticket_words added_from (LeftOut count last) =
    concat (codes "... " ∷ decimal count ∷ (if count == 1 then codes " event ..." else codes " events ...") ∷ [])
ticket_words added_from (ValuesLeftOut count drawn) =
    concat (codes "... " ∷ decimal count ∷ (if count == 1 then codes " value ..." else codes " values ...") ∷ [])
ticket_words added_from r = []

-- the width of this column: of the word above it, and of the words in it
abbrev pub ticket_width : Option ℕ → List Row → ℕ
ticket_width added_from rows = fold (λ widest r. max widest (length (ticket_words added_from r))) 6 rows

-- whether the value of a line goes in or out, by the kind of its operation
abbrev pub way : Option OpKind → List ℕ
way None = []
way (Some (kind.Enqueue v)) = codes "in"
way (Some _) = codes "out"

-- the word of the line of a row, if its value was dequeued twice
abbrev pub way_in : Claimed → Row → List ℕ
way_in (No VRepeat lines) r = way (option_map line_kind (find (stands_in r) lines))
way_in _ r = []

-- ---- lanes

-- the number of lanes to the left of a thread's
abbrev pub lanes_before : List ℕ → ℕ → ℕ
lanes_before threads thread = count_by (λ lower. nat_lt lower thread) threads
