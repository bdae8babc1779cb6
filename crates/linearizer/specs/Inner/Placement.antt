-- Relations that hold on the way to the chosen order.
use Rattle.std.specs.Prelude.{All, AllPairs, drop, filter, filter_map, IsPermutation, IsSomeAnd, length, List, map}
use Rattle.std.specs.Prelude.{None, Option, slice_get, slice_index, Some, take, ℕ, ◌++◌, ◌+◌, ◌<◌, ◌≡◌, ◌≤◌}
use Rattle.std.specs.List.{AllZip}
use Rattle.history_merge.specs.declared.operation.Operation.{Operation}
use Rattle.history_merge.specs.Initial.{Contents, later_by}
use Rattle.history_merge.specs.declared.packed.TheConstants.{PACKED_LIMIT}
use Rattle.event_records.specs.declared.limits.TheConstants.{ORIGIN}
use Rattle.value_match.specs.declared.life.Life.{Life}
use Rattle.value_match.specs.declared.life.MatchedValue.{MatchedValue}
use Rattle.value_match.specs.declared.life.Source.{Source}
use Rattle.value_match.specs.declared.life.Source.TheVariants as source
use Rattle.value_match.specs.Inner.Accepted.{operation_at}
use Rattle.value_match.specs.Inner.Courses.{on}
use Rattle.value_match.specs.Outcome.{IsOperation}
use Rattle.value_match.specs.Inner.HistoryPlaces.{timeline_of}
use Rattle.value_match.specs.Lives.{course_of, dequeue_of, enqueue_call, enqueue_of, is_empty_answer, is_failed}
use Rattle.value_match.specs.Lives.{timed}
use Rattle.linearizer.specs.declared.position.Class.{Class}
use Rattle.linearizer.specs.declared.position.Class.TheVariants.{EarlierDequeue, Noop, Enqueue, OtherDequeue}
use Rattle.linearizer.specs.declared.position.Position.{Position as Stored}
use Rattle.linearizer.specs.declared.timed.Timed.{Timed}
use Rattle.linearizer.specs.Values.{IsValueOrder, enqueue_gap, greatest_leaves_from, least_entered_by}
use Rattle.linearizer.specs.Order.{earlier_dequeues, enqueues, IsPositionOf, noop_answers, noop_position}
use Rattle.linearizer.specs.Order.{other_dequeues, Position, StandsBefore}

-- the values without their places
abbrev pub lives_in : List MatchedValue → List Life
lives_in values = map (λ m. m.life) values

-- the elements at these places
abbrev pub elements_at : {X : Type 0} → List X → List ℕ → List X
elements_at xs places = filter_map (slice_get xs) places

-- the places of timed values
abbrev pub places_in : List Timed → List ℕ
places_in order = map (λ timed. timed.place) order

-- the times of timed values, here the gaps of their enqueues
abbrev pub gaps_in : List Timed → List ℕ
gaps_in order = map (λ timed. timed.time) order

-- the gaps are those of the values' enqueues, one by one
pub record AreEnqueueGaps (lives : List Life) (gaps : List ℕ) : Type 0 where
  pub one_each : length gaps ≡ length lives
  pub at_each : (i : ℕ) → i < length lives → slice_index gaps i ≡ enqueue_gap lives i

-- the lives of a history in the order of these places
abbrev pub ordered_lives : Contents → List Timed → List Life
ordered_lives history order = elements_at (course_of history).lives (places_in order)

-- the places of a history's lives in the chosen order, each with the gap of its enqueue
pub record IsOrderOf (history : Contents) (order : List Timed) : Type 0 where
  pub within : All (λ place. place < length (course_of history).lives) (places_in order)
  pub in_order : IsValueOrder (course_of history) (ordered_lives history order)
  pub gaps : AreEnqueueGaps (ordered_lives history order) (gaps_in order)

-- no enqueue is called after its value or a later one has entered
abbrev pub AreCalledInTime : List Life → Type 0
AreCalledInTime lives = (i : ℕ) (life : Life) → slice_get lives i ≡ Some life
    → enqueue_call life ≤ least_entered_by (drop i lives)

-- the number of a class
abbrev pub class_number : Class → ℕ
class_number EarlierDequeue = earlier_dequeues
class_number Noop = noop_answers
class_number Enqueue = enqueues
class_number OtherDequeue = other_dequeues

-- a stored position as one of the specification
abbrev pub position_of : Stored → Position
position_of p = record { gap = p.gap; class = class_number p.class; rank = p.rank }

-- an operation, its place in the history unless it enqueues an initial value, and its position
pub record Placed : Type 0 where
  pub operation : Operation
  pub place : Option ℕ
  pub position : Stored

-- the place is the operation's; an operation without a place is called before the first ticket
abbrev pub IsAtHistoryPlace : List Operation → Option ℕ → Operation → Type 0
IsAtHistoryPlace operations None o = o.call < ORIGIN
IsAtHistoryPlace operations (Some place) o = IsOperation operations place o

-- the place of the enqueue that a value comes from, or none for an initial value
abbrev pub place_of : Source → Option ℕ
place_of (source.Enq place) = Some place
place_of (source.Initial place) = None

-- the operation has this place and this position
abbrev pub IsPlaced : Contents → List Life → Placed → Type 0
IsPlaced history lives placed = IsAtHistoryPlace history.operations placed.place placed.operation
    × IsPositionOf (on (timeline_of history)) lives placed.operation (position_of placed.position)

-- the operations without places and positions
abbrev pub placed_in : List Placed → List Operation
placed_in placed = map (λ p. p.operation) placed

-- the enqueues of the values
abbrev pub enqueues_of : List Life → List Operation
enqueues_of lives = map enqueue_of lives

-- the dequeues of the values that are dequeued
abbrev pub dequeues_of : List Life → List Operation
dequeues_of lives = filter_map dequeue_of lives

-- the enqueues of the first i values and the dequeues of the first j, each once and at its position, and the time
-- from which these j can have left
pub record HoldsUpTo (history : Contents) (lives : List Life) (i j left : ℕ) (placed : List Placed) : Type 0 where
  pub left_is : left ≡ greatest_leaves_from (take j lives)
  pub each_once : IsPermutation (enqueues_of (take i lives) ++ dequeues_of (take j lives)) (placed_in placed)
  pub each_placed : All (IsPlaced history lives) placed

-- the operations of the enqueued values, each once and at its position in the order of the values
pub record PlacesValues (history : Contents) (placed : List Placed) : Type 0 where
  pub lives : List Life
  pub in_order : IsValueOrder (course_of history) lives
  pub each_once : IsPermutation (enqueues_of lives ++ dequeues_of lives) (placed_in placed)
  pub each_placed : All (IsPlaced history lives) placed

-- an operation that changes nothing has this place and this gap, whatever the order of the values
pub record IsNoopAt (history : Contents) (o : Operation) (timed : Timed) : Type 0 where
  pub at : IsOperation history.operations timed.place o
  pub stands : (lives : List Life) → IsPositionOf (on (timeline_of history)) lives o (noop_position o timed.time)

-- the listed operations are added, each with its gap
pub record Adds (history : Contents) (listed : List Operation) (old new : List Timed) : Type 0 where
  pub added : List Timed
  pub after : new ≡ old ++ added
  pub each_stands : AllZip (IsNoopAt history) listed added

-- the operation at this place exists, and its call can be packed
abbrev pub IsCalledInRange : List Operation → ℕ → Type 0
IsCalledInRange operations place = IsSomeAnd (slice_get operations place) (λ o. o.call + ORIGIN < PACKED_LIMIT)

-- the operation at this place, as one that changes nothing, with its position
abbrev pub noop_at : List Operation → Timed → Placed
noop_at operations timed = record {
  operation = later_by ORIGIN (operation_at operations timed.place);
  place = Some timed.place;
  position = record { gap = timed.time; class = Noop; rank = (operation_at operations timed.place).call + ORIGIN };
}

-- no operation comes before an earlier one
abbrev pub NeverFall : List Placed → Type 0
NeverFall placed = AllPairs (λ p q. ¬ (StandsBefore (position_of q.position) (position_of p.position))) placed

-- the empty dequeues and the failed enqueues
abbrev pub noops_in : Contents → List Operation
noops_in history = filter is_empty_answer (timed history.operations) ++ filter is_failed (timed history.operations)

-- the empty dequeues and the failed enqueues, each once and at its position whatever the order of the values, in
-- rising order of position
pub record HoldsNoops (history : Contents) (noops : List Placed) : Type 0 where
  pub each_placed : (lives : List Life) → All (IsPlaced history lives) noops
  pub each_once : IsPermutation (noops_in history) (placed_in noops)
  pub never_fall : NeverFall noops

-- the places of the listed operations, by positions that never fall
pub record AreByPosition (placed : List Placed) (places : List ℕ) : Type 0 where
  pub sorted : List Placed
  pub holds_each_once : IsPermutation placed sorted
  pub never_falls : NeverFall sorted
  pub places_are : places ≡ filter_map (λ p. p.place) sorted
