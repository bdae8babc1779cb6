-- The chosen order of the operations of a history without violations.
use Rattle.std.specs.Prelude.{◌≡◌, ℕ, ◌<◌, ◌⊎◌, List, AllPairs, IsPermutation, Some, slice_get, nat_lt, if◌then◌else◌}
use Rattle.std.specs.List.{AllZip}
use Rattle.history_merge.specs.declared.operation.Operation.{Operation}
use Rattle.history_merge.specs.declared.operation.OpKind.{OpKind}
use Rattle.history_merge.specs.declared.operation.OpKind.TheVariants.{Enqueue, Dequeue, DequeueEmpty, EnqueueFailed}
use Rattle.history_merge.specs.Legal.{IsLegalOrder, ArePlacesOf}
use Rattle.value_match.specs.declared.life.Life.{Life}
use Rattle.value_match.specs.Lives.{Course, IsLeastFreeGap, course, dequeue_of, enqueue_of, timed}
use Rattle.linearizer.specs.Values.{IsValueOrder, enqueue_gap, dequeue_gap}

-- the position of an operation: its gap, its class within the gap, and its rank within the class
pub record Position : Type 0 where
  pub gap : ℕ
  pub class : ℕ
  pub rank : ℕ

-- the class of the dequeues of values that were enqueued at an earlier gap
abbrev pub earlier_dequeues : ℕ
earlier_dequeues = 0

-- the class of the empty dequeues and the failed enqueues
abbrev pub noop_answers : ℕ
noop_answers = 1

-- the class of the successful enqueues
abbrev pub enqueues : ℕ
enqueues = 2

-- the class of the dequeues of values that were enqueued at the same gap
abbrev pub other_dequeues : ℕ
other_dequeues = 3

-- the position of the enqueue of the i-th value
abbrev pub enqueue_position : List Life → ℕ → Position
enqueue_position lives i = record { gap = enqueue_gap lives i; class = enqueues; rank = i }

-- the position of the dequeue of the i-th value
abbrev pub dequeue_position : List Life → ℕ → Position
dequeue_position lives i =
    record {
      gap = dequeue_gap lives i;
      class = (if nat_lt (enqueue_gap lives i) (dequeue_gap lives i) then earlier_dequeues else other_dequeues);
      rank = i;
    }

-- the position of an operation that changes nothing, at this gap
abbrev pub noop_position : Operation → ℕ → Position
noop_position o gap = record { gap = gap; class = noop_answers; rank = o.call }

-- the position of an operation of this kind
abbrev pub IsPositionFor : Course → List Life → Operation → OpKind → Position → Type 0
IsPositionFor c lives o (Enqueue v) position =
    (i : ℕ) × (life : Life) × (slice_get lives i ≡ Some life) × (enqueue_of life ≡ o)
    × (position ≡ enqueue_position lives i)
IsPositionFor c lives o (Dequeue v) position =
    (i : ℕ) × (life : Life) × (slice_get lives i ≡ Some life) × (dequeue_of life ≡ Some o)
    × (position ≡ dequeue_position lives i)
IsPositionFor c lives o DequeueEmpty position = (gap : ℕ) × IsLeastFreeGap c o gap × (position ≡ noop_position o gap)
IsPositionFor c lives o (EnqueueFailed v) position = position ≡ noop_position o o.call

-- the position of an operation
abbrev pub IsPositionOf : Course → List Life → Operation → Position → Type 0
IsPositionOf c lives o position = IsPositionFor c lives o o.kind position

-- positions compare by gap, then by class, then by rank
abbrev pub StandsBefore : Position → Position → Type 0
StandsBefore p q = (p.gap < q.gap)
    ⊎ ((p.gap ≡ q.gap) × ((p.class < q.class) ⊎ ((p.class ≡ q.class) × (p.rank < q.rank))))

-- all operations in rising order of position
pub record IsChosenOrder (c : Course) (order : List Operation) : Type 0 where
  pub lives : List Life
  pub positions : List Position
  pub values_in_order : IsValueOrder c lives
  pub holds_each_once : IsPermutation c.operations order
  pub each_has_position : AllZip (λ o position. IsPositionOf c lives o position) order positions
  pub positions_rise : AllPairs StandsBefore positions

-- the places are those of the chosen order of the history, which is legal for a queue that holds the initial values
-- first
abbrev pub AreChosenAndLegal : List ℕ → List Operation → List ℕ → Type 0
AreChosenAndLegal initial operations places =
    (order : List Operation) × ArePlacesOf operations places order
    × IsChosenOrder (course initial operations) (timed order)
    × IsLegalOrder initial operations order
