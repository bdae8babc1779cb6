-- A pair of values dequeued against the order of their enqueues.
use Rattle.std.specs.Prelude.{All, Contains, List, MatchOption, None, Option, option_map, Some, ℕ, ◌≤◌}
use Rattle.history_merge.specs.declared.operation.Operation.{Operation}
use Rattle.value_match.specs.declared.life.Life.{Life}
use Rattle.value_match.specs.declared.life.MatchedValue.{MatchedValue}
use Rattle.value_match.specs.Lives.{course, course_of, dequeue_return, IsLife}
use Rattle.value_match.specs.Fronts.{NonePasses}
use Rattle.value_match.specs.Violations.{NoOrderViolation, order, Overtakes}
use Rattle.history_merge.specs.Initial.{Contents}
use Rattle.value_match.specs.Outcome.{IsNamed, Names}
use Rattle.value_match.specs.declared.violation.Violation.{Violation}
use Rattle.value_match.specs.declared.violation.Violation.TheVariants.{Order}
use Rattle.value_match.specs.Choice.{IsChosenOrderViolation}
use Rattle.order_violation.specs.declared.pair.OrderPair.{OrderPair}

-- ---- values that overtake others

-- the first-dequeued candidate that overtakes one of the values
pub record IsFirstOvertaking (values candidates : List MatchedValue) (b : MatchedValue) : Type 0 where
  pub among : Contains candidates b
  pub overtaken : MatchedValue
  pub overtaken_among : Contains values overtaken
  pub overtakes : Overtakes b.life overtaken.life
  pub first : All (λ other. (a : MatchedValue) → Contains values a → Overtakes other.life a.life
      → dequeue_return b.life ≤ dequeue_return other.life) candidates

-- the first-dequeued value of the history that overtakes another
pub record IsFirstOvertaker (history : Contents) (b : MatchedValue) : Type 0 where
  pub is_life : IsLife (course_of history) b.life
  pub named : IsNamed history.initial history.operations b.source b.dequeue b.life
  pub overtaken : Life
  pub overtaken_is_life : IsLife (course_of history) overtaken
  pub overtakes : Overtakes b.life overtaken
  pub first : (x a : Life) → IsLife (course_of history) x → IsLife (course_of history) a → Overtakes x a
      → dequeue_return b.life ≤ dequeue_return x

-- the first-dequeued candidate that overtakes a value, or none if none does
abbrev pub FindsFirst : List MatchedValue → List MatchedValue → Option MatchedValue → Type 0
FindsFirst values candidates found =
    MatchOption found (All (λ b. NonePasses (Overtakes b.life) values) candidates)
    (λ b. IsFirstOvertaking values candidates b)

-- the first-dequeued value that overtakes another, or none if no two are an order violation
abbrev pub IsFirstFound : Contents → Option MatchedValue → Type 0
IsFirstFound history found = MatchOption found (NoOrderViolation (course_of history)) (IsFirstOvertaker history)

-- ---- a pair of values dequeued against the order of their enqueues

-- the violation that the pair shows
abbrev pub violation_of : OrderPair → Violation
violation_of pair = Order pair.enq_a pair.enq_b pair.deq_b pair.deq_a

-- the pair names the values of the history's chosen violation of this kind
pub record IsChosenPair (initial : List ℕ) (operations : List Operation) (pair : OrderPair) : Type 0 where
  pub a : Life
  pub b : Life
  pub names : Names initial operations (violation_of pair) (order a b)
  pub is_chosen : IsChosenOrderViolation (course initial operations) a b

-- the pair of two values, if the second is dequeued
abbrev pub pair_of : MatchedValue → MatchedValue → Option OrderPair
pair_of a b = option_map (λ p. record { enq_a = a.source; enq_b = b.source; deq_b = p; deq_a = a.dequeue }) b.dequeue

-- the chosen pair, or none if no values are dequeued against the order of their enqueues
abbrev pub IsOrderAnswer : List ℕ → List Operation → Option OrderPair → Type 0
IsOrderAnswer initial operations None = NoOrderViolation (course initial operations)
IsOrderAnswer initial operations (Some pair) = IsChosenPair initial operations pair
