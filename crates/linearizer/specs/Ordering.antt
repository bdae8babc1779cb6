-- The result of ordering the values.
use Rattle.std.specs.Prelude.{◌≡◌}
use Rattle.history_merge.specs.Initial.{Contents}
use Rattle.value_match.specs.Lives.{course_of}
use Rattle.value_match.specs.Violations.{NoOrderViolation}
use Rattle.order_violation.specs.Pairs.{IsFirstOvertaker}
use Rattle.linearizer.specs.declared.ordered_values.OrderFound.{OrderFound}
use Rattle.linearizer.specs.declared.ordered_values.OrderFound.TheVariants as found

-- the values of this history in order, if no two are an order violation; otherwise the first-dequeued value that
-- overtakes another
abbrev pub OrdersValues : Contents → OrderFound → Type 0
OrdersValues history (found.InOrder order) = (order ≡ history) × NoOrderViolation (course_of history)
OrdersValues history (found.Overtaker b) = ¬ (NoOrderViolation (course_of history)) × IsFirstOvertaker history b
