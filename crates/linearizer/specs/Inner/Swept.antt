-- The result of a sweep over the values.
use Rattle.std.specs.Prelude.{◌<◌, List, Contains}
use Rattle.value_match.specs.declared.life.Life.{Life}
use Rattle.value_match.specs.declared.life.MatchedValue.{MatchedValue}
use Rattle.value_match.specs.Lives.{enqueue_call, entered_by}
use Rattle.value_match.specs.Violations.{Overtakes}
use Rattle.linearizer.specs.Values.{IsChoice}
use Rattle.linearizer.specs.Inner.Placement.{lives_in}
use Rattle.linearizer.specs.Inner.Sweep.{IsInOrder}
use Rattle.linearizer.specs.declared.choice.Swept.{Swept}
use Rattle.linearizer.specs.declared.choice.Swept.TheVariants as swept

-- the value is the choice among some that are left, and its enqueue is called after another of them has entered; all
-- values that overtake another are left
pub record IsPassedOver (values : List MatchedValue) (next : MatchedValue) : Type 0 where
  pub is_value : Contains values next
  pub remaining : List Life
  pub among : (life : Life) → Contains remaining life → Contains (lives_in values) life
  pub is_next : IsChoice remaining next.life
  pub entered : Life
  pub is_left : Contains remaining entered
  pub too_late : entered_by entered < enqueue_call next.life
  pub are_left : (x a : MatchedValue) → Contains values x → Contains values a → Overtakes x.life a.life
      → Contains remaining x.life

-- the values in their chosen order, or one that is passed over
abbrev pub IsSweepOf : List MatchedValue → Swept → Type 0
IsSweepOf values (swept.InOrder order) = IsInOrder values order.items
IsSweepOf values (swept.PassedOver next) = IsPassedOver values next
