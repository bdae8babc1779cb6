-- A machine as contracts see it.
use Rattle.std.specs.Prelude.{ℕ, Bool, List, Option}
use Rattle.event_records.specs.declared.event.Event.{Event}
use Rattle.recorder_core.specs.declared.pending.Pending.{Pending}

-- one thread: the number of operations asked, the one without a return yet, and its events where they are now
pub record ThreadView : Type 0 where
  pub closed : Bool
  pub asked : ℕ
  pub pending : Option Pending
  pub held : Option Event
  pub ring : List Event
  pub collected : List Event

-- the whole machine; `asked` counts the operations of all threads
pub record MachineView : Type 0 where
  pub capacity : ℕ
  pub threads : List ThreadView
  pub asked : ℕ
  pub next_ticket : ℕ
  pub queue : List ℕ
