-- The lines of events that a reader takes, in texts whose calls may be pending.
use Rattle.std.specs.Prelude.{◌≡◌, ℕ, ◌<◌, ◌≤◌, ⊤, ◌⊎◌, Bool, true, false, List, length, Option, Some, None, IfSome}
use Rattle.std.specs.Prelude.{is_some, ◌++◌}
use Rattle.event_records.specs.declared.event.Event.{Event}
use Rattle.event_records.specs.declared.limits.TheConstants.{MAX_EVENTS, MAX_THREADS}
use Rattle.text_lines.specs.declared.fault.TextFault.{TextFault}
use Rattle.text_lines.specs.Faults.{MemoryOr}
use Rattle.text_lines.specs.Input.{Ending}
use Rattle.text_lines.specs.Lines.{line}
use Rattle.history_text.specs.declared.pending_line.EventLine.{EventLine}
use Rattle.history_text.specs.declared.pending_line.EventLine.TheVariants.{OneEvent, Stop}
use Rattle.history_text.specs.declared.version.Version.{Version}
use Rattle.history_text.specs.declared.version.Version.TheVariants.{One, Two}
use Rattle.history_text.specs.Items.{Format, HaveLines, line_of, lines_of, NoRoom, NoRoomAmong}
use Rattle.history_text.specs.Histories.{event_format, HasEventLine}
use Rattle.history_text.specs.Pending.{FaultAfterEvents, open_fields, open_in, stop_line}
use Rattle.history_text.specs.Reading.{HasFirstFault, Left, Takes}
use Rattle.history_text.specs.Versions.{InitialFault, AfterCount, value_format}

-- the line that counts pending calls, as the only item of a format
abbrev pub open_format : Format ℕ
open_format =
    record {
      fields = open_fields;
      HasLine = λ calls. calls ≤ MAX_THREADS;
      most = 1;
      is_counted = false;
      read = open_in;
    }

-- the line at which the events of such a text stop: in a pending text it counts the pending calls
pub record IsStop (is_pending : Bool) (calls : Option ℕ) : Type 0 where
  pub of_kind : is_some calls ≡ is_pending
  pub few : IfSome calls (λ n. n ≤ MAX_THREADS)

-- the line of an event after k others, or the line at which the events of such a text stop
abbrev pub IsEventLine : Bool → ℕ → List ℕ → EventLine → Type 0
IsEventLine is_pending k bytes (OneEvent e) = (line bytes ≡ line_of event_format e) × HasEventLine e × (k < MAX_EVENTS)
IsEventLine is_pending k bytes (Stop calls) = (line bytes ≡ stop_line calls k) × IsStop is_pending calls

-- the line of an event after k others, or the line at which the events stop, was taken
abbrev pub TakesEventLine : Bool → Left → Left → ℕ → EventLine → Type 0
TakesEventLine is_pending old new k (OneEvent e) = Takes old new (line_of event_format e) × HasEventLine e
    × (k < MAX_EVENTS)
TakesEventLine is_pending old new k (Stop calls) = Takes old new (stop_line calls k) × IsStop is_pending calls

-- the lines of these events, and the line at which they stop, were taken
abbrev pub TakesEvents : Bool → Left → Left → List Event → Option ℕ → Type 0
TakesEvents is_pending old new events calls =
    (mid : Left) × HaveLines event_format events × Takes old mid (lines_of event_format events)
    × Takes mid new (stop_line calls (length events)) × IsStop is_pending calls

-- the first fault of the lines of events from line n on, or of those after them; it comes after these events and this
-- count
abbrev pub HasEventsFault : Bool → ℕ → Left → List Event → Option ℕ → TextFault → Type 0
HasEventsFault is_pending n old events calls fault =
    HasFirstFault (λ ending bytes f. FaultAfterEvents is_pending n ending f bytes events calls)
    (NoRoom event_format) old fault

-- the first fault of the lines of initial values, from line n on; version 1 has none
abbrev pub ValuesFault : Version → ℕ → Ending → List ℕ → TextFault → Type 0
ValuesFault One n ending bytes fault = ⊥
ValuesFault Two n ending bytes fault = InitialFault n ending fault bytes

-- there was no room for the initial values
abbrev pub NoRoomForValues : Version → List ℕ → Type 0
NoRoomForValues One bytes = ⊥
NoRoomForValues Two bytes = AfterCount (NoRoomAmong value_format) bytes
