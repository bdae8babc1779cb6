-- Events as plain structs.
use Rattle.std.specs.Prelude.{◌≡◌, ℕ, ◌==◌, if◌then◌else◌, min, List, ◌++◌, map, take, codes, decimal, slice_get}
use Rattle.std.specs.Prelude.{Option, Some, None, option_map}
use Rattle.event_records.specs.declared.event.Event.{Event}
use Rattle.event_records.specs.declared.event.What.{What}
use Rattle.event_records.specs.declared.event.What.TheVariants.{CallEnq, RetEnq, RetNot, CallDeq, RetDeq, RetEmpty}
use Rattle.text_lines.specs.Lines.{line}
use Rattle.fifobench_c.specs.declared.recorded.RecordedEvent.{RecordedEvent}
use Rattle.fifobench_c.specs.declared.recorded.TheConstants.{CALL_ENQ, RET_ENQ, RET_NOT, CALL_DEQ, RET_DEQ, RET_EMPTY}
use Rattle.fifobench_c.specs.declared.recorded.TheConstants.{GREATEST_TOLD}

-- the call or the return of an event, by the number of its kind and its value; four kinds ignore the value
abbrev pub what_of : ℕ → ℕ → Option What
what_of kind value =
    if kind == CALL_ENQ then Some (CallEnq value)
    else (if kind == RET_ENQ then Some RetEnq
    else (if kind == RET_NOT then Some RetNot
    else (if kind == CALL_DEQ then Some CallDeq
    else (if kind == RET_DEQ then Some (RetDeq value)
    else (if kind == RET_EMPTY then Some RetEmpty else None)))))

-- the event of a struct, if its kind is known; a thread above 255 counts as 255, and both are above the greatest of a
-- history
abbrev pub event_of : RecordedEvent → Option Event
event_of e =
    option_map (λ what. record { ticket = e.ticket; thread = min e.thread GREATEST_TOLD; what = what })
    (what_of e.what e.value)

-- each struct is the event at its place
abbrev pub AreEvents : List RecordedEvent → List Event → Type 0
AreEvents structs events = map event_of structs ≡ map Some events

-- the struct at this place is the first of unknown kind
pub record IsFirstUnknown (structs : List RecordedEvent) (place : ℕ) : Type 0 where
  pub before : List Event
  pub known : AreEvents (take place structs) before
  pub here : RecordedEvent
  pub at : slice_get structs place ≡ Some here
  pub unknown : event_of here ≡ None

-- the line that refuses an event of unknown kind at this place
abbrev pub bad_what_line : ℕ → List ℕ
bad_what_line place = line (codes "REFUSED BadWhat " ++ decimal place)
