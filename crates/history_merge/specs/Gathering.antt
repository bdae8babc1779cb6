-- The state of a history builder after these initial values and events.
use Rattle.std.specs.Prelude.{◌≡◌, Bool, ℕ, ◌+◌, ◌<◌, ◌≤◌, ◌/◌, ◌⊎◌, min, nat_eq, true, List, [], length, IfSome}
use Rattle.std.specs.Prelude.{MatchOption, MatchResult}
use Rattle.std.specs.Prelude.{option_map, slice_index_or, All, IsSome, None, Some, Result, ◌∷◌, ◌++◌}
use Rattle.std.specs.List.{last_or, list_any}
use Rattle.std.specs.Option.{option_map_or}
use Rattle.std.specs.Ordering.{nat_cmp}
use Rattle.std.specs.BTreeSet.{contains}
use Rattle.event_records.specs.declared.event.Event.{Event}
use Rattle.event_records.specs.declared.limits.TheConstants.{MAX_EVENTS, MAX_INITIAL, MAX_THREAD, MAX_THREADS}
use Rattle.event_records.specs.declared.limits.TheConstants.{NAMES_OF_A_THREAD}
use Rattle.history_merge.specs.declared.fault.HistoryFault.{HistoryFault}
use Rattle.history_merge.specs.declared.fault.HistoryFault.TheVariants.{Memory, InitialTwice}
use Rattle.history_merge.specs.declared.called.CalledValues.{CalledValues}
use Rattle.history_merge.specs.declared.called.TheConstants.{LOOSE}
use Rattle.history_merge.specs.declared.forming.Forming.{Forming}
use Rattle.history_merge.specs.declared.gathering.Gathering.{Gathering}
use Rattle.history_merge.specs.Clashes.{Explains}
use Rattle.history_merge.specs.Complete.{AreDistinct, called_values}
use Rattle.history_merge.specs.Faults.{fault_at, pending_call, NoFaultBefore, IsFirstFaultAt, IsFirstTwice}
use Rattle.history_merge.specs.Forming.{operations_so_far, waiting}

-- whether the value is one of these
abbrev pub is_among : List ℕ → ℕ → Bool
is_among values v = list_any (λ w. nat_eq w v) values

-- the upper half of a value's bits, or the first number that names no thread if that is less
abbrev pub name_in : ℕ → ℕ
name_in v = min (v / NAMES_OF_A_THREAD) MAX_THREADS

-- the known values are exactly these: each is below the least next value of its name, or that is `LOOSE` and a set
-- has it
pub record Knows (values : List ℕ) (called : CalledValues) : Type 0 where
  pub one_each : length called.least ≡ MAX_THREADS + 1
  pub rising : (v : ℕ) → is_among values v ≡ true → slice_index_or called.least (name_in v) 0 < LOOSE
      → v < slice_index_or called.least (name_in v) 0
  pub loose : (v : ℕ) → slice_index_or called.least (name_in v) 0 ≡ LOOSE
      → contains nat_cmp called.loose v ≡ is_among values v
  pub only : (v : ℕ) → contains nat_cmp called.loose v ≡ true → is_among values v ≡ true

-- the operations are those of the events, the least ticket is above theirs, and each thread has the place of its
-- pending call
pub record HasFormed (events : List Event) (forming : Forming) : Type 0 where
  pub operations : forming.timeline.operations ≡ operations_so_far events
  pub least_ticket : forming.least_ticket ≡ option_map_or (λ e. e.ticket + 1) (last_or None events) 0
  pub one_per_thread : length forming.pending ≡ MAX_THREAD + 1
  pub waits : (thread : ℕ) → option_map (λ found. found.1) (waiting thread events) ≡ pending_call thread events
  pub places : (thread : ℕ) → thread ≤ MAX_THREAD
      → slice_index_or forming.pending thread None ≡ option_map (λ found. found.0) (waiting thread events)
  pub threads_in_range : All (λ e. e.thread ≤ MAX_THREAD) events

-- the event at this place was added and has no fault; or it has this fault, or memory ran out, and it wasn't added
abbrev pub IsTaken : List ℕ → List Event → Event → ℕ → Result (Unit {0}) HistoryFault → Forming → Type 0
IsTaken initial events e place result forming =
    MatchResult result (λ _. HasFormed (events ++ e ∷ []) forming × (fault_at initial events place e ≡ None))
    (λ fault. HasFormed events forming × ((fault ≡ Memory) ⊎ (fault_at initial events place e ≡ Some fault)))

-- the initial values are distinct, the events have no fault so far, and all that the next event is judged by is there
pub record IsForming (initial : List ℕ) (events : List Event) (gathering : Gathering) : Type 0 where
  pub initial_is : gathering.forming.timeline.initial ≡ initial
  pub distinct : AreDistinct initial
  pub called : Knows (initial ++ called_values events) gathering.called
  pub formed : HasFormed events gathering.forming
  pub count : gathering.count ≡ length events
  pub no_fault : NoFaultBefore initial events (length events)

-- an initial value equals an earlier one; or memory ran out, which says nothing about them
abbrev pub HasRefusedInitial : List ℕ → HistoryFault → Type 0
HasRefusedInitial initial fault = (fault ≡ Memory) ⊎ ((j : ℕ) × (fault ≡ InitialTwice j) × IsFirstTwice initial j)

-- the fault is that of the initial values, or the first of the events, whatever follows them
abbrev pub HasMetFault : List ℕ → List Event → HistoryFault → Type 0
HasMetFault initial events fault = HasRefusedInitial initial fault ⊎ ((i : ℕ) × IsFirstFaultAt initial events i fault)

-- the event was added and has no fault; or its fault was found, and what was known of the earlier events stays
abbrev pub IsFollowed : List ℕ → List Event → Event → Result (Unit {0}) HistoryFault → Gathering → Type 0
IsFollowed initial events e result gathering =
    MatchResult result (λ _. IsForming initial (events ++ e ∷ []) gathering)
    (λ fault. HasMetFault initial (events ++ e ∷ []) fault
    × ((gathering.forming.timeline.initial ≡ initial) × HasFormed events gathering.forming
    × (gathering.count ≡ length events)))

-- the builder started with these initial values, and these events were added in turn
pub record HasGathered (initial : List ℕ) (events : List Event) (gathering : Gathering) : Type 0 where
  pub few_initial : length initial ≤ MAX_INITIAL
  pub few : length events ≤ MAX_EVENTS
  pub gathered : MatchOption gathering.fault (IsForming initial events gathering) (HasMetFault initial events)
  pub clash : IfSome gathering.clash (Explains initial events gathering.fault)

-- the builder as contracts see it
abbrev pub BuilderView : Type 0
BuilderView = Gathering

-- the builder keeps a fault
abbrev pub KeepsFault : BuilderView → Type 0
KeepsFault builder = IsSome builder.fault
