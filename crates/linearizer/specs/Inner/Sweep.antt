-- The values sorted by their times, and those of them that are left.
use Rattle.std.specs.Prelude.{All, Bool, Contains, false, IsPermutation, IsSomeAnd, length, List, slice_get, Some}
use Rattle.std.specs.Prelude.{take, true, ℕ, ◌%◌, ◌*◌, ◌+◌, ◌/◌, ◌<◌, ◌≡◌, ◌≤◌, ◌⊎◌}
use Rattle.std.specs.List.Sorted.{IsNonDecreasingBy}
use Rattle.std.proofs.Math.Nat.{div-add-mod}
use Rattle.value_match.specs.declared.life.Life.{Life}
use Rattle.value_match.specs.declared.life.MatchedValue.{MatchedValue}
use Rattle.value_match.specs.declared.life.TheConstants.{NEVER}
use Rattle.value_match.specs.Lives.{leaves_from}
use Rattle.linearizer.specs.Values.{EachIsChoice}
use Rattle.linearizer.specs.Inner.Placement.{AreCalledInTime, AreEnqueueGaps, elements_at, gaps_in, lives_in}
use Rattle.linearizer.specs.Inner.Placement.{places_in}
use Rattle.linearizer.specs.declared.timed.Timed.{Timed}
use Rattle.linearizer.specs.declared.timed.TheConstants.{PLACES}

-- the time is this number of the value at this place
abbrev pub IsTimeOf : (Life → ℕ) → List MatchedValue → Timed → Type 0
IsTimeOf number values timed = IsSomeAnd (slice_get values timed.place) (λ m. timed.time ≡ number m.life)

-- each value that has such a time, by this time and its place; the times never fall
pub record AreByTime (number : Life → ℕ) (values : List MatchedValue) (entries : List Timed) : Type 0 where
  pub never_falls : IsNonDecreasingBy (λ timed. timed.time) entries
  pub are_timed : All (IsTimeOf number values) entries
  pub are_past : All (λ timed. timed.time < NEVER) entries
  pub has_each : (place : ℕ) (m : MatchedValue) → slice_get values place ≡ Some m → number m.life < NEVER
      → (timed : Timed) × Contains entries timed × (timed.place ≡ place)

-- the value at this place is taken
abbrev pub IsTaken : List Bool → Timed → Type 0
IsTaken taken timed = slice_get taken timed.place ≡ Some true

-- the value at this place is left
abbrev pub IsLeft : List Bool → Timed → Type 0
IsLeft taken timed = slice_get taken timed.place ≡ Some false

-- the index of the first entry whose value is left, or the number of entries
pub record IsFirstLeft (entries : List Timed) (taken : List Bool) (i : ℕ) : Type 0 where
  pub before : All (IsTaken taken) (take i entries)
  pub is_left : (timed : Timed) → slice_get entries i ≡ Some timed → IsLeft taken timed

-- the dequeue at index i, or, past the end, a value that is never dequeued
abbrev pub IsDequeuedAt : List Timed → ℕ → ℕ → Timed → Type 0
IsDequeuedAt dequeues i place timed =
    (slice_get dequeues i ≡ Some timed) ⊎ ((length dequeues ≤ i) × (timed ≡ record { time = NEVER; place = place }))

-- the place of the second value if that is dequeued before the first can have left, else that of the first
abbrev pub TakesOneOf : List MatchedValue → Timed → Timed → ℕ → Type 0
TakesOneOf values first_in first_out place =
    (m : MatchedValue) → slice_get values first_in.place ≡ Some m
    → ((first_out.time < leaves_from m.life) × (place ≡ first_out.place))
    ⊎ ((leaves_from m.life ≤ first_out.time) × (place ≡ first_in.place))

-- the values in their chosen order, each once and by its place, with the gap of its enqueue; no enqueue is called too
-- late
pub record IsInOrder (values : List MatchedValue) (order : List Timed) : Type 0 where
  pub within : All (λ place. place < length values) (places_in order)
  pub holds_each_once : IsPermutation values (elements_at values (places_in order))
  pub each_is_choice : EachIsChoice (lives_in (elements_at values (places_in order)))
  pub gaps : AreEnqueueGaps (lives_in (elements_at values (places_in order))) (gaps_in order)
  pub in_time : AreCalledInTime (lives_in (elements_at values (places_in order)))

-- ---- a word keeps both its time and its place

pub back_joined : (word : ℕ) → PLACES * (word / PLACES) + word % PLACES ≡ word
back_joined word = div-add-mod word PLACES
