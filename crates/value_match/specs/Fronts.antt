-- Values sorted by their enqueues' returns, and the one that stays longest in each prefix.
use Rattle.std.specs.Prelude.{All, Contains, length, List, map, MatchOption, Option, slice_index_or, take, ℕ, ◌+◌, ◌<◌}
use Rattle.std.specs.Prelude.{◌≡◌, ◌⊎◌}
use Rattle.value_match.specs.declared.life.Life.{Life}
use Rattle.value_match.specs.declared.life.MatchedValue.{MatchedValue}
use Rattle.value_match.specs.Lives.{enqueue_return}
use Rattle.value_match.specs.Choice.{StaysAtLeast}
use Rattle.std.specs.List.Sorted.{IsNonDecreasingBy, IsPermutation}
use Rattle.value_match.specs.declared.table.Front.{Front}

-- ---- the value that stays longest among those that pass a test

-- the value's enqueue returned before this time
abbrev pub EntersBefore : ℕ → Life → Type 0
EntersBefore time life = enqueue_return life < time

-- one of the two values, which stays at least as long as both
pub record IsLongerOf (first second longer : MatchedValue) : Type 0 where
  pub is_one : (longer ≡ first) ⊎ (longer ≡ second)
  pub stays_first : StaysAtLeast longer.life first.life
  pub stays_second : StaysAtLeast longer.life second.life

-- the value that stays longest among those that pass
pub record IsLongestOf (Passes : Life → Type 0) (values : List MatchedValue) (value : MatchedValue) : Type 0 where
  pub among : Contains values value
  pub passes : Passes value.life
  pub longest : All (λ other. Passes other.life → StaysAtLeast value.life other.life) values

-- no value passes
abbrev pub NonePasses : (Life → Type 0) → List MatchedValue → Type 0
NonePasses Passes values = All (λ value. ¬ (Passes value.life)) values

-- the value that stays longest among those that pass, or none if none passes
abbrev pub FindsLongest : (Life → Type 0) → List MatchedValue → Option MatchedValue → Type 0
FindsLongest Passes values found =
    MatchOption found (NonePasses Passes values) (λ longest. IsLongestOf Passes values longest)

-- ---- values sorted by their enqueues' returns, and the one that stays longest in each prefix

-- the entry is the enqueue return of a value, with its place
pub record IsEntryOf (values : List MatchedValue) (entry : Front) : Type 0 where
  pub within : entry.place < length values
  pub returns : (d : MatchedValue) → entry.enqueue_return ≡ enqueue_return (slice_index_or values entry.place d).life

-- the values at the entries' places
abbrev pub values_at : List MatchedValue → List Front → MatchedValue → List MatchedValue
values_at values entries d = map (λ e. slice_index_or values e.place d) entries

-- an entry for each value
pub record AreEntriesOf (values : List MatchedValue) (entries : List Front) : Type 0 where
  pub names : All (IsEntryOf values) entries
  pub each_once : (d : MatchedValue) → IsPermutation values (values_at values entries d)

-- an entry for each value, sorted by enqueue return
pub record IsByReturn (values : List MatchedValue) (entries : List Front) : Type 0 where
  pub are : AreEntriesOf values entries
  pub rises : IsNonDecreasingBy (λ e. e.enqueue_return) entries

-- any life
abbrev pub Any : Life → Type 0
Any life = Unit {0}

-- the front has the return of entry i, and the place of the value that stays longest up to that entry
pub record IsFrontAt (values : List MatchedValue) (entries : List Front) (i : ℕ) (front : Front) : Type 0 where
  pub returns : (e : Front) → front.enqueue_return ≡ (slice_index_or entries i e).enqueue_return
  pub within : front.place < length values
  pub longest : (d : MatchedValue)
      → IsLongestOf Any (take (i + 1) (values_at values entries d)) (slice_index_or values front.place d)

-- a front for each entry
pub record HasFronts (values : List MatchedValue) (entries fronts : List Front) : Type 0 where
  pub one_each : length fronts ≡ length entries
  pub each : (i : ℕ) → i < length entries → (f : Front) → IsFrontAt values entries i (slice_index_or fronts i f)

-- the fronts of the values, sorted by their enqueues' returns
abbrev pub IsTableOf : List MatchedValue → List Front → Type 0
IsTableOf values fronts = (entries : List Front) × IsByReturn values entries × HasFronts values entries fronts
