-- Calls to enqueue values, found near or looked up by value.
use Rattle.std.specs.Prelude.{◌≡◌, ℕ, ◌+◌, ◌<◌, ◌≤◌, ◌^◌, true, List, All, length, slice_index_or, Option, Some, None}
use Rattle.std.specs.BTreeSet.{BTreeSet, contains}
use Rattle.std.specs.List.Sorted.{IsNonDecreasingBy}
use Rattle.std.specs.Ordering.{nat_cmp}
use Rattle.history_merge.specs.declared.operation.Operation.{Operation}
use Rattle.history_merge.specs.declared.operation.OpKind.{OpKind}
use Rattle.history_merge.specs.declared.operation.OpKind.TheVariants.{Dequeue}
use Rattle.history_merge.specs.Operations.{IsAt, enqueued_value}
use Rattle.value_match.specs.declared.others.Bounds.{Bounds}
use Rattle.value_match.specs.declared.others.Call.{Call}
use Rattle.value_match.specs.Inner.Sources.{IsCallPlace, IsSourceOf}

-- the operation at the call's place called to enqueue the call's value
abbrev pub IsCall : List Operation → Call → Type 0
IsCall operations call = IsCallPlace operations call.value (Some call.place)

-- none of the calls is to enqueue this value
abbrev pub NoneOf : List Call → ℕ → Type 0
NoneOf calls v = All (λ call. ¬ (call.value ≡ v)) calls

-- the wanted values lie in this range
abbrev pub AreBounds : BTreeSet ℕ → Bounds → Type 0
AreBounds wanted bounds = (v : ℕ) → v < 2 ^ 64 → contains nat_cmp wanted v ≡ true
    → (bounds.least ≤ v) × (v ≤ bounds.greatest)

-- the operation called to enqueue none of the wanted values
abbrev pub CallsNoneOf : BTreeSet ℕ → Operation → Type 0
CallsNoneOf wanted o = (v : ℕ) → contains nat_cmp wanted v ≡ true → ¬ (enqueued_value o.kind ≡ Some v)

-- the calls of all wanted values, sorted by value
pub record HoldsOthers (wanted : BTreeSet ℕ) (operations : List Operation) (calls : List Call) : Type 0 where
  pub are_calls : All (IsCall operations) calls
  pub has_all : (v : ℕ) → contains nat_cmp wanted v ≡ true → NoneOf calls v → IsCallPlace operations v None
  pub rises : IsNonDecreasingBy (λ call. call.value) calls

-- the place is that of the call for the value of a dequeue; if the call isn't found yet, the value is wanted
abbrev pub IsNearSource : BTreeSet ℕ → List Operation → OpKind → Option ℕ → Type 0
IsNearSource wanted operations (Dequeue v) None = contains nat_cmp wanted v ≡ true
IsNearSource wanted operations kind source = IsSourceOf operations kind source

-- such places for the operations from one place on and before another, one by one
pub record HoldsNear (wanted : BTreeSet ℕ) (operations : List Operation) (from to : ℕ)
    (sources : List (Option ℕ)) : Type 0 where
  pub one_each : from + length sources ≡ to
  pub each : (i : ℕ) (o : Operation) → i < length sources → IsAt operations (from + i) o
      → IsNearSource wanted operations o.kind (slice_index_or sources i None)

-- such places, with the calls of the wanted values
abbrev pub AreNearWith : List Operation → ℕ → List (Option ℕ) → List Call → Type 0
AreNearWith operations from sources others =
    (wanted : BTreeSet ℕ) × HoldsNear wanted operations from (length operations) sources
    × HoldsOthers wanted operations others
