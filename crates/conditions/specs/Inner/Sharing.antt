-- Places of operations, by the producers to whose selections the operations belong.
use Rattle.std.specs.Prelude.{◌≡◌, ℕ, zero, suc, ◌<◌, ◌++◌, ◌&&◌, Bool, true, false, nat_eq, List, [], ◌∷◌, filter}
use Rattle.std.specs.Prelude.{is_some, length, slice_index_or, take, if◌then◌else◌}
use Rattle.std.specs.List.{list_any}
use Rattle.event_records.specs.declared.limits.TheConstants.{MAX_THREADS}
use Rattle.history_merge.specs.declared.operation.Operation.{Operation}
use Rattle.history_merge.specs.Initial.{Contents, HistoryView}
use Rattle.history_merge.specs.Legal.{ArePlacesOf}
use Rattle.history_merge.specs.Operations.{enqueued_value, operations_of}
use Rattle.verdicts.specs.Selection.{contents_of}
use Rattle.conditions.specs.declared.producer.Emptiness.{Emptiness}
use Rattle.conditions.specs.declared.producer.Producer.{Producer}
use Rattle.conditions.specs.declared.producer.Producer.TheVariants.{Initial, Thread}
use Rattle.conditions.specs.declared.ranks.TheConstants.{PRODUCERS}
use Rattle.conditions.specs.declared.sharing.Share.{Share}
use Rattle.conditions.specs.Conditions.{selection_of}
use Rattle.conditions.specs.Inner.Producers.{goes_to, share_of}

-- the producer of this rank, its place among all producers
abbrev pub ranked : ℕ → Producer
ranked zero = Initial
ranked (suc t) = Thread t

-- the rank of a producer
abbrev pub rank_of : Producer → ℕ
rank_of Initial = 0
rank_of (Thread t) = suc t

-- the places of the operations of this producer's selection
abbrev pub ArePlacesFor : Emptiness → Producer → HistoryView → List ℕ → Type 0
ArePlacesFor emptiness producer history places = ArePlacesOf (operations_of history.events) places
    (selection_of emptiness producer (contents_of history)).operations

-- whether the operation is an enqueue by this thread, successful or failed
abbrev pub enqueues_in : ℕ → Operation → Bool
enqueues_in t o = nat_eq o.thread t && is_some (enqueued_value o.kind)

-- the ranks of the initial values' producer and of the threads in which these operations enqueue values are marked
pub record AreMarked (seen : List Operation) (used : List Bool) : Type 0 where
  pub one_each : length used ≡ PRODUCERS
  pub initial : slice_index_or used 0 false ≡ true
  pub threads : (t : ℕ) → t < MAX_THREADS → slice_index_or used (suc t) false ≡ list_any (enqueues_in t) seen

-- the place is added for each producer in use to whose selection the operation belongs
pub record IsSharedOut (share : Share) (used : List Bool) (place : ℕ) (before after : List (List ℕ)) : Type 0 where
  pub one_each : length after ≡ length before
  pub each : (k : ℕ) → k < length before → slice_index_or used k false ≡ true
      → slice_index_or after k [] ≡ slice_index_or before k [] ++ (if goes_to (ranked k) share then place ∷ [] else [])

-- for each producer in use the places of its operations among the first ones
abbrev pub HasSharedOut : Contents → ℕ → List Bool → Emptiness → List (List ℕ) → Type 0
HasSharedOut whole count used emptiness buckets = (length buckets ≡ PRODUCERS)
    × ((k : ℕ) → k < PRODUCERS → slice_index_or used k false ≡ true
    → ArePlacesOf whole.operations (slice_index_or buckets k [])
    (filter (λ o. goes_to (ranked k) (share_of whole emptiness o.kind)) (take count whole.operations)))

-- for each producer in use the places of its selection
pub record AreSharedOut (emptiness : Emptiness) (whole : Contents) (used : List Bool)
    (buckets : List (List ℕ)) : Type 0 where
  pub one_each : length buckets ≡ PRODUCERS
  pub marked : AreMarked whole.operations used
  pub places : (k : ℕ) → k < PRODUCERS → slice_index_or used k false ≡ true
      → ArePlacesOf whole.operations (slice_index_or buckets k []) (selection_of emptiness (ranked k) whole).operations
