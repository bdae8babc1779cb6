-- Enqueued values by the places of their operations in a timeline.
use Rattle.std.specs.Prelude.{◌≡◌, ℕ, All, List, Option, Some, None, map, option_map, slice_index_or}
use Rattle.history_merge.specs.declared.operation.Operation.{Operation}
use Rattle.history_merge.specs.declared.operation.OpKind.TheVariants.{Enqueue}
use Rattle.history_merge.specs.Operations.{IsAt}
use Rattle.value_match.specs.Lives.{IsMaybeAt, dequeue_of, enqueue_of, lives_of}
use Rattle.value_match.specs.Inner.HistoryPlaces.{history_place, history_source}
use Rattle.value_match.specs.declared.life.Life.{Life}
use Rattle.value_match.specs.declared.life.MatchedValue.{MatchedValue}
use Rattle.value_match.specs.declared.accepted.Pair.{Pair}

-- a life, with the places of its operations
pub record PlacedLife : Type 0 where
  pub life : Life
  pub enqueue : ℕ
  pub dequeue : Option ℕ

-- the operation at this place; out of range, any
abbrev pub operation_at : List Operation → ℕ → Operation
operation_at operations place =
    slice_index_or operations place (record { call = 0; ret = 0; thread = 0; kind = Enqueue 0 })

-- the operation at this place, if there is one
abbrev pub maybe_operation_at : List Operation → Option ℕ → Option Operation
maybe_operation_at operations None = None
maybe_operation_at operations (Some place) = Some (operation_at operations place)

-- the value whose operations have these places
abbrev pub value_at : List Operation → Pair → PlacedLife
value_at operations pair = record {
  life =
      record { enqueue = operation_at operations pair.enqueue; dequeue = maybe_operation_at operations pair.dequeue };
  enqueue = pair.enqueue;
  dequeue = pair.dequeue;
}

-- the places of the value are those of its operations
abbrev pub HasPlaces : List Operation → PlacedLife → Type 0
HasPlaces operations m = IsAt operations m.enqueue (enqueue_of m.life)
    × IsMaybeAt operations m.dequeue (dequeue_of m.life)

-- the values are the lives of the operations, each with its places
abbrev pub HoldsLives : List Operation → List PlacedLife → Type 0
HoldsLives operations values = (map (λ m. m.life) values ≡ lives_of operations) × All (HasPlaces operations) values

-- the value by its places in the history, whose timeline begins with this many initial values
abbrev pub history_value : ℕ → List Operation → Pair → MatchedValue
history_value initial_count timeline pair = record {
  life = (value_at timeline pair).life;
  source = history_source initial_count pair.enqueue;
  dequeue = option_map (history_place initial_count) pair.dequeue;
}
