-- The producers of values, found by value, and the producers to whose selections an operation belongs.
use Rattle.std.specs.Prelude.{◌≡◌, ℕ, Bool, true, false, nat_lt, List, Contains, IfSome, Option, Some, None}
use Rattle.std.specs.Prelude.{option_map, if◌then◌else◌}
use Rattle.std.specs.List.Sorted.{IsNonDecreasingBy}
use Rattle.std.specs.Option.{option_map_or}
use Rattle.event_records.specs.declared.limits.TheConstants.{ORIGIN}
use Rattle.history_merge.specs.declared.operation.Operation.{Operation}
use Rattle.history_merge.specs.declared.operation.OpKind.{OpKind}
use Rattle.history_merge.specs.Complete.{AreComplete}
use Rattle.history_merge.specs.Initial.{Contents}
use Rattle.history_merge.specs.Inner.Timeline.{timeline}
use Rattle.history_merge.specs.Operations.{enqueued_value}
use Rattle.verdicts.specs.Selection.{value_of}
use Rattle.conditions.specs.declared.producer.Emptiness.{Emptiness}
use Rattle.conditions.specs.declared.producer.Producer.{Producer}
use Rattle.conditions.specs.declared.producer.Producer.TheVariants.{Initial, Thread}
use Rattle.conditions.specs.declared.producers.Produced.{Produced}
use Rattle.conditions.specs.declared.search.ProducerSearch.{ProducerSearch}
use Rattle.conditions.specs.declared.sharing.Share.{Share}
use Rattle.conditions.specs.declared.sharing.Share.TheVariants.{Everybody, Nobody, Only}
use Rattle.conditions.specs.Conditions.{is_producer, judges_empties, producer_of}

-- the producer of an operation on the scale of times, if it is an enqueue: initial values come in before the time of
-- ticket 0
abbrev pub producer_at : Operation → Producer
producer_at o = (if nat_lt o.call ORIGIN then Initial else Thread o.thread)

-- the value of an enqueue, successful or failed, with its producer
abbrev pub produced_by : Operation → Option Produced
produced_by o = option_map (λ v. record { value = v; producer = producer_at o }) (enqueued_value o.kind)

-- each enqueued value and its producer, sorted by value
pub record AreProducers (whole : Contents) (by_value : List Produced) : Type 0 where
  pub rise : IsNonDecreasingBy (λ x. x.value) by_value
  pub right : (x : Produced) → Contains by_value x → producer_of whole x.value ≡ Some x.producer
  pub all : (v : ℕ) (p : Producer) → producer_of whole v ≡ Some p
      → (x : Produced) × Contains by_value x × (x.value ≡ v)

-- values are enqueued once, and the list of all, if it was made, is right
abbrev pub KnowsProducers : Contents → ProducerSearch → Type 0
KnowsProducers whole search = AreComplete (timeline whole.initial whole.operations)
    × IfSome search.all (λ all. AreProducers whole all.by_value.items)

-- the producers to whose selections the operations on a value belong: only its own, or all if it has none
abbrev pub share_of_value : Option Producer → Share
share_of_value None = Everybody
share_of_value (Some p) = Only p

-- the producers to whose selections an empty dequeue belongs: all, or none
abbrev pub share_of_empty : Emptiness → Share
share_of_empty emptiness = (if judges_empties emptiness then Everybody else Nobody)

-- the producers to whose selections an operation of this kind belongs
abbrev pub share_of : Contents → Emptiness → OpKind → Share
share_of whole emptiness kind =
    option_map_or (λ v. share_of_value (producer_of whole v)) (value_of kind) (share_of_empty emptiness)

-- whether this producer is one of these
abbrev pub goes_to : Producer → Share → Bool
goes_to p Nobody = false
goes_to p (Only q) = is_producer p q
goes_to p Everybody = true
