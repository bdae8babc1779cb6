-- The times at which values were enqueued and dequeued, with the dequeues.
use Rattle.std.specs.Prelude.{◌≡◌, ℕ, ◌≤◌, ◌<◌, ◌&&◌, take, Bool, List, length, map, not, nat_lt, count_by, find}
use Rattle.std.specs.Prelude.{filter_map, All, Option, None, option_map}
use Rattle.std.specs.Ordering.{nat_cmp}
use Rattle.std.specs.BTreeMap.{BTreeMap, get}
use Rattle.history_merge.specs.declared.operation.Operation.{Operation}
use Rattle.history_merge.specs.declared.operation.OpKind.{OpKind}
use Rattle.history_merge.specs.declared.operation.OpKind.TheVariants.{Enqueue, Dequeue, DequeueEmpty, EnqueueFailed}
use Rattle.history_stats.specs.AtOnce.{is_taken_before, stay_count, values_put_before}
use Rattle.history_stats.specs.Overtaking.{overtaking_of, put}
use Rattle.history_stats.specs.Inner.AtOnce.{count_before, is_kept_before}
use Rattle.history_stats.specs.Inner.Tally.{IsTally}
use Rattle.history_stats.specs.declared.overtaking.Overtaking.{Overtaking}
use Rattle.history_stats.specs.declared.stays.Stay.{Stay}
use Rattle.history_stats.specs.declared.takings.Taking.{Taking}

-- the call of the value's enqueue, if it was enqueued
abbrev pub enqueue_call : List Operation → ℕ → Option ℕ
enqueue_call operations v = option_map (λ e. e.call) (find (λ o. put v o.kind) operations)

-- an operation as a dequeue of an enqueued value, if it is one
abbrev pub taking_by : List Operation → Operation → OpKind → Option Taking
taking_by operations o (Dequeue v) =
    option_map (λ call. record { enqueue_call = call; call = o.call; ret = o.ret; value = v })
    (enqueue_call operations v)
taking_by operations o _ = None

-- the dequeues of enqueued values
abbrev pub takings_in : List Operation → List Taking
takings_in operations = filter_map (λ o. taking_by operations o o.kind) operations

-- the value was enqueued before one ticket, and not taken before another, which comes after this number of calls
abbrev pub stays_at : ℕ → ℕ → Stay → Bool
stays_at put_before called s = nat_lt s.put put_before && not (nat_lt s.taken called)

-- the tickets kept for values are those of the first calls of dequeues of them
abbrev pub AreFirstTakes : List Operation → BTreeMap ℕ ℕ → Type 0
AreFirstTakes operations takes = (gap v : ℕ) → is_kept_before gap takes v ≡ is_taken_before gap operations v

-- the tickets kept for values are those of the calls of their enqueues
abbrev pub AreEnqueueCalls : List Operation → BTreeMap ℕ ℕ → Type 0
AreEnqueueCalls operations calls = (v : ℕ) → get nat_cmp calls v ≡ enqueue_call operations v

-- there are as many such stays as values that were enqueued before a ticket and not taken before another
abbrev pub CountStays : List Operation → List ℕ → List Stay → Type 0
CountStays operations calls stays = (put_before gap : ℕ) →
    count_by (stays_at put_before (count_before gap calls)) stays
    ≡ stay_count gap operations (values_put_before put_before operations)

-- the overtaking of a dequeue, by the stays of the values
abbrev pub overtaking_among : List ℕ → List Stay → Taking → Option Overtaking
overtaking_among calls stays t =
    overtaking_of (count_by (stays_at t.enqueue_call (count_before t.ret calls)) stays) t.call t.value

-- the stays before the place are tallied, by when their values were taken
pub record AreTallied (limit : ℕ) (stays : List Stay) (place : ℕ) (levels : List (List ℕ)) : Type 0 where
  pub taken : All (λ s. s.taken ≤ limit) stays
  pub few : length stays < 4611686018427387904
  pub is_tally : IsTally limit (map (λ s. s.taken) (take place stays)) levels
