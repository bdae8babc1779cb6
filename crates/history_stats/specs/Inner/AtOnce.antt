-- Tickets and calls kept for values.
use Rattle.std.specs.Prelude.{◌≡◌, ℕ, ◌&&◌, Bool, false, List, length, nat_le, nat_lt, count_by, filter_map, Option}
use Rattle.std.specs.Prelude.{None, if◌then◌else◌}
use Rattle.std.specs.Option.{option_map_or}
use Rattle.std.specs.Ordering.{nat_cmp}
use Rattle.std.specs.BTreeMap.{BTreeMap, get}
use Rattle.std.specs.List.{list_any}
use Rattle.history_merge.specs.declared.operation.Operation.{Operation}
use Rattle.history_stats.specs.AtOnce.{gave, put_value}
use Rattle.history_stats.specs.declared.moment.Moment.{Moment}
use Rattle.history_stats.specs.declared.moment.Moment.TheVariants.{Call, Return}

-- the number of tickets below the gap
abbrev pub count_before : ℕ → List ℕ → ℕ
count_before gap tickets = count_by (λ t. nat_lt t gap) tickets

-- the ticket kept for the value is below the gap
abbrev pub is_kept_before : ℕ → BTreeMap ℕ ℕ → ℕ → Bool
is_kept_before gap kept v = option_map_or (λ t. nat_lt t gap) (get nat_cmp kept v) false

-- the ticket is that of the last return of the operations, if there is one
abbrev pub IsLastReturn : List Operation → ℕ → Type 0
IsLastReturn operations last = (ticket : ℕ)
    → list_any (λ o. nat_le ticket o.ret) operations ≡ (nat_lt 0 (length operations) && nat_le ticket last)

-- the ticket of this moment of the operation
abbrev pub ticket_at : Moment → Operation → ℕ
ticket_at Call o = o.call
ticket_at Return o = o.ret

-- the value that the operation enqueued, if this moment of it is before the gap
abbrev pub value_come_before : Moment → ℕ → Operation → Option ℕ
value_come_before moment gap o = if nat_lt (ticket_at moment o) gap then put_value o.kind else None

-- the values that were enqueued by operations whose moment is before the gap
abbrev pub values_come_before : Moment → ℕ → List Operation → List ℕ
values_come_before moment gap operations = filter_map (value_come_before moment gap) operations

-- this moment of a dequeue of the value is before the gap
abbrev pub is_left_before : Moment → ℕ → List Operation → ℕ → Bool
is_left_before moment gap operations v = list_any (λ o. gave v o.kind && nat_lt (ticket_at moment o) gap) operations
