-- At most one history has the operations of a `YES`.
use Rattle.std.proofs.Common.{◌≡◌, ◌≤◌, ◌+◌, ℕ, suc, List, [], ◌∷◌, length, refl, sym, ap, ◌∙◌, subst, arith, IsPermutation}
use Rattle.std.specs.Prelude.{Bool, Contains, filter, filter_map, if◌then◌else◌, not, Option, Some, None, true, false}
use Rattle.std.specs.List.{cons_option}
use Rattle.std.specs.List.Sorted.{IsNonDecreasingBy}
use Rattle.std.proofs.lemmas.List.Sorted.{Contains-permutation, IsPermutation-sym}
use Rattle.std.proofs.lemmas.List.Sums.{count_by-le-length, length-filter}
use Rattle.event_records.specs.declared.event.Event.{Event}
use Rattle.history_merge.specs.Initial.{HistoryView, IsCompleteFrom}
use Rattle.history_merge.specs.declared.operation.Operation.{Operation}
use Rattle.verdicts.proofs.OneVerdict.{same_lists, sorted_tells}
use Rattle.commands.specs.Operations.{IsHistoryOfOperations, dequeued_value, events_of_operations, is_enqueued, values_before}

-- the ticket of an event
abbrev pub ticket_of : Event → ℕ
ticket_of e = e.ticket

-- an event of one history of the operations is one of another
event_in_both : (lines : List Operation) (g h : HistoryView) → IsHistoryOfOperations lines g → IsHistoryOfOperations lines h → (e : Event)
    → Contains g.events e → Contains h.events e
event_in_both lines g h is_g is_h e among = Contains-permutation (events_of_operations lines) h.events e is_h.events
    (Contains-permutation g.events (events_of_operations lines) e (IsPermutation-sym (events_of_operations lines) g.events is_g.events) among)

-- two histories of the operations are one
pub one_of_operations : (lines : List Operation) (g h : HistoryView) → IsHistoryOfOperations lines g → IsHistoryOfOperations lines h → g ≡ h
one_of_operations lines g h is_g is_h =
    let events = same_lists ticket_of g.events h.events is_g.complete.complete.tickets_rise is_h.complete.complete.tickets_rise
    (event_in_both lines g h is_g is_h) (event_in_both lines h g is_h is_g) in
    let initial = is_g.initial ∙ sym is_h.initial in
    λ i. record { initial = initial i; events = events i }

-- the events of a history of the operations are theirs by ticket
sorted_events : (lines : List Operation) (h : HistoryView) (sorted : List Event) → IsHistoryOfOperations lines h
    → IsPermutation (events_of_operations lines) sorted → IsNonDecreasingBy ticket_of sorted → sorted ≡ h.events
sorted_events lines h sorted is moved in_order =
    (sorted_tells ticket_of h.events (events_of_operations lines) sorted is.complete.complete.tickets_rise moved in_order).1
    (IsPermutation-sym (events_of_operations lines) h.events is.events)

-- the operations have no history if their values and their events by ticket aren't complete
pub no_history : (lines : List Operation) (initial : List ℕ) (sorted : List Event) → initial ≡ values_before lines
    → IsPermutation (events_of_operations lines) sorted → IsNonDecreasingBy ticket_of sorted → ¬ (IsCompleteFrom initial sorted)
    → (h : HistoryView) → ¬ (IsHistoryOfOperations lines h)
no_history lines initial sorted are moved in_order incomplete h is =
    incomplete (subst (λ (values : List ℕ). IsCompleteFrom values sorted) (is.initial ∙ sym are)
    (subst (IsCompleteFrom h.initial) (sym (sorted_events lines h sorted is moved in_order)) is.complete))

-- no more are mapped than there are
few_mapped : (p : Operation → Option ℕ) (xs : List Operation) → length (filter_map p xs) ≤ length xs
few_mapped p [] = omega arith
few_mapped p (x ∷ xs) = by_value (few_mapped p xs) (p x)
  where
    by_value : length (filter_map p xs) ≤ length xs → (found : Option ℕ) → length (cons_option found (filter_map p xs)) ≤ suc (length xs)
    by_value rest None = omega arith
    by_value rest (Some v) = omega arith

-- there are no more values than lines
pub few_before : (lines : List Operation) → length (values_before lines) ≤ length lines
few_before lines =
    let values = filter_map (λ (o : Operation). dequeued_value o.kind) lines in
    let fresh : ℕ → Bool = λ v. not (is_enqueued lines v) in
    let mapped = few_mapped (λ o. dequeued_value o.kind) lines in
    let kept = length-filter fresh values in
    let few = count_by-le-length fresh values in
    omega arith

-- there are two events for each line
pub two_events_each : (lines : List Operation) → length (events_of_operations lines) ≡ length lines + length lines
two_events_each [] = refl
two_events_each (o ∷ lines) = let rest = two_events_each lines in omega arith
