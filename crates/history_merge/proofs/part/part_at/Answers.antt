use Rattle.std.proofs.Common.{◌≡◌, ◌∙◌, ◌∷◌, ◌++◌, [], ap, arith, length, List, refl, Some, subst, sym, take, ℕ, ◌<◌}
use Rattle.std.proofs.Common.{◌≤◌}
use Rattle.std.specs.Prelude.{slice_get}
use Rattle.std.proofs.lemmas.List.{take_all}
use Rattle.event_records.specs.declared.event.Event.{Event}
use Rattle.history_merge.specs.declared.operation.Operation.{Operation}
use Rattle.history_merge.specs.Inner.Forming.{IsFormedOf}
use Rattle.history_merge.specs.Operations.{operations_of}
use Rattle.event_records.specs.declared.limits.TheConstants.{MAX_TICKET}
use Rattle.history_merge.specs.Complete.{IsCompleteHistory}
use Rattle.history_merge.specs.Initial.{IsCompleteFrom}
use Rattle.history_merge.proofs.Distinct.{contains_at, operation_within}
use Rattle.history_merge.proofs.Formed.{all_formed, formed_of_complete}
use Rattle.history_merge.proofs.PlaceLists.{as_many_placed, one_more_placed, stands_there}
use Rattle.history_merge.proofs.part.part_at.Goals.{in-Some+in_ok-push, in_default}
use Rattle.history_merge.proofs.part.part_at.Goals as goal

-- an operation of a complete history is in the range of tickets
in_range : (events : List Event) (operations : List Operation) (place : ℕ) (o : Operation)
    → operations ≡ operations_of events → IsCompleteHistory events
    → slice_get operations place ≡ Some o → (o.call < o.ret) × (o.ret ≤ MAX_TICKET)
in_range events operations place o is complete at =
    operation_within events o complete (contains_at (operations_of events) place o (ap (λ os. slice_get os place) (sym is) ∙ at))

pub push-requires-clause-call : goal.push-requires-clause-call
push-requires-clause-call c =
    let at = sym c.get.ensures ∙ c.in-Some.is in
    let within = in_range c.args.history.now.events _ _ c.in-Some.operation c.timeline.ensures.operations c.timeline.ensures.complete at in
    omega (arith, within.0, within.1)

pub push-requires-clause-ret : goal.push-requires-clause-ret
push-requires-clause-ret c =
    let at = sym c.get.ensures ∙ c.in-Some.is in
    (in_range c.args.history.now.events _ _ c.in-Some.operation c.timeline.ensures.operations c.timeline.ensures.complete at).1

pub loop-place-preserved : goal.loop-place-preserved
loop-place-preserved c =
    let whole = operations_of c.args.history.now.events in
    let places = c.args.places.now in
    let i = c.loop-place.place-index in
    let there = ap (slice_get whole) (sym c.place-item.is ∙ sym c.place.ensures)
    ∙ ap (λ os. slice_get os c.place.result) (sym c.timeline.ensures.operations) ∙ sym c.get.ensures in
    elim c.match-get.branch [
      | in-Some+in_ok-push w ↦ (
        ap (λ t. t.initial) w.timeline-is ∙ w.push.ensures.initial ∙ c.loop-place.invariant.0,
        λ events part.
            ap (λ t. t.operations) w.timeline-is ∙ w.in_ok-push.ensures.added
            ∙ ap (λ os. os ++ w.in-Some.operation ∷ []) (c.loop-place.invariant.1 events part)
            ∙ sym (one_more_placed whole places (operations_of events) part.stand_there i c.place-item.result c.loop-place-test.true
            w.in-Some.operation (there ∙ w.in-Some.is)),
      )
      | in_default w ↦ (
        ap (λ t. t.initial) w.timeline-is ∙ c.loop-place.invariant.0,
        λ events part. absurd (stands_there whole places (operations_of events) part.stand_there i c.place-item.result c.loop-place-test.true (there ∙ w.in_default.is)),
      )
    ]

-- the operations are those of the part
formed_of : (operations all : List Operation) (events : List Event) (n : ℕ) → operations ≡ take n all → length all ≤ n
    → all ≡ operations_of events
    → IsCompleteHistory events → IsFormedOf events operations
formed_of operations all events n is past same complete =
    formed_of_complete events operations complete (is ∙ take_all n all past ∙ same ∙ sym (all_formed events complete))

pub new-requires : goal.new-requires
new-requires c =
    let events = c.requires.part.0 in
    let part = c.requires.part.1 in
    let many = as_many_placed (operations_of c.args.history.now.events) c.args.places.now (operations_of events) part.stand_there in record {
      formed = (
        events,
        formed_of c.loop-place.timeline.operations (operations_of events) events c.loop-place.place-index (c.loop-place.invariant.1 events part)
            (omega (arith, c.loop-place-test.false, many)) refl part.complete.complete,
        subst (λ initial. IsCompleteFrom initial events) (sym c.loop-place.invariant.0) part.complete,
        part.few,
      );
    }

pub returns-clause-events : goal.returns-clause-events
returns-clause-events c = λ events part.
    let many = as_many_placed (operations_of c.args.history.now.events) c.args.places.now (operations_of events) part.stand_there in
    c.new.ensures.events events (formed_of c.loop-place.timeline.operations (operations_of events) events c.loop-place.place-index
    (c.loop-place.invariant.1 events part) (omega (arith, c.loop-place-test.false, many)) refl part.complete.complete)
