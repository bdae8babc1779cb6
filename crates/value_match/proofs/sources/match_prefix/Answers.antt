use Rattle.value_match.proofs.Common.{ap, IsMatchedPrefix, arith, get_or_read, length, None, refl, slice_get_read}
use Rattle.value_match.proofs.Common.{Some}
use Rattle.value_match.proofs.Common.{subst, sym, TakesFrom, ◌<◌, ◌∙◌, ◌≡◌}
use Rattle.value_match.proofs.CallPlaces.{call_within, no_source, none_if}
use Rattle.value_match.proofs.FreshDequeues.{in_time_more, no_dequeue}
use Rattle.value_match.proofs.RepeatedDequeues.{takes_first, takes_no_source, takes_nothing}
use Rattle.value_match.proofs.sources.match_prefix.Goals.{In-Some}
use Rattle.value_match.proofs.sources.match_prefix.Goals as goal

-- the call is one of the operations
below : (c : In-Some) → c.in-Some.source < length c.loop-place.takers
below c = let inside = call_within c.args.operations.now c.in-Dequeue.value c.in-Some.source c.in-Some.ensures in
    omega (arith, inside, c.loop-place.invariant.noted.one_each)

pub loop-place-init : goal.loop-place-init
loop-place-init c = record { in_time = λ k o none. absurd (omega arith); noted = c.requires.none }

pub loop-place-preserved-in_default : goal.loop-place-preserved-in_default
loop-place-preserved-in_default c =
    let here = slice_get_read _ _ _ _ refl c.loop-place-test.true c.index-operations-place.is ∙ ap Some (sym c.unpack-operation.ensures.operation) in
    record {
      in_time = no_dequeue _ _ _ here c.in_default.not-Dequeue c.loop-place.invariant.in_time;
      noted = takes_nothing _ _ _ (takes_no_source _ _ _ here (no_source _ _ c.in_default.not-Dequeue)) c.loop-place.invariant.noted;
    }

pub returns-in_default-find-clause-prefix : goal.returns-in_default-find-clause-prefix
returns-in_default-find-clause-prefix c = c.loop-place.invariant

pub bounds-takers-source : goal.bounds-takers-source
bounds-takers-source c = below (goal.at.bounds-takers-source c).In-Some

pub comes_too_soon-requires : goal.comes_too_soon-requires
comes_too_soon-requires c = call_within c.args.operations.now c.in-Dequeue.value c.in-Some.source c.in-Some.ensures

pub bounds-takers-source-in-loop-place : goal.bounds-takers-source-in-loop-place
bounds-takers-source-in-loop-place c = below (goal.at.bounds-takers-source-in-loop-place c).In-Some

pub returns-then-is_some-clause-prefix : goal.returns-then-is_some-clause-prefix
returns-then-is_some-clause-prefix c = c.loop-place.invariant

pub loop-place-preserved : goal.loop-place-preserved
loop-place-preserved c =
    let known = c.loop-place.invariant in
    let here = slice_get_read _ _ _ _ refl c.loop-place-test.true c.index-operations-place.is ∙ ap Some (sym c.unpack-operation.ensures.operation) in
    let inside = below (goal.at.loop-place-preserved c).In-Some in
    let free = none_if _ (sym c.is_some.ensures ∙ c.if-is_some.false) in
    let read = get_or_read c.loop-place.takers c.in-Some.source _ inside c.index-takers-source.is None in
    let takes : TakesFrom c.args.operations.now c.loop-place.place c.in-Some.source =
    record { value = c.in-Dequeue.value; dequeue = c.unpack-operation.result; at = here; dequeues = c.in-Dequeue.is; from_call = c.in-Some.ensures } in
    record {
      in_time = in_time_more _ _ _ _ _ c.requires.complete here c.in-Dequeue.is c.in-Some.ensures
          (λ call there. sym c.if-comes_too_soon.false ∙ c.comes_too_soon.ensures call there) known.in_time;
      noted = rw c.some.ensures (takes_first _ _ _ _ c.requires.complete takes (sym (c.get.ensures ∙ read) ∙ free) known.noted);
    }

pub returns-clause-prefix : goal.returns-clause-prefix
returns-clause-prefix c =
    let end : c.loop-place.place ≡ length c.args.operations.now = omega (arith, c.loop-place-test.false, c.loop-place.auto.place-end) in
    subst (λ n. IsMatchedPrefix c.args.operations.now n c.loop-place.takers) end c.loop-place.invariant
