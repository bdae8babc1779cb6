use Rattle.value_match.proofs.Common.{arith, Enqueue, false≢true, get_or, get_or_read, IsAt, IsSourceOf, length, None}
use Rattle.value_match.proofs.Common.{Operation, slice_get-get_or, subst, sym, ◌-◌, ◌<◌, ◌∙◌}
use Rattle.value_match.proofs.CallPlaces.{source_at}
use Rattle.value_match.proofs.FreshDequeues.{first_in_range, first_more, first_of_all, first_skip}
use Rattle.value_match.proofs.fresh.first_fresh.Goals.{After-index-sources-place}
use Rattle.value_match.proofs.fresh.first_fresh.Goals as goal

-- the operation that the walk reads
abbrev read : (c : After-index-sources-place) → Operation
read c = get_or c.args.operations.now c.loop-place.place (record { call = 0; ret = 0; thread = 0; kind = Enqueue 0 })

here : (c : After-index-sources-place) → IsAt c.args.operations.now c.loop-place.place (read c)
here c = slice_get-get_or c.args.operations.now c.loop-place.place _ c.loop-place-test.true

-- the source read with it is its source
source : (c : After-index-sources-place) (o : Operation) → IsAt c.args.operations.now c.loop-place.place o
    → IsSourceOf c.args.operations.now o.kind c.index-sources-place.result
source c o at =
    let within : c.loop-place.place - c.args.prefix < length c.args.sources.now =
    omega (arith, c.loop-place-test.true, c.loop-place.auto.place, c.requires.sources.one_each) in
    subst (IsSourceOf c.args.operations.now o.kind) (sym (get_or_read c.args.sources.now _ _ within c.index-sources-place.is None))
    (source_at _ _ _ o _ c.requires.sources c.loop-place.auto.place at)

pub is_fresh-requires-clause-source : goal.is_fresh-requires-clause-source
is_fresh-requires-clause-source c = source (goal.at.is_fresh-requires-clause-source c).After-index-sources-place

pub loop-place-preserved-then-not-is_fresh : goal.loop-place-preserved-then-not-is_fresh
loop-place-preserved-then-not-is_fresh c =
    let now = (goal.at.loop-place-preserved-then-not-is_fresh c).After-index-sources-place in
    first_skip _ _ _ c.index-sources-place.result (here now) _ c.requires.complete (source now _ (here now))
    (λ fresh. false≢true (sym c.if-not-is_fresh.true ∙ (c.is_fresh.ensures _ (here now)).1 fresh)) c.loop-place.invariant

pub sooner-requires-clause-first : goal.sooner-requires-clause-first
sooner-requires-clause-first c = first_in_range _ _ _ c.loop-place.invariant

pub loop-place-preserved : goal.loop-place-preserved
loop-place-preserved c =
    let now = (goal.at.loop-place-preserved c).After-index-sources-place in
    first_more _ _ _ c.index-sources-place.result (here now) _ _ _ c.new.ensures c.id.ensures
    ((c.is_fresh.ensures _ (here now)).0 c.if-not-is_fresh.false) c.sooner.ensures.none c.sooner.ensures.some c.loop-place.invariant

pub returns : goal.returns
returns c = first_of_all _ _ _ c.loop-place-test.false c.loop-place.invariant
