use Rattle.value_match.proofs.Common.{arith, Enqueue, get_or, get_or_read, IsAt, IsSourceOf, length, None, Operation}
use Rattle.value_match.proofs.Common.{slice_get-get_or, Some, subst, sym, TakesFrom, ◌-◌, ◌<◌, ◌∙◌, ◌≡◌}
use Rattle.value_match.proofs.CallPlaces.{source_at}
use Rattle.value_match.proofs.RepeatedDequeues.{found_inside, met_again, met_first, met_once, met_skip, once_taken}
use Rattle.value_match.proofs.RepeatedDequeues.{repeat_chosen, source_inside, takes_no_source, takes_source, Twice}
use Rattle.value_match.proofs.takers.find_takers.Goals.{After-get, After-in_order-pair, In-Some, In-Some-get}
use Rattle.value_match.proofs.takers.find_takers.Goals as goal

-- the operation that the walk reads
here : (c : After-get) → (o : Operation) × IsAt c.args.operations.now c.loop-place.place o
    × IsSourceOf c.args.operations.now o.kind c.get.result
here c =
    let d : Operation = record { call = 0; ret = 0; thread = 0; kind = Enqueue 0 } in
    let at = slice_get-get_or c.args.operations.now c.loop-place.place d c.loop-place-test.true in
    let within : c.loop-place.place - c.args.prefix < length c.args.sources.now =
    omega (arith, c.loop-place-test.true, c.loop-place.auto.place, c.requires.sources.one_each) in
    let read = get_or_read c.args.sources.now _ _ within c.index-sources-place.is None in (
      get_or c.args.operations.now c.loop-place.place d,
      at,
      subst (IsSourceOf _ _) (sym (c.get.ensures ∙ read))
          (source_at _ _ _ _ _ c.requires.sources c.loop-place.auto.place at),
    )

-- the operation takes from the source that was read
from : (c : In-Some) → TakesFrom c.args.operations.now c.loop-place.place c.in-Some.source
from c =
    let o = here (goal.at.In-Some c).After-get in
    takes_source _ _ _ o.0 o.1 (subst (IsSourceOf _ _) c.in-Some.is o.2)

below : (c : In-Some) → c.in-Some.source < length c.loop-place.firsts.items
below c = let inside = source_inside _ _ _ (from c) in omega (arith, inside, c.loop-place.invariant.kept.one_each)

-- the other operation that takes from the source came before
held : (c : In-Some-get) → get_or c.loop-place.firsts.items c.in-Some.source None ≡ Some c.in-Some-get.other
held c =
    sym (get_or_read c.loop-place.firsts.items _ _ (below (goal.at.In-Some-get c).In-Some) c.index.ensures None)
    ∙ sym c.get-in-loop-place.ensures ∙ c.in-Some-get.is

earlier : (c : In-Some-get) → c.in-Some-get.other < c.loop-place.place
earlier c = (c.loop-place.invariant.kept.taken c.in-Some.source c.in-Some-get.other (held c)).0

inside : (c : After-in_order-pair) → c.in-Some-get.other < c.loop-place.place
    → (c.in_order-pair.result.first < length c.args.operations.now)
    × (c.in_order-pair.result.second < length c.args.operations.now)
inside c before =
    let here = c.loop-place-test.true in
    let both = c.in_order-pair.ensures.both in
    (grind arith, grind arith)

pub in_order-pair-requires-clause-enq : goal.in_order-pair-requires-clause-enq
in_order-pair-requires-clause-enq c = source_inside _ _ _ (from (goal.at.in_order-pair-requires-clause-enq c).In-Some)

pub in_order-pair-requires-clause-one : goal.in_order-pair-requires-clause-one
in_order-pair-requires-clause-one c =
    let before = earlier (goal.at.in_order-pair-requires-clause-one c).In-Some-get in omega (arith, c.loop-place-test.true)

pub some-requires-in-loop-place : goal.some-requires-in-loop-place
some-requires-in-loop-place c =
    let at = goal.at.some-requires-in-loop-place c in
    let low = (inside at.After-in_order-pair (earlier at.In-Some-get)).0 in omega (arith, c.place.ensures, c.requires.few)

pub index_mut-requires-in-loop-place : goal.index_mut-requires-in-loop-place
index_mut-requires-in-loop-place c = let here = below (goal.at.index_mut-requires-in-loop-place c).In-Some in omega arith

pub sooner_of-requires-clause-pair : goal.sooner_of-requires-clause-pair
sooner_of-requires-clause-pair c =
    let at = goal.at.sooner_of-requires-clause-pair c in (inside at.After-in_order-pair (earlier at.In-Some-get)).1

pub sooner_of-requires-clause-found : goal.sooner_of-requires-clause-found
sooner_of-requires-clause-found c = found_inside _ _ _ c.loop-place.invariant.twice

pub index-requires : goal.index-requires
index-requires c = let inside = below (goal.at.index-requires c).In-Some in omega arith

pub loop-place-init : goal.loop-place-init
loop-place-init c = met_once _ _ _ c.requires.takers

pub index_mut-requires : goal.index_mut-requires
index_mut-requires c = let inside = below (goal.at.index_mut-requires c).In-Some in omega arith

pub loop-place-preserved-in_default : goal.loop-place-preserved-in_default
loop-place-preserved-in_default c =
    let o = here (goal.at.loop-place-preserved-in_default c).After-get in
    met_skip _ _ _ _ (takes_no_source _ _ o.0 o.1 (subst (IsSourceOf _ _) c.in_default.is o.2)) c.loop-place.invariant

pub loop-place-preserved-in_default-get : goal.loop-place-preserved-in_default-get
loop-place-preserved-in_default-get c =
    let of_source = (goal.at.loop-place-preserved-in_default-get c).In-Some in
    let free = sym (get_or_read c.loop-place.firsts.items _ _ (below of_source) c.index.ensures None) ∙ sym c.get-in-loop-place.ensures ∙ c.in_default-get.is in
    rw c.some.ensures (met_first _ c.requires.complete _ _ _ (from of_source) _ free c.loop-place.invariant)

pub loop-place-preserved : goal.loop-place-preserved
loop-place-preserved c =
    let of_source = (goal.at.loop-place-preserved c).In-Some in
    rw (c.some-in-loop-place.ensures, c.place.ensures) (met_again _ c.requires.complete _ _ _ (from of_source) _ _ _ _
    (held (goal.at.loop-place-preserved c).In-Some-get) (assumption c.in_order-pair.ensures) c.sooner_of.ensures c.loop-place.invariant)

pub returns-in-Some-found : goal.returns-in-Some-found
returns-in-Some-found c = repeat_chosen _ _ _ c.requires.no_fresh c.loop-place-test.false
    (subst (Twice c.args.operations.now c.loop-place.place) c.in-Some-found.is c.loop-place.invariant.twice)

pub returns-in-None : goal.returns-in-None
returns-in-None c = once_taken _ _ _ c.loop-place-test.false c.loop-place.invariant.kept
    (subst (Twice c.args.operations.now c.loop-place.place) c.in-None.is c.loop-place.invariant.twice)
