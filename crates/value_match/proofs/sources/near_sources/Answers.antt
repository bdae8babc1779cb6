use Rattle.value_match.proofs.Common.{ap, arith, HoldsNear, IsNearSource, length, None, refl, slice_get_read, Some}
use Rattle.value_match.proofs.Common.{subst, sym, ◌∙◌, ◌≡◌}
use Rattle.value_match.proofs.CallPlaces.{call_within, is_wanted, near_push, no_near_source, wants_more}
use Rattle.value_match.proofs.sources.near_sources.Goals as goal

pub loop-place-init : goal.loop-place-init
loop-place-init c = rw c.in_ok-sources.ensures.items (record { one_each = omega arith; each = λ i o below. absurd (omega (arith, below)) })

pub some-requires : goal.some-requires
some-requires c = let inside = call_within c.args.operations.now _ _ c.in-Some.ensures in omega (arith, inside, c.requires.few)

pub loop-place-preserved-in_default : goal.loop-place-preserved-in_default
loop-place-preserved-in_default c =
    let here = slice_get_read _ _ _ _ refl c.loop-place-test.true c.index-operations-place.is ∙ ap Some (sym c.unpack.ensures.operation) in
    rw (c.in_ok-push.ensures.items, c.none.ensures)
    (near_push _ _ _ _ _ _ _ here (no_near_source _ _ _ c.in_default.not-Dequeue) c.loop-place.invariant)

pub loop-place-preserved-in_default-find : goal.loop-place-preserved-in_default-find
loop-place-preserved-in_default-find c =
    let here = slice_get_read _ _ _ _ refl c.loop-place-test.true c.index-operations-place.is ∙ ap Some (sym c.unpack.ensures.operation) in
    let adds = c.in_ok-insert.ensures.updates.0 in
    let near = subst (λ kind. IsNearSource c.insert.new.self c.args.operations.now kind None) (sym c.in-Dequeue.is) (is_wanted _ _ c.in-Dequeue.value adds) in
    rw (c.in_ok-push-2.ensures.items, c.none-in_default-find.ensures)
    (near_push _ _ _ _ _ _ _ here near (wants_more _ _ _ _ _ _ _ adds c.loop-place.invariant))

pub loop-place-preserved : goal.loop-place-preserved
loop-place-preserved c =
    let here = slice_get_read _ _ _ _ refl c.loop-place-test.true c.index-operations-place.is ∙ ap Some (sym c.unpack.ensures.operation) in
    let near = subst (λ kind. IsNearSource c.loop-place.wanted c.args.operations.now kind (Some c.in-Some.source)) (sym c.in-Dequeue.is) c.in-Some.ensures in
    rw (c.in_ok-push-3.ensures.items, c.some.ensures) (near_push _ _ _ _ _ _ _ here near c.loop-place.invariant)

pub returns : goal.returns
returns c =
    let end : c.loop-place.place ≡ length c.args.operations.now = omega (arith, c.loop-place-test.false, c.loop-place.auto.place-end, c.requires.prefix) in
    subst (λ n. HoldsNear c.loop-place.wanted c.args.operations.now c.args.prefix n c.loop-place.sources.items) end c.loop-place.invariant
