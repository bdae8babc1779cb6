use Rattle.linearizer.proofs.Common.{ap, arith, cons_option, IsMergedUpTo, IsNoopFrom, IsValueFrom, Placed}
use Rattle.linearizer.proofs.Common.{slice_get_within, subst, sym, [], ◌++◌, ◌+◌, ◌∙◌, ◌≡◌}
use Rattle.linearizer.proofs.Elements.{from_some_and}
use Rattle.linearizer.proofs.Merging.{below_limit, below_next, noop_added, next_noop}
use Rattle.linearizer.proofs.placing.place_noops.Goals as goal

pub returns-then-is_after-clause-up_to : goal.returns-then-is_after-clause-up_to
returns-then-is_after-clause-up_to c =
    let next = from_some_and _ _ c.is_after.ensures in
    below_limit (IsNoopFrom c.args.noops.now c.loop-count.count) c.args.before next.0.position c.is_after.result next.2 c.if-is_after.true
    (λ p. next_noop c.args.noops.now c.loop-count.count next.0 p c.requires next.1)

pub loop-count-preserved : goal.loop-count-preserved
loop-count-preserved c = λ history lives i j left none before.
    let next = from_some_and _ _ c.is_after.ensures in
    let noop = from_some_and _ _ c.place.ensures in
    let same : noop.0 ≡ next.0 = let e = sym noop.1 ∙ next.1 in cc in
    let told = ap (λ (x : Placed). x.place) (sym same) ∙ noop.2 in
    rw (c.in_ok-push.ensures.items) (subst (λ p. IsMergedUpTo history lives c.args.noops.now i j left (c.loop-count.count + 1)
    (c.loop-count.places.items ++ cons_option p [])) told
    (noop_added history lives c.args.noops.now i j left c.loop-count.count c.loop-count.places.items
    (c.loop-count.invariant history lives i j left none before) next.0 c.requires next.1
    (below_next (IsValueFrom lives i j) c.args.before next.0.position c.is_after.result next.2 c.if-is_after.false none)))

pub returns-clause-adds : goal.returns-clause-adds
returns-clause-adds c = c.loop-count.invariant

pub returns-clause-up_to : goal.returns-clause-up_to
returns-clause-up_to c p is = absurd (omega (arith, c.loop-count-test.false, is.2, slice_get_within c.args.noops.now is.0 is.1 is.3))
