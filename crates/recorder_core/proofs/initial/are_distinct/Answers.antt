use Rattle.std.proofs.Common.{rules, ◌≡◌, ◌≢◌, ℕ, ◌∙◌, length, refl, true, false, get_or, take, ap, sym, subst, arith}
use Rattle.std.specs.Prelude.{AllPairs}
use Rattle.std.proofs.Math.Seq.{take-length}
use Rattle.recorder_core.proofs.Naming.{is_among, noted, stands_twice, one_more_apart}
use Rattle.recorder_core.proofs.initial.are_distinct.Goals as goal

pub returns-then-not-branch : goal.returns-then-not-branch
returns-then-not-branch c =
    let values = c.args.values.now in
    let i = c.loop-value.value-index in
    let twice : is_among (take i values) (get_or values i 0) ≡ true =
    sym (c.loop-value.invariant.0 (get_or values i 0)) ∙ search (rules, c.in_ok-insert.ensures.added, c.if-not-branch.true) in
    (λ no. absurd (search rules), λ apart. absurd (stands_twice values i 0 c.loop-value-test.true twice apart))

pub loop-value-preserved : goal.loop-value-preserved
loop-value-preserved c =
    let values = c.args.values.now in
    let i = c.loop-value.value-index in
    let once : is_among (take i values) (get_or values i 0) ≡ false =
    sym (c.loop-value.invariant.0 (get_or values i 0)) ∙ search (rules, c.in_ok-insert.ensures.added, c.if-not-branch.false) in (
      λ v. noted values i 0 v _ _ c.loop-value-test.true (c.loop-value.invariant.0 v) (c.in_ok-insert.ensures.updates.0 v),
      one_more_apart values i 0 c.loop-value-test.true once c.loop-value.invariant.1,
    )

pub returns : goal.returns
returns c =
    let values = c.args.values.now in
    let all : c.loop-value.value-index ≡ length values = omega (arith, c.loop-value-test.false, c.loop-value.auto.value-index-end) in
    let whole : take c.loop-value.value-index values ≡ values = ap (λ (n : ℕ). take n values) all ∙ take-length values in
    (λ yes. subst (AllPairs (λ v w. v ≢ w)) whole c.loop-value.invariant.1, λ apart. refl)
