use Rattle.verdicts.proofs.Common.{ap, arith, cases_lt, inl, inr, slice_get, slice_get-get_or, slice_get_within, Some}
use Rattle.verdicts.proofs.Common.{sym, take_rest, ◌∙◌, ◌≡◌}
use Rattle.std.proofs.lemmas.Option.{same_Some}
use Rattle.verdicts.proofs.ClaimedLines.{comes_after_first, through}
use Rattle.verdicts.proofs.lookup.stands_before.Goals as goal

pub returns-then-value-first : goal.returns-then-value-first
returns-then-value-first c =
    let at = slice_get-get_or c.args.values.now c.loop-place.place 0 c.loop-place-test.true ∙ ap (λ v. Some v) c.if-value-first.true in
    through (rw take_rest at c.is_among.ensures)
    (comes_after_first c.args.values.now c.args.first c.args.second c.loop-place.place at c.loop-place.invariant)

pub loop-place-preserved : goal.loop-place-preserved
loop-place-preserved c = λ i below is. elim (cases_lt i c.loop-place.place) [
  | inl early ↦ c.loop-place.invariant i early is
  | inr late ↦
      let here : i ≡ c.loop-place.place = omega arith in
      let at = slice_get-get_or c.args.values.now c.loop-place.place 0 c.loop-place-test.true in
      absurd (c.if-value-first.false (same_Some _ _ (sym at ∙ ap (slice_get c.args.values.now) (sym here) ∙ is)))
]

pub returns : goal.returns
returns c = (
  λ f. cc,
  λ (i, j, less, at_i, at_j).
      let within = slice_get_within c.args.values.now i c.args.first at_i in absurd (c.loop-place.invariant i (omega (arith, c.loop-place-test.false)) at_i),
)
