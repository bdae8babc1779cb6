use Rattle.std.proofs.Common.{◌∙◌, ◌+◌, ap, arith, length, subst, sym}
use Rattle.std.specs.Prelude.{slice_get}
use Rattle.verdicts.specs.Selection.{contents_of}
use Rattle.conditions.specs.Inner.Producers.{KnowsProducers}
use Rattle.conditions.specs.Inner.Sharing.{HasSharedOut}
use Rattle.conditions.proofs.SharedOut.{nothing_past, shared_further}
use Rattle.conditions.proofs.buckets.share_out.Goals.{in-Some+in_ok-share+in_ok-share_out_place, in_default}
use Rattle.conditions.proofs.buckets.share_out.Goals as goal

pub loop-place-preserved : goal.loop-place-preserved
loop-place-preserved c =
    let whole = contents_of c.args.history.now in
    let operations = whole.operations in
    let i = c.loop-place.place in
    let used = c.args.used.now in
    let emptiness = c.args.emptiness in
    let listed = c.operations-operations.ensures.operations in
    let at = ap (slice_get operations) (sym c.new-id.ensures) ∙ ap (λ os. slice_get os c.new-id.result) (sym listed) ∙ sym c.get.ensures in
    elim c.match-get.branch [
      | in-Some+in_ok-share+in_ok-share_out_place w ↦ (
        subst (λ buckets. HasSharedOut whole (i + 1) used emptiness buckets) (sym (ap (λ v. v.items) w.buckets-is))
            (shared_further whole i c.new-id.result w.in-Some.operation w.in_ok-share.share used emptiness c.loop-place.buckets.items _
            (at ∙ w.in-Some.is) c.new-id.ensures w.in_ok-share.ensures.share w.in_ok-share_out_place.ensures c.loop-place.invariant.0),
        subst (KnowsProducers whole) (sym w.search-is) w.in_ok-share.ensures.knows,
      )
      | in_default w ↦
          absurd (nothing_past operations i (omega (arith, c.loop-place-test.true, c.len-place-end.ensures.exact, ap length listed)) (at ∙ w.in_default.is))
    ]
