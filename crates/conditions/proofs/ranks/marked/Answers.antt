use Rattle.std.proofs.Common.{◌∙◌, ◌+◌, ap, arith, subst, sym, take, Bool, List}
use Rattle.std.specs.Prelude.{slice_get}
use Rattle.conditions.specs.Inner.Sharing.{AreMarked}
use Rattle.conditions.proofs.SharedOut.{marks_further, nothing_past}
use Rattle.conditions.proofs.ranks.marked.Goals.{in-Some, in_default}
use Rattle.conditions.proofs.ranks.marked.Goals as goal

pub loop-place-preserved : goal.loop-place-preserved
loop-place-preserved c =
    let operations = c.args.operations.now in
    let i = c.loop-place.place in
    let at = ap (slice_get operations) (sym c.new.ensures) ∙ sym c.get.ensures in
    elim c.match-get.branch [
      | in-Some w ↦
          subst (λ (us : List Bool). AreMarked (take (i + 1) operations) us) (sym w.used-is)
          (marks_further operations i w.in-Some.operation _ (at ∙ w.in-Some.is) (w.mark.ensures (take i operations) c.loop-place.invariant))
      | in_default w ↦
          absurd (nothing_past operations i (omega (arith, c.loop-place-test.true, c.len-place-end.ensures.exact)) (at ∙ w.in_default.is))
    ]
