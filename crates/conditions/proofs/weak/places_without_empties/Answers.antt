use Rattle.std.proofs.Common.{◌∙◌, ◌+◌, ◌++◌, ◌∷◌, [], ap, sym, subst, take, get_or, ℕ, true, false, arith, Vec}
use Rattle.std.proofs.Common.{Global}
use Rattle.std.specs.Prelude.{filter, slice_get}
use Rattle.history_merge.specs.Legal.{ArePlacesOf}
use Rattle.std.proofs.lemmas.Option.{slice_get-get_or}
use Rattle.verdicts.specs.Selection.{selects}
use Rattle.conditions.proofs.Parts.{past_end, places_more, places_same}
use Rattle.conditions.proofs.weak.places_without_empties.Goals.{then-has_value+in_ok-push, else-has_value}
use Rattle.conditions.proofs.weak.places_without_empties.Goals as goal

pub loop-place-preserved : goal.loop-place-preserved
loop-place-preserved c =
    let operations = c.args.operations.now in
    let i = c.loop-place.place in
    let o = get_or operations i past_end in
    let at = slice_get-get_or operations i past_end (omega (arith, c.loop-place-test.true, c.len-place-end.ensures.exact)) in
    let is = c.has_value.ensures o (ap (slice_get operations) c.new-id.ensures ∙ at) in
    let test = selects (λ value. true) (λ call. false) in
    elim c.if-has_value.branch [
      | then-has_value+in_ok-push w ↦ subst (λ (v : Vec ℕ Global). ArePlacesOf operations v.items (filter test (take (i + 1) operations))) (sym w.places-is)
          (places_more test operations i o at c.loop-place.places.items _ (sym is ∙ w.if-has_value.true)
          (w.in_ok-push.ensures.items ∙ ap (λ p. c.loop-place.places.items ++ p ∷ []) c.new-id.ensures) c.loop-place.invariant)
      | else-has_value w ↦ subst (λ (v : Vec ℕ Global). ArePlacesOf operations v.items (filter test (take (i + 1) operations))) (sym w.places-is)
          (places_same test operations i o at c.loop-place.places.items (sym is ∙ w.if-has_value.false) c.loop-place.invariant)
    ]
