use Rattle.std.proofs.Common.{◌∙◌, ◌+◌, ◌++◌, ◌∷◌, [], ap, length, sym, subst, take, get_or, ℕ, arith, Vec, Global}
use Rattle.std.specs.Prelude.{filter, slice_get}
use Rattle.std.proofs.lemmas.Option.{slice_get-get_or}
use Rattle.history_merge.specs.declared.operation.Operation.{Operation}
use Rattle.history_merge.specs.Legal.{ArePlacesOf}
use Rattle.verdicts.specs.Selection.{contents_of}
use Rattle.conditions.specs.Inner.Producers.{goes_to, share_of}
use Rattle.conditions.proofs.Parts.{past_end, places_more, places_same}
use Rattle.conditions.proofs.sharing.places_selected.Goals.{then-branch+in_ok-push, else-branch}
use Rattle.conditions.proofs.sharing.places_selected.Goals as goal

pub loop-place-preserved : goal.loop-place-preserved
loop-place-preserved c =
    let whole = contents_of c.args.history.now in
    let operations = whole.operations in
    let i = c.loop-place.place in
    let o = get_or operations i past_end in
    let at = slice_get-get_or operations i past_end
    (omega (arith, c.loop-place-test.true, c.len-place-end.ensures.exact, ap length c.operations.ensures.operations)) in
    let is = c.in_ok-is_selected.ensures.selected o (ap (slice_get operations) c.new-id.ensures ∙ at) in
    let test = λ (o : Operation). goes_to c.args.producer (share_of whole c.args.emptiness o.kind) in
    let places = λ (v : Vec ℕ Global). ArePlacesOf operations v.items (filter test (take (i + 1) operations)) in (
      elim c.if-branch.branch [
        | then-branch+in_ok-push w ↦ subst places (sym w.places-is)
            (places_more test operations i o at c.loop-place.places.items _ (sym is ∙ w.if-branch.true)
            (w.in_ok-push.ensures.items ∙ ap (λ p. c.loop-place.places.items ++ p ∷ []) c.new-id.ensures) c.loop-place.invariant.0)
        | else-branch w ↦ subst places (sym w.places-is)
            (places_same test operations i o at c.loop-place.places.items (sym is ∙ w.if-branch.false) c.loop-place.invariant.0)
      ],
      c.in_ok-is_selected.ensures.knows,
    )
