use Rattle.std.proofs.Common.{◌≡◌, ◌∙◌, ap, arith, inl, inr, refl, sym, subst, true, false}
use Rattle.std.proofs.lemmas.Bool.{cases_lt}
use Rattle.verdicts.specs.Selection.{contents_of}
use Rattle.claims.specs.declared.claimed.Claimed.TheVariants.{No}
use Rattle.conditions.specs.Claims.{IsTrueLocalClaim, IsTrueOf}
use Rattle.conditions.specs.Conditions.{has_values, selection_of}
use Rattle.conditions.specs.Inner.Sharing.{ranked}
use Rattle.conditions.proofs.InTurn.{IsOfNone, of_none}
use Rattle.conditions.proofs.Judged.{places_of_rank, used_is}
use Rattle.conditions.proofs.verifying.is_true_of_some.Goals.{then-selections-rank+in_ok-is_true_of+else-branch}
use Rattle.conditions.proofs.verifying.is_true_of_some.Goals.{else-selections-rank}
use Rattle.conditions.proofs.verifying.is_true_of_some.Goals as goal

pub returns-then-branch : goal.returns-then-branch
returns-then-branch c = λ emptiness shared kind lines is.
    let whole = contents_of c.args.history.now in
    let at = places_of_rank emptiness whole c.args.selections.now.used c.args.selections.now.buckets.items c.loop-rank.rank c.ranked.result c.index.result.now
    c.as_slice-places.result.now shared c.loop-rank-test.true c.if-selections-rank.true c.ranked.ensures c.index.ensures c.as_slice-places.ensures in
    let shown = (c.in_ok-is_true_of.ensures emptiness at).0 c.if-branch.true in
    let of_no : IsTrueOf (selection_of emptiness c.ranked.result whole) (No kind lines) = subst (IsTrueOf (selection_of emptiness c.ranked.result whole)) is shown in (
      λ yes. subst (IsTrueLocalClaim emptiness whole) (sym is) (c.ranked.result, of_no),
      λ claim. refl,
    )

pub loop-rank-preserved : goal.loop-rank-preserved
loop-rank-preserved c = λ emptiness shared k below has.
    let whole = contents_of c.args.history.now in
    let rank = c.loop-rank.rank in
    elim (cases_lt k rank) [
      | inl before ↦ c.loop-rank.invariant emptiness shared k before has
      | inr here ↦
          let same : rank ≡ k = omega arith in
          elim c.if-selections-rank.branch [
            | then-selections-rank+in_ok-is_true_of+else-branch w ↦
                let at = places_of_rank emptiness whole c.args.selections.now.used c.args.selections.now.buckets.items rank w.ranked.result w.index.result.now
                w.as_slice-places.result.now shared c.loop-rank-test.true w.if-selections-rank.true w.ranked.ensures w.index.ensures w.as_slice-places.ensures in
                let is_k : w.ranked.result ≡ ranked k = w.ranked.ensures ∙ ap ranked same in
                λ shown.
                let valid = (w.in_ok-is_true_of.ensures emptiness at).1 (subst (λ p. IsTrueOf (selection_of emptiness p whole) c.args.claimed.now) (sym is_k) shown) in
                let clash : true ≡ false = sym valid ∙ w.if-branch.false in cc
            | else-selections-rank w ↦
                let used = used_is whole c.args.selections.now.used rank shared.marked c.loop-rank-test.true in
                let none : has_values whole (ranked k) ≡ false = ap (λ r. has_values whole (ranked r)) (sym same) ∙ sym used ∙ w.if-selections-rank.false in
                let clash : true ≡ false = sym has ∙ none in cc
          ]
    ]

pub returns : goal.returns
returns c = λ emptiness shared kind lines is. (
  λ yes. let clash : false ≡ true = yes in cc,
  λ claim. absurd (of_none c.args.history.now c.requires.complete c.requires.few emptiness c.loop-rank.rank kind lines (omega (arith, c.loop-rank-test.false))
      (subst (IsOfNone emptiness (contents_of c.args.history.now) c.loop-rank.rank) is (c.loop-rank.invariant emptiness shared))
      (subst (IsTrueLocalClaim emptiness (contents_of c.args.history.now)) is claim)),
)
