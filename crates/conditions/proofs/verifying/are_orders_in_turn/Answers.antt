use Rattle.std.proofs.Common.{◌≡◌, ◌∙◌, ◌+◌, ◌∷◌, ap, arith, length, refl, sym, subst, take, true, false}
use Rattle.history_merge.specs.Legal.{ArePlacesOf, IsLegalOrder}
use Rattle.history_merge.specs.Operations.{operations_of}
use Rattle.verdicts.specs.Selection.{contents_of}
use Rattle.conditions.specs.Claims.{AreOrdersInTurn}
use Rattle.conditions.specs.Conditions.{selection_of}
use Rattle.conditions.specs.Inner.Sharing.{ranked}
use Rattle.history_merge.proofs.PlaceLists.{as_many_placed}
use Rattle.conditions.proofs.InTurn.{all_compared, IsLeft, left_from, left_idle, left_refused, left_used, not_legal}
use Rattle.conditions.proofs.InTurn.{too_short}
use Rattle.conditions.proofs.Judged.{places_of_rank, used_is}
use Rattle.conditions.proofs.verifying.are_orders_in_turn.Goals.{then-selections-rank+else-rest-places+in_ok-is_order_of+else-not-branch}
use Rattle.conditions.proofs.verifying.are_orders_in_turn.Goals.{else-selections-rank}
use Rattle.conditions.proofs.verifying.are_orders_in_turn.Goals as goal

pub returns-then-rest-places : goal.returns-then-rest-places
returns-then-rest-places c = λ emptiness shared.
    let whole = contents_of c.args.history.now in
    let rank = c.loop-rank.rank in
    let rest = c.loop-rank.rest.now in
    let part = selection_of emptiness (ranked rank) whole in
    let at = places_of_rank emptiness whole c.args.selections.now.used c.args.selections.now.buckets.items rank (ranked rank) c.index.result.now
    c.as_slice-places.result.now shared c.loop-rank-test.true c.if-selections-rank.true refl c.index.ensures c.as_slice-places.ensures in
    let many = as_many_placed whole.operations c.as_slice-places.result.now part.operations at in
    let has = sym (used_is whole c.args.selections.now.used rank shared.marked c.loop-rank-test.true) ∙ c.if-selections-rank.true in (
      λ yes. let clash : false ≡ true = yes in cc,
      λ all. absurd (left_refused emptiness whole rank rest c.args.lines.now c.loop-rank-test.true has
          (too_short part (left_from emptiness whole (rank + 1)) rest (omega (arith, c.if-rest-places.true, many))) (c.loop-rank.invariant emptiness shared) all),
    )

pub returns-then-not-branch : goal.returns-then-not-branch
returns-then-not-branch c = λ emptiness shared.
    let whole = contents_of c.args.history.now in
    let rank = c.loop-rank.rank in
    let rest = c.loop-rank.rest.now in
    let part = selection_of emptiness c.ranked.result whole in
    let at = places_of_rank emptiness whole c.args.selections.now.used c.args.selections.now.buckets.items rank c.ranked.result c.index.result.now
    c.as_slice-places.result.now shared c.loop-rank-test.true c.if-selections-rank.true c.ranked.ensures c.index.ensures c.as_slice-places.ensures in
    let many = as_many_placed whole.operations c.as_slice-places.result.now part.operations at in
    let has = sym (used_is whole c.args.selections.now.used rank shared.marked c.loop-rank-test.true) ∙ c.if-selections-rank.true in
    let not_valid : ¬ (IsLegalOrder part.initial part.operations (take (length c.as_slice-places.result.now) rest)) =
    λ legal.
    let valid = (c.in_ok-is_order_of.ensures emptiness at).1 (subst (IsLegalOrder part.initial part.operations) (sym c.split_at.ensures.front) legal) in
    let clash : true ≡ false = sym valid ∙ c.if-not-branch.true in cc in (
      λ yes. let clash : false ≡ true = yes in cc,
      λ all. absurd (left_refused emptiness whole rank rest c.args.lines.now c.loop-rank-test.true has
          (subst (λ p. ¬ (AreOrdersInTurn (selection_of emptiness p whole ∷ left_from emptiness whole (rank + 1)) rest)) c.ranked.ensures
          (not_legal part (left_from emptiness whole (rank + 1)) rest (length c.as_slice-places.result.now) many not_valid)) (c.loop-rank.invariant emptiness shared) all),
    )

pub loop-rank-preserved : goal.loop-rank-preserved
loop-rank-preserved c = λ emptiness shared.
    let whole = contents_of c.args.history.now in
    let rank = c.loop-rank.rank in
    let rest = c.loop-rank.rest.now in
    let used = used_is whole c.args.selections.now.used rank shared.marked c.loop-rank-test.true in
    elim c.if-selections-rank.branch [
      | then-selections-rank+else-rest-places+in_ok-is_order_of+else-not-branch w ↦
          let at = places_of_rank emptiness whole c.args.selections.now.used c.args.selections.now.buckets.items rank (ranked rank) w.index.result.now
          w.as_slice-places.result.now shared c.loop-rank-test.true w.if-selections-rank.true refl w.index.ensures w.as_slice-places.ensures in
          let n = length w.as_slice-places.result.now in
          let part = selection_of emptiness (ranked rank) whole in
          let many : n ≡ length part.operations = as_many_placed whole.operations w.as_slice-places.result.now part.operations at in
          let at_ranked = subst (λ p. ArePlacesOf (operations_of c.args.history.now.events) w.as_slice-places.result.now (selection_of emptiness p whole).operations)
          (sym w.ranked.ensures) at in
          let legal = (w.in_ok-is_order_of.ensures emptiness at_ranked).0 w.if-not-branch.false in
          let legal_part : IsLegalOrder part.initial part.operations (take n rest) =
          subst (λ p. IsLegalOrder (selection_of emptiness p whole).initial (selection_of emptiness p whole).operations (take n rest)) w.ranked.ensures
          (subst (IsLegalOrder (selection_of emptiness w.ranked.result whole).initial (selection_of emptiness w.ranked.result whole).operations) w.split_at.ensures.front legal) in
          subst (λ left. IsLeft emptiness whole (rank + 1) left c.args.lines.now) (sym w.split_at.ensures.back ∙ ap (λ r. r.now) (sym w.rest-is))
          (left_used emptiness whole rank rest c.args.lines.now n c.loop-rank-test.true (sym used ∙ w.if-selections-rank.true) many legal_part
          (c.loop-rank.invariant emptiness shared))
      | else-selections-rank w ↦
          subst (λ left. IsLeft emptiness whole (rank + 1) left c.args.lines.now) (ap (λ r. r.now) (sym w.rest-is))
          (left_idle emptiness whole rank rest c.args.lines.now c.loop-rank-test.true (sym used ∙ w.if-selections-rank.false) (c.loop-rank.invariant emptiness shared))
    ]

pub returns : goal.returns
returns c = λ emptiness shared.
    all_compared emptiness (contents_of c.args.history.now) c.loop-rank.rank c.loop-rank.rest.now c.args.lines.now c.is_empty.result
    (omega (arith, c.loop-rank-test.false)) c.is_empty.ensures (c.loop-rank.invariant emptiness shared)
