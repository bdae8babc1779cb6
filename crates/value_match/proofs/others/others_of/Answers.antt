use Rattle.value_match.proofs.Common.{IsNonDecreasingBy-from_sort_by_key, refl, rules, slice_get_read}
use Rattle.value_match.proofs.CallPlaces.{others_more, others_sorted, others_unwanted}
use Rattle.value_match.proofs.others.others_of.Goals.{in-Some+in_ok-push, in_default}
use Rattle.value_match.proofs.others.others_of.Goals as goal

pub loop-place-preserved : goal.loop-place-preserved
loop-place-preserved c =
    let here = slice_get_read _ _ _ _ refl c.loop-place-test.true c.index-operations-place.is in
    elim c.match-wanted_call.branch [
      | in-Some+in_ok-push w ↦
          rw (w.others-is, w.in_ok-push.ensures.items) (others_more _ _ _ _ _ here c.loop-place.invariant _ w.in-Some.ensures.0)
      | in_default w ↦ rw w.others-is (others_unwanted _ _ _ _ _ here c.loop-place.invariant w.in_default.ensures)
    ]

pub returns : goal.returns
returns c =
    let sorted = c.sort_unstable_by_key.ensures in
    others_sorted _ _ _ _ _ c.loop-place-test.false c.loop-place.invariant sorted.permutation
    (IsNonDecreasingBy-from_sort_by_key (λ e. e.value) _ sorted.sorted (λ e r q k. search rules))
