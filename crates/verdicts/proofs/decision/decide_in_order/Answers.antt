use Rattle.verdicts.proofs.Common.{IsWitnessAnswer, subst}
use Rattle.verdicts.proofs.NamedPlaces.{witness_is_chosen, yes_is_decided}
use Rattle.verdicts.proofs.TrueClaims.{no_is_decided}
use Rattle.verdicts.proofs.decision.decide_in_order.Goals as goal

pub returns-in-Covered : goal.returns-in-Covered
returns-in-Covered c =
    let initial = c.args.matching.now.initial in
    let operations = c.args.matching.now.operations in
    no_is_decided initial operations _ c.requires.clear.complete
    (witness_is_chosen initial operations c.in-Covered.empty c.in-Covered.cover c.requires.clear c.requires.in_order
    (subst (IsWitnessAnswer initial operations) c.in-Covered.is c.requires.answer))

pub returns-in_ok-places-in-Gaps : goal.returns-in_ok-places-in-Gaps
returns-in_ok-places-in-Gaps c =
    rw c.from_vec.ensures
    (yes_is_decided c.args.matching.now.initial c.args.matching.now.operations c.in_ok-places-in-Gaps.places.items c.in_ok-places-in-Gaps.ensures)
