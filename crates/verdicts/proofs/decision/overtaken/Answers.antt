use Rattle.verdicts.proofs.Common.{IsDecided, No, subst, sym}
use Rattle.order_violation.specs.Pairs.{IsOrderAnswer}
use Rattle.verdicts.proofs.NamedPlaces.{pair_is_chosen}
use Rattle.verdicts.proofs.TrueClaims.{no_is_decided}
use Rattle.verdicts.proofs.decision.overtaken.Goals as goal

pub returns : goal.returns
returns c =
    let initial = c.args.matching.now.initial in
    let operations = c.args.matching.now.operations in
    let pair = subst (IsOrderAnswer initial operations) c.unwrap.ensures c.requires.answer in
    subst (λ violation. IsDecided initial operations (No violation)) (sym c.violation_of.ensures)
    (no_is_decided initial operations _ c.requires.clear.complete (pair_is_chosen initial operations c.unwrap.result c.requires.clear pair))
