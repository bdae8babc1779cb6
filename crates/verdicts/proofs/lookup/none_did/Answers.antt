use Rattle.verdicts.proofs.Common.{cases_from_all, rules, tests, YieldsList-from_slice, ◌≡◌}
use Rattle.verdicts.proofs.ClaimedLines.{none_did_from_cases}
use Rattle.verdicts.proofs.lookup.none_did.Goals as goal

pub returns : goal.returns
returns c =
    let operations = c.args.operations.now in
    let cases = cases_from_all _ _ _ (λ o. o.kind ≡ c.args.kind → ⊥) (λ o. o.kind ≡ c.args.kind) c.all.ensures.ran
    (YieldsList-from_slice operations cc) (λ x q k. search (rules, tests)) (λ x q k. search (rules, tests)) in
    none_did_from_cases operations c.args.kind c.all.result cases
