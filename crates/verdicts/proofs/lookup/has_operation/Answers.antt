use Rattle.verdicts.proofs.Common.{answers_always, ap, Err, Ok, rules}
use Rattle.verdicts.proofs.ClaimedLines.{searched_by_call, stands_at_its_call}
use Rattle.verdicts.proofs.lookup.has_operation.Goals as goal

pub returns-in-Ok : goal.returns-in-Ok
returns-in-Ok c =
    let operations = c.args.operations.now in
    let position = c.in-Ok.ensures.position (λ o. o.call) (answers_always _ _ _ (λ f a r g k. search rules)) in
    let found = searched_by_call operations c.args.operation.call (Ok c.in-Ok.place) c.requires c.in-Ok.ensures.bound position in
    let here = stands_at_its_call operations c.args.operation c.args.operation c.in-Ok.place c.requires found.0 (found.1 _) in
    (λ t. here.0 ((c.is_at.ensures c.args.operation).0 t), λ among. (c.is_at.ensures c.args.operation).1 (here.1 among))

pub returns-in-Err : goal.returns-in-Err
returns-in-Err c =
    let operations = c.args.operations.now in
    let position = c.in-Err.ensures.position (λ o. o.call) (answers_always _ _ _ (λ f a r g k. search rules)) in
    let none = searched_by_call operations c.args.operation.call (Err c.in-Err.field-0) c.requires c.in-Err.ensures.bound position in
    (λ f. cc, λ among. absurd (none among.0 c.args.operation among.1 (ap (λ o. o.call) among.2)))
