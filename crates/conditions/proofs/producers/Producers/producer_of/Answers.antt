use Rattle.std.proofs.Common.{Err, Ok, rules, subst, sym}
use Rattle.std.proofs.lemmas.List.Sorted.{answers_always}
use Rattle.conditions.specs.declared.producer.Producer.TheVariants.{Initial}
use Rattle.conditions.specs.declared.producers.Produced.{Produced}
use Rattle.conditions.specs.Inner.Producers.{AreProducers}
use Rattle.conditions.proofs.Producing.{found_producer, no_producer, searched_by_value}
use Rattle.conditions.proofs.producers.Producers.producer_of.Goals as goal

pub returns-in-Ok : goal.returns-in-Ok
returns-in-Ok c = λ whole are.
    let by_value = c.as_slice-by_value.result.now in
    let here = subst (AreProducers whole) (sym c.as_slice-by_value.ensures.value) are in
    let position = c.in-Ok.ensures.position (λ x. x.value) (answers_always _ _ _ (λ f a r g k. search rules)) in
    let found = searched_by_value by_value c.args.value (Ok c.in-Ok.place) here.rise c.in-Ok.ensures.bound position in
    let default : Produced = record { value = 0; producer = Initial } in
    found_producer whole by_value c.args.value c.in-Ok.place default here found.0 (found.1 default)

pub returns-in-Err : goal.returns-in-Err
returns-in-Err c = λ whole are.
    let by_value = c.as_slice-by_value.result.now in
    let here = subst (AreProducers whole) (sym c.as_slice-by_value.ensures.value) are in
    let position = c.in-Err.ensures.position (λ x. x.value) (answers_always _ _ _ (λ f a r g k. search rules)) in
    no_producer whole by_value c.args.value here
    (searched_by_value by_value c.args.value (Err c.in-Err.field-0) here.rise c.in-Err.ensures.bound position)
