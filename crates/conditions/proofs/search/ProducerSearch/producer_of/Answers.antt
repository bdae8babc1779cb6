use Rattle.std.proofs.Common.{subst}
use Rattle.std.specs.Prelude.{IfSome}
use Rattle.verdicts.specs.Selection.{contents_of}
use Rattle.conditions.specs.Inner.Producers.{AreProducers}
use Rattle.conditions.proofs.search.ProducerSearch.producer_of.Goals as goal

pub returns-in-Some-all-clause-producer : goal.returns-in-Some-all-clause-producer
returns-in-Some-all-clause-producer c =
    let whole = contents_of c.args.history.now in
    c.producer_of.ensures whole
    (subst (λ all. IfSome all (λ list. AreProducers whole list.by_value.items)) c.in-Some-all.is c.requires.1)

pub returns-clause-producer : goal.returns-clause-producer
returns-clause-producer c = c.producer_of-producer.ensures (contents_of c.args.history.now) c.in_ok-all.ensures
