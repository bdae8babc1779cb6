use Rattle.std.proofs.Common.{◌∙◌, ap, subst, sym}
use Rattle.std.specs.Prelude.{Contains}
use Rattle.std.proofs.lemmas.Option.{get_or_from_slice_get}
use Rattle.history_merge.specs.Complete.{AreComplete}
use Rattle.history_merge.proofs.Distinct.{contains_at}
use Rattle.verdicts.specs.Selection.{contents_of}
use Rattle.conditions.specs.Inner.Producers.{produced_by}
use Rattle.conditions.proofs.Producing.{near_producer}
use Rattle.conditions.proofs.search.ProducerSearch.near_producer.Goals as goal

pub returns : goal.returns
returns c =
    let by_time = c.by_time-by_time.result.now in
    let is = c.by_time-by_time.ensures.by_time in
    let place = c.in_ok-place.place in
    let seen = c.in_ok-place.ensures in
    let unpacked = c.unpack.ensures.operation
    ∙ c.index-by_time-place.is
    ∙ get_or_from_slice_get by_time place seen.0 c.index-by_time-place.result seen.1 in
    near_producer (contents_of c.args.history.now) (subst AreComplete is c.by_time-by_time.ensures.complete) seen.0 c.args.value c.in_ok-produced.produced
    (subst (λ xs. Contains xs seen.0) is (contains_at by_time place seen.0 seen.1)) seen.2
    (sym c.in_ok-produced.was ∙ c.produced_by.ensures ∙ ap produced_by unpacked)
