use Rattle.std.proofs.Common.{◌∙◌, ap, rules, subst}
use Rattle.std.specs.Prelude.{filter_map}
use Rattle.std.proofs.lemmas.List.Sorted.{IsNonDecreasingBy-from_sort_by_key}
use Rattle.history_merge.specs.Complete.{AreComplete}
use Rattle.verdicts.specs.Selection.{contents_of}
use Rattle.conditions.specs.Inner.Producers.{produced_by}
use Rattle.conditions.proofs.Producing.{are_producers}
use Rattle.conditions.proofs.producers.Producers.new.Goals as goal

pub returns : goal.returns
returns c =
    are_producers (contents_of c.args.history.now) (subst AreComplete c.by_time.ensures.by_time c.by_time.ensures.complete) c.in_ok-by_value.by_value.items
    c.sort_unstable_by_key.new.self.items (c.in_ok-by_value.ensures ∙ ap (filter_map produced_by) c.by_time.ensures.by_time)
    c.sort_unstable_by_key.ensures.permutation
    (IsNonDecreasingBy-from_sort_by_key (λ x. x.value) c.sort_unstable_by_key.new.self.items c.sort_unstable_by_key.ensures.sorted (λ a r q k. search rules))
