use Rattle.verdicts.proofs.Common.{fact_from_collect, filter_map, IsFromIterResult, nat_cmp, rules, tests, value_in}
use Rattle.verdicts.proofs.Common.{YieldsList-from_filter_map, YieldsList-from_slice}
use Rattle.verdicts.proofs.Collected.{holds_found}
use Rattle.verdicts.proofs.selection.values_of.Goals as goal

pub returns : goal.returns
returns c = holds_found c.collect.result (filter_map value_in c.args.lines.now)
    (fact_from_collect (IsFromIterResult nat_cmp) c.collect.result c.collect.ensures.ran
    (YieldsList-from_filter_map _ value_in (YieldsList-from_slice c.args.lines.now cc) c.filter_map.ensures.closure (λ x r q k. search (rules, tests))))
