use Rattle.std.proofs.Common.{rules}
use Rattle.std.proofs.lemmas.Iterator.Search.{all_from_yields_List}
use Rattle.std.proofs.lemmas.Iterator.Splits.{YieldsList-from_slice_split}
use borrow.Author.Tests.{tests}
use Rattle.workloads.specs.Inner.Texts.{ends_line, is_short_line}
use Rattle.workloads.proofs.texts.has_short_lines.Goals as goal

pub returns : goal.returns
returns c = all_from_yields_List is_short_line _ _ c.all.result c.all.ensures.ran
    (YieldsList-from_slice_split _ ends_line c.args.text.now c.split.ensures.rest c.split.ensures.done c.split.ensures.closure
    (λ x b q k. search (rules, tests))) (λ x b q k. search (rules, tests))
