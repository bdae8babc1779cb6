use Rattle.std.proofs.Common.{◌∙◌}
use Rattle.completions.proofs.Walks.{found_if_given}
use Rattle.completions.proofs.given.is_given.Goals as goal

pub returns : goal.returns
returns c = λ events are. c.is_ok.ensures.value ∙ found_if_given events c.args.given.now c.args.value c.binary_search.result are c.binary_search.ensures.position
