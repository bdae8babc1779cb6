use Rattle.workloads.proofs.LinesOfTexts.{whole_lines}
use Rattle.workloads.proofs.texts.fault_of.Goals as goal

pub returns-then-is_within_limits : goal.returns-then-is_within_limits
returns-then-is_within_limits c =
    let whole = whole_lines c.args.text.now _ c.in_default.ensures.1 (λ cut. let test = c.is_cut.ensures.1 cut in cc) in
    record { rows = whole.0; text_is = whole.1; within = (c.is_within_limits.ensures whole.0 whole.1).0 c.if-is_within_limits.true }

pub returns-else-is_within_limits : goal.returns-else-is_within_limits
returns-else-is_within_limits c =
    let whole = whole_lines c.args.text.now _ c.in_default.ensures.1 (λ cut. let test = c.is_cut.ensures.1 cut in cc) in
    record { rows = whole.0; text_is = whole.1; beyond = λ plan. let test = (c.is_within_limits.ensures whole.0 whole.1).1 plan in cc }
