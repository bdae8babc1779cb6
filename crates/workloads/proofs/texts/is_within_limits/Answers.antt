use Rattle.std.proofs.Common.{◌∙◌, refl, sym, arith}
use Rattle.workloads.proofs.LinesOfTexts.{rows_of_text}
use Rattle.workloads.proofs.texts.is_within_limits.Goals as goal

pub returns-then-has_plan_size : goal.returns-then-has_plan_size
returns-then-has_plan_size c = λ rows is.
    let found = rows_of_text c.args.text.now rows is in
    let size = c.if-has_plan_size.ensures.0 refl in (
      (λ test. record {
        some = omega arith;
        few = omega arith;
        short = found.short (sym c.has_short_lines.ensures ∙ test);
        small = omega arith;
      }),
      (λ plan. c.has_short_lines.ensures ∙ found.lines plan.short),
    )

pub returns-else-has_plan_size : goal.returns-else-has_plan_size
returns-else-has_plan_size c = λ rows is.
    let found = rows_of_text c.args.text.now rows is in (
      (λ test. absurd (cc)),
      (λ plan. let some = plan.some in let few = plan.few in let small = plan.small in c.has_plan_size.ensures.1 (omega arith, omega arith, omega arith)),
    )
