use Rattle.std.proofs.Common.{◌∙◌, ap, refl, sym}
use Rattle.std.specs.Prelude.{◌||◌, nat_le}
use Rattle.std.specs.List.{list_any}
use Rattle.history_merge.specs.declared.operation.Operation.{Operation}
use Rattle.history_stats.proofs.Overlaps.{overlap_told}
use Rattle.history_stats.proofs.overlapping.overlaps_another.Goals as goal

pub returns-then-returns_from : goal.returns-then-returns_from
returns-then-returns_from c = λ earlier rise forward has last.
    let later = list_any (λ (o : Operation). nat_le o.call c.args.operation.ret) c.args.later.now in
    c.if-returns_from.true ∙ ap (λ b. b || later) (sym c.if-returns_from.true)
    ∙ overlap_told earlier c.args.later.now c.args.operation c.returns_from.result later rise forward (c.returns_from.ensures earlier has last) refl

pub returns-else-returns_from : goal.returns-else-returns_from
returns-else-returns_from c = λ earlier rise forward has last.
    ap (λ b. b || c.is_called_by.result) (sym c.if-returns_from.false)
    ∙ overlap_told earlier c.args.later.now c.args.operation c.returns_from.result c.is_called_by.result rise forward (c.returns_from.ensures earlier has last)
    c.is_called_by.ensures
