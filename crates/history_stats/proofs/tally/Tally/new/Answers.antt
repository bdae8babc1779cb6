use Rattle.std.proofs.Common.{◌++◌, ◌∙◌, ◌∷◌, [], ap, arith, length, refl, subst, sym}
use Rattle.history_stats.proofs.Blocks.{HasEmptyLevels, empty_more, halved_less, is_empty_tally}
use Rattle.history_stats.proofs.tally.Tally.new.Goals as goal

pub overflow_add-last_block : goal.overflow_add-last_block
overflow_add-last_block c =
    omega (arith, c.loop-last_block.invariant.next, halved_less c.args.limit (length c.loop-last_block.levels.items))

pub loop-last_block-preserved : goal.loop-last_block-preserved
loop-last_block-preserved c =
    let levels = c.loop-last_block.levels.items in
    subst (HasEmptyLevels c.args.limit _) (sym (c.in_ok-push.ensures.items ∙ ap (λ l. levels ++ l ∷ []) c.in_ok-new.ensures))
    (empty_more c.args.limit c.loop-last_block.last_block _ levels refl c.loop-last_block.invariant)

pub returns : goal.returns
returns c = is_empty_tally c.args.limit c.loop-last_block.last_block c.loop-last_block.levels.items (omega arith) c.loop-last_block.invariant
