use Rattle.std.proofs.Common.{◌+◌, ◌∙◌, [], ap, arith, get_or, length, refl}
use Rattle.std.proofs.Math.ListN.{set}
use Rattle.std.proofs.lemmas.List.{get_or_read}
use Rattle.history_stats.proofs.Blocks.{added_all, added_more, block_within, count_fits}
use Rattle.history_stats.proofs.tally.Tally.add.Goals as goal

pub add_one-requires-clause-within : goal.add_one-requires-clause-within
add_one-requires-clause-within c =
    let level = c.loop-level.level in
    let at = get_or_read c.loop-level.self.levels.items level _ (omega (arith, c.loop-level.invariant.same)) c.index_mut.ensures.value [] in
    omega (
      arith,
      block_within c.args.number level c.args.self.now.levels.items c.requires (omega arith),
      c.loop-level.invariant.here,
      c.loop-level.invariant.sizes level,
      ap length at,
    )

pub add_one-requires-clause-few : goal.add_one-requires-clause-few
add_one-requires-clause-few c =
    let level = c.loop-level.level in
    let at = get_or_read c.loop-level.self.levels.items level _ (omega (arith, c.loop-level.invariant.same)) c.index_mut.ensures.value [] in
    let block = c.loop-level.block in
    omega (
      arith,
      count_fits c.args.number level block c.args.self.now.levels.items c.requires (omega arith),
      ap (λ l. get_or l block 0) (c.loop-level.invariant.left level (omega arith)),
      ap (λ l. get_or l block 0) at,
    )

pub loop-level-preserved : goal.loop-level-preserved
loop-level-preserved c =
    let levels = c.loop-level.self.levels.items in
    let level = c.loop-level.level in
    let at = get_or_read c.loop-level.self.levels.items level _ (omega (arith, c.loop-level.invariant.same)) c.index_mut.ensures.value [] in
    let block = c.loop-level.block in
    added_more c.args.number level block _ c.args.self.now.levels.items levels _ (omega (arith, c.loop-level.invariant.same))
    (omega (
      arith,
      block_within c.args.number level c.args.self.now.levels.items c.requires (omega arith),
      c.loop-level.invariant.here,
      c.loop-level.invariant.sizes level,
    )) c.loop-level.invariant
    (ap (set levels level) (c.add_one.ensures ∙ ap (λ l. set l block (get_or l block 0 + 1)) at)) refl

pub returns : goal.returns
returns c = λ limit numbers within is. added_all limit c.args.number c.loop-level.level c.loop-level.block numbers c.args.self.now.levels.items
    c.loop-level.self.levels.items (omega (arith, c.loop-level.invariant.same)) c.loop-level.invariant is
