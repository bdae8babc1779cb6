use Rattle.std.proofs.Common.{◌∙◌, ◌+◌, ◌-◌, ap, arith, get_or, length, refl, subst, sym, []}
use Rattle.std.specs.Prelude.{◌/◌}
use Rattle.std.proofs.lemmas.List.{get_or_read}
use Rattle.history_stats.proofs.Blocks.{CountedBelow, below_all, below_more, below_same, block_within, count_in_all}
use Rattle.history_stats.proofs.tally.Tally.count_below.Goals.{then-block-eq1, else-block-eq1}
use Rattle.history_stats.proofs.tally.Tally.count_below.Goals as goal

pub count-below-requires : goal.count-below-requires
count-below-requires c =
    let level = c.loop-level.level in
    omega (
      arith,
      block_within c.args.number level c.args.self.now.levels.items c.requires (omega arith),
      c.loop-level.invariant.here,
      ap length (get_or_read c.args.self.now.levels.items level _ (omega arith) c.index.ensures []),
    )

pub overflow_add-below : goal.overflow_add-below
overflow_add-below c =
    let level = c.loop-level.level in
    omega (
      arith,
      count_in_all c.args.number level c.loop-level.block c.loop-level.below c.args.self.now.levels.items c.requires (omega arith) c.if-block-eq1.true
          c.loop-level.invariant,
      c.count-below.ensures,
      ap (λ l. get_or l (c.loop-level.block - 1) 0) (get_or_read c.args.self.now.levels.items level _ (omega arith) c.index.ensures []),
    )

pub loop-level-preserved : goal.loop-level-preserved
loop-level-preserved c =
    let levels = c.args.self.now.levels.items in
    let level = c.loop-level.level in
    let block = c.loop-level.block in
    elim c.if-block-eq1.branch [
      | then-block-eq1 w ↦ subst (λ n. CountedBelow c.args.number (level + 1) (block / 2) n levels) (sym w.below-is)
          (below_more c.args.number level block c.loop-level.below _ _ levels (omega arith) w.if-block-eq1.true refl
          (w.count-below.ensures ∙ ap (λ l. get_or l (block - 1) 0) (get_or_read levels level _ (omega arith) w.index.ensures [])) c.loop-level.invariant)
      | else-block-eq1 w ↦ subst (λ n. CountedBelow c.args.number (level + 1) (block / 2) n levels) (sym w.below-is)
          (below_same c.args.number level block c.loop-level.below _ levels (omega (arith, w.if-block-eq1.false)) refl c.loop-level.invariant)
    ]

pub returns : goal.returns
returns c = λ limit numbers within is. below_all c.args.number c.loop-level.level c.loop-level.block c.loop-level.below limit numbers
    c.args.self.now.levels.items (omega arith) within c.loop-level.invariant is
