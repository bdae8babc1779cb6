use Rattle.linearizer.proofs.Common.{false, get_or, subst, true, ◌∙◌, ◌≡◌}
use Rattle.linearizer.proofs.Choosing.{ended, stopped, walked}
use Rattle.linearizer.proofs.timed.first_left.Goals as goal

pub loop-first-preserved : goal.loop-first-preserved
loop-first-preserved c =
    walked c.args.taken.now c.args.entries.now c.loop-first.first _ _ c.requires.flagged c.loop-first.invariant c.loop-first-test.true
    (subst (λ timed. get_or c.args.taken.now timed.place false ≡ true) (c.unpack.ensures ∙ c.index-entries-first.is) c.if-taken-unpack.true)

pub returns-else-taken-unpack : goal.returns-else-taken-unpack
returns-else-taken-unpack c =
    stopped c.args.taken.now c.args.entries.now c.loop-first.first _ _ c.requires.flagged c.loop-first.invariant c.loop-first-test.true
    (subst (λ timed. get_or c.args.taken.now timed.place false ≡ false) (c.unpack.ensures ∙ c.index-entries-first.is) c.if-taken-unpack.false)

pub returns-after-loop-first : goal.returns-after-loop-first
returns-after-loop-first c = ended c.args.taken.now c.args.entries.now c.loop-first.first c.loop-first.invariant c.loop-first-test.false
