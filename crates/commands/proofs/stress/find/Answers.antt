use Rattle.commands.proofs.OneAnswer.{found_first, other_name, passed_more}
use Rattle.std.specs.Cmp.Lexicographic.{same_text}
use Rattle.commands.proofs.stress.find.Goals as goal

pub returns-then-eq-clause-found : goal.returns-then-eq-clause-found
returns-then-eq-clause-found g c =
    found_first (λ s. s.name.now) c.args.name.now c.args.shelf.now c.loop-shelved.shelved-index c.shelved-item.result c.loop-shelved-test.true
    c.shelved-item.is c.loop-shelved.invariant (same_text _ _ c.if-eq.ensures)

pub loop-shelved-preserved : goal.loop-shelved-preserved
loop-shelved-preserved g c =
    passed_more (λ s. s.name.now) c.args.name.now c.args.shelf.now c.loop-shelved.shelved-index c.shelved-item.result c.loop-shelved-test.true
    c.shelved-item.is c.loop-shelved.invariant (other_name _ _ c.if-eq.ensures)
