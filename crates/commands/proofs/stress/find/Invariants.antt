use Rattle.commands.proofs.Common.{◌≢◌, All, take}
use Rattle.commands.proofs.stress.find.Given as goal

abbrev pub invariant-loop-shelved : goal.invariant-loop-shelved
invariant-loop-shelved g l = All (λ s. s.name.now ≢ l.name) (take l.shelved-index l.shelf)
