use Rattle.stress_run.proofs.Alone.{IsAlone}
use Rattle.stress_run.proofs.roles.at_most_one_has.Given as goal

abbrev pub invariant-loop-row : goal.invariant-loop-row
invariant-loop-row l = IsAlone l.kind l.rows l.row-index l.found
