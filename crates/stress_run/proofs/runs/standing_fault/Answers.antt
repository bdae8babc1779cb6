use Rattle.stress_run.proofs.runs.standing_fault.Goals as goal

pub returns-else-was_refused-clause-granted : goal.returns-else-was_refused-clause-granted
returns-else-was_refused-clause-granted c = λ _. cc
