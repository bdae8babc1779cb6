use Rattle.stress_run.proofs.proving.run_two_locks.Given as goal

abbrev pub ghosts-run_between : goal.ghosts-run_between
ghosts-run_between g a = record { word = a.named.0.key; initial = a.start.held.items }
