use Rattle.stress_run.proofs.proving.run_one_lock.Given as goal

abbrev pub ghosts-run_named : goal.ghosts-run_named
ghosts-run_named g a = record { word = a.named.0.key; initial = a.start.held.items }
