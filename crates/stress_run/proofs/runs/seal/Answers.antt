use Rattle.collector.proofs.Rings.{fits_each}
use Rattle.stress_run.proofs.Own.{memory_alone}
use Rattle.stress_run.proofs.runs.seal.Goals as goal

pub seal-requires : goal.seal-requires
seal-requires c = fits_each _ _ c.requires.rings

pub returns-in-Err-clause-memory : goal.returns-in-Err-clause-memory
returns-in-Err-clause-memory c = memory_alone _ c.requires.order _ _ c.in-Err.ensures.uncertified c.from.ensures

pub returns-in-Ok-clause-sealed : goal.returns-in-Ok-clause-sealed
returns-in-Ok-clause-sealed c = c.in-Ok.ensures.sealed
