use Rattle.std.proofs.Common.{rules}
use Rattle.collector.proofs.Rings.{fits_each}
use Rattle.recording_tests.proofs.tests.rounds.seal_one.Goals as goal

pub seal-requires : goal.seal-requires
seal-requires c = fits_each _ _ (search rules)
