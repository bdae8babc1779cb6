use Rattle.history_merge.proofs.Common.{arith, MAX_THREADS, refl}
use Rattle.history_merge.proofs.TheirEvents.{nothing_at}
use Rattle.history_merge.proofs.forming.Forming.new.Goals as goal

pub returns-clause-formed : goal.returns-clause-formed
returns-clause-formed c = record {
  operations = c.requires;
  least_ticket = refl;
  one_per_thread = refl;
  waits = λ thread. refl;
  places = λ thread within. nothing_at MAX_THREADS thread;
  threads_in_range = λ k d below. absurd (omega arith);
}
