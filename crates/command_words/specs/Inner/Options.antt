-- The values of options, as the parser has checked them.
use Rattle.std.specs.Prelude.{ℕ, List, IsSome, IsSomeAnd, codes}
use Rattle.clap.specs.Values.{IsUnsignedIn}
use Rattle.clap.specs.Walk.{Row, Text, first_of}
use Rattle.event_records.specs.declared.limits.TheConstants.{MAX_RING, MAX_SEED, MAX_STRESS_INITIAL}
use Rattle.event_records.specs.declared.limits.TheConstants.{MAX_THREAD_OPERATIONS, MAX_WORKERS, MIN_RING}
use Rattle.command_words.specs.declared.options.TheConstants.{MAX_AROUND}

-- ---- checks of the parser

-- the option has a text, which is a number from low to high
abbrev pub HasNumber : Text → ℕ → ℕ → List Row → Type 0
HasNumber id low high rows = IsSomeAnd (first_of id rows) (IsUnsignedIn low high)

-- the distance of `draw` is given and in its range
abbrev pub HasDistance : List Row → Type 0
HasDistance rows = HasNumber (codes "around") 0 MAX_AROUND rows

-- the name of the queue is given, and each number is in its range
pub record HasSettings (rows : List Row) : Type 0 where
  pub queue : IsSome (first_of (codes "queue") rows)
  pub threads : HasNumber (codes "threads") 1 MAX_WORKERS rows
  pub operations : HasNumber (codes "ops") 0 MAX_THREAD_OPERATIONS rows
  pub seed : HasNumber (codes "seed") 0 MAX_SEED rows
  pub percent : HasNumber (codes "percent") 0 100 rows
  pub producers : HasNumber (codes "producers") 0 MAX_WORKERS rows
  pub ring : HasNumber (codes "ring") MIN_RING MAX_RING rows
  pub initial : HasNumber (codes "initial") 0 MAX_STRESS_INITIAL rows
