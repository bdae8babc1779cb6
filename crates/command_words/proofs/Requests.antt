-- A subcommand that can be answered is a request, with its numbers in their ranges.
use Rattle.std.proofs.Common.{◌≤◌, inl, inr, ℕ, List, Option, Some, None, codes, unwrap_or, []}
use Rattle.std.specs.Prelude.{IfSome, IsSomeAnd, Bool, true, false, if◌then◌else◌}
use Rattle.std.specs.Str.Parse.{digits_value, without_leading_plus}
use Rattle.clap.specs.Values.{IsUnsignedIn}
use Rattle.clap.specs.Walk.{Row, Text, first_of}
use Rattle.event_records.specs.declared.limits.TheConstants.{MAX_RING, MAX_SEED, MAX_STRESS_INITIAL, MAX_THREAD_OPERATIONS, MAX_WORKERS, MIN_RING}
use Rattle.command_words.specs.Commands.{IsInRange, request_named, request_of_subcommand}
use Rattle.command_words.specs.Inner.Commands.{IsAnswerable}
use Rattle.command_words.specs.declared.options.TheConstants.{MAX_AROUND}
use Rattle.command_words.specs.Options.{IsWithinRanges, has_flag, number_in, settings_in}
use Rattle.command_words.specs.Inner.Options.{HasNumber, HasSettings}

-- the value of a text that is a number in a range
bounded : (low high : ℕ) (o : Option Text) → IsSomeAnd o (IsUnsignedIn low high)
    → (low ≤ digits_value 10 (without_leading_plus (unwrap_or o []))) × (digits_value 10 (without_leading_plus (unwrap_or o [])) ≤ high)
bounded low high None h = absurd h
bounded low high (Some text) h = (h.2, h.3)

in_range : (id : Text) (low high : ℕ) (rows : List Row) → HasNumber id low high rows → (low ≤ number_in id rows) × (number_in id rows ≤ high)
in_range id low high rows h = bounded low high (first_of id rows) h

within_ranges : (rows : List Row) → HasSettings rows → IsWithinRanges (settings_in rows)
within_ranges rows h = record {
  threads = in_range (codes "threads") 1 MAX_WORKERS rows h.threads;
  operations = (in_range (codes "ops") 0 MAX_THREAD_OPERATIONS rows h.operations).1;
  seed = (in_range (codes "seed") 0 MAX_SEED rows h.seed).1;
  percent = (in_range (codes "percent") 0 100 rows h.percent).1;
  producers = (in_range (codes "producers") 0 MAX_WORKERS rows h.producers).1;
  ring = in_range (codes "ring") MIN_RING MAX_RING rows h.ring;
  initial = (in_range (codes "initial") 0 MAX_STRESS_INITIAL rows h.initial).1;
}

named : (name : Text) (rows : List Row) → IsAnswerable (Some (name, rows)) → IsSomeAnd (request_named name rows) IsInRange
named name rows (inl is) = rw is tt
named name rows (inr (inl is)) = rw is tt
named name rows (inr (inr (inl is))) = rw is tt
named name rows (inr (inr (inr (inl draw)))) = rw draw.0 (near (has_flag (codes "all") rows))
  where
    near : (b : Bool) → IfSome (if b then None else Some (number_in (codes "around") rows)) (λ n. n ≤ MAX_AROUND)
    near true = tt
    near false = (in_range (codes "around") 0 MAX_AROUND rows draw.1).1
named name rows (inr (inr (inr (inr (inl is))))) = rw is tt
named name rows (inr (inr (inr (inr (inr (inl is)))))) = rw is tt
named name rows (inr (inr (inr (inr (inr (inr (inl is))))))) = rw is tt
named name rows (inr (inr (inr (inr (inr (inr (inr (inl is)))))))) = rw is tt
named name rows (inr (inr (inr (inr (inr (inr (inr (inr stress)))))))) = rw stress.0 (within_ranges rows stress.1)

-- a subcommand that can be answered is a request with its numbers in their ranges
pub answerable_is_asked : (met : Option (Text × List Row)) → IsAnswerable met → IsSomeAnd (request_of_subcommand met) IsInRange
answerable_is_asked None h = absurd h
answerable_is_asked (Some (name, rows)) h = named name rows h
