-- The steps that build the program: a command before and after parts of it are added.
use Rattle.std.specs.Prelude.{codes}
use Rattle.clap.specs.Simple.{App, new_shape, with_rule, with_subcommand}
use Rattle.event_records.specs.declared.limits.TheConstants.{MAX_RING, MAX_SEED, MAX_STRESS_INITIAL}
use Rattle.event_records.specs.declared.limits.TheConstants.{MAX_THREAD_OPERATIONS, MAX_WORKERS, MIN_RING}
use Rattle.command_words.specs.Options.{flag_rule, number_rule, queue_rule, quiet_rule, the_complete, the_deciding}
use Rattle.command_words.specs.Options.{the_draw, the_judging, the_stats, the_stress, the_verify}

-- the program with the first four of its subcommands
abbrev pub with_first_four : App → App
with_first_four app =
    with_subcommand (with_subcommand (with_subcommand (with_subcommand app
    (the_deciding (codes "check")))
    (the_deciding (codes "shrink")))
    the_verify)
    the_draw

-- the program with the last five subcommands too
abbrev pub with_last_five : App → App
with_last_five app =
    with_subcommand (with_subcommand (with_subcommand (with_subcommand (with_subcommand app
    (new_shape (codes "convert")))
    the_complete)
    the_stats)
    (the_judging (codes "sim")))
    the_stress

-- `stress` with the first four of its options
abbrev pub with_plan : App → App
with_plan app =
    with_rule (with_rule (with_rule (with_rule app
    queue_rule)
    (number_rule (codes "threads") 1 MAX_WORKERS (codes "2")))
    (number_rule (codes "ops") 0 MAX_THREAD_OPERATIONS (codes "1000")))
    (number_rule (codes "seed") 0 MAX_SEED (codes "1"))

-- `stress` with the percentage and the producers too
abbrev pub with_kinds : App → App
with_kinds app =
    with_rule (with_rule app
    (number_rule (codes "percent") 0 100 (codes "50")))
    (number_rule (codes "producers") 0 MAX_WORKERS (codes "0"))

-- `stress` with the last three options too
abbrev pub with_sizes : App → App
with_sizes app =
    with_rule (with_rule (with_rule app
    (number_rule (codes "ring") MIN_RING MAX_RING (codes "1024")))
    (number_rule (codes "initial") 0 MAX_STRESS_INITIAL (codes "0")))
    quiet_rule

-- a command with the flags for a weaker condition too
abbrev pub with_condition : App → App
with_condition app = with_rule (with_rule app (flag_rule (codes "local"))) (flag_rule (codes "weak-empty"))
