-- The commands of the program.
use Rattle.std.specs.Prelude.{◌≤◌, IfSome, Bool, true, false, List, [], ◌∷◌, Option, Some, None, option_and_then}
use Rattle.std.specs.Prelude.{codes, if◌then◌else◌, ⊤}
use Rattle.std.specs.Option.{option_map_or}
use Rattle.std.specs.Str.{bytes_eq}
use Rattle.clap.specs.Faults.{fault_of}
use Rattle.clap.specs.Kinds.{Kinds}
use Rattle.clap.specs.Simple.{App, new_shape, subcommand_of}
use Rattle.clap.specs.Walk.{Row, Text}
use Rattle.command_words.specs.Options.{IsWithinRanges, Settings, condition_in, drawing_in, is_quiet, settings_in}
use Rattle.command_words.specs.Options.{settings_of, lists_overtakings, takes_cut, the_complete}
use Rattle.command_words.specs.Options.{the_deciding, the_draw, the_judging, the_stats, the_stress, the_verify}
use Rattle.command_words.specs.declared.options.Condition.{Condition}
use Rattle.command_words.specs.declared.options.DrawOptions.{DrawOptions}
use Rattle.command_words.specs.declared.options.TheConstants.{MAX_AROUND}
use Rattle.command_words.specs.declared.tasks.Task.{Task}
use Rattle.command_words.specs.declared.tasks.Task.TheVariants as task

-- the program without its subcommands: it has a version, and requires a subcommand
abbrev pub the_program_alone : App
the_program_alone =
    record {
      top = record (new_shape (codes "fifobench")) { subcommand_required = true; has_version = true };
      subs = [];
    }

-- the program: it has a version, and requires one of these subcommands
abbrev pub the_program : App
the_program = record {
  top = record the_program_alone.top { is_leaf = false };
  subs = the_deciding (codes "check") ∷ the_deciding (codes "shrink") ∷ the_verify
      ∷ the_draw ∷ new_shape (codes "convert") ∷ the_complete ∷ the_stats ∷ the_judging (codes "sim") ∷ the_stress
      ∷ [];
}

-- the usage error, or the help that was asked for; none for a valid command line
abbrev pub faults_in : List Text → Kinds
faults_in args = fault_of the_program args

-- the request of a command; those that judge have a condition
pub data Request : Type 0 where
  check : Condition → Request
  shrink : Condition → Request
  verify : Condition → Request
  draw : DrawOptions → Request
  convert : Request
  -- whether a text that is cut off is accepted too
  complete : Bool → Request
  -- whether the dequeues that overtook are listed instead of the numbers
  stats : Bool → Request
  sim : Request
  stress : Settings → Request

-- the request of a subcommand, by its name and clap's matches of its options
abbrev pub request_named : Text → List Row → Option Request
request_named name rows =
    if bytes_eq name (codes "check") then Some (check (condition_in rows))
    else if bytes_eq name (codes "shrink") then Some (shrink (condition_in rows))
    else if bytes_eq name (codes "verify") then Some (verify (condition_in rows))
    else if bytes_eq name (codes "draw") then Some (draw (drawing_in rows))
    else if bytes_eq name (codes "convert") then Some convert
    else if bytes_eq name (codes "complete") then Some (complete (takes_cut rows))
    else if bytes_eq name (codes "stats") then Some (stats (lists_overtakings rows))
    else if bytes_eq name (codes "sim") then Some sim
    else if bytes_eq name (codes "stress") then Some (stress (settings_in rows)) else None

-- the request of the matched subcommand, if there is one
abbrev pub request_of_subcommand : Option (Text × List Row) → Option Request
request_of_subcommand = option_and_then (λ p. request_named p.0 p.1)

-- the request of the arguments
abbrev pub request_in : List Text → Option Request
request_in args = request_of_subcommand (subcommand_of the_program args)

-- the matched subcommand has a flag for a quiet answer, which was given
abbrev pub is_quiet_subcommand : Option (Text × List Row) → Bool
is_quiet_subcommand = λ met. option_map_or (λ p. is_quiet p.1) met false

-- the subcommand of the arguments has a flag for a quiet answer, which was given
abbrev pub is_quiet_in : List Text → Bool
is_quiet_in args = is_quiet_subcommand (subcommand_of the_program args)

-- the request of a value of the program
abbrev pub request_of : Task → Request
request_of (task.Check condition) = check condition
request_of (task.Shrink condition) = shrink condition
request_of (task.Verify condition) = verify condition
request_of (task.Draw options) = draw options
request_of task.Convert = convert
request_of (task.Complete cut) = complete cut
request_of (task.Stats overtakes) = stats overtakes
request_of task.Sim = sim
request_of (task.Stress options) = stress (settings_of options)

-- each number of the request is in the range of its option
abbrev pub IsInRange : Request → Type 0
IsInRange (draw options) = IfSome options.around (λ n. n ≤ MAX_AROUND)
IsInRange (stress settings) = IsWithinRanges settings
IsInRange _ = ⊤
