-- The options of `draw`, `complete` and `stress`.
use Rattle.std.specs.Prelude.{◌≤◌, ℕ, Bool, true, false, List, [], ◌∷◌, Option, Some, None, codes, unwrap_or}
use Rattle.std.specs.Prelude.{if◌then◌else◌}
use Rattle.std.specs.Str.{bytes_eq}
use Rattle.std.specs.Str.Parse.{digits_value, without_leading_plus}
use Rattle.clap.specs.Simple.{Shape, new_rule, new_shape}
use Rattle.clap.specs.Walk.{Row, Rule, Text, first_of}
use Rattle.clap.specs.declared.builder.action.ArgAction.TheVariants.{SetTrue}
use Rattle.clap.specs.declared.builder.value_parser.ValueParser.TheVariants as vp
use Rattle.event_records.specs.declared.limits.TheConstants.{MAX_RING, MAX_SEED, MAX_STRESS_INITIAL}
use Rattle.event_records.specs.declared.limits.TheConstants.{MAX_THREAD_OPERATIONS, MAX_WORKERS, MIN_RING}
use Rattle.command_words.specs.declared.options.TheConstants.{MAX_AROUND}
use Rattle.command_words.specs.declared.options.PictureForm.{PictureForm}
use Rattle.command_words.specs.declared.options.PictureForm.TheVariants.{Html, Svg, Terminal}
use Rattle.command_words.specs.declared.options.Condition.{Condition}
use Rattle.command_words.specs.declared.options.DrawOptions.{DrawOptions}
use Rattle.command_words.specs.declared.options.StressOptions.{StressOptions}

-- ---- options as they may be given

-- an option that takes one number from low to high, and has a default
abbrev pub number_rule : Text → ℕ → ℕ → Text → Rule
number_rule name low high default = record (new_rule name) {
  long = Some name;
  value_names = 1;
  parser = Some (vp.Unsigned low high);
  defaults = default ∷ [];
}

-- the name of the queue: any text, which is required
abbrev pub queue_rule : Rule
queue_rule = record (new_rule (codes "queue")) {
  long = Some (codes "queue");
  value_names = 1;
  required = true;
}

-- a flag without a short form
abbrev pub flag_rule : Text → Rule
flag_rule name = record (new_rule name) {
  long = Some name;
  action = Some SetTrue;
}

-- the flag for only the first line of a verdict
abbrev pub quiet_rule : Rule
quiet_rule = record (new_rule (codes "quiet")) {
  long = Some (codes "quiet");
  short = Some 113;
  action = Some SetTrue;
}

-- a command that reads and judges, with this flag
abbrev pub the_judging : Text → Shape
the_judging name = record (new_shape name) { rules = quiet_rule ∷ [] }

-- the flags for a weaker condition
abbrev pub condition_rules : List Rule
condition_rules = flag_rule (codes "local") ∷ flag_rule (codes "weak-empty") ∷ []

-- a command that judges under a condition, with these flags too
abbrev pub the_deciding : Text → Shape
the_deciding name = record (new_shape name) { rules = quiet_rule ∷ condition_rules }

-- `verify` with these flags
abbrev pub the_verify : Shape
the_verify = record (new_shape (codes "verify")) { rules = condition_rules }

-- the flags of `draw`, and the number of events drawn around a violation
abbrev pub draw_rules : List Rule
draw_rules =
    flag_rule (codes "text") ∷ flag_rule (codes "html") ∷ number_rule (codes "around") 0 MAX_AROUND (codes "0")
    ∷ flag_rule (codes "all")
    ∷ condition_rules

-- `draw` with its options
abbrev pub the_draw : Shape
the_draw = record (new_shape (codes "draw")) { rules = draw_rules }

-- `complete` with its flag
abbrev pub the_complete : Shape
the_complete = record (new_shape (codes "complete")) { rules = flag_rule (codes "cut") ∷ [] }

-- `stats` with its flag
abbrev pub the_stats : Shape
the_stats = record (new_shape (codes "stats")) { rules = flag_rule (codes "overtakes") ∷ [] }

-- the options in the order of the help: ranges and defaults
abbrev pub stress_rules : List Rule
stress_rules = queue_rule ∷ number_rule (codes "threads") 1 MAX_WORKERS (codes "2")
    ∷ number_rule (codes "ops") 0 MAX_THREAD_OPERATIONS (codes "1000")
    ∷ number_rule (codes "seed") 0 MAX_SEED (codes "1")
    ∷ number_rule (codes "percent") 0 100 (codes "50")
    ∷ number_rule (codes "producers") 0 MAX_WORKERS (codes "0")
    ∷ number_rule (codes "ring") MIN_RING MAX_RING (codes "1024")
    ∷ number_rule (codes "initial") 0 MAX_STRESS_INITIAL (codes "0") ∷ quiet_rule ∷ condition_rules

-- the subcommand with its options
abbrev pub the_stress : Shape
the_stress = record (new_shape (codes "stress")) { rules = stress_rules }

-- ---- options as they are read

-- the values of the options, with the queue by the text of its name
pub record Settings : Type 0 where
  pub queue : Text
  pub threads : ℕ
  pub operations : ℕ
  pub seed : ℕ
  pub percent : ℕ
  pub producers : ℕ
  pub ring : ℕ
  pub initial : ℕ
  pub condition : Condition

-- the settings of a value of the program
abbrev pub settings_of : StressOptions → Settings
settings_of o = record {
  queue = o.queue.now;
  threads = o.threads;
  operations = o.operations;
  seed = o.seed;
  percent = o.percent;
  producers = o.producers;
  ring = o.ring;
  initial = o.initial;
  condition = o.condition;
}

-- the text of an option; each valid command line has one
abbrev pub text_in : Text → List Row → Text
text_in id rows = unwrap_or (first_of id rows) []

-- the decimal value of an option's text, which may begin with `+`
abbrev pub number_in : Text → List Row → ℕ
number_in id rows = digits_value 10 (without_leading_plus (text_in id rows))

-- the text of a flag that was given
abbrev pub is_given : Option Text → Bool
is_given None = false
is_given (Some text) = bytes_eq text (codes "true")

-- this flag is among clap's matches of a command
abbrev pub has_flag : Text → List Row → Bool
has_flag name rows = is_given (first_of name rows)

-- the flag for a quiet answer was given
abbrev pub is_quiet : List Row → Bool
is_quiet rows = has_flag (codes "quiet") rows

-- the flag for texts that are cut off was given
abbrev pub takes_cut : List Row → Bool
takes_cut rows = has_flag (codes "cut") rows

-- the flag for dequeues that overtook was given
abbrev pub lists_overtakings : List Row → Bool
lists_overtakings rows = has_flag (codes "overtakes") rows

-- linearizability
abbrev pub linearizability : Condition
linearizability = record { is_local = false; is_weakly_empty = false }

-- the condition in clap's matches of a command
abbrev pub condition_in : List Row → Condition
condition_in rows =
    record { is_local = has_flag (codes "local") rows; is_weakly_empty = has_flag (codes "weak-empty") rows }

-- the form of the picture in clap's matches of `draw`: characters if that flag was given, else a page if that was,
-- else SVG
abbrev pub form_in : List Row → PictureForm
form_in rows = if has_flag (codes "text") rows then Terminal else (if has_flag (codes "html") rows then Html else Svg)

-- the number of events drawn around a violation; all of them if that flag was given
abbrev pub around_in : List Row → Option ℕ
around_in rows = if has_flag (codes "all") rows then None else Some (number_in (codes "around") rows)

-- a picture in this form, without events around a violation, of linearizability
abbrev pub drawing_as : PictureForm → DrawOptions
drawing_as form = record { form = form; around = Some 0; condition = linearizability }

-- the options in clap's matches of `draw`
abbrev pub drawing_in : List Row → DrawOptions
drawing_in rows = record { form = form_in rows; around = around_in rows; condition = condition_in rows }

-- the settings in clap's matches of `stress`; an option that isn't given has its default
abbrev pub settings_in : List Row → Settings
settings_in rows = record {
  queue = text_in (codes "queue") rows;
  threads = number_in (codes "threads") rows;
  operations = number_in (codes "ops") rows;
  seed = number_in (codes "seed") rows;
  percent = number_in (codes "percent") rows;
  producers = number_in (codes "producers") rows;
  ring = number_in (codes "ring") rows;
  initial = number_in (codes "initial") rows;
  condition = condition_in rows;
}

-- each number is in the range of its option
pub record IsWithinRanges (s : Settings) : Type 0 where
  pub threads : (1 ≤ s.threads) × (s.threads ≤ MAX_WORKERS)
  pub operations : s.operations ≤ MAX_THREAD_OPERATIONS
  pub seed : s.seed ≤ MAX_SEED
  pub percent : s.percent ≤ 100
  pub producers : s.producers ≤ MAX_WORKERS
  pub ring : (MIN_RING ≤ s.ring) × (s.ring ≤ MAX_RING)
  pub initial : s.initial ≤ MAX_STRESS_INITIAL
