-- Arguments without a fault name a subcommand of the program, whose options are given and in their ranges.
use Rattle.std.proofs.Common.{◌≡◌, ◌∙◌, inl, inr, ◌||◌, ◌&&◌, ◌++◌, ℕ, Bool, true, false, not, List, [], ◌∷◌, Option, Some, None, is_some, length}
use Rattle.std.proofs.Common.{map, option_map, codes, refl, sym, subst}
use Rattle.std.specs.Prelude.{⊤, IfSome, IsSome, IsSomeAnd, find, if◌then◌else◌}
use Rattle.std.specs.Option.{option_map_or}
use Rattle.std.specs.List.{list_any}
use Rattle.std.specs.Str.{bytes_eq}
use Rattle.std.proofs.lemmas.Slice.Eq.{bytes_eq-Decides}
use Rattle.clap.specs.Facts.{explicit_source, parser_of_value, unwrap_or_range}
use Rattle.clap.specs.Faults.{built_fault, check_fault, entered_fault, fault_of, level_fault, set_fault, use_fault, walk_fault}
use Rattle.clap.specs.Kinds.{check_kinds, or_else, range_kinds, value_kinds}
use Rattle.clap.specs.Simple.{App, Shape, argument_words, built, entered, filled, help_rule, label_of, names_of, new_shape, rows_at, subcommand_of}
use Rattle.clap.specs.Takes.{is_given}
use Rattle.clap.specs.Values.{IsUnsignedIn, refused_kind}
use Rattle.clap.specs.ValueTests.{accepts}
use Rattle.clap.specs.Walk.{Row, Rule, Text, Walk, answers_to, arg_by_id, finished, nothing_held, reading_by, rows_after, used, values_or_missing, walk}
use Rattle.clap.specs.Walk.{walk_from, with_values, without}
use Rattle.clap.specs.declared.builder.value_parser.Reading.{Reading}
use Rattle.clap.specs.declared.builder.value_parser.Reading.TheVariants.{AsWritten}
use Rattle.clap.specs.declared.builder.value_parser.ValueParser.{ValueParser}
use Rattle.clap.specs.declared.builder.value_parser.ValueParser.TheVariants as vp
use Rattle.clap.specs.declared.error.kind.ErrorKind.TheVariants as kind
use Rattle.clap.specs.declared.parser.matches.ValueSource.TheVariants.{CommandLine}
use Rattle.clap.proofs.ValueTestLemmas.{accepts-Accepts}
use Rattle.event_records.specs.declared.limits.TheConstants.{MAX_RING, MAX_SEED, MAX_STRESS_INITIAL, MAX_THREAD_OPERATIONS, MAX_WORKERS, MIN_RING}
use Rattle.command_words.specs.Commands.{the_program}
use Rattle.command_words.specs.Inner.Commands.{IsAnswerable}
use Rattle.command_words.specs.Options.{draw_rules, flag_rule, number_rule, queue_rule, quiet_rule, stress_rules}
use Rattle.command_words.specs.Inner.Options.{HasDistance, HasNumber, HasSettings}
use Rattle.command_words.specs.declared.options.TheConstants.{MAX_AROUND}
use Rattle.command_words.proofs.Levels.{first_by_default, first_given, last_checks}
use Rattle.command_words.proofs.NoKinds.{first_none, then_none}
use Rattle.command_words.proofs.Rows.{DefaultsPass, HasDefault, RowsPass, set_passes}
use Rattle.command_words.proofs.Stops.{IsNotHelp, StopsWell, turn_stops}
use Rattle.command_words.proofs.Walks.{AllUseWell, FindsWell, UsesWell, finds_well, walk_keeps}

-- ---- options

-- the value passes the parser of the option with this id
abbrev test : List Rule → Text → Text → Bool
test rules id v = option_map_or (λ a. accepts a.ignore_case (parser_of_value a.parser) v) (arg_by_id rules id) true

-- a subcommand with these options, as it is built
abbrev built_with : Text → List Rule → Shape
built_with name rules = record (new_shape name) {
  rules = map filled rules ++ filled help_rule ∷ [];
  is_built = true;
  disable_help_subcommand = true;
}

accepted : (ignore_case : Bool) (parser : ValueParser) (v : Text) → value_kinds ignore_case parser v ≡ [] → accepts ignore_case parser v ≡ true
accepted ignore_case parser v e = go (accepts ignore_case parser v) e
  where
    go : (b : Bool) → (if b then [] else refused_kind parser ∷ []) ≡ [] → b ≡ true
    go true e = refl
    go false e = cc

module _ (rules : List Rule) where
  -- an option with one value passes it on if it passed
  set_uses : (a : Rule) (how : Reading)
      → ((again : Bool) (values : List Text) (rows : List Row)
      → use_fault again a values rows ≡ or_else (range_kinds 1 1 (length values)) (set_fault again a (values_or_missing a values) rows))
      → ((values : List Text) (rows : List Row) → used a values rows ≡ with_values a.id how CommandLine (values_or_missing a values) (without a.id rows))
      → ((v : Text) → accepts a.ignore_case (parser_of_value a.parser) v ≡ true → test rules a.id v ≡ true) → UsesWell (test rules) a
  set_uses a how fault same f again [] rows e p =
      let bad : kind.InvalidValue ∷ [] ≡ [] = sym (fault again [] rows) ∙ e in
      cc
  set_uses a how fault same f again (v ∷ vs) rows e p =
      let values_pass = then_none _ _ (then_none _ _ (sym (fault again (v ∷ vs) rows) ∙ e)) in
      let first_passes = f v (accepted a.ignore_case (parser_of_value a.parser) v (first_none _ _ values_pass)) in
      subst (RowsPass (test rules)) (sym (same (v ∷ vs) rows)) (set_passes (test rules) a.id how (v ∷ vs) rows first_passes p)

  help_uses : UsesWell (test rules) (filled help_rule)
  help_uses again values rows e p =
      let range = (unwrap_or_range (filled help_rule).range) in
      let bad : kind.DisplayHelp ∷ [] ≡ [] = then_none (range_kinds range.start_inclusive range.end_inclusive (length values)) (kind.DisplayHelp ∷ []) e in
      cc

  number_uses : (name : Text) (low high : ℕ) (default : Text) → ((v : Text) → accepts false (vp.Unsigned low high) v ≡ true → test rules name v ≡ true)
      → UsesWell (test rules) (filled (number_rule name low high default))
  number_uses name low high default f = set_uses (filled (number_rule name low high default)) AsWritten (λ again values rows. refl) (λ values rows. refl) f

  -- a flag takes no value, and its use sets it
  flag_uses : (name : Text) → ((v : Text) → test rules name v ≡ true) → UsesWell (test rules) (filled (flag_rule name))
  flag_uses name f again [] rows e p = set_passes (test rules) name (reading_by (filled (flag_rule name))) (codes "true" ∷ []) rows (f (codes "true")) p
  flag_uses name f again (v ∷ vs) rows e p = set_passes (test rules) name (reading_by (filled (flag_rule name))) (v ∷ vs) rows (f v) p

-- ---- the options of `stress`

queue_uses : UsesWell (test stress_rules) (filled queue_rule)
queue_uses = set_uses stress_rules (filled queue_rule) AsWritten (λ again values rows. refl) (λ values rows. refl) (λ v e. refl)

-- the flag for a quiet answer is used well
quiet_uses : UsesWell (test stress_rules) (filled quiet_rule)
quiet_uses again [] rows e p = set_passes (test stress_rules) (codes "quiet") (reading_by (filled quiet_rule)) (codes "true" ∷ []) rows refl p
quiet_uses again (v ∷ vs) rows e p = set_passes (test stress_rules) (codes "quiet") (reading_by (filled quiet_rule)) (v ∷ vs) rows refl p

all_use_well : AllUseWell (test stress_rules) (built_with (codes "stress") stress_rules).rules
all_use_well = (
  queue_uses,
  (
    number_uses stress_rules (codes "threads") 1 MAX_WORKERS (codes "2") (λ v e. e),
    (
      number_uses stress_rules (codes "ops") 0 MAX_THREAD_OPERATIONS (codes "1000") (λ v e. e),
      (
        number_uses stress_rules (codes "seed") 0 MAX_SEED (codes "1") (λ v e. e),
        (
          number_uses stress_rules (codes "percent") 0 100 (codes "50") (λ v e. e),
          (
            number_uses stress_rules (codes "producers") 0 MAX_WORKERS (codes "0") (λ v e. e),
            (
              number_uses stress_rules (codes "ring") MIN_RING MAX_RING (codes "1024") (λ v e. e),
              (
                number_uses stress_rules (codes "initial") 0 MAX_STRESS_INITIAL (codes "0") (λ v e. e),
                (
                  quiet_uses,
                  (flag_uses stress_rules (codes "local") (λ v. refl), (flag_uses stress_rules (codes "weak-empty") (λ v. refl), (help_uses stress_rules, tt))),
                ),
              ),
            ),
          ),
        ),
      ),
    ),
  ),
)

defaults_do : DefaultsPass (test stress_rules) (built_with (codes "stress") stress_rules).rules
defaults_do = (tt, (refl, (refl, (refl, (refl, (refl, (refl, (refl, (refl, (refl, (refl, (tt, tt))))))))))))

any_text : (o : Option Text) (P : Text → Type 0) → IsSomeAnd o P → IsSome o
any_text None P h = absurd h
any_text (Some t) P h = refl

such_text : (o : Option Text) (P Q : Text → Type 0) → ((t : Text) → P t → Q t) → IsSomeAnd o P → IsSomeAnd o Q
such_text None P Q f h = h
such_text (Some t) P Q f h = f t h

left_true : (b : Bool) → (b || false) ≡ true → b ≡ true
left_true true e = refl
left_true false e = e

-- the last check of `stress`: the required options were given
given_queue : (rows : List Row) → check_fault (built_with (codes "stress") stress_rules) rows false ≡ [] → is_given (codes "queue") rows ≡ true
given_queue rows e = go (is_given (codes "queue") rows) e
  where
    go : (b : Bool) → (if not b || false then kind.MissingRequiredArgument ∷ [] else []) ≡ [] → b ≡ true
    go true e = refl
    go false e = cc

-- a number of a subcommand that is matched without a fault
module _ (name : Text) (rules : List Rule) (uses : AllUseWell (test rules) (built_with name rules).rules)
    (defaults : DefaultsPass (test rules) (built_with name rules).rules) (rest : List Text)
    (none : level_fault (built_with name rules) [] nothing_held rest false [] ≡ []) where
  well : FindsWell (test rules) (built_with name rules).rules
  well = finds_well (test rules) (built_with name rules).rules uses

  number : (id : Text) (low high : ℕ) → ((v : Text) → test rules id v ≡ true → accepts false (vp.Unsigned low high) v ≡ true)
      → HasDefault id (built_with name rules).rules → HasNumber id low high (rows_after (built_with name rules).rules [] rest)
  number id low high f default =
      such_text _ (λ v. test rules id v ≡ true) (IsUnsignedIn low high) (λ v e. accepts-Accepts false (vp.Unsigned low high) v (f v e))
      (first_by_default (test rules) (built_with name rules) rest well defaults none id default)

module _ (rest : List Text) (none : level_fault (built_with (codes "stress") stress_rules) [] nothing_held rest false [] ≡ []) where
  setting : (id : Text) (low high : ℕ) → ((v : Text) → test stress_rules id v ≡ true → accepts false (vp.Unsigned low high) v ≡ true)
      → HasDefault id (built_with (codes "stress") stress_rules).rules
      → HasNumber id low high (rows_after (built_with (codes "stress") stress_rules).rules [] rest)
  setting = number (codes "stress") stress_rules all_use_well defaults_do rest none

  found : FindsWell (test stress_rules) (built_with (codes "stress") stress_rules).rules
  found = well (codes "stress") stress_rules all_use_well defaults_do rest none

  has_settings : HasSettings (rows_after (built_with (codes "stress") stress_rules).rules [] rest)
  has_settings = record {
    queue = any_text _ (λ v. test stress_rules (codes "queue") v ≡ true)
        (first_given (test stress_rules) (built_with (codes "stress") stress_rules) rest found defaults_do none (codes "queue")
        (given_queue (rows_after (built_with (codes "stress") stress_rules).rules [] rest)
        (last_checks (test stress_rules) (built_with (codes "stress") stress_rules) rest found defaults_do none)));
    threads = setting (codes "threads") 1 MAX_WORKERS (λ v e. e) (inr (inl (refl, tt)));
    operations = setting (codes "ops") 0 MAX_THREAD_OPERATIONS (λ v e. e) (inr (inr (inl (refl, tt))));
    seed = setting (codes "seed") 0 MAX_SEED (λ v e. e) (inr (inr (inr (inl (refl, tt)))));
    percent = setting (codes "percent") 0 100 (λ v e. e) (inr (inr (inr (inr (inl (refl, tt))))));
    producers = setting (codes "producers") 0 MAX_WORKERS (λ v e. e) (inr (inr (inr (inr (inr (inl (refl, tt)))))));
    ring = setting (codes "ring") MIN_RING MAX_RING (λ v e. e) (inr (inr (inr (inr (inr (inr (inl (refl, tt))))))));
    initial = setting (codes "initial") 0 MAX_STRESS_INITIAL (λ v e. e) (inr (inr (inr (inr (inr (inr (inr (inl (refl, tt)))))))));
  }

-- ---- the options of `draw`

draw_uses_well : AllUseWell (test draw_rules) (built_with (codes "draw") draw_rules).rules
draw_uses_well = (
  flag_uses draw_rules (codes "text") (λ v. refl),
  (
    flag_uses draw_rules (codes "html") (λ v. refl),
    (
      number_uses draw_rules (codes "around") 0 MAX_AROUND (codes "0") (λ v e. e),
      (
        flag_uses draw_rules (codes "all") (λ v. refl),
        (flag_uses draw_rules (codes "local") (λ v. refl), (flag_uses draw_rules (codes "weak-empty") (λ v. refl), (help_uses draw_rules, tt))),
      ),
    ),
  ),
)

draw_defaults : DefaultsPass (test draw_rules) (built_with (codes "draw") draw_rules).rules
draw_defaults = (refl, (refl, (refl, (refl, (refl, (refl, (tt, tt)))))))

has_distance : (rest : List Text) → level_fault (built_with (codes "draw") draw_rules) [] nothing_held rest false [] ≡ []
    → HasDistance (rows_after (built_with (codes "draw") draw_rules).rules [] rest)
has_distance rest none =
    number (codes "draw") draw_rules draw_uses_well draw_defaults rest none (codes "around") 0 MAX_AROUND (λ v e. e) (inr (inr (inl (refl, tt))))

-- ---- the program

-- a subcommand that is matched without a fault, and isn't `help`, can be answered
abbrev AnswersWell : Shape → Type 0
AnswersWell s = (name : Text) (rest : List Text) → answers_to name (label_of s) ≡ true → IsNotHelp name → level_fault s [] nothing_held rest false [] ≡ []
    → IsAnswerable (Some (rows_at s rest))

abbrev AllAnswerWell : List Shape → Type 0
AllAnswerWell [] = ⊤
AllAnswerWell (s ∷ rest) = AnswersWell s × AllAnswerWell rest

found_well : (p : Shape → Bool) (xs : List Shape) → AllAnswerWell xs → IfSome (find p xs) (λ s. AnswersWell s × (p s ≡ true))
found_well p [] all = tt
found_well p (s ∷ rest) all = go (p s) refl (found_well p rest all.1)
  where
    go : (b : Bool) → p s ≡ b → IfSome (find p rest) (λ x. AnswersWell x × (p x ≡ true))
        → IfSome (if b then Some s else find p rest) (λ x. AnswersWell x × (p x ≡ true))
    go true e later = (all.0, e)
    go false e later = later

wanted : (has required help missing : Bool) → required ≡ true → check_kinds (not has && help) (not has && required) missing ≡ [] → has ≡ true
wanted true required help missing e none = refl
wanted false false help missing e none = e
wanted false true true missing e none = cc
wanted false true false missing e none = cc

module _ (a : App) (args : List Text) (required : a.top.subcommand_required ≡ true) (helps : a.top.disable_help_subcommand ≡ false)
    (all : AllAnswerWell a.subs)
    (none : built_fault a nothing_held args ≡ []) where
  abbrev last : Walk
  last = walk a.top.rules (names_of a) nothing_held args

  abbrev has : Bool
  has = is_some (entered a last.stopped)

  stops : StopsWell last.stopped
  stops = walk_keeps (λ (w : Walk). StopsWell w.stopped) a.top (names_of a) (turn_stops a.top (names_of a) helps) args (walk_from nothing_held)
      (first_none _ _ none) tt

  below : entered_fault a last.stopped ≡ []
  below = first_none _ _ (then_none (walk_fault a.top (names_of a) (walk_from nothing_held) args) _ none)

  check : check_fault a.top (finished a.top.rules last.held) has ≡ []
  check = then_none _ _ (then_none _ _ (then_none (entered_fault a last.stopped) _
      (then_none (walk_fault a.top (names_of a) (walk_from nothing_held) args) _ none)))

  has_one : has ≡ true
  has_one = wanted has a.top.subcommand_required (a.top.arg_required_else_help && not
      (list_any (λ r. explicit_source r.source) (finished a.top.rules last.held)))
      (not (a.top.subcommand_negates_reqs && has) && list_any (λ r. r.required && not (is_given r.id (finished a.top.rules last.held))) a.top.rules)
      required check

  answers_shape : (name : Text) (rest : List Text) → IsNotHelp name → (o : Option Shape) → IfSome o (λ s. AnswersWell s × (answers_to name (label_of s) ≡ true))
      → is_some (option_map (λ s. rows_at s rest) o) ≡ true → option_map_or (λ s. level_fault s [] nothing_held rest false []) o [] ≡ []
      → IsAnswerable (option_map (λ s. rows_at s rest) o)
  answers_shape name rest differs None f h e = cc
  answers_shape name rest differs (Some s) f h e = f.0 name rest f.1 differs e

  answers_stop : (o : Option (Text × List Text)) → StopsWell o → is_some (entered a o) ≡ true → entered_fault a o ≡ [] → IsAnswerable (entered a o)
  answers_stop None st h e = cc
  answers_stop (Some q) st h e =
      answers_shape q.0 q.1 st (find (λ s. answers_to q.0 (label_of s)) a.subs) (found_well (λ s. answers_to q.0 (label_of s)) a.subs all) h e

  answerable_app : IsAnswerable (entered a last.stopped)
  answerable_app = answers_stop last.stopped stops has_one below

not_help : (name : Text) → (bytes_eq (codes "help") name || false) ≡ true → IsNotHelp name → ⊥
not_help name e differs =
    let same : codes "help" ≡ name = (bytes_eq-Decides (codes "help") name).0 (left_true _ e) in
    let bad : true ≡ false = subst (λ (t : Text). bytes_eq t (codes "help") ≡ false) (sym same) differs in
    cc

all_answer_well : AllAnswerWell (built the_program).subs
all_answer_well = (
  (λ name rest a n e. inl refl),
  (
    (λ name rest a n e. inr (inl refl)),
    (
      (λ name rest a n e. inr (inr (inl refl))),
      (
        (λ name rest a n e. inr (inr (inr (inl (refl, has_distance rest e))))),
        (
          (λ name rest a n e. inr (inr (inr (inr (inl refl))))),
          (
            (λ name rest a n e. inr (inr (inr (inr (inr (inl refl)))))),
            (
              (λ name rest a n e. inr (inr (inr (inr (inr (inr (inl refl))))))),
              (
                (λ name rest a n e. inr (inr (inr (inr (inr (inr (inr (inl refl)))))))),
                (
                  (λ name rest a n e. inr (inr (inr (inr (inr (inr (inr (inr (refl, has_settings rest e))))))))),
                  ((λ name rest a n e. absurd (not_help name a n)), tt),
                ),
              ),
            ),
          ),
        ),
      ),
    ),
  ),
)

-- arguments without a fault are a command
pub answerable : (args : List Text) → fault_of the_program args ≡ [] → IsAnswerable (subcommand_of the_program args)
answerable args none = answerable_app (built the_program) (argument_words the_program args) refl refl all_answer_well none
