-- The subcommand at which a walk without a fault stops isn't `help`.
use Rattle.std.proofs.Common.{◌≡◌, ◌&&◌, ℕ, Bool, true, false, not, List, [], ◌∷◌, Option, Some, None, is_some, codes, refl}
use Rattle.std.specs.Prelude.{⊤, IfSome, if◌then◌else◌}
use Rattle.std.specs.Str.{bytes_eq}
use Rattle.clap.specs.Lexer.{long_of, short_of}
use Rattle.clap.specs.Kinds.{or_else}
use Rattle.clap.specs.Simple.{Shape}
use Rattle.clap.specs.Faults.{other_fault, step_fault, turn_fault, word_fault}
use Rattle.clap.specs.Walk.{Held, Names, Outcome, Rule, Step, Text, Waiting, Walk, after_flag, after_step, arg_by_index, done, idle, long_or_other}
use Rattle.clap.specs.Walk.{next, option, plain, plain_word, positional, refused, short_or_plain, subcommand, subcommand_met, subcommand_or_other}
use Rattle.clap.specs.Walk.{to_positional, trailing, value, waits, walked, walked_from, word_met}
use Rattle.clap.specs.declared.error.kind.ErrorKind.TheVariants as kind
use Rattle.command_words.proofs.NoKinds.{first_none}

-- a word other than `help`
abbrev pub IsNotHelp : Text → Type 0
IsNotHelp name = bytes_eq name (codes "help") ≡ false

-- the walk didn't stop, or not at `help`
abbrev pub StopsWell : Option (Text × List Text) → Type 0
StopsWell o = IfSome o (λ q. IsNotHelp q.0)

-- a step into a subcommand isn't one into `help`
abbrev EntersWell : Step → Type 0
EntersWell (subcommand name) = IsNotHelp name
EntersWell _ = ⊤

module _ (c : List Rule) where
  plain_enters : (waiting : Waiting) (word : Text) (h : Held) → EntersWell (plain_word c waiting word h).1
  plain_enters idle word h = tt
  plain_enters (option id) word h = tt
  plain_enters positional word h = tt

  after_flag_enters : (waiting : Waiting) (word : Text) (h : Held) (o : Outcome) → EntersWell (after_flag c waiting word h o).1
  after_flag_enters waiting word h done = tt
  after_flag_enters waiting word h (waits id) = tt
  after_flag_enters waiting word h plain = plain_enters waiting word h
  after_flag_enters waiting word h refused = plain_enters waiting word h

  short_enters : (o : Option Text) (waiting : Waiting) (word : Text) (h : Held) → EntersWell (short_or_plain c waiting word o h).1
  short_enters None waiting word h = plain_enters waiting word h
  short_enters (Some flags) waiting word h = after_flag_enters waiting word _ _

  flag_enters : (o : Option (Text × Option Text)) (waiting : Waiting) (word : Text) (h : Held) → EntersWell (long_or_other c waiting word o h).1
  flag_enters None waiting word h = short_enters (short_of word) waiting word h
  flag_enters (Some q) waiting word h = after_flag_enters waiting word _ _

module _ (s : Shape) (names : Names) (helps : s.disable_help_subcommand ≡ false) where
  name_enters : (name word : Text) (h : Held) → other_fault s (Some name) word h ≡ [] → IsNotHelp name
  name_enters name word h e = go (bytes_eq name (codes "help")) s.disable_help_subcommand helps e
    where
      go : (b k : Bool) → k ≡ false → (if b && not k then kind.DisplayHelp ∷ kind.InvalidSubcommand ∷ [] else []) ≡ [] → b ≡ false
      go false k d e = refl
      go true false d e = cc
      go true true d e = cc

  other_enters : (o : Option Text) (waiting : Waiting) (position : ℕ) (word : Text) (h : Held) → other_fault s o word h ≡ []
      → EntersWell (subcommand_or_other s.rules o waiting position word h).1
  other_enters (Some name) waiting position word h e = name_enters name word h e
  other_enters None waiting position word h e = go (bytes_eq word (45 ∷ 45 ∷ []))
    where
      go : (b : Bool) → EntersWell (if b then (h, trailing position) else long_or_other s.rules waiting word (long_of word) h).1
      go true = tt
      go false = flag_enters s.rules (long_of word) waiting word h

  word_enters : (is_trailing : Bool) (waiting : Waiting) (position : ℕ) (word : Text) (h : Held) → word_fault s names is_trailing waiting word h ≡ []
      → EntersWell (word_met s.rules names is_trailing waiting position word h).1
  word_enters true waiting position word h e = tt
  word_enters false waiting position word h e = other_enters (subcommand_met names waiting word) waiting position word h e

  positional_stops : (o : Option Rule) (word : Text) (w : Walk) (h : Held) → w.stopped ≡ None → StopsWell (to_positional s.rules o word w h).stopped
  positional_stops None word w h e = rw e tt
  positional_stops (Some a) word w h e = tt

  step_stops : (step : Step) (word : Text) (w : Walk) (h : Held) → w.stopped ≡ None → EntersWell step → StopsWell (after_step s.rules word w h step).stopped
  step_stops (next waiting) word w h e p = rw e tt
  step_stops (trailing position) word w h e p = rw e tt
  step_stops (subcommand name) word w h e p = p
  step_stops value word w h e p = positional_stops (arg_by_index s.rules w.position) word w h e

  -- a word without fault leaves a walk that stops well
  pub turn_stops : (w : Walk) (word : Text) → turn_fault s names w word ≡ [] → StopsWell w.stopped → StopsWell (walked s.rules names w word).stopped
  unfolding walked
  turn_stops w word e p = go w.stopped refl e p
    where
      met : Held × Step
      met = word_met s.rules names w.is_trailing w.waiting w.position word w.held

      go : (o : Option (Text × List Text)) → w.stopped ≡ o
          → (if is_some o then [] else or_else (word_fault s names w.is_trailing w.waiting word w.held) (step_fault s w.position met.0 met.1)) ≡ []
          → StopsWell o → StopsWell (walked_from s.rules names o w word).stopped
      go (Some q) same e p = p
      go None same e p = step_stops met.1 word w met.0 same (word_enters w.is_trailing w.waiting w.position word w.held (first_none _ _ e))
