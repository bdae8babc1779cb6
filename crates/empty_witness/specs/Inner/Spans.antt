-- Spans that are added to others, and the first gap outside of spans.
use Rattle.std.specs.Prelude.{All, List, max, min, ℕ, ◌<◌, ◌↔◌, ◌≡◌, ◌≤◌, ◌⊎◌}
use Rattle.empty_witness.specs.declared.spans.Span.{Span}
use Rattle.empty_witness.specs.Spans.{AreApart, Holds, LiesIn}
use Rattle.history_merge.specs.declared.operation.Operation.{Operation}
use Rattle.value_match.specs.Lives.{course}
use Rattle.value_match.specs.declared.life.Life.{Life}
use Rattle.value_match.specs.declared.violation.CoverStep.{CoverStep}
use Rattle.value_match.specs.Violations.{IsWitnessViolation}
use Rattle.value_match.specs.Choice.{IsChosenCover}
use Rattle.value_match.specs.Outcome.{NamesCover}

-- from the first start of two spans to their last end
pub record IsOfBoth (one other joined : Span) : Type 0 where
  pub starts : joined.start ≡ min one.start other.start
  pub ends : joined.end ≡ max one.end other.end

-- the new spans are apart, and hold the gaps of the old ones and of this span; they end no later than these do
pub record IsWithSpan (spans : List Span) (span : Span) (new : List Span) : Type 0 where
  pub apart : AreApart new
  pub same : (c : ℕ) → LiesIn new c ↔ (LiesIn spans c ⊎ Holds span c)
  pub ends : (b : ℕ) → All (λ s. s.end < b) spans → span.end < b → All (λ s. s.end < b) new

-- the least gap from this one on that lies in no span
pub record IsFirstOutside (spans : List Span) (from c : ℕ) : Type 0 where
  pub no_less : from ≤ c
  pub outside : ¬ (LiesIn spans c)
  pub least : (b : ℕ) → from ≤ b → b < c → LiesIn spans b

-- ---- the steps of a cover

-- the steps name the chosen cover of the operation's window, which is a violation
abbrev pub NamesChosenCover : List ℕ → List Operation → Operation → List CoverStep → Type 0
NamesChosenCover initial operations o steps = (lives : List Life) × NamesCover initial operations steps lives
    × IsChosenCover (course initial operations) o lives × IsWitnessViolation (course initial operations) o lives
