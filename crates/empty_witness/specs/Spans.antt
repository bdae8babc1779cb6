-- Spans of gaps, and those of the gaps at which some value is definitely in the queue.
use Rattle.std.specs.Prelude.{◌↔◌, ℕ, ◌<◌, ◌≤◌, List, All, AllPairs, Contains}
use Rattle.value_match.specs.declared.life.Life.{Life}
use Rattle.value_match.specs.Lives.{Course, IsLife, Covers, enqueue_return, dequeue_call}
use Rattle.empty_witness.specs.declared.spans.Span.{Span}

-- the gap lies in the span
abbrev pub Holds : Span → ℕ → Type 0
Holds span c = (span.start ≤ c) × (c < span.end)

-- the gap lies in one of the spans
abbrev pub LiesIn : List Span → ℕ → Type 0
LiesIn spans c = (span : Span) × Contains spans span × Holds span c

-- some gap lies in each span, and each ends strictly below the starts of those after it
pub record AreApart (spans : List Span) : Type 0 where
  pub hold_some : All (λ span. span.start < span.end) spans
  pub apart : AllPairs (λ x y. x.end < y.start) spans

-- the gaps at which the value is definitely in the queue
abbrev pub stay_of : Life → Span
stay_of life = record { start = enqueue_return life; end = dequeue_call life }

-- the spans are apart, and a gap lies in one if and only if some value is definitely in the queue
pub record AreSpansOf (c : Course) (spans : List Span) : Type 0 where
  pub apart : AreApart spans
  pub cover : (gap : ℕ) → LiesIn spans gap ↔ ((life : Life) × IsLife c life × Covers life gap)
