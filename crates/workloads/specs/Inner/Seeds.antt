-- Walks over the kinds of operations.
use Rattle.std.specs.Prelude.{◌≡◌, ℕ, ◌+◌, List, ◌++◌, length}
use Rattle.rand_pcg.specs.Lcg.{Lcg}
use Rattle.event_records.specs.declared.kind.Kind.{Kind}
use Rattle.workloads.specs.Seeds.{kinds_of_words}

-- the words from `before` on give these kinds first, and then the generator continues from `after`
pub record GivesKinds (percent : ℕ) (before : Lcg) (kinds : List Kind) (after : Lcg) : Type 0 where
  pub begins : (more : ℕ) → kinds_of_words percent (length kinds + more) before ≡ kinds
      ++ kinds_of_words percent more after
