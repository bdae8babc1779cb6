-- Plans determined by a seed: the kinds come from the words of a generator.
use Rattle.std.specs.Prelude.{◌≡◌, ℕ, ◌*◌, ◌%◌, nat_lt, List, length, map, flat_map, All, if◌then◌else◌}
use Rattle.rand_core.specs.Pcg32Seed.{pcg32_seed}
use Rattle.rand_core.specs.Steps.{first_words}
use Rattle.rand_pcg.specs.Lcg.{Lcg}
use Rattle.rand_pcg.specs.Pcg.{pcg64, pcg64_of_seed}
use Rattle.event_records.specs.declared.kind.Kind.{Kind}
use Rattle.event_records.specs.declared.kind.Kind.TheVariants.{Enq, Deq}

-- the generator of a seed: PCG XSL RR 128/64 (O'Neill 2014), from the 32 bytes that PCG32 makes of the number
abbrev pub generator_of : ℕ → Lcg
generator_of seed = pcg64_of_seed (pcg32_seed 32 seed)

-- an enqueue if the word's last two decimal digits are below the percentage
abbrev pub kind_of_word : ℕ → ℕ → Kind
kind_of_word percent word = if nat_lt (word % 100) percent then Enq else Deq

-- the kinds of the next n words
abbrev pub kinds_of_words : ℕ → ℕ → Lcg → List Kind
kinds_of_words percent n generator = map (kind_of_word percent) (first_words pcg64 n generator)

-- this many workers with this many operations each, whose kinds, one worker after another, come from the seed's first
-- words
pub record IsSeeded (seed workers operations percent : ℕ) (rows : List (List Kind)) : Type 0 where
  pub all_workers : length rows ≡ workers
  pub all_operations : All (λ row. length row ≡ operations) rows
  pub kinds : flat_map (λ row. row) rows ≡ kinds_of_words percent (workers * operations) (generator_of seed)
