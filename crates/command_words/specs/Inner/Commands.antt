-- The properties of a request that can be answered.
use Rattle.std.specs.Prelude.{◌≡◌, ◌⊎◌, List, Option, Some, None, codes}
use Rattle.clap.specs.Walk.{Row, Text}
use Rattle.command_words.specs.Inner.Options.{HasDistance, HasSettings}

-- a subcommand of the program is matched, and has its numbers in their ranges
abbrev pub IsAnswerable : Option (Text × List Row) → Type 0
IsAnswerable None = ⊥
IsAnswerable (Some p) = (p.0 ≡ codes "check") ⊎ (p.0 ≡ codes "shrink") ⊎ (p.0 ≡ codes "verify")
    ⊎ ((p.0 ≡ codes "draw") × HasDistance p.1) ⊎ (p.0 ≡ codes "convert") ⊎ (p.0 ≡ codes "complete")
    ⊎ (p.0 ≡ codes "stats") ⊎ (p.0 ≡ codes "sim")
    ⊎ ((p.0 ≡ codes "stress") × HasSettings p.1)
