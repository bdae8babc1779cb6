-- The rings of a run that its tokens close.
use Rattle.std.specs.Prelude.{ℕ, List, map}
use Rattle.event_rings.specs.Ring.{RingName, TokenView}

-- the rings that these tokens close, with their threads
abbrev pub rings_of_tokens : List TokenView → List (RingName × ℕ)
rings_of_tokens tokens = map (λ t. (t.ring, t.thread)) tokens
