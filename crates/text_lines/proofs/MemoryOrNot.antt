-- Out of memory, and the other faults of texts.
use Rattle.text_lines.proofs.Common.{◌≡◌, ◌⊎◌, refl, inl, inr, TextFault}
use Rattle.std.proofs.Common.{◌≢◌}
use Rattle.text_lines.specs.declared.fault.TextFault.TheVariants.{Memory}
use Rattle.text_lines.specs.Faults.{MemoryOr}

-- a fault is out of memory, or another one
pub is_memory : (fault : TextFault) → (fault ≡ Memory) ⊎ (fault ≢ Memory)
is_memory Memory = inl refl
is_memory fault = inr (λ same. cc)

-- a property of each other fault holds of it
pub known_fault : (Lacking : Type 0) (IsFault : TextFault → Type 0) (fault : TextFault) → fault ≢ Memory
    → MemoryOr Lacking IsFault fault → IsFault fault
known_fault L F Memory known is = absurd (known refl)
known_fault L F fault known is = is

-- a property of a fault follows from another
pub follows : (L M : Type 0) (P Q : TextFault → Type 0) (fault : TextFault) → (L → M) → ((f : TextFault) → P f → Q f)
    → MemoryOr L P fault → MemoryOr M Q fault
follows L M P Q Memory room step is = room is
follows L M P Q fault room step is = step fault is
