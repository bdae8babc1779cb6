-- The names of faults of texts as they are printed, and out of memory apart from the rest.
use Rattle.std.specs.Prelude.{ℕ, List, codes, Option, Some, None}
use Rattle.text_lines.specs.declared.fault.TextFault.{TextFault}
use Rattle.text_lines.specs.declared.fault.TextFault.TheVariants.{Read, Header, Line, Number, Limit, Count, Cut}
use Rattle.text_lines.specs.declared.fault.TextFault.TheVariants.{Trailing, Memory}

-- the name of a fault
abbrev pub name_of : TextFault → List ℕ
name_of Read = codes "Read"
name_of Header = codes "Header"
name_of (Line n) = codes "Line"
name_of (Number n) = codes "Number"
name_of (Limit n) = codes "Limit"
name_of Count = codes "Count"
name_of Cut = codes "Cut"
name_of Trailing = codes "Trailing"
name_of Memory = codes "Memory"

-- the line that a fault names
abbrev pub line_in : TextFault → Option ℕ
line_in (Line n) = Some n
line_in (Number n) = Some n
line_in (Limit n) = Some n
line_in _ = None

-- one property holds for out of memory, another for each other fault
abbrev pub MemoryOr : Type 0 → (TextFault → Type 0) → TextFault → Type 0
MemoryOr Lacking IsFault Memory = Lacking
MemoryOr Lacking IsFault fault = IsFault fault
