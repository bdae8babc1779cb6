-- The end of a line of a plan.
use Rattle.std.specs.Prelude.{ℕ, Bool, ◌==◌, nat_le, List, length}
use Rattle.workloads.specs.declared.texts.TheConstants.{LINE_FEED}
use Rattle.event_records.specs.declared.limits.TheConstants.{MAX_THREAD_OPERATIONS}

-- whether this byte ends a line
abbrev pub ends_line : ℕ → Bool
ends_line byte = byte == LINE_FEED

-- whether the line of one worker may have these bytes
abbrev pub is_short_line : List ℕ → Bool
is_short_line line = nat_le (length line) MAX_THREAD_OPERATIONS
