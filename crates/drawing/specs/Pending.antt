-- The operations of a picture that never returned: the returns from some ticket on were added by a completion.
use Rattle.std.specs.Prelude.{ℕ, nat_le, Bool, false, Option, Some, None}
use Rattle.history_merge.specs.declared.operation.Operation.{Operation}

-- the event of this ticket was added
abbrev pub is_added : Option ℕ → ℕ → Bool
is_added None ticket = false
is_added (Some first) ticket = nat_le first ticket

-- the call of an operation is pending: its return was added
abbrev pub is_pending : Option ℕ → Operation → Bool
is_pending added_from o = is_added added_from o.ret
