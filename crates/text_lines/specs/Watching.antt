-- A reader or a writer with notes about the calls on it, as contracts see it.
use Rattle.std.specs.Prelude.{◌≡◌, Bool, true, false}
use Rattle.text_lines.specs.Writing.{Asked, Took, PassedOn, Refused}

-- the reader or writer itself, and the notes
pub record Watching (T : Type 0) : Type 0 where
  pub inner : T
  pub has_refused : Bool  -- a write or a flush has failed, or took no byte of a piece that isn't empty
  pub holds_back : Bool  -- it was asked to write, and not flushed since

-- the notes after a call with this outcome
abbrev pub IsNoted : {T : Type 0} → Watching T → Asked → Watching T → Type 0
IsNoted old Took new = (new.has_refused ≡ old.has_refused) × (new.holds_back ≡ true)
IsNoted old PassedOn new = (new.has_refused ≡ old.has_refused) × (new.holds_back ≡ false)
IsNoted old Refused new = new.has_refused ≡ true
