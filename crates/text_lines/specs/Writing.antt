-- Writing texts.
use Rattle.std.specs.Prelude.{◌≡◌, ℕ, zero, suc, Bool, true, ◌==◌, ◌&&◌, not, if◌then◌else◌, is_err, List, ◌++◌}
use Rattle.std.specs.Prelude.{length, Option, Ok, Err}
use Rattle.std.specs.declared.result.Result.{Result}
use Rattle.std.specs.Io.KnownBytes.{Appends}

-- a write failed, or took no byte of a piece that isn't empty
abbrev pub is_refusal : {E : Type 0} → Result ℕ E → List ℕ → Bool
is_refusal (Ok n) piece = (n == 0) && not (length piece == 0)
is_refusal (Err e) piece = true

-- ---- calls on a sink

-- the outcome of a call on a sink: it took bytes, it passed on what it held back, or it refused
pub data Asked : Type 0 where
  Took : Asked
  PassedOn : Asked
  Refused : Asked

-- the outcome of a write of this piece
abbrev pub asked_to_write : {E : Type 0} → Result ℕ E → List ℕ → Asked
asked_to_write result piece = if is_refusal result piece then Refused else Took

-- the outcome of a flush
abbrev pub asked_to_flush : {T E : Type 0} → Result T E → Asked
asked_to_flush result = if is_err result then Refused else PassedOn

-- this many calls in turn took bytes, and there was no other call
abbrev pub TakesTimes : {S : Type 0} → (S → Asked → S → Type 0) → ℕ → S → S → Type 0
TakesTimes transition zero old new = old ≡ new
TakesTimes {S} transition (suc n) old new = (next : S) × transition old Took next × TakesTimes transition n next new

-- the sink took bytes, in any number of calls, and there was no other call
pub record IsWritten {S : Type 0} (transition : S → Asked → S → Type 0) (old new : S) : Type 0 where
  pub calls : ℕ
  pub taken : TakesTimes transition calls old new

-- the sink took bytes, then refused, and there was no call after that
pub record IsRefused {S : Type 0} (transition : S → Asked → S → Type 0) (old new : S) : Type 0 where
  pub before : S
  pub written : IsWritten transition old before
  pub refused : transition before Refused new

-- the sink took bytes, and then was flushed, once
pub record IsFlushed {S : Type 0} (transition : S → Asked → S → Type 0) (old new : S) : Type 0 where
  pub before : S
  pub written : IsWritten transition old before
  pub flushed : transition before PassedOn new

-- the calls on the inner sink that a call on a sink that holds bytes back makes
abbrev pub AsksInner : {S : Type 0} → (S → Asked → S → Type 0) → S → Asked → S → Type 0
AsksInner transition old Took new = IsWritten transition old new
AsksInner transition old PassedOn new = IsFlushed transition old new
AsksInner transition old Refused new = IsRefused transition old new

-- ---- the bytes written

-- the writer got a prefix of the text, and no more
pub record AppendsFront (old new : Option (List ℕ)) (text : List ℕ) : Type 0 where
  pub front : List ℕ
  pub rest : List ℕ
  pub whole : text ≡ front ++ rest
  pub written : Appends old new front

-- the text comes after the bytes held back, the writer got a prefix of both, and the rest is held back now
pub record Puts (old new : Option (List ℕ)) (kept rest text : List ℕ) : Type 0 where
  pub out : List ℕ
  pub whole : kept ++ text ≡ out ++ rest
  pub written : Appends old new out

-- ---- a text written to a sink, by its contents, whether it has refused, and its calls

-- the sink took all of the text, in any number of calls
pub record TakesAll {S : Type 0} (contents : S → Option (List ℕ))
    (has_refused : S → Bool) (transition : S → Asked → S → Type 0)
    (text : List ℕ) (old new : S) : Type 0 where
  pub bytes : Appends (contents old) (contents new) text
  pub asked : IsWritten transition old new
  pub refused : has_refused new ≡ has_refused old

-- the sink took a prefix of the text, and then refused
pub record TakesFront {S : Type 0} (contents : S → Option (List ℕ))
    (has_refused : S → Bool) (transition : S → Asked → S → Type 0)
    (text : List ℕ) (old new : S) : Type 0 where
  pub bytes : AppendsFront (contents old) (contents new) text
  pub asked : IsRefused transition old new
  pub refused : has_refused new ≡ true

-- a call that succeeds writes all of the text; a call that fails writes a prefix of it, and its last call on the sink
-- is the refused one
abbrev pub Writes : {S T E : Type 0} → (S → Option (List ℕ)) → (S → Bool) → (S → Asked → S → Type 0) → List ℕ → S → S
    → Result T E → Type 0
Writes contents has_refused transition text old new (Ok x) = TakesAll contents has_refused transition text old new
Writes contents has_refused transition text old new (Err e) = TakesFront contents has_refused transition text old new

-- the text comes after the bytes held back; the sink took a prefix of both, in any number of calls, and the rest is
-- held back now
pub record TakesSome {S : Type 0} (contents : S → Option (List ℕ))
    (has_refused : S → Bool) (transition : S → Asked → S → Type 0)
    (kept rest text : List ℕ) (old new : S) : Type 0 where
  pub bytes : Puts (contents old) (contents new) kept rest text
  pub asked : IsWritten transition old new
  pub refused : has_refused new ≡ has_refused old

-- a call that succeeds writes the text after the bytes held back, and may hold back the end; a call that fails writes
-- a prefix of both
abbrev pub PutsText : {S T E : Type 0} → (S → Option (List ℕ)) → (S → Bool) → (S → Asked → S → Type 0) → List ℕ
    → List ℕ → List ℕ → S → S
    → Result T E → Type 0
PutsText contents has_refused transition kept rest text old new (Ok x) =
    TakesSome contents has_refused transition kept rest text old new
PutsText contents has_refused transition kept rest text old new (Err e) =
    TakesFront contents has_refused transition (kept ++ text) old new
