-- The bytes that a source has ahead, as contracts see them.
use Rattle.std.specs.Prelude.{◌≡◌, ℕ, ◌<◌, List, [], ◌++◌, length, take, ⊤, Option, None, Some, MatchResult}
use Rattle.std.specs.declared.result.Result.{Result}

-- the end of a source's bytes: there are no more, or a read fails
pub data Ending : Type 0 where
  EndOfInput : Ending
  Failure : Ending

-- the bytes that reads will give, and how they end
pub record Ahead : Type 0 where
  pub bytes : List ℕ
  pub ending : Ending

-- the knowledge of the bytes ahead: none; these bytes, unless a read fails before their end; or all of it
pub data Known : Type 0 where
  Unknown : Known
  UnlessFailed : List ℕ → Known
  Exactly : Ahead → Known

-- reads may give this, as far as is known
abbrev pub MayGive : Known → Ahead → Type 0
MayGive Unknown a = ⊤
MayGive (UnlessFailed bytes) a = (rest : List ℕ) × (bytes ≡ a.bytes ++ rest) × (a.ending ≡ EndOfInput → rest ≡ [])
MayGive (Exactly known) a = a ≡ known

-- some input that the source may give has this property: the input itself, if it is known
pub record OfInput (known : Known) (IsSo : Ahead → Type 0) : Type 0 where
  pub input : Ahead
  pub may : MayGive known input
  pub is_so : IsSo input

-- these bytes, and then an input
abbrev pub after : List ℕ → Ahead → Ahead
after bytes a = record { bytes = bytes ++ a.bytes; ending = a.ending }

-- no byte, and then this ending
abbrev pub over : Ending → Ahead
over ending = record { bytes = []; ending = ending }

-- these bytes were given: whatever may come now may have come after them
pub record Gives (old new : Known) (given : List ℕ) : Type 0 where
  pub before : (a : Ahead) → MayGive new a → MayGive old (after given a)

-- `Ok(n)`: the first n bytes of the piece were given, none only at the end or without room; `Err`: the bytes ended
-- with a failure
abbrev pub ReadGives : {E : Type 0} → Known → Known → Result ℕ E → List ℕ → Type 0
ReadGives old new r piece =
    MatchResult r (λ n. Gives old new (take n piece) × (n ≡ 0 → 0 < length piece → MayGive new (over EndOfInput)))
    (λ _. Gives old new [] × MayGive new (over Failure))

-- the knowledge of the bytes that a reader of std has left
abbrev pub known_of : Option (List ℕ) → Known
known_of None = Unknown
known_of (Some bytes) = UnlessFailed bytes
