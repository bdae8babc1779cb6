-- Bytes that a source gives in turn.
use Rattle.text_lines.proofs.Common.{◌≡◌, ℕ, List, [], ◌++◌, Option, Some, None, append_assoc, append-nil, sym, ◌∙◌}
use Rattle.text_lines.proofs.Common.{ap, ap₂}
use Rattle.text_lines.proofs.Common.{refl, subst}
use Rattle.std.specs.Io.KnownBytes.{Consumes, IsAtEnd, Keeps}
use Rattle.text_lines.specs.Input.{after, Ahead, EndOfInput, Ending, Exactly, Failure, Gives, Known, known_of, MayGive}
use Rattle.text_lines.specs.Input.{over}
use Rattle.text_lines.specs.Input.{Unknown, UnlessFailed}

-- whatever is known, some input may come
pub some_input : (known : Known) → (a : Ahead) × MayGive known a
some_input Unknown = (over EndOfInput, tt)
some_input (UnlessFailed bytes) = (record { bytes = bytes; ending = EndOfInput }, ([], sym (append-nil bytes), λ _. refl))
some_input (Exactly a) = (a, refl)

-- some of the known bytes were given
pub exactly : (x y : Ahead) (given : List ℕ) → x.bytes ≡ given ++ y.bytes → y.ending ≡ x.ending
    → Gives (Exactly x) (Exactly y) given
exactly x y given front same = record {
  before = λ a is. subst (λ (b : Ahead). after given b ≡ x) (sym is) (ap₂ (λ bytes ending. record { bytes = bytes; ending = ending }) (sym front) same);
}

-- the bytes that a read of std gives
pub gives : (old new : Option (List ℕ)) (given : List ℕ) → Consumes old new given
    → Gives (known_of old) (known_of new) given
gives None new given took = record { before = λ a may. tt }
gives (Some xs) None given took = absurd took
gives (Some xs) (Some ys) given took = record {
  before = λ a may. (
    may.0,
    took ∙ ap (λ (r : List ℕ). given ++ r) may.1 ∙ sym (append_assoc given a.bytes may.0),
    may.2,
  );
}

-- a failed read gives no byte
pub keeps_give : (old new : Option (List ℕ)) → Keeps old new → Gives (known_of old) (known_of new) []
keeps_give None new kept = gives None new [] tt
keeps_give (Some xs) None kept = absurd kept
keeps_give (Some xs) (Some ys) kept = gives (Some xs) (Some ys) [] (sym kept)

pub ends : (new : Option (List ℕ)) → IsAtEnd new → MayGive (known_of new) (over EndOfInput)
ends None at = tt
ends (Some xs) at = (xs, refl, λ _. at)

pub fails : (new : Option (List ℕ)) → MayGive (known_of new) (over Failure)
fails None = tt
fails (Some xs) = (xs, refl, λ (other : Failure ≡ EndOfInput). cc)
