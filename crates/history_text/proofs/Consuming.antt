-- Bytes taken from the input in turn.
use Rattle.history_text.proofs.Common.{[], after, Ahead, ap, append-nil, append_assoc, Ending, Exactly, Gives, IsOver}
use Rattle.history_text.proofs.Common.{Known, Left, List, MayBeLeft}
use Rattle.history_text.proofs.Common.{arith, Failure, Fails, HasMore, length, ◌∷◌}
use Rattle.history_text.proofs.Common.{OfLeft, over, refl, some_input, subst, sym, Takes, ℕ, ◌++◌, ◌∙◌, ◌≡◌}

-- an input of these bytes
abbrev ahead : List ℕ → Ending → Ahead
ahead bytes ending = record { bytes = bytes; ending = ending }

-- equal bytes with the same end are the same input
same_bytes : (xs ys : List ℕ) (ending : Ending) → xs ≡ ys → ahead xs ending ≡ ahead ys ending
same_bytes xs ys ending is = ap (λ bytes. ahead bytes ending) is

-- two lists of bytes before an input are one
after-append : (xs ys : List ℕ) (a : Ahead) → after xs (after ys a) ≡ after (xs ++ ys) a
after-append xs ys a = same_bytes (xs ++ (ys ++ a.bytes)) ((xs ++ ys) ++ a.bytes) a.ending (sym (append_assoc xs ys a.bytes))

-- whatever is known, something may be left
pub some_left : (left : Left) → (a : Ahead) × MayBeLeft left a
some_left left = let more = some_input left.behind in (after left.front more.0, (more.0, more.1, refl))

-- nothing is taken if nothing changes
pub nothing_taken : (left : Left) → Takes left left []
nothing_taken left = record { before = λ a may. may }

-- bytes that are taken in two steps are taken
pub Takes-append : (a b c : Left) (xs ys : List ℕ) → Takes a b xs → Takes b c ys → Takes a c (xs ++ ys)
Takes-append a b c xs ys h k = record { before = λ x may. subst (MayBeLeft a) (after-append xs ys x) (h.before (after ys x) (k.before x may)) }

-- a fact about the bytes ahead, once some were taken
pub before : (a b : Left) (xs : List ℕ) (P : Ending → List ℕ → Type 0) → Takes a b xs
    → ((ending : Ending) (more : List ℕ) → P ending (xs ++ more)) → OfLeft a (λ u. P u.ending u.bytes)
before a b xs P h all = let some = some_left b in record {
  input = after xs some.0;
  may = h.before some.0 some.1;
  is_so = all some.0.ending some.0.bytes;
}

-- the input that was left before these bytes, if it ends after them
pub end_after : (a b : Left) (end : Ending) (xs : List ℕ) → Takes a b xs → IsOver end b → MayBeLeft a (ahead xs end)
end_after a b end xs h over_is =
    let some = some_left b in
    subst (MayBeLeft a) (ap (after xs) (over_is.only some.0 some.1) ∙ same_bytes (xs ++ []) xs end (append-nil xs)) (h.before some.0 some.1)

-- a fact about the bytes before the end of the input
pub before_end : (a b : Left) (end : Ending) (xs : List ℕ) (P : Ending → List ℕ → Type 0) → Takes a b xs → IsOver end b
    → P end xs
    → OfLeft a (λ u. P u.ending u.bytes)
before_end a b end xs P h over_is p = record { input = ahead xs end; may = end_after a b end xs h over_is; is_so = p }

-- bytes at the front of those that were read are taken
pub takes_front : (xs ys : List ℕ) (behind : Known)
    → Takes (record { front = xs ++ ys; behind = behind }) (record { front = ys; behind = behind }) xs
takes_front xs ys behind = record {
  before = λ a may. (may.0, may.1, ap (after xs) may.2 ∙ after-append xs ys may.0);
}

-- reading bytes takes nothing
pub takes_read : (front given : List ℕ) (old new : Known) → Gives old new given
    → Takes (record { front = front; behind = old }) (record { front = front ++ given; behind = new }) []
takes_read front given old new gives = record {
  before = λ a may. (after given may.0, gives.before may.0 may.1, may.2 ∙ sym (after-append front given may.0));
}

-- nothing is left if no byte was read and none comes
pub nothing_left : (ending : Ending) → IsOver ending (record { front = []; behind = Exactly (over ending) })
nothing_left ending = record { only = λ a may. may.2 ∙ ap (after []) may.1 }

-- taking an empty line and then nothing takes nothing
pub nothing_more : (old mid new : Left) (line : List ℕ) → length line ≡ 0 → Takes old mid line → Takes mid new []
    → Takes old new []
nothing_more old mid new [] none taken more = Takes-append old mid new [] [] taken more
nothing_more old mid new (b ∷ line) none taken more = absurd (omega (arith, none))

-- taking nothing more keeps what was taken
pub taken_through : (old mid new : Left) (text : List ℕ) → Takes old mid text → Takes mid new [] → Takes old new text
taken_through old mid new text taken more = subst (Takes old new) (append-nil text) (Takes-append old mid new text [] taken more)

-- if a byte was taken, one was ahead
pub more_ahead : (old new : Left) (b : ℕ) → Takes old new (b ∷ []) → OfLeft old HasMore
more_ahead old new b taken =
    let some = some_left new in record { input = after (b ∷ []) some.0; may = taken.before some.0 some.1; is_so = (b, some.0.bytes, refl) }

-- if nothing was taken before a failure, a failure was ahead
pub failure_ahead : (old new : Left) → Takes old new [] → IsOver Failure new → OfLeft old Fails
failure_ahead old new taken over_is = record { input = ahead [] Failure; may = end_after old new Failure [] taken over_is; is_so = (refl, refl) }
