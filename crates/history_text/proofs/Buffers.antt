-- Bytes taken from the buffer of a reader.
use Rattle.history_text.proofs.Common.{[], Ahead, ap, append_assoc, arith, common_steps, drop, drop-drop, EndOfInput}
use Rattle.history_text.proofs.Common.{Exactly, Gives, Known, Left, over, subst, sym}
use Rattle.history_text.proofs.Common.{BeginsWith, IsOver, length, length-append, length-drop}
use Rattle.history_text.proofs.Common.{List, nat_tests, refl, suc}
use Rattle.history_text.proofs.Common.{take, take-add, take_all, Takes, zero, ℕ, ◌++◌, ◌+◌, ◌-◌, ◌<◌, ◌∙◌}
use Rattle.history_text.proofs.Common.{◌∷◌, ◌≡◌, ◌≤◌}
use Rattle.std.proofs.Common.{slice_index_or}
use Rattle.std.proofs.Math.Seq.{take-append-add}
use Rattle.std.proofs.lemmas.List.Edits.{take-paste}
use lib.Seq.{paste}
use Rattle.history_text.proofs.Consuming.{nothing_left, takes_front, takes_read}

-- the bytes of a buffer from one place to another
abbrev pub part : List ℕ → ℕ → ℕ → List ℕ
part bytes at filled = take (filled - at) (drop at bytes)

-- a text at a place, which ends within the filled part
part_splits : (bytes : List ℕ) (at filled len : ℕ) (text : List ℕ) → len ≤ filled - at → filled ≤ length bytes
    → drop at bytes ≡ text ++ drop len (drop at bytes) → part bytes at filled ≡ text ++ part bytes (at + len) filled
part_splits bytes at filled len text within fits is =
    let rest = drop at bytes in
    let more = drop len rest in
    let long = ap (λ (r : List ℕ). length r) is ∙ length-append text more in
    let count : filled - at ≡ length text + (filled - (at + len)) =
    omega (arith, long, length-drop len rest, length-drop at bytes, within, fits) in
    ap (λ (r : List ℕ). take (filled - at) r) is ∙ rw (count, take-append-add, drop-drop) refl

-- the bytes left of a buffer that is filled up to this place
abbrev left_in : List ℕ → ℕ → ℕ → Known → Left
left_in bytes at filled behind = record { front = part bytes at filled; behind = behind }

-- a text at a place of the buffer is taken
pub takes_from_buffer : (bytes : List ℕ) (at filled len room : ℕ) (text : List ℕ) (behind : Known) → len ≤ filled - at
    → filled ≤ length bytes
    → length bytes ≤ at + room → take room (drop at bytes) ≡ text ++ drop len (take room (drop at bytes))
    → Takes (left_in bytes at filled behind) (left_in bytes (at + len) filled behind) text
takes_from_buffer bytes at filled len room text behind within fits all is =
    let whole : take room (drop at bytes) ≡ drop at bytes = take_all room (drop at bytes) (omega (arith, length-drop at bytes, all)) in
    let splits = part_splits bytes at filled len text within fits (rw whole at is) in
    subst (λ (front : List ℕ). Takes (record { front = front; behind = behind }) (left_in bytes (at + len) filled behind) text) (sym splits)
    (takes_front text (part bytes (at + len) filled) behind)

-- the byte at a place, and those after it
byte_at : (bytes : List ℕ) (at : ℕ) → at < length bytes
    → drop at bytes ≡ slice_index_or bytes at 0 ∷ drop 1 (drop at bytes)
byte_at [] at within = absurd (omega (arith, within))
byte_at (b ∷ bytes) zero within = refl
byte_at (b ∷ bytes) (suc at) within = byte_at bytes at (omega (arith, within))

-- the next byte of the buffer is taken
pub takes_byte : (bytes : List ℕ) (at filled : ℕ) (behind : Known) → at < filled → filled ≤ length bytes
    → Takes (left_in bytes at filled behind) (left_in bytes (at + 1) filled behind) (slice_index_or bytes at 0 ∷ [])
takes_byte bytes at filled behind some fits =
    let whole : take (length bytes) (drop at bytes) ≡ drop at bytes = take_all (length bytes) (drop at bytes) (omega (arith, length-drop at bytes)) in
    takes_from_buffer bytes at filled 1 (length bytes) (slice_index_or bytes at 0 ∷ []) behind (omega (arith, some)) fits (omega arith)
    (rw whole (byte_at bytes at (omega (arith, some, fits))))

-- if nothing is left of a buffer, what a read gives is left, and nothing is taken
pub read_anew : (bytes more : List ℕ) (at filled n : ℕ) (old new : Known) → filled ≤ at → Gives old new (take n more)
    → Takes (left_in bytes at filled old) (left_in more 0 n new) []
read_anew bytes more at filled n old new none gives =
    let empty : filled - at ≡ 0 = omega (arith, none) in
    let all : n - 0 ≡ n = omega arith in rw (empty, all) (takes_read [] (take n more) old new gives)

-- if a byte of the buffer is left, it is the next one
pub next_in_buffer : (bytes : List ℕ) (at filled : ℕ) (behind : Known) → at < filled → filled ≤ length bytes
    → BeginsWith (left_in bytes at filled behind) (slice_index_or bytes at 0 ∷ [])
next_in_buffer bytes at filled behind some within a may =
    let splits = part_splits bytes at filled 1 (slice_index_or bytes at 0 ∷ []) (omega (arith, some)) within (byte_at bytes at (omega (arith, some, within))) in (
      part bytes (at + 1) filled ++ may.0.bytes,
      ap (λ (x : Ahead). x.bytes) may.2 ∙ ap (λ (front : List ℕ). front ++ may.0.bytes) splits,
    )

-- the input is over if a read gave no byte
pub over_if_nothing : (behind : Known) (n : ℕ) (bytes : List ℕ) → n ≡ 0 → (n ≡ 0 → behind ≡ Exactly (over EndOfInput))
    → IsOver EndOfInput (left_in bytes 0 n behind)
over_if_nothing behind zero bytes none ends =
    subst (λ (b : Known). IsOver EndOfInput (record { front = []; behind = b })) (sym (ends refl)) (nothing_left EndOfInput)
over_if_nothing behind (suc n) bytes none ends = absurd (omega (arith, none))

-- moving the bytes that are left to the front, and reading after them, takes nothing
pub moved_and_read : (bytes more : List ℕ) (at filled n : ℕ) (old new : Known) → at ≤ filled → filled ≤ length bytes
    → take (filled - at) more ≡ take (filled - at) (paste bytes 0 (drop at bytes) (filled - at))
    → Gives old new (take n (drop (filled - at) more))
    → Takes (left_in bytes at filled old) (left_in more 0 (filled - at + n) new) []
moved_and_read bytes more at filled n old new in_order within kept gives =
    let given = take n (drop (filled - at) more) in
    let fronts : part bytes at filled ++ given ≡ part more 0 (filled - at + n) =
    grind (arith, nat_tests, common_steps, paste, take-paste, length-drop, take-add, append_assoc) in
    subst (λ (front : List ℕ). Takes (left_in bytes at filled old) (record { front = front; behind = new }) []) fronts
    (takes_read (part bytes at filled) given old new gives)
