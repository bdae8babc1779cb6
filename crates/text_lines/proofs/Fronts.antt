-- The front of bytes whose beginning is known.
use Rattle.text_lines.proofs.Common.{◌≡◌, ℕ, suc, ◌+◌, ◌<◌, List, [], ◌∷◌, ◌++◌, length, take, drop, true, false, not}
use Rattle.text_lines.proofs.Common.{◌&&◌, cond, nat_lt, nat_le, arith, ap, ap₂, sym, ◌∙◌, refl, length-append}
use Rattle.text_lines.proofs.Common.{append-nil, append_assoc, take-append_seam, list_all-append, nat_tests}
use Rattle.text_lines.proofs.Common.{is_line_feed, has_no_line_feed, IsPartOfLine}
use Rattle.std.proofs.Common.{zero-add}
use Rattle.std.proofs.Math.Bool.{and-false}
use Rattle.std.specs.List.{position_or_len}
use Rattle.std.proofs.Math.Seq.{drop-append-add}
use Rattle.text_lines.specs.Lines.{Whole, TooLong, Unfinished, Nothing, line, front_of, longest_line}

-- the first line feed comes after bytes that have none
place_after : (xs ys : List ℕ) → has_no_line_feed xs ≡ true
    → position_or_len is_line_feed (xs ++ ys) ≡ length xs + position_or_len is_line_feed ys
place_after [] ys clean = sym (zero-add (position_or_len is_line_feed ys))
place_after (x ∷ xs) ys clean =
    elim (is_line_feed x) as (λ v. (not v && has_no_line_feed xs) ≡ true
    → cond (not v) (1 + position_or_len is_line_feed (xs ++ ys)) 0 ≡ suc (length xs) + position_or_len is_line_feed ys) [
      | true ↦ λ bad. absurd (cc)
      | false ↦ λ rest. omega (arith, place_after xs ys rest)
    ] clean

-- the front follows from the results of the tests
front_by : (bytes : List ℕ) (p : ℕ) → position_or_len is_line_feed bytes ≡ p
    → front_of bytes ≡ (cond (nat_lt p (length bytes) && nat_le p longest_line)
    (Whole (take p bytes) (drop (p + 1) bytes))
    (cond (nat_lt longest_line (length bytes)) TooLong (cond (nat_lt 0 (length bytes)) Unfinished Nothing)))
front_by bytes p e = ap (λ (q : ℕ). cond (nat_lt q (length bytes) && nat_le q longest_line) (Whole (take q bytes) (drop (q + 1) bytes))
    (cond (nat_lt longest_line (length bytes)) TooLong (cond (nat_lt 0 (length bytes)) Unfinished Nothing))) e

-- a whole line, and the bytes after it
pub whole : (bytes more : List ℕ) → IsPartOfLine bytes → front_of (line bytes ++ more) ≡ Whole bytes more
whole bytes more part =
    let all = bytes ++ 10 ∷ more in
    let place : position_or_len is_line_feed all ≡ length bytes = omega (arith, place_after bytes (10 ∷ more) part.one) in
    let within : nat_lt (length bytes) (length all) ≡ true = grind (arith, nat_tests, length-append bytes (10 ∷ more)) in
    let short : nat_le (length bytes) longest_line ≡ true = grind (arith, nat_tests, part.short) in
    ap front_of (append_assoc bytes (10 ∷ []) more) ∙ front_by all (length bytes) place
    ∙ rw (within, short) (ap₂ Whole (take-append_seam bytes (10 ∷ more)) (drop-append-add bytes (10 ∷ more) 1))

-- a part of a line and no more is less than a line
pub front_unfinished : (bytes : List ℕ) → IsPartOfLine bytes → 0 < length bytes → front_of bytes ≡ Unfinished
front_unfinished bytes part some =
    let place : position_or_len is_line_feed (bytes ++ []) ≡ length bytes + 0 = place_after bytes [] part.one in
    let here : position_or_len is_line_feed bytes ≡ length bytes = rw append-nil at place ∙ omega arith in
    let past : nat_lt (length bytes) (length bytes) ≡ false = grind (arith, nat_tests) in
    let few : nat_lt longest_line (length bytes) ≡ false = grind (arith, nat_tests, part.short) in
    let more : nat_lt 0 (length bytes) ≡ true = grind (arith, nat_tests, some) in
    front_by bytes (length bytes) here ∙ rw (past, few, more) refl

-- one more byte than a line may have is too long
pub front_too_long : (given : List ℕ) (b : ℕ) (more : List ℕ) → IsPartOfLine given → length given ≡ longest_line
    → is_line_feed b ≡ false
    → front_of ((given ++ b ∷ []) ++ more) ≡ TooLong
front_too_long given b more part full other =
    let bytes = (given ++ b ∷ []) ++ more in
    let clean : has_no_line_feed (given ++ b ∷ []) ≡ true = list_all-append (λ x. not (is_line_feed x)) given (b ∷ []) ∙ rw (part.one, other) refl in
    let long : length (given ++ b ∷ []) ≡ 81 = length-append given (b ∷ []) ∙ omega (arith, full) in
    let place = place_after (given ++ b ∷ []) more clean in
    let far : nat_le (81 + position_or_len is_line_feed more) longest_line ≡ false = grind (arith, nat_tests) in
    let here : position_or_len is_line_feed bytes ≡ 81 + position_or_len is_line_feed more =
    place ∙ ap (λ (n : ℕ). n + position_or_len is_line_feed more) long in
    let many : nat_lt longest_line (length bytes) ≡ true = grind (arith, nat_tests, length-append (given ++ b ∷ []) more, long) in
    front_by bytes _ here ∙ rw (far, and-false, many) refl
