-- The front of bytes, found in one pass.
use Rattle.text_lines.proofs.Common.{or-true, ◌≡◌, ℕ, ◌-◌, ◌^◌, ◌<◌, ◌≤◌, List, ◌++◌, length, take, drop, get_or, Bool}
use Rattle.text_lines.proofs.Common.{true}
use Rattle.text_lines.proofs.Common.{false, ◌||◌, not, nat_lt, arith, ap, sym, ◌∙◌, refl, inl, inr, ◌==◌, decimal}
use Rattle.text_lines.proofs.Common.{is_ascii_digit, list_all, w64, from_le_bytes, nat_tests}
use Rattle.text_lines.proofs.Common.{take-append-drop, length-take-le, get_or-take, take_rest, cases_lt}
use Rattle.text_lines.proofs.Common.{is_number, IsDigitsSoFar}
use Rattle.std.specs.Bool.{MatchBool}
use Rattle.std.specs.Int.{to_le_bytes}
use Rattle.std.proofs.lemmas.Nat.{le_bytes_8}
use Rattle.text_lines.proofs.Numbers.{number_spelled}

by_count : (count first : ℕ) → (1 < count → first ≡ 48 → ⊥) → (nat_lt count 2 || not (first == 48)) ≡ true
by_count count first lead =
    elim (cases_lt 1 count) [
      | inl many ↦ let other : (first == 48) ≡ false = grind (arith, nat_tests, lead many) in rw (other, or-true) refl
      | inr few ↦ let less : nat_lt count 2 ≡ true = grind (arith, nat_tests, few) in rw less refl
    ]

number_is : (bytes : List ℕ) (count : ℕ) → count ≤ length bytes → list_all is_ascii_digit (take count bytes) ≡ true
    → 0 < count
    → (1 < count → get_or bytes 0 0 ≡ 48 → ⊥) → is_number (take count bytes) ≡ true
number_is bytes count within digits some lead =
    let long : length (take count bytes) ≡ count = length-take-le count bytes within in
    let any : nat_lt 0 (length (take count bytes)) ≡ true = grind (arith, nat_tests, long, some) in
    let first : get_or (take count bytes) 0 0 ≡ get_or bytes 0 0 = get_or-take count bytes 0 0 some in
    rw (any, digits, long, first) (by_count count (get_or bytes 0 0) lead)

-- digits without a leading zero are the number there
pub number_stands : (bytes : List ℕ) (count value : ℕ) → IsDigitsSoFar bytes count value → 0 < count
    → (1 < count → get_or bytes 0 0 ≡ 48 → ⊥)
    → value < 2 ^ 64 → bytes ≡ decimal value ++ take (length bytes - count) (drop count bytes)
number_stands bytes count value so_far some lead small =
    let field = take count bytes in
    let spelled = number_spelled field (number_is bytes count so_far.within so_far.digits some lead) (omega (arith, so_far.value_is, small)) in
    let text : field ≡ decimal value = spelled ∙ ap decimal (sym so_far.value_is) in
    sym (take-append-drop count bytes) ∙ ap (λ (f : List ℕ). f ++ drop count bytes) text ∙ ap (λ (r : List ℕ). decimal value ++ r) (sym (take_rest bytes count))

-- ---- no number is there

by_bool : {A B : Type 0} (b : Bool) → (b ≡ true → A) → (b ≡ false → B) → MatchBool b A B
by_bool true held failed = held refl
by_bool false held failed = failed refl

-- eight bytes are equal if they make the same number
pub same_eight : (xs ys : List ℕ) (m n : ℕ) → length xs ≡ 8 → length ys ≡ 8 → ((i : ℕ) → get_or xs i 0 < 256)
    → ((i : ℕ) → get_or ys i 0 < 256)
    → m ≡ from_le_bytes w64 xs → n ≡ from_le_bytes w64 ys → MatchBool (m == n) (xs ≡ ys) (xs ≡ ys → ⊥)
same_eight xs ys m n xs_long ys_long xs_fit ys_fit m_is n_is =
    by_bool (m == n) (λ e.
    let one : m ≡ n = grind (arith, nat_tests, e) in
    sym (le_bytes_8 xs m xs_long xs_fit m_is) ∙ ap (to_le_bytes w64) one ∙ le_bytes_8 ys n ys_long ys_fit n_is)
    (λ e same.
    let one : m ≡ n = m_is ∙ ap (from_le_bytes w64) same ∙ sym n_is in
    let test : (m == n) ≡ true = grind (arith, nat_tests, one) in
    absurd (cc (test, e)))
