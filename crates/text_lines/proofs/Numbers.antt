-- Numbers and words, read as they are spelled.
use Rattle.text_lines.proofs.Common.{◌≡◌, ℕ, ◌^◌, ◌<◌, ◌≤◌, List, length, Bool, true, false, ◌&&◌, cond, nat_lt}
use Rattle.text_lines.proofs.Common.{nat_le, arith, rules, ap, sym, subst, ◌∙◌, refl, inl, inr, ◌⊎◌, Ok, Err, ◌==◌}
use Rattle.text_lines.proofs.Common.{decimal, Result, is_ascii_digit, list_all, bytes_eq, digits_value, nat_tests}
use Rattle.text_lines.proofs.Common.{numerals_by_value, TextFault, ◌>>=◌, is_number, number_in, number_between}
use Rattle.text_lines.proofs.Common.{end_in}
use Rattle.std.proofs.lemmas.Slice.Eq.{bytes_eq-Decides}
use Rattle.std.proofs.lemmas.Str.Parse.{IsDigitsTest}
use Rattle.std.proofs.lemmas.Fmt.{decimal-digits_value}

-- the branch that a test took
pub chosen : {X : Type 0} (b : Bool) (x y z : X) → cond b x y ≡ z → ((b ≡ true) × (x ≡ z)) ⊎ ((b ≡ false) × (y ≡ z))
chosen true x y z e = inl (refl, e)
chosen false x y z e = inr (refl, e)

-- if a conjunction holds, so does each part
pub both : (a b : Bool) → (a && b) ≡ true → (a ≡ true) × (b ≡ true)
both true b e = (refl, e)
both false b e = absurd (cc)

-- if two steps give no fault, neither does each
pub bind_ok : {A B : Type 0} (r : Result A TextFault) (f : A → Result B TextFault) (y : B) → (r >>= f) ≡ Ok y
    → (x : A) × (r ≡ Ok x) × (f x ≡ Ok y)
bind_ok (Ok x) f y e = (x, refl, e)
bind_ok (Err d) f y e = absurd (cc)

-- texts that are found equal are equal
pub text_is : (xs ys : List ℕ) → bytes_eq xs ys ≡ true → xs ≡ ys
text_is xs ys e = (bytes_eq-Decides xs ys).0 e

-- ---- numbers

-- the test of digits decides whether all are digits
pub digits_test : IsDigitsTest (λ ds. list_all is_ascii_digit ds ≡ true)
digits_test = search rules

-- a number field is spelled as its number is written
pub number_spelled : (field : List ℕ) → is_number field ≡ true → digits_value 10 field < 2 ^ 64
    → field ≡ decimal (digits_value 10 field)
number_spelled field e small =
    let p = both (nat_lt 0 (length field)) _ e in
    let q = both (list_all is_ascii_digit field) _ p.1 in
    sym (decimal-digits_value (numerals_by_value _ digits_test) field q.0 (grind (arith, nat_tests, p.0)) (λ lead. grind (arith, nat_tests, p.0, q.1)) small)

-- a number field that is read is the written number, and not too great
pub number_ok : (n greatest : ℕ) (field : List ℕ) (v : ℕ) → greatest < 2 ^ 64 → number_in n greatest field ≡ Ok v
    → (field ≡ decimal v) × (v ≤ greatest)
number_ok n greatest field v small e =
    elim (chosen (is_number field) _ _ _ e) [
      | inl h ↦ elim (chosen (nat_le (digits_value 10 field) greatest) _ _ _ h.1) [
        | inl k ↦
            let value : digits_value 10 field ≡ v = cc (k.1) in
            let within : digits_value 10 field ≤ greatest = grind (arith, nat_tests, k.0) in
            subst (λ (w : ℕ). (field ≡ decimal w) × (w ≤ greatest)) value (number_spelled field h.0 (omega (arith, within)), within)
        | inr k ↦ absurd (cc (k.1))
      ]
      | inr h ↦ absurd (cc (h.1))
    ]

-- a number field in a range is read as the written number
pub between_ok : (n least greatest : ℕ) (field : List ℕ) (v : ℕ) → greatest < 2 ^ 64
    → number_between n least greatest field ≡ Ok v
    → (field ≡ decimal v) × (least ≤ v) × (v ≤ greatest)
between_ok n least greatest field v small e =
    let a = bind_ok (number_in n greatest field) _ v e in
    let is = number_ok n greatest field a.0 small a.1 in
    elim (chosen (nat_le least a.0) _ _ _ a.2) [
      | inl h ↦
          let same : a.0 ≡ v = cc (h.1) in
          let more : least ≤ a.0 = grind (arith, nat_tests, h.0) in
          subst (λ (w : ℕ). (field ≡ decimal w) × (least ≤ w) × (w ≤ greatest)) same (is.0, more, is.1)
      | inr h ↦ absurd (cc (h.1))
    ]

-- the number of a last line is read as the written number
pub end_ok : (n k : ℕ) (field : List ℕ) (u : Unit {0}) → k < 2 ^ 64 → end_in n k field ≡ Ok u → field ≡ decimal k
end_ok n k field u small e =
    elim (chosen (is_number field) _ _ _ e) [
      | inl h ↦ elim (chosen (digits_value 10 field == k) _ _ _ h.1) [
        | inl same ↦
            let value : digits_value 10 field ≡ k = grind (arith, nat_tests, same.0) in
            number_spelled field h.0 (omega arith) ∙ ap decimal value
        | inr other ↦ absurd (cc (other.1))
      ]
      | inr h ↦ absurd (cc (h.1))
    ]
