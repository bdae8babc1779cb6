-- The fields of a line, one after another.
use Rattle.text_lines.proofs.Common.{take_rest, ◌≡◌, ℕ, ◌+◌, ◌-◌, ◌<◌, List, [], ◌∷◌, ◌++◌, length, get_or, take, drop}
use Rattle.text_lines.proofs.Common.{arith}
use Rattle.text_lines.proofs.Common.{ap, sym, ◌∙◌, refl, false, suc, Bool, true, cond, inl, inr}
use Rattle.text_lines.proofs.Common.{take-append-drop, get_or-take, length-take-le, All-from_get_or}
use Rattle.text_lines.proofs.Common.{slice_split_at, slice_split_none, eqb_tells, nat_tests, ◌==◌, fields_of}
use Rattle.std.proofs.Common.{add-one, drop-cons}
use Rattle.std.specs.List.{onto_first, slice_split}

abbrev is_space : ℕ → Bool
is_space b = b == 32

-- bytes split at each separator
module _ (separator : ℕ) where
  abbrev parts : List ℕ → List (List ℕ)
  parts bytes = slice_split (λ b. b == separator) bytes

  -- any other byte isn't a separator
  other_byte : (b : ℕ) → (b ≡ separator → ⊥) → (b == separator) ≡ false
  other_byte b other = elim (eqb_tells b separator) [ inl h ↦ absurd (other h.1) | inr h ↦ h.0 ]

  -- bytes without a separator are one part
  pub is_one_part : (bytes : List ℕ) → ((k : ℕ) → k < length bytes → get_or bytes k 0 ≡ separator → ⊥)
      → parts bytes ≡ bytes ∷ []
  is_one_part bytes none = slice_split_none (λ b. b == separator) bytes
      (All-from_get_or (λ b. (b == separator) ≡ false) bytes 0 (λ k h. other_byte (get_or bytes k 0) (none k h)))

  -- the first part ends at the first separator
  pub cut_at_first : (bytes : List ℕ) (i : ℕ) → i < length bytes → ((k : ℕ) → k < i → get_or bytes k 0 ≡ separator → ⊥)
      → get_or bytes i 0 ≡ separator
      → parts bytes ≡ take i bytes ∷ parts (take (length bytes - (i + 1)) (drop (i + 1) bytes))
  cut_at_first bytes i within none here =
      let front = take i bytes in
      let front_length : length front ≡ i = length-take-le i bytes (omega arith) in
      let clean = All-from_get_or (λ b. (b == separator) ≡ false) front 0
      (λ k h. let below : k < i = omega (arith, front_length) in rw (get_or-take i bytes k 0 below) (other_byte (get_or bytes k 0) (none k below))) in
      let cut : drop i bytes ≡ separator ∷ drop (i + 1) bytes = rw (add-one, drop-cons bytes i 0) (ap (λ (b : ℕ). b ∷ drop (suc i) bytes) here) in
      let whole : front ++ separator ∷ drop (i + 1) bytes ≡ bytes = rw (← cut) (take-append-drop i bytes) in
      let split = slice_split_at (λ b. b == separator) front separator (drop (i + 1) bytes) clean (grind (arith, nat_tests)) in
      sym (ap parts whole) ∙ split ∙ ap (λ (r : List ℕ). front ∷ parts r) (sym (take_rest bytes (i + 1)))

-- each line has a first field
pub has_field : (bytes : List ℕ) → (field : List ℕ) × (others : List (List ℕ)) × (fields_of bytes ≡ field ∷ others)
has_field [] = ([], [], refl)
has_field (b ∷ bytes) =
    elim (is_space b) as (λ v. (field : List ℕ) × (others : List (List ℕ))
    × (cond v ([] ∷ fields_of bytes) (onto_first b (fields_of bytes)) ≡ field ∷ others)) [
      | true ↦ ([], fields_of bytes, refl)
      | false ↦ let rest = has_field bytes in (b ∷ rest.0, rest.1, ap (onto_first b) rest.2)
    ]
