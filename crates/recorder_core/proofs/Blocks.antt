-- Lists made of one block for each thread, and numbers that are in a list at most once.
use Rattle.std.proofs.Common.{◌≡◌, ◌≢◌, ℕ, zero, suc, ◌+◌, ◌<◌, ◌≤◌, Bool, true, cond, List, [], ◌∷◌, ◌++◌, map}
use Rattle.std.proofs.Common.{refl, sym, ◌∙◌, ap, subst, inl, inr}
use Rattle.std.proofs.Common.{arith, eqb, append_assoc, add-one}
use Rattle.std.specs.Prelude.{AllPairs, Contains, count_by, flat_map, IsPermutation}
use Rattle.std.specs.List.{range_with_len}
use Rattle.std.proofs.lemmas.Bool.{cases_eq, eq-eqb, ne_eqb}
use Rattle.std.proofs.lemmas.List.{append-nil, map-id, map_push}
use Rattle.std.proofs.lemmas.List.Concat.{flat_map-append}
use Rattle.std.proofs.lemmas.List.FromFn.{map-range_with_len_more}
use Rattle.std.proofs.lemmas.List.Sorted.{IsPermutation-refl, IsPermutation-trans, IsPermutation-append_left}
use Rattle.std.proofs.lemmas.List.Sorted.{IsPermutation-append_right}
use Rattle.std.proofs.lemmas.List.Sorted.{IsPermutation-append_comm, sum_by-IsPermutation}
use Rattle.std.proofs.lemmas.List.Sums.{sum_by-cons}
use Rattle.recorder_core.proofs.Members.{pairs_cons}
use Rattle.history_merge.proofs.Distinct.{contains_cons, not_in_none}

-- ---- blocks

-- the blocks of the first n threads, joined
abbrev pub blocks : {X : Type 0} → (ℕ → List X) → ℕ → List X
blocks f zero = []
blocks f (suc n) = blocks f n ++ f n

-- equal blocks make equal lists
pub blocks_same : {X : Type 0} (f g : ℕ → List X) (n : ℕ) → ((t : ℕ) → t < n → f t ≡ g t) → blocks f n ≡ blocks g n
blocks_same f g zero same = refl
blocks_same {X} f g (suc n) same = ap (λ (l : List X). l ++ f n) (blocks_same f g n (λ t below. same t (omega arith)))
    ∙ ap (λ (l : List X). blocks g n ++ l) (same n (omega arith))

-- equal lists are permutations
pub same_permutation : {X : Type 0} (xs ys : List X) → xs ≡ ys → IsPermutation xs ys
same_permutation xs ys same = subst (IsPermutation xs) same (IsPermutation-refl xs)

-- blocks without elements make an empty list
pub no_blocks : {X : Type 0} (n : ℕ) → [] ≡ blocks (λ (t : ℕ). let none : List X = [] in none) n
no_blocks zero = refl
no_blocks (suc n) = no_blocks n ∙ sym (append-nil _)

-- one block grows at its end, and the others don't change
pub blocks_grow : {X : Type 0} (f g : ℕ → List X) (u n : ℕ) (more : List X) → u < n → g u ≡ f u ++ more
    → ((t : ℕ) → (u ≡ t → ⊥) → g t ≡ f t)
    → IsPermutation (blocks f n ++ more) (blocks g n)
blocks_grow f g u zero more within here others = absurd (omega arith)
blocks_grow {X} f g u (suc n) more within here others = elim (cases_eq u n) [
  | inl same ↦
      let before : blocks f n ≡ blocks g n = blocks_same f g n (λ t below. sym (others t (λ e. omega arith))) in
      let last : g n ≡ f n ++ more = rw (← same) here in
      same_permutation _ _ (append_assoc (blocks f n) (f n) more ∙ ap (λ (l : List X). l ++ (f n ++ more)) before
      ∙ ap (λ (l : List X). blocks g n ++ l) (sym last))
  | inr other ↦
      let ih = blocks_grow f g u n more (omega arith) here others in
      let a = same_permutation _ _ (append_assoc (blocks f n) (f n) more) in
      let b = IsPermutation-append_right (blocks f n) _ _ (IsPermutation-append_comm (f n) more) in
      let c = same_permutation _ _ (sym (append_assoc (blocks f n) more (f n))) in
      let d = IsPermutation-append_left (f n) _ _ ih in
      let e = same_permutation _ _ (ap (λ (l : List X). blocks g n ++ l) (sym (others n other))) in
      IsPermutation-trans _ _ _ a (IsPermutation-trans _ _ _ b (IsPermutation-trans _ _ _ c (IsPermutation-trans _ _ _ d e)))
]

-- one block grows at its front, and the others don't change
pub blocks_lead : {X : Type 0} (f g : ℕ → List X) (u n : ℕ) (more : List X) → u < n → g u ≡ more ++ f u
    → ((t : ℕ) → (u ≡ t → ⊥) → g t ≡ f t)
    → IsPermutation (more ++ blocks f n) (blocks g n)
blocks_lead f g u zero more within here others = absurd (omega arith)
blocks_lead {X} f g u (suc n) more within here others = elim (cases_eq u n) [
  | inl same ↦
      let before : blocks f n ≡ blocks g n = blocks_same f g n (λ t below. sym (others t (λ e. omega arith))) in
      let last : g n ≡ more ++ f n = rw (← same) here in
      let a = same_permutation _ _ (sym (append_assoc more (blocks f n) (f n))) in
      let b = IsPermutation-append_left (f n) _ _ (IsPermutation-append_comm more (blocks f n)) in
      let c = same_permutation _ _ (append_assoc (blocks f n) more (f n) ∙ ap (λ (l : List X). l ++ (more ++ f n)) before
      ∙ ap (λ (l : List X). blocks g n ++ l) (sym last)) in
      IsPermutation-trans _ _ _ a (IsPermutation-trans _ _ _ b c)
  | inr other ↦
      let a = same_permutation _ _ (sym (append_assoc more (blocks f n) (f n))) in
      let b = IsPermutation-append_left (f n) _ _ (blocks_lead f g u n more (omega arith) here others) in
      let c = same_permutation _ _ (ap (λ (l : List X). blocks g n ++ l) (sym (others n other))) in
      IsPermutation-trans _ _ _ a (IsPermutation-trans _ _ _ b c)
]

-- ---- ranges

-- a range with one more number
pub range_more : (n : ℕ) → range_with_len 0 (suc n) ≡ range_with_len 0 n ++ n ∷ []
range_more n =
    sym (map-id (range_with_len 0 (suc n)))
    ∙ ap (λ (m : ℕ). map (λ (x : ℕ). x) (range_with_len 0 m)) (sym (add-one n))
    ∙ map-range_with_len_more (λ x. x) 0 n n (omega arith)
    ∙ ap (λ (l : List ℕ). l ++ n ∷ []) (map-id (range_with_len 0 n))

-- the lists of the first n threads, joined
pub joined_blocks : {X : Type 0} (f : ℕ → List X) (n : ℕ) → flat_map (λ l. l) (map f (range_with_len 0 n)) ≡ blocks f n
joined_blocks f zero = refl
joined_blocks {X} f (suc n) =
    ap (λ (l : List ℕ). flat_map (λ (x : List X). x) (map f l)) (range_more n)
    ∙ ap (flat_map (λ (x : List X). x)) (map_push f (range_with_len 0 n) n)
    ∙ flat_map-append (λ (x : List X). x) (map f (range_with_len 0 n)) (f n ∷ [])
    ∙ ap (λ (l : List X). l ++ (f n ++ [])) (joined_blocks f n)
    ∙ ap (λ (l : List X). blocks f n ++ l) (append-nil (f n))

-- ---- lists without repeated keys

-- no two items have the same key
abbrev pub Once : {X : Type 0} → (X → ℕ) → List X → Type 0
Once key xs = (v : ℕ) → count_by (λ x. eqb (key x) v) xs ≤ 1

at_least_one : {X : Type 0} (p : X → Bool) (xs : List X) (x : X) → Contains xs x → p x ≡ true → 1 ≤ count_by p xs
at_least_one p [] x among passes = absurd (not_in_none x among)
at_least_one p (y ∷ xs) x among passes = elim (contains_cons y xs x among) [
  | inl same ↦ let e : ◌≡◌ {A = ℕ} (cond (p y) 1 0) 1 = rw (same, passes) refl in omega (arith, sum_by-cons (λ x. cond (p x) 1 0) y xs, e)
  | inr later ↦ omega (arith, sum_by-cons (λ x. cond (p x) 1 0) y xs, at_least_one p xs x later passes)
]

-- the first element of a list and a later one have different keys
first_apart : {X : Type 0} (key : X → ℕ) (x : X) (xs : List X) (y : X) → Once key (x ∷ xs) → Contains xs y
    → key x ≢ key y
first_apart key x xs y once among same =
    let here : ◌≡◌ {A = ℕ} (cond (eqb (key x) (key y)) 1 0) 1 = rw (eq-eqb (key x) (key y) same) refl in
    let there = at_least_one (λ z. eqb (key z) (key y)) xs y among (eq-eqb (key y) (key y) refl) in
    omega (arith, once (key y), sum_by-cons (λ z. cond (eqb (key z) (key y)) 1 0) x xs, here, there)

once_later : {X : Type 0} (key : X → ℕ) (x : X) (xs : List X) → Once key (x ∷ xs) → Once key xs
once_later key x xs once v = omega (arith, once v, sum_by-cons (λ z. cond (eqb (key z) v) 1 0) x xs)

-- elements with the same key are equal, in a list without repeated keys
pub once_same : {X : Type 0} (key : X → ℕ) (xs : List X) (x y : X) → Once key xs → Contains xs x → Contains xs y
    → key x ≡ key y → x ≡ y
once_same key [] x y once in_x in_y same = absurd (not_in_none x in_x)
once_same key (z ∷ xs) x y once in_x in_y same = elim (contains_cons z xs x in_x) [
  | inl here ↦ elim (contains_cons z xs y in_y) [
    | inl here' ↦ sym here ∙ here'
    | inr later ↦ absurd (first_apart key z xs y once later (ap key here ∙ same))
  ]
  | inr later ↦ elim (contains_cons z xs y in_y) [
    | inl here ↦ absurd (first_apart key z xs x once later (ap key here ∙ sym same))
    | inr later' ↦ once_same key xs x y (once_later key z xs once) later later' same
  ]
]

-- in a list without repeated keys, the keys of each pair differ
pub once_apart : {X : Type 0} (key : X → ℕ) (xs : List X) → Once key xs → AllPairs (λ x y. key x ≢ key y) xs
once_apart key [] once = λ i j d below within. absurd (omega arith)
once_apart key (x ∷ xs) once = pairs_cons (λ a b. key a ≢ key b) x xs (λ y among. first_apart key x xs y once among)
    (once_apart key xs (once_later key x xs once))

-- a permutation of a list without repeated keys has none
pub once_permutation : {X : Type 0} (key : X → ℕ) (xs ys : List X) → IsPermutation xs ys → Once key xs → Once key ys
once_permutation key xs ys moved once v = omega (arith, once v, sum_by-IsPermutation (λ x. cond (eqb (key x) v) 1 0) xs ys moved)

-- elements with keys that aren't repeated aren't repeated
pub once_map : {X : Type 0} (key : X → ℕ) (xs : List X) → Once (λ n. n) (map key xs) → Once key xs
once_map key xs once v = omega (arith, once v, count_map key v xs)
  where
    count_map : {Y : Type 0} (k : Y → ℕ) (w : ℕ) (ys : List Y)
        → count_by (λ y. eqb (k y) w) ys ≡ count_by (λ n. eqb n w) (map k ys)
    count_map k w [] = refl
    count_map k w (y ∷ ys) = omega (
      arith,
      sum_by-cons (λ z. cond (eqb (k z) w) 1 0) y ys,
      sum_by-cons (λ n. cond (eqb n w) 1 0) (k y) (map k ys),
      count_map k w ys,
    )

-- no number of a range above v is v
none_of_lower : (v a n : ℕ) → v < a → count_by (λ x. eqb x v) (range_with_len a n) ≡ 0
none_of_lower v a zero below = refl
none_of_lower v a (suc n) below =
    let here : ◌≡◌ {A = ℕ} (cond (eqb a v) 1 0) 0 = rw (ne_eqb a v (λ e. omega arith)) refl in
    omega (arith, sum_by-cons (λ x. cond (eqb x v) 1 0) a (range_with_len (a + 1) n), here, none_of_lower v (a + 1) n (omega arith))

-- a range has no number twice
pub once_range : (a n : ℕ) → Once (λ x. x) (range_with_len a n)
once_range a zero v = omega arith
once_range a (suc n) v = elim (cases_eq a v) [
  | inl same ↦
      let here : ◌≡◌ {A = ℕ} (cond (eqb a v) 1 0) 1 = rw (eq-eqb a v same) refl in
      omega (arith, sum_by-cons (λ x. cond (eqb x v) 1 0) a (range_with_len (a + 1) n), here, none_of_lower v (a + 1) n (omega arith))
  | inr other ↦
      let here : ◌≡◌ {A = ℕ} (cond (eqb a v) 1 0) 0 = rw (ne_eqb a v other) refl in
      omega (arith, sum_by-cons (λ x. cond (eqb x v) 1 0) a (range_with_len (a + 1) n), here, once_range (a + 1) n v)
]
