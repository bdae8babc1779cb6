-- Numbers counted in blocks: the block of a number, the effect of a new number, and how many are below a given one.
use Rattle.std.proofs.Common.{◌≡◌, ℕ, zero, suc, ◌+◌, ◌-◌, ◌<◌, ◌≤◌, ◌++◌, List, [], ◌∷◌, length, get_or, cond, refl}
use Rattle.std.proofs.Common.{sym, ◌∙◌, ap, Bool, true, false}
use Rattle.std.proofs.Common.{inl, inr, arith, ◌⊎◌, ◌≢◌}
use Rattle.std.proofs.Math.ListN.{set, length-set, get_or-eq_default}
use Rattle.std.proofs.Math.Seq.{get_or-append_seam}
use Rattle.std.proofs.lemmas.List.{length_push, length-replicate, get_or-replicate, get_or_append_left}
use Rattle.std.proofs.lemmas.List.{get_or-set_same, get_or-set_other}
use Rattle.std.specs.Prelude.{replicate, ◌/◌, ◌%◌, count_by, nat_eq, nat_lt}
use Rattle.std.proofs.lemmas.Bool.{cases_eq, cases_lt, eq-eqb, le-ltb, ne_eqb}
use Rattle.std.proofs.lemmas.Bool.Decides.{nat_tests}
use Rattle.std.proofs.lemmas.List.Sums.{sum_by-cons, sum_by_push, count_by-le-length}
use Rattle.history_stats.specs.Inner.Tally.{halved, HasLevels, HasRoomFor, Counts, IsTally}

-- a greater number is in no earlier block
pub halved_rises : (x y k : ℕ) → x ≤ y → halved x k ≤ halved y k
halved_rises x y zero le = le
halved_rises x y (suc k) le = let more = halved_rises x y k le in omega (arith, more)

-- no block is greater than the number in it
pub halved_less : (x k : ℕ) → halved x k ≤ x
halved_less x zero = omega arith
halved_less x (suc k) = let more = halved_less x k in omega (arith, more)

-- the block of the next level
pub halved_more : (x k : ℕ) → halved x (k + 1) ≡ halved x k / 2
halved_more x k = let next : k + 1 ≡ suc k = omega arith in ap (halved x) next

-- ---- numbers below a block

-- below an odd block are the block before it, and those below its half
below_odd : (a b : ℕ) → b % 2 ≡ 1
    → cond (nat_lt a b) 1 0 ≡ cond (nat_eq a (b - 1)) 1 0 + cond (nat_lt (a / 2) (b / 2)) 1 0
below_odd a b odd = grind (arith, nat_tests)

-- below an even block are those below its half
below_even : (a b : ℕ) → b % 2 ≡ 0 → ◌≡◌ {A = ℕ} (cond (nat_lt a b) 1 0) (cond (nat_lt (a / 2) (b / 2)) 1 0)
below_even a b even = grind (arith, nat_tests)

pub count_odd : (k b : ℕ) (numbers : List ℕ) → b % 2 ≡ 1 → count_by (λ x. nat_lt (halved x k) b) numbers
    ≡ count_by (λ x. nat_eq (halved x k) (b - 1)) numbers + count_by (λ x. nat_lt (halved x k / 2) (b / 2)) numbers
count_odd k b [] odd = refl
count_odd k b (x ∷ xs) odd = omega (
  arith,
  sum_by-cons (λ x. cond (nat_lt (halved x k) b) 1 0) x xs,
  sum_by-cons (λ x. cond (nat_eq (halved x k) (b - 1)) 1 0) x xs,
  sum_by-cons (λ x. cond (nat_lt (halved x k / 2) (b / 2)) 1 0) x xs,
  below_odd (halved x k) b odd,
  count_odd k b xs odd,
)

pub count_even : (k b : ℕ) (numbers : List ℕ) → b % 2 ≡ 0 → count_by (λ x. nat_lt (halved x k) b) numbers
    ≡ count_by (λ x. nat_lt (halved x k / 2) (b / 2)) numbers
count_even k b [] even = refl
count_even k b (x ∷ xs) even = omega (
  arith,
  sum_by-cons (λ x. cond (nat_lt (halved x k) b) 1 0) x xs,
  sum_by-cons (λ x. cond (nat_lt (halved x k / 2) (b / 2)) 1 0) x xs,
  below_even (halved x k) b even,
  count_even k b xs even,
)

-- no number is below block 0
pub count_none_below : (k : ℕ) (numbers : List ℕ) → count_by (λ x. nat_lt (halved x k) 0) numbers ≡ 0
count_none_below k [] = refl
count_none_below k (x ∷ xs) = sum_by-cons (λ x. cond (nat_lt (halved x k) 0) 1 0) x xs ∙ (λ i. cond (le-ltb (halved x k) 0 (omega arith) i) 1 0 + count_none_below k xs i)

-- the next level counts the same by halves
next_level : (level block next : ℕ) (numbers : List ℕ) → next ≡ block / 2
    → count_by (λ x. nat_lt (halved x (level + 1)) next) numbers
    ≡ count_by (λ x. nat_lt (halved x level / 2) (block / 2)) numbers
next_level level block next numbers halves = λ i. count_by (λ x. nat_lt (halved_more x level i) (halves i)) numbers

-- ---- one more number

-- in the levels below this one the number was added to its block, and the others are unchanged
pub record AddedBelow (number level block : ℕ) (before now : List (List ℕ)) : Type 0 where
  pub same : length now ≡ length before
  pub here : block ≡ halved number level
  pub sizes : (k : ℕ) → length (get_or now k []) ≡ length (get_or before k [])
  pub done : (k j : ℕ) → k < level
      → get_or (get_or now k []) j 0 ≡ get_or (get_or before k []) j 0 + cond (nat_eq (halved number k) j) 1 0
  pub left : (k : ℕ) → level ≤ k → get_or now k [] ≡ get_or before k []

-- a number with room has a block in each level
pub block_within : (number level : ℕ) (levels : List (List ℕ)) → HasRoomFor number levels → level < length levels
    → halved number level < length (get_or levels level [])
block_within number level levels room within =
    omega (arith, room.is_tally.has_levels.wide level within, halved_rises number room.limit level room.within)

-- each block has a count that fits
pub count_fits : (number level block : ℕ) (levels : List (List ℕ)) → HasRoomFor number levels → level < length levels
    → get_or (get_or levels level []) block 0 < 4611686018427387904
count_fits number level block levels room within =
    omega (arith, room.is_tally.counts level block within, count_by-le-length (λ x. nat_eq (halved x level) block) room.numbers, room.few)

-- one more level has it added
pub added_more : (number level block next : ℕ) (before now new : List (List ℕ)) → level < length now
    → block < length (get_or now level [])
    → AddedBelow number level block before now
    → new ≡ set now level (set (get_or now level []) block (get_or (get_or now level []) block 0 + 1))
    → next ≡ block / 2 → AddedBelow number (level + 1) next before new
added_more number level block next before now new within fits was is halves = record {
  same = ap length is ∙ length-set now level _ ∙ was.same;
  here = halves ∙ ap (λ b. b / 2) was.here ∙ sym (halved_more number level);
  sizes = sizes;
  done = done;
  left = λ k above. ap (λ l. get_or l k []) is ∙ get_or-set_other now level k _ [] (omega arith) ∙ was.left k (omega arith);
}
  where
    changed : List ℕ
    changed = set (get_or now level []) block (get_or (get_or now level []) block 0 + 1)

    at : (k : ℕ) → ((k ≡ level) × (get_or new k [] ≡ changed)) ⊎ ((k ≢ level) × (get_or new k [] ≡ get_or now k []))
    at k = elim (cases_eq k level) [
      | inl same ↦ inl (same, ap (λ l. get_or l k []) is ∙ ap (λ n. get_or (set now level changed) n []) same ∙ get_or-set_same now level changed [] within)
      | inr other ↦ inr (other, ap (λ l. get_or l k []) is ∙ get_or-set_other now level k changed [] other)
    ]

    sizes : (k : ℕ) → length (get_or new k []) ≡ length (get_or before k [])
    sizes k = elim (at k) [
      | inl same ↦ ap length same.1 ∙ length-set (get_or now level []) block _ ∙ ap (λ n. length (get_or now n [])) (sym same.0) ∙ was.sizes k
      | inr other ↦ ap length other.1 ∙ was.sizes k
    ]

    changed_at : (j : ℕ) → get_or changed j 0
        ≡ get_or (get_or before level []) j 0 + cond (nat_eq (halved number level) j) 1 0
    changed_at j = elim (cases_eq j block) [
      | inl same ↦
          ap (λ n. get_or changed n 0) same ∙ get_or-set_same (get_or now level []) block _ 0 fits
          ∙ (λ i. get_or (was.left level (omega arith) i) (sym same i) 0 + cond (sym (eq-eqb (halved number level) j (sym was.here ∙ sym same)) i) 1 0)
      | inr other ↦
          get_or-set_other (get_or now level []) block j _ 0 other
          ∙ omega (
            arith,
            ap (λ l. get_or l j 0) (was.left level (omega arith)),
            ap {B = ℕ} (λ b. cond b 1 0) (ne_eqb (halved number level) j (λ e. other (sym e ∙ sym was.here))),
          )
    ]

    done : (k j : ℕ) → k < level + 1
        → get_or (get_or new k []) j 0 ≡ get_or (get_or before k []) j 0 + cond (nat_eq (halved number k) j) 1 0
    done k j below = elim (at k) [
      | inl same ↦ ap (λ l. get_or l j 0) same.1 ∙ changed_at j ∙ ap (λ n. get_or (get_or before n []) j 0 + cond (nat_eq (halved number n) j) 1 0) (sym same.0)
      | inr other ↦ ap (λ l. get_or l j 0) other.1 ∙ was.done k j (omega (arith, other.0))
    ]

-- all levels have it added
pub added_all : (limit number level block : ℕ) (numbers : List ℕ) (before now : List (List ℕ)) → length now ≤ level
    → AddedBelow number level block before now
    → IsTally limit numbers before → IsTally limit (numbers ++ number ∷ []) now
added_all limit number level block numbers before now all added is = record {
  has_levels = record { wide = λ k below. omega (arith, is.has_levels.wide k, added.sizes k, added.same); ends = ap (halved limit) added.same ∙ is.has_levels.ends };
  counts = λ k j below. added.done k j (omega arith) ∙ ap (λ n. n + cond (nat_eq (halved number k) j) 1 0) (is.counts k j (omega (arith, added.same)))
      ∙ sym (sum_by_push (λ x. cond (nat_eq (halved x k) j) 1 0) numbers number);
}

-- ---- the number of numbers below a given one

-- in the levels below this one the numbers below the block were counted, and the rest are in blocks below this one
pub record CountedBelow (number level block below : ℕ) (levels : List (List ℕ)) : Type 0 where
  pub here : block ≡ halved number level
  pub counted : (limit : ℕ) (numbers : List ℕ) → IsTally limit numbers levels
      → below + count_by (λ x. nat_lt (halved x level) block) numbers ≡ count_by (λ x. nat_lt x number) numbers

-- with the block before an odd one, at most all numbers are counted
pub count_in_all : (number level block below : ℕ) (levels : List (List ℕ)) → HasRoomFor number levels
    → level < length levels → block % 2 ≡ 1
    → CountedBelow number level block below levels
    → below + get_or (get_or levels level []) (block - 1) 0 < 4611686018427387904
count_in_all number level block below levels room within odd was = omega (
  arith,
  was.counted room.limit room.numbers room.is_tally,
  room.is_tally.counts level (block - 1) within,
  count_odd level block room.numbers odd,
  count_by-le-length (λ x. nat_lt x number) room.numbers,
  room.few,
)

-- a level of an odd block adds the block before it
pub below_more : (number level block below found next : ℕ) (levels : List (List ℕ)) → level < length levels
    → block % 2 ≡ 1 → next ≡ block / 2
    → found ≡ get_or (get_or levels level []) (block - 1) 0 → CountedBelow number level block below levels
    → CountedBelow number (level + 1) next (below + found) levels
below_more number level block below found next levels within odd halves is was = record {
  here = halves ∙ ap (λ b. b / 2) was.here ∙ sym (halved_more number level);
  counted = λ limit numbers tally. omega (
    arith,
    was.counted limit numbers tally,
    tally.counts level (block - 1) within,
    count_odd level block numbers odd,
    next_level level block next numbers halves,
  );
}

-- a level of an even block adds nothing
pub below_same : (number level block below next : ℕ) (levels : List (List ℕ)) → block % 2 ≡ 0 → next ≡ block / 2
    → CountedBelow number level block below levels → CountedBelow number (level + 1) next below levels
below_same number level block below next levels even halves was = record {
  here = halves ∙ ap (λ b. b / 2) was.here ∙ sym (halved_more number level);
  counted = λ limit numbers tally. omega (
    arith,
    was.counted limit numbers tally,
    count_even level block numbers even,
    next_level level block next numbers halves,
  );
}

-- after all levels nothing is left
pub below_all : (number level block below limit : ℕ) (numbers : List ℕ) (levels : List (List ℕ))
    → length levels ≡ level → number ≤ limit
    → CountedBelow number level block below levels → IsTally limit numbers levels
    → below ≡ count_by (λ x. nat_lt x number) numbers
below_all number level block below limit numbers levels all within was tally =
    let none : block ≡ 0 = omega (arith, was.here, halved_rises number limit level within, ap (halved limit) all, tally.has_levels.ends) in
    omega (arith, was.counted limit numbers tally, count_none_below level numbers, ap (λ b. count_by (λ x. nat_lt (halved x level) b) numbers) none)

-- ---- a tally of no numbers

-- the levels so far count nothing, and this is the last block of the next one
pub record HasEmptyLevels (limit last : ℕ) (levels : List (List ℕ)) : Type 0 where
  pub next : last ≡ halved limit (length levels)
  pub wide : (k : ℕ) → k < length levels → halved limit k < length (get_or levels k [])
  pub empty : (k j : ℕ) → k < length levels → get_or (get_or levels k []) j 0 ≡ 0

-- a list of zeros has only zeros
zero_at : (n j : ℕ) → ◌≡◌ {A = ℕ} (get_or (replicate n 0) j 0) 0
zero_at n j = elim (cases_lt j n) [
  | inl below ↦ get_or-replicate n j 0 0 below
  | inr above ↦ get_or-eq_default (replicate {A = ℕ} n 0) 0 (omega (arith, length-replicate {A = ℕ} n 0))
]

-- one more level
pub empty_more : (limit last next : ℕ) (levels : List (List ℕ)) → next ≡ last / 2 → HasEmptyLevels limit last levels
    → HasEmptyLevels limit next (levels ++ replicate (last + 1) 0 ∷ [])
empty_more limit last next levels halves was = record {
  next = halves ∙ ap (λ b. b / 2) was.next ∙ sym (halved_more limit (length levels)) ∙ ap (halved limit) (sym (length_push levels (replicate (last + 1) 0)));
  wide = wide;
  empty = empty;
}
  where
    at : (k : ℕ) → k < length (levels ++ replicate (last + 1) 0 ∷ [])
        → ((k < length levels) × (get_or (levels ++ replicate (last + 1) 0 ∷ []) k [] ≡ get_or levels k []))
        ⊎ ((k ≡ length levels) × (get_or (levels ++ replicate (last + 1) 0 ∷ []) k [] ≡ replicate (last + 1) 0))
    at k below = elim (cases_lt k (length levels)) [
      | inl earlier ↦ inl (earlier, get_or_append_left levels (replicate (last + 1) 0 ∷ []) [] k earlier)
      | inr later ↦
          let is : k ≡ length levels = omega (arith, length_push levels (replicate (last + 1) 0)) in
          inr (is, ap (λ n. get_or (levels ++ replicate (last + 1) 0 ∷ []) n []) is ∙ get_or-append_seam levels (replicate (last + 1) 0) [] [])
    ]

    wide : (k : ℕ) → k < length (levels ++ replicate (last + 1) 0 ∷ [])
        → halved limit k < length (get_or (levels ++ replicate (last + 1) 0 ∷ []) k [])
    wide k below = elim (at k below) [
      | inl earlier ↦ omega (arith, was.wide k earlier.0, ap length earlier.1)
      | inr here ↦ omega (arith, was.next, ap (halved limit) here.0, ap length here.1, length-replicate {A = ℕ} (last + 1) 0)
    ]

    empty : (k j : ℕ) → k < length (levels ++ replicate (last + 1) 0 ∷ [])
        → get_or (get_or (levels ++ replicate (last + 1) 0 ∷ []) k []) j 0 ≡ 0
    empty k j below = elim (at k below) [
      | inl earlier ↦ ap (λ l. get_or l j 0) earlier.1 ∙ was.empty k j earlier.0
      | inr here ↦ ap (λ l. get_or l j 0) here.1 ∙ zero_at (last + 1) j
    ]

-- the last level has one block
pub is_empty_tally : (limit last : ℕ) (levels : List (List ℕ)) → last ≡ 0 → HasEmptyLevels limit last levels
    → IsTally limit [] levels
is_empty_tally limit last levels none was = record {
  has_levels = record { wide = was.wide; ends = sym was.next ∙ none };
  counts = was.empty;
}
