-- Stays that are tallied in the order in which values were enqueued: how many of those enqueued before a ticket are
-- not taken before another.
use Rattle.std.proofs.Common.{◌≡◌, ℕ, zero, suc, ◌+◌, ◌-◌, ◌<◌, ◌≤◌, ◌++◌, ◌∷◌, List, [], length, get_or, cond, refl}
use Rattle.std.proofs.Common.{sym, ◌∙◌, ap, Bool, true, false}
use Rattle.std.proofs.Common.{All, None, Some, inl, inr, arith, map, not, take, nat_lt, subst}
use Rattle.std.specs.Prelude.{count_by, ◌&&◌}
use Rattle.std.specs.List.Sorted.{IsNonDecreasingBy}
use Rattle.std.proofs.lemmas.Bool.{cases_lt, lt-ltb, le-ltb}
use Rattle.std.proofs.lemmas.Bool.Decides.{nat_tests}
use Rattle.std.proofs.lemmas.List.{get_or_read, map_more, length-map, length-take, length-take-le}
use Rattle.std.proofs.lemmas.List.Sums.{sum_by-cons, sum_by-le-sum_by, count_by-le-length}
use Rattle.event_records.specs.declared.limits.TheConstants.{ORIGIN}
use Rattle.history_stats.specs.Inner.Overtaking.{AreTallied, stays_at}
use Rattle.history_stats.specs.Overtaking.{overtaking_of}
use Rattle.history_stats.specs.Inner.Tally.{HasRoomFor, IsTally}
use Rattle.history_stats.specs.declared.stays.Stay.{Stay}
use Rattle.history_stats.specs.declared.takings.Taking.{Taking}

-- ---- elements sorted by a key

module _ {X : Type 0} (key : X → ℕ) where
  -- the number of elements with a key below the gap
  abbrev below : ℕ → List X → ℕ
  below gap xs = count_by (λ x. nat_lt (key x) gap) xs

  below_one : (gap : ℕ) (x : X) (xs : List X) → key x < gap → below gap (x ∷ xs) ≡ 1 + below gap xs
  below_one gap x xs less = sum_by-cons (λ y. cond (nat_lt (key y) gap) 1 0) x xs ∙ ap (λ b. cond b 1 0 + below gap xs) (lt-ltb (key x) gap less)

  below_no : (gap : ℕ) (x : X) (xs : List X) → gap ≤ key x → below gap (x ∷ xs) ≡ below gap xs
  below_no gap x xs above =
      let e : below gap (x ∷ xs) ≡ 0 + below gap xs = sum_by-cons (λ y. cond (nat_lt (key y) gap) 1 0) x xs
      ∙ ap (λ b. cond b 1 0 + below gap xs) (le-ltb (key x) gap above) in
      omega (arith, e)

  rest_rises : (x : X) (xs : List X) → IsNonDecreasingBy key (x ∷ xs) → IsNonDecreasingBy key xs
  rest_rises x xs up = λ i j d le within. up (suc i) (suc j) d (omega arith) (omega arith)

  -- if the first key isn't below, none is
  pub none_lies_below : (gap : ℕ) (x : X) (xs : List X) → IsNonDecreasingBy key (x ∷ xs) → gap ≤ key x
      → below gap (x ∷ xs) ≡ 0
  none_lies_below gap x [] up above = below_no gap x [] above
  none_lies_below gap x (y ∷ ys) up above =
      let first : key x ≤ key y = up zero (suc zero) x (omega arith) (omega arith) in
      below_no gap x (y ∷ ys) above ∙ none_lies_below gap y ys (rest_rises x (y ∷ ys) up) (omega arith)

  -- if the key at a place is below, so are those before it
  pub lie_below : (gap : ℕ) (xs : List X) (i : ℕ) (d : X) → IsNonDecreasingBy key xs → i < length xs
      → key (get_or xs i d) < gap → i + 1 ≤ below gap xs
  lie_below gap [] i d up within less = absurd (omega arith)
  lie_below gap (x ∷ xs) zero d up within less = omega (arith, below_one gap x xs less)
  lie_below gap (x ∷ xs) (suc i) d up within less =
      let first : key x ≤ key (get_or xs i d) = up zero (suc i) d (omega arith) (omega arith) in
      let more = lie_below gap xs i d (rest_rises x xs up) (omega arith) less in
      omega (arith, below_one gap x xs (omega arith), more)

  -- each element that is counted as below is below
  pub lies_below : (gap : ℕ) (xs : List X) (i : ℕ) (d : X) → IsNonDecreasingBy key xs → i < below gap xs
      → key (get_or xs i d) < gap
  lies_below gap [] i d up few = absurd (omega arith)
  lies_below gap (x ∷ xs) zero d up few = elim (cases_lt (key x) gap) [
    | inl less ↦ less
    | inr above ↦ absurd (omega (arith, few, none_lies_below gap x xs up above))
  ]
  lies_below gap (x ∷ xs) (suc i) d up few = elim (cases_lt (key x) gap) [
    | inl less ↦ lies_below gap xs i d (rest_rises x xs up) (omega (arith, few, below_one gap x xs less))
    | inr above ↦ absurd (omega (arith, few, none_lies_below gap x xs up above))
  ]

  -- at least as many are below a later gap
  pub below_rises : (gap later : ℕ) (xs : List X) → gap ≤ later → below gap xs ≤ below later xs
  below_rises gap later xs le =
      sum_by-le-sum_by (λ x. cond (nat_lt (key x) gap) 1 0) (λ x. cond (nat_lt (key x) later) 1 0) xs (λ x. one (key x))
    where
      one : (k : ℕ) → cond (nat_lt k gap) 1 0 ≤ cond (nat_lt k later) 1 0
      one k = grind (arith, nat_tests)

-- ---- tallied stays

-- a number up to the limit has room
pub has_room : (limit place number : ℕ) (stays : List Stay) (levels : List (List ℕ)) → number ≤ limit
    → AreTallied limit stays place levels
    → HasRoomFor number levels
has_room limit place number stays levels within are = record {
  limit = limit;
  numbers = map (λ s. s.taken) (take place stays);
  is_tally = are.is_tally;
  within = within;
  few = omega (arith, are.few, length-map (take place stays) (λ (s : Stay). s.taken), length-take place stays);
}

-- one more stay
pub tallied_more : (limit place : ℕ) (d : Stay) (stays : List Stay) (old new : List (List ℕ)) → place < length stays
    → AreTallied limit stays place old
    → ((numbers : List ℕ) → (get_or stays place d).taken ≤ limit → IsTally limit numbers old
    → IsTally limit (numbers ++ (get_or stays place d).taken ∷ []) new)
    → AreTallied limit stays (place + 1) new
tallied_more limit place d stays old new within are adds = record {
  taken = are.taken;
  few = are.few;
  is_tally = subst (λ ns. IsTally limit ns new) (sym (map_more (λ (s : Stay). s.taken) stays place d within))
      (adds (map (λ s. s.taken) (take place stays)) (are.taken place d within) are.is_tally);
}

-- in sorted stays those enqueued before a ticket come first; they stay past another ticket, or were taken before it
pub stay_or_taken : (p r : ℕ) (stays : List Stay) → IsNonDecreasingBy (λ s. s.put) stays
    → count_by (stays_at p r) stays
    + count_by (λ t. nat_lt t r) (map (λ s. s.taken) (take (count_by (λ s. nat_lt s.put p) stays) stays))
    ≡ count_by (λ s. nat_lt s.put p) stays
stay_or_taken p r [] up = refl
stay_or_taken p r (s ∷ rest) up = elim (cases_lt s.put p) [
  | inl before ↦
      let more = stay_or_taken p r rest (rest_rises (λ (x : Stay). x.put) s rest up) in
      let one_more = below_one (λ (x : Stay). x.put) p s rest before in
      let counted : count_by (λ x. nat_lt x.put p) (s ∷ rest) ≡ suc (count_by (λ x. nat_lt x.put p) rest) = omega (arith, one_more) in
      omega (
        arith,
        more,
        counted,
        sum_by-cons (λ x. cond (stays_at p r x) 1 0) s rest,
        ap {B = ℕ} (λ b. cond (b && not (nat_lt s.taken r)) 1 0) (lt-ltb s.put p before),
        ap (λ n. count_by (λ t. nat_lt t r) (map (λ x. x.taken) (take n (s ∷ rest)))) counted,
        sum_by-cons (λ t. cond (nat_lt t r) 1 0) s.taken (map (λ x. x.taken) (take (count_by (λ x. nat_lt x.put p) rest) rest)),
        one (nat_lt s.taken r),
      )
  | inr after ↦
      let none = none_lies_below (λ (x : Stay). x.put) p s rest up after in
      omega (
        arith,
        none,
        few (s ∷ rest),
        ap (λ n. count_by (λ t. nat_lt t r) (map (λ x. x.taken) (take n (s ∷ rest)))) none,
      )
]
  where
    one : (b : Bool) → cond (not b) 1 0 + cond b 1 0 ≡ 1
    one true = refl
    one false = refl

    less : (a b : Bool) → cond (a && b) 1 0 ≤ cond a 1 0
    less true true = omega arith
    less true false = omega arith
    less false b = omega arith

    few : (xs : List Stay) → count_by (stays_at p r) xs ≤ count_by (λ x. nat_lt x.put p) xs
    few xs = sum_by-le-sum_by (λ x. cond (stays_at p r x) 1 0) (λ x. cond (nat_lt x.put p) 1 0) xs (λ x. less (nat_lt x.put p) (not (nat_lt x.taken r)))

-- the number of tallied stays that were taken before a ticket
pub counted_few : (limit place r found : ℕ) (stays : List Stay) (levels : List (List ℕ)) → place ≤ length stays
    → r ≤ limit
    → AreTallied limit stays place levels
    → ((limit : ℕ) (numbers : List ℕ) → r ≤ limit → IsTally limit numbers levels
    → found ≡ count_by (λ x. nat_lt x r) numbers) → found ≤ place
counted_few limit place r found stays levels within fits are counts = omega (
  arith,
  counts limit (map (λ s. s.taken) (take place stays)) fits are.is_tally,
  count_by-le-length (λ x. nat_lt x r) (map (λ s. s.taken) (take place stays)),
  length-map (take place stays) (λ s. s.taken),
  length-take-le place stays within,
)

-- the other tallied stays stay past it
pub counted_below : (limit place p r found : ℕ) (stays : List Stay) (levels : List (List ℕ)) → r ≤ limit
    → AreTallied limit stays place levels
    → IsNonDecreasingBy (λ s. s.put) stays → place ≡ count_by (λ s. nat_lt s.put p) stays
    → ((limit : ℕ) (numbers : List ℕ) → r ≤ limit → IsTally limit numbers levels
    → found ≡ count_by (λ x. nat_lt x r) numbers)
    → place - found ≡ count_by (stays_at p r) stays
counted_below limit place p r found stays levels fits are up is counts = omega (
  arith,
  counts limit (map (λ s. s.taken) (take place stays)) fits are.is_tally,
  stay_or_taken p r stays up,
  ap (λ n. count_by (λ t. nat_lt t r) (map (λ s. s.taken) (take n stays))) is,
  is,
)

-- overtaking no value is no overtaking
pub overtakes_none : (count called v : ℕ) → count ≡ 0 → None ≡ overtaking_of count called v
overtakes_none count called v none = ap (λ n. overtaking_of n called v) (sym none)

-- overtaking some values is one
pub overtakes_some : (count n called v : ℕ) → (n ≡ 0 → ⊥) → n ≡ count
    → Some (record { count = n; ticket = called - ORIGIN; value = v }) ≡ overtaking_of count called v
overtakes_some count n called v some is =
    ap (λ b. cond b (Some (record { count = n; ticket = called - ORIGIN; value = v })) None) (sym (lt-ltb 0 n (omega arith)))
    ∙ ap (λ m. overtaking_of m called v) is

-- before the next dequeue no more values were enqueued than before its value
pub few_next : (stays : List Stay) (takings : List Taking) (i put : ℕ) (x : Taking) → i < length takings
    → x ≡ get_or takings i x
    → put ≡ count_by (λ s. nat_lt s.put x.enqueue_call) stays → IsNonDecreasingBy (λ t. t.enqueue_call) takings
    → (k : ℕ) (d : Taking) → i + 1 ≤ k
    → k < length takings → put ≤ count_by (λ s. nat_lt s.put (get_or takings k d).enqueue_call) stays
few_next stays takings i put x within at is up k d later below =
    let one = up i k d (omega arith) below in
    let here : x.enqueue_call ≡ (get_or takings i d).enqueue_call = ap (λ (t : Taking). t.enqueue_call) (get_or_read takings i x within at d) in
    let rises = below_rises (λ (s : Stay). s.put) x.enqueue_call (get_or takings k d).enqueue_call stays (omega (arith, one, here)) in
    omega (arith, is, rises)
