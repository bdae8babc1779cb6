-- The maximum number at once: the number of tickets below a gap, a sweep over the tickets of arrivals, and how many
-- are gone by then.
use Rattle.std.proofs.Common.{◌≡◌, ℕ, zero, suc, ◌+◌, ◌<◌, ◌≤◌, List, [], ◌∷◌, length, get_or, cond, refl, ◌∙◌, ap}
use Rattle.std.proofs.Common.{inl, inr, arith, nat_lt, ◌-◌, max, map, not, sym, ◌++◌, take, Bool, true, false}
use Rattle.std.specs.List.Sorted.{IsNonDecreasing, IsPartitionPoint, IsPermutation}
use Rattle.std.proofs.lemmas.Bool.{cases_lt, lt-ltb, le-ltb, ltb-false, ltb-true}
use Rattle.std.proofs.lemmas.Bool.Decides.{nat_tests}
use Rattle.std.proofs.lemmas.List.Sums.{sum_by-cons, sum_by-le-sum_by, count_by-le-length, sum_by-append, sum_by_more}
use Rattle.std.proofs.lemmas.List.Sorted.{sum_by-IsPermutation}
use Rattle.history_stats.specs.Inner.AtOnce.{count_before}
use Rattle.std.specs.Prelude.{All, ◌&&◌, count_by, nat_le}
use Rattle.std.proofs.lemmas.List.Elements.{All-head, All-tail}
use Rattle.history_merge.specs.declared.operation.Operation.{Operation}
use Rattle.history_stats.specs.AtOnce.{IsMost, is_pending_at, pending_at, is_taken_before, stay_count}
use Rattle.history_stats.specs.AtOnce.{values_put_before}

-- ---- sorted tickets

-- one more ticket, and whether it is below
pub count_cons : (gap x : ℕ) (xs : List ℕ) → count_before gap (x ∷ xs) ≡ cond (nat_lt x gap) 1 0 + count_before gap xs
count_cons gap x xs = sum_by-cons (λ t. cond (nat_lt t gap) 1 0) x xs

-- one more ticket is counted if and only if it is below
pub count_below_more : (gap x : ℕ) (xs : List ℕ) → x < gap → count_before gap (x ∷ xs) ≡ 1 + count_before gap xs
count_below_more gap x xs below = count_cons gap x xs ∙ ap (λ b. cond b 1 0 + count_before gap xs) (lt-ltb x gap below)

pub count_above : (gap x : ℕ) (xs : List ℕ) → gap ≤ x → count_before gap (x ∷ xs) ≡ count_before gap xs
count_above gap x xs above =
    let e : count_before gap (x ∷ xs) ≡ 0 + count_before gap xs = count_cons gap x xs ∙ ap (λ b. cond b 1 0 + count_before gap xs) (le-ltb x gap above) in
    omega (arith, e)

-- the tickets after the first are sorted
pub rest_in_order : (x : ℕ) (xs : List ℕ) → IsNonDecreasing (x ∷ xs) → IsNonDecreasing xs
rest_in_order x xs up = λ i j d le below. up (suc i) (suc j) d (omega arith) (omega arith)

-- if the first ticket isn't below, none is
pub none_below : (gap x : ℕ) (xs : List ℕ) → IsNonDecreasing (x ∷ xs) → gap ≤ x → count_before gap (x ∷ xs) ≡ 0
none_below gap x [] up above = count_above gap x [] above
none_below gap x (y ∷ ys) up above =
    let first : x ≤ y = up zero (suc zero) 0 (omega arith) (omega arith) in
    count_above gap x (y ∷ ys) above ∙ none_below gap y ys (rest_in_order x (y ∷ ys) up) (omega arith)

-- if the ticket at a place is below, so are those before it
pub at_least : (gap : ℕ) (xs : List ℕ) (i : ℕ) → IsNonDecreasing xs → i < length xs → get_or xs i 0 < gap
    → i + 1 ≤ count_before gap xs
at_least gap [] i up within below = absurd (omega arith)
at_least gap (x ∷ xs) zero up within below = omega (arith, count_below_more gap x xs below)
at_least gap (x ∷ xs) (suc i) up within below =
    let first : x ≤ get_or xs i 0 = up zero (suc i) 0 (omega arith) (omega arith) in
    let more = at_least gap xs i (rest_in_order x xs up) (omega arith) below in
    omega (arith, count_below_more gap x xs (omega arith), more)

-- each ticket that is counted as below a gap is below it
pub below_at : (gap : ℕ) (xs : List ℕ) (i : ℕ) → IsNonDecreasing xs → i < count_before gap xs → get_or xs i 0 < gap
below_at gap [] i up few = absurd (omega arith)
below_at gap (x ∷ xs) zero up few = elim (cases_lt x gap) [
  | inl below ↦ below
  | inr above ↦ absurd (omega (arith, few, none_below gap x xs up above))
]
below_at gap (x ∷ xs) (suc i) up few = elim (cases_lt x gap) [
  | inl below ↦ below_at gap xs i (rest_in_order x xs up) (omega (arith, few, count_below_more gap x xs below))
  | inr above ↦ absurd (omega (arith, few, none_below gap x xs up above))
]

-- at least as many tickets are below a later gap
pub count_rises : (gap later : ℕ) (xs : List ℕ) → gap ≤ later → count_before gap xs ≤ count_before later xs
count_rises gap later xs le =
    sum_by-le-sum_by (λ t. cond (nat_lt t gap) 1 0) (λ t. cond (nat_lt t later) 1 0) xs (λ t. grind (arith, nat_tests))

-- at most all tickets are below a gap
pub count_few : (gap : ℕ) (xs : List ℕ) → count_before gap xs ≤ length xs
count_few gap xs = count_by-le-length (λ t. nat_lt t gap) xs

-- no ticket is below gap 0
pub count_none : (xs : List ℕ) → count_before 0 xs ≡ 0
count_none [] = refl
count_none (x ∷ xs) = count_above 0 x xs (omega arith) ∙ count_none xs

-- ---- the sweep

-- the number present at a gap
abbrev pub there_at : ℕ → List ℕ → List ℕ → ℕ → ℕ
there_at first arrivals departures gap = first + count_before gap arrivals - count_before gap departures

-- the maximum so far: it was reached, and at no gap so far were more present; and the number that are gone
pub record IsMostSoFar (first : ℕ) (arrivals departures : List ℕ) (place most gone : ℕ) : Type 0 where
  pub gap : ℕ
  pub reached : most ≤ there_at first arrivals departures gap
  pub bound : (gap : ℕ) → count_before gap arrivals ≤ place → there_at first arrivals departures gap ≤ most
  pub few_gone : (k : ℕ) → place ≤ k → k < length arrivals → gone ≤ count_before (get_or arrivals k 0 + 1) departures

-- the maximum before the first arrival
pub most_so_far : (first : ℕ) (arrivals departures : List ℕ) → IsMostSoFar first arrivals departures 0 first 0
most_so_far first arrivals departures = record {
  gap = 0;
  reached = omega (arith, count_none arrivals, count_none departures);
  bound = λ gap none. omega arith;
  few_gone = λ k from below. omega arith;
}

-- one more arrival
pub one_comes : (first : ℕ) (arrivals departures : List ℕ) (place most gone new_gone : ℕ) → IsNonDecreasing arrivals
    → place < length arrivals
    → IsMostSoFar first arrivals departures place most gone
    → new_gone ≡ count_before (get_or arrivals place 0 + 1) departures
    → IsMostSoFar first arrivals departures (place + 1) (max most (first + place + 1 - new_gone)) new_gone
one_comes first arrivals departures place most gone new_gone up within so_far is = elim (cases_lt most (first + place + 1 - new_gone)) [
  | inl more ↦ record { gap = get_or arrivals place 0 + 1; reached = omega (arith, here); bound = bound; few_gone = few_gone }
  | inr less ↦ record { gap = so_far.gap; reached = omega (arith, so_far.reached, less); bound = bound; few_gone = few_gone }
]
  where
    here : first + place + 1 - new_gone ≤ there_at first arrivals departures (get_or arrivals place 0 + 1)
    here = let came = at_least (get_or arrivals place 0 + 1) arrivals place up within (omega arith) in omega (arith, came, is)

    bound : (gap : ℕ) → count_before gap arrivals ≤ place + 1
        → there_at first arrivals departures gap ≤ max most (first + place + 1 - new_gone)
    bound gap few = elim (cases_lt place (count_before gap arrivals)) [
      | inr fewer ↦ omega (arith, so_far.bound gap fewer)
      | inl last ↦ omega (arith, below_at gap arrivals place up last, count_rises (get_or arrivals place 0 + 1) gap departures, is, few)
    ]

    few_gone : (k : ℕ) → place + 1 ≤ k → k < length arrivals
        → new_gone ≤ count_before (get_or arrivals k 0 + 1) departures
    few_gone k from below =
        let later = up place k 0 (omega arith) below in
        omega (arith, count_rises (get_or arrivals place 0 + 1) (get_or arrivals k 0 + 1) departures (omega arith), is)

-- after all arrivals it is the maximum
pub most_of_all : (first : ℕ) (arrivals departures : List ℕ) (place most gone : ℕ) → length arrivals ≤ place
    → IsMostSoFar first arrivals departures place most gone
    → IsMost (there_at first arrivals departures) most
most_of_all first arrivals departures place most gone all so_far =
    let within : (gap : ℕ) → count_before gap arrivals ≤ place = λ gap. let few = count_few gap arrivals in omega arith in
    record {
      bound = λ gap. so_far.bound gap (within gap);
      gap = so_far.gap;
      reached = let least = so_far.reached in let most = so_far.bound so_far.gap (within so_far.gap) in omega arith;
    }

-- equal numbers have the same maximum
pub same_most : (f g : ℕ → ℕ) (most : ℕ) → ((gap : ℕ) → f gap ≡ g gap) → IsMost f most → IsMost g most
same_most f g most same is = record {
  bound = λ gap. let e = same gap in let le = is.bound gap in omega arith;
  gap = is.gap;
  reached = sym (same is.gap) ∙ is.reached;
}

-- numbers have only one maximum
pub one_most : (f : ℕ → ℕ) (a b : ℕ) → IsMost f a → IsMost f b → a ≡ b
one_most f a b x y =
    let under = y.bound x.gap in let over = x.bound y.gap in let at = x.reached in let at_other = y.reached in omega arith

-- permuted tickets have the same maximum
pub most_permuted : (first most : ℕ) (arrivals arrivals' departures departures' : List ℕ)
    → IsPermutation arrivals arrivals' → IsPermutation departures departures'
    → IsMost (there_at first arrivals' departures') most → IsMost (there_at first arrivals departures) most
most_permuted first most arrivals arrivals' departures departures' came went is =
    same_most (there_at first arrivals' departures') (there_at first arrivals departures) most
    (λ gap i. first + sum_by-IsPermutation (λ t. cond (nat_lt t gap) 1 0) arrivals arrivals' came i
    - sum_by-IsPermutation (λ t. cond (nat_lt t gap) 1 0) departures departures' went i) is

-- ---- pending operations

-- the operations pending are those called that haven't returned
pub pending_is : (gap : ℕ) (operations : List Operation) → All (λ o. o.call < o.ret) operations
    → pending_at operations gap + count_before gap (map (λ o. o.ret) operations)
    ≡ count_before gap (map (λ o. o.call) operations)
pending_is gap [] forward = refl
pending_is gap (o ∷ rest) forward =
    let here = All-head (λ (o : Operation). o.call < o.ret) o rest forward in
    let more = pending_is gap rest (All-tail (λ (o : Operation). o.call < o.ret) o rest forward) in
    let pends = sum_by-cons (λ (o : Operation). cond (is_pending_at gap o) 1 0) o rest in
    let departures = sum_by-cons (λ t. cond (nat_lt t gap) 1 0) o.ret (map (λ (o : Operation). o.ret) rest) in
    let arrivals = sum_by-cons (λ t. cond (nat_lt t gap) 1 0) o.call (map (λ (o : Operation). o.call) rest) in
    let one = one_pends gap o.call o.ret here in
    omega (arith, pends, departures, arrivals, more, one)
  where
    one_pends : (gap call ret : ℕ) → call < ret
        → cond (nat_lt call gap && not (nat_lt ret gap)) 1 0 + cond (nat_lt ret gap) 1 0 ≡ cond (nat_lt call gap) 1 0
    one_pends gap call ret here = grind (arith, nat_tests)

-- so the maximum pending is that of arrivals at calls and departures at returns
pub most_pending_is : (operations : List Operation) (calls returns : List ℕ) (most : ℕ)
    → All (λ o. o.call < o.ret) operations
    → calls ≡ map (λ o. o.call) operations → returns ≡ map (λ o. o.ret) operations
    → IsMost (there_at 0 calls returns) most
    → IsMost (pending_at operations) most
most_pending_is operations calls returns most forward are_calls are_returns is =
    same_most (there_at 0 calls returns) (pending_at operations) most
    (λ gap. omega (arith, ap (count_before gap) are_calls, ap (count_before gap) are_returns, pending_is gap operations forward)) is

-- ---- values that come and leave

-- a value stays or leaves
one_goes : (b : Bool) → cond (not b) 1 0 + cond b 1 0 ≡ 1
one_goes true = refl
one_goes false = refl

-- one more initial value
pub value_more : (departures : ℕ → Bool) (values : List ℕ) (i gone new_gone base : ℕ) (d : ℕ) → i < length values
    → count_by (λ v. not (departures v)) (take i values) + gone ≡ i + base
    → new_gone ≡ gone + cond (departures (get_or values i d)) 1 0
    → count_by (λ v. not (departures v)) (take (i + 1) values) + new_gone ≡ i + 1 + base
value_more departures values i gone new_gone base d within so_far is =
    omega (arith, so_far, is, sum_by_more (λ v. cond (not (departures v)) 1 0) values i d within, one_goes (departures (get_or values i d)))

-- the maximum number of values that stayed is that of arrivals and departures
pub most_queued_is : (initial : List ℕ) (operations : List Operation)
    (goes_before : ℕ → ℕ → Bool) (arrivals first_goes departures : List ℕ) (most : ℕ)
    → ((gap v : ℕ) → goes_before gap v ≡ is_taken_before gap operations v)
    → ((gap : ℕ) → count_by (λ v. not (goes_before gap v)) initial + count_before gap first_goes ≡ length initial + count_before gap [])
    → ((gap : ℕ) → count_by (λ v. not (goes_before gap v)) (values_put_before gap operations) + count_before gap departures + count_before gap []
    ≡ count_before gap arrivals + count_before gap first_goes)
    → IsMost (there_at (length initial) arrivals departures) most
    → IsMost (λ gap. stay_count gap operations (initial ++ values_put_before gap operations)) most
most_queued_is initial operations goes_before arrivals first_goes departures most same firsts puts is =
    same_most (there_at (length initial) arrivals departures) (λ gap. stay_count gap operations (initial ++ values_put_before gap operations)) most there is
  where
    alike : (gap : ℕ) (values : List ℕ)
        → count_by (λ v. not (goes_before gap v)) values ≡ stay_count gap operations values
    alike gap values = λ i. count_by (λ v. not (same gap v i)) values

    there : (gap : ℕ) → there_at (length initial) arrivals departures gap
        ≡ stay_count gap operations (initial ++ values_put_before gap operations)
    there gap =
        let both = sum_by-append (λ v. cond (not (is_taken_before gap operations v)) 1 0) initial (values_put_before gap operations) in
        let one = firsts gap in
        let two = puts gap in
        omega (arith, both, one, two, alike gap initial, alike gap (values_put_before gap operations))

-- ---- the place of a ticket among others

-- the end of those below a gap, if they come first
pub count_is_place : (gap place : ℕ) (tickets : List ℕ) → place ≤ length tickets
    → IsPartitionPoint (λ t. nat_lt t gap ≡ true) (λ t. nat_lt t gap ≡ false) tickets place
    → place ≡ count_before gap tickets
count_is_place gap zero [] within cut = refl
count_is_place gap (suc place) [] within cut = absurd (omega arith)
count_is_place gap zero (x ∷ xs) within cut =
    let here = cut.1 zero 0 (omega arith) (omega arith) in
    let more = count_is_place gap zero xs (omega arith) (λ k d above below. absurd (omega arith), λ k d above below. cut.1 (suc k) d (omega arith) (omega arith)) in
    more ∙ sym (count_above gap x xs (ltb-false x gap here))
count_is_place gap (suc place) (x ∷ xs) within cut =
    let here = cut.0 zero 0 (omega arith) (omega arith) in
    let more = count_is_place gap place xs (omega arith) (
      λ k d above below. cut.0 (suc k) d (omega arith) (omega arith),
      λ k d above below. cut.1 (suc k) d (omega arith) (omega arith),
    ) in
    omega (arith, more, count_below_more gap x xs (ltb-true x gap here))

-- the end of those up to a ticket, if they come first
pub count_by_place : (ticket place : ℕ) (tickets : List ℕ) → place ≤ length tickets
    → IsPartitionPoint (λ t. nat_le t ticket ≡ true) (λ t. nat_le t ticket ≡ false) tickets place
    → place ≡ count_before (ticket + 1) tickets
count_by_place ticket place tickets within cut = count_is_place (ticket + 1) place tickets within
    (λ k d above below. sym (same (get_or tickets k d)) ∙ cut.0 k d above below, λ k d above below. sym (same (get_or tickets k d)) ∙ cut.1 k d above below)
  where
    same : (t : ℕ) → nat_le t ticket ≡ nat_lt t (ticket + 1)
    same t = grind (arith, nat_tests)
