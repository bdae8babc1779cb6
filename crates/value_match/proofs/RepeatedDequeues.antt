-- The one dequeue of each source and of each enqueued value, or the chosen pair of one source, found by walks over
-- the operations.
use Rattle.value_match.proofs.Common.{AllPairs, ap, AreChosenRepeat, AreComplete, arith, cases_eq, cases_order}
use Rattle.value_match.proofs.Common.{contains_at, Dequeue, Did, Enqueue, enqueued_value, find, get_or}
use Rattle.value_match.proofs.Common.{get_or-set_other}
use Rattle.value_match.proofs.Common.{get_or-set_same, HasTakersTo, HoldsDequeues, inl, inr, is_dequeue_of, IsAt}
use Rattle.value_match.proofs.Common.{IsClear, IsDequeuePlace, IsMaybeAt, IsSourceOf, length, length-replicate}
use Rattle.value_match.proofs.Common.{length-set, List, MatchOption, NoFreshViolation, None, NoneDid, on, one_at}
use Rattle.value_match.proofs.Common.{Operation, OpKind, Option, pairs_at, place_of, refl, RepeatPlaces, replicate}
use Rattle.value_match.proofs.Common.{return_at, same_return, same_value_call, set, slice_get_within, Some, subst, suc}
use Rattle.value_match.proofs.Common.{sym, TakesFrom, zero, ℕ, ⊤, ◌+◌, ◌<◌, ◌∙◌, ◌≡◌, ◌≢◌, ◌≤◌, ◌⊎◌}
use Rattle.value_match.proofs.FreshDequeues.{calls_for}
use Rattle.value_match.proofs.Lives.{found_dequeue, same_found}

-- ---- the operations that take from a call

-- an operation of a complete history has one place
pub one_place : (operations : List Operation) (i j : ℕ) (o : Operation) → AreComplete operations → IsAt operations i o
    → IsAt operations j o → i ≡ j
one_place operations i j o complete at_i at_j =
    let rise : AllPairs (λ x y. x.call < y.call) operations = λ i j d below within. (complete.apart i j d below within).called_first in
    let up = pairs_at (λ x y. x.call < y.call) operations i j o o rise in
    let down = pairs_at (λ x y. x.call < y.call) operations j i o o rise in
    grind (arith, cases_order i j)

-- a dequeue with a source takes from it
pub takes_source : (operations : List Operation) (i p : ℕ) (o : Operation) → IsAt operations i o
    → IsSourceOf operations o.kind (Some p)
    → TakesFrom operations i p
takes_source operations i p o here source = pick o.kind refl source
  where
    pick : (kind : OpKind) → o.kind ≡ kind → IsSourceOf operations kind (Some p) → TakesFrom operations i p
    pick (Dequeue v) is call = record { value = v; dequeue = o; at = here; dequeues = is; from_call = call }
    pick _ is wrong = cc

-- an operation without a source takes from nothing
pub takes_no_source : (operations : List Operation) (i : ℕ) (o : Operation) → IsAt operations i o
    → IsSourceOf operations o.kind None
    → (p : ℕ) → ¬ (TakesFrom operations i p)
takes_no_source operations i o here none p t =
    let is : o.kind ≡ Dequeue t.value = ap (λ (x : Operation). x.kind) (one_at operations i o t.dequeue here t.at) ∙ t.dequeues in
    let (call, there, calls) = t.from_call in
    (rw is at none) call (contains_at operations p call there) calls

-- the operations that take from a call
module _ (operations : List Operation) (complete : AreComplete operations) where
  -- each operation takes from at most one call
  pub one_source : (i p q : ℕ) → TakesFrom operations i p → TakesFrom operations i q → p ≡ q
  one_source i p q x y =
      let kinds : Dequeue x.value ≡ Dequeue y.value =
      sym x.dequeues ∙ ap (λ (o : Operation). o.kind) (one_at operations i x.dequeue y.dequeue x.at y.at) ∙ y.dequeues in
      let value : x.value ≡ y.value = cc in
      let (call, at_p, calls) = x.from_call in
      let (call', at_q, calls') = y.from_call in
      let same = same_value_call operations call call' y.value complete (contains_at operations p call at_p) (contains_at operations q call' at_q)
      (calls_for call.kind y.value (calls ∙ ap (λ v. Some v) value)) (calls_for call'.kind y.value calls') in
      one_place operations p q call' complete (subst (IsAt operations p) same at_p) at_q

  -- two dequeues of one value return at different times
  pub distinct_returns : (p i j : ℕ) → TakesFrom operations i p → TakesFrom operations j p
      → return_at operations i ≡ return_at operations j → i ≡ j
  distinct_returns p i j x y same =
      let ret_i : return_at operations i ≡ x.dequeue.ret = rw x.at refl in
      let ret_j : return_at operations j ≡ y.dequeue.ret = rw y.at refl in
      let one = same_return operations x.dequeue y.dequeue complete (contains_at operations i x.dequeue x.at)
      (contains_at operations j y.dequeue y.at) (sym ret_i ∙ same ∙ ret_j) in
      one_place operations i j y.dequeue complete (subst (IsAt operations i) one x.at) y.at

-- each source is one of the operations
pub source_inside : (operations : List Operation) (i p : ℕ) → TakesFrom operations i p → p < length operations
source_inside operations i p t = slice_get_within operations p t.from_call.0 t.from_call.1

-- a dequeue takes from its value's enqueue
pub takes_from_enqueue : (operations : List Operation) (i p : ℕ) (o enq : Operation) (v : ℕ) → IsAt operations i o
    → o.kind ≡ Dequeue v
    → IsAt operations p enq → enq.kind ≡ Enqueue v → TakesFrom operations i p
takes_from_enqueue operations i p o enq v here is there accepted =
    record { value = v; dequeue = o; at = here; dequeues = is; from_call = (enq, there, ap enqueued_value accepted) }

-- without phantom dequeues, each dequeue takes from a successful enqueue
pub accepted_call : (operations : List Operation) (i p : ℕ) → NoFreshViolation (on operations)
    → (t : TakesFrom operations i p)
    → (t.from_call.0).kind ≡ Enqueue t.value
accepted_call operations i p no_fresh t = elim (calls_for (t.from_call.0).kind t.value t.from_call.2) [
  | inl accepted ↦ accepted
  | inr failed ↦ absurd (no_fresh t.dequeue (Some t.from_call.0) (record {
    value = t.value;
    dequeues = (contains_at operations i t.dequeue t.at, t.dequeues);
    enqueues = inl (contains_at operations p t.from_call.0 t.from_call.1, failed);
  }))
]

-- ---- the takers of the calls, noted while the prefix is matched

none_at : (n i : ℕ) → get_or {A = Option ℕ} (replicate n None) i None ≡ None
none_at zero i = refl
none_at (suc n) zero = refl
none_at (suc n) (suc i) = none_at n i

-- among no operations none takes from a call
pub no_takers : (operations : List Operation) → HasTakersTo operations 0 (replicate (length operations) None)
no_takers operations = record {
  one_each = length-replicate (length operations) None;
  taken = λ p i is. let none = none_at (length operations) p in cc;
  takes = λ i p below from. absurd (omega (arith, below));
}

-- one more operation that takes from nothing
pub takes_nothing : (operations : List Operation) (n : ℕ) (takers : List (Option ℕ))
    → ((p : ℕ) → ¬ (TakesFrom operations n p))
    → HasTakersTo operations n takers → HasTakersTo operations (n + 1) takers
takes_nothing operations n takers none known = record {
  one_each = known.one_each;
  taken = λ p i is. let was = known.taken p i is in (omega (arith, was.0), was.1);
  takes = λ i p below from. elim (cases_eq i n) [
    | inl last ↦ absurd (none p (subst (λ k. TakesFrom operations k p) last from))
    | inr before ↦ known.takes i p (omega arith) from
  ];
}

-- one more operation that takes from a call, which had no taker
pub takes_first : (operations : List Operation) (n q : ℕ) (takers : List (Option ℕ)) → AreComplete operations
    → TakesFrom operations n q
    → get_or takers q None ≡ None → HasTakersTo operations n takers
    → HasTakersTo operations (n + 1) (set takers q (Some n))
takes_first operations n q takers complete here free known = record {
  one_each = length-set takers q (Some n) ∙ known.one_each;
  taken = λ p i is. elim (cases_eq p q) [
    | inl same ↦
        let last : ◌≡◌ {A = Option ℕ} (Some n) (Some i) = sym now ∙ subst (λ k. get_or (set takers q (Some n)) k None ≡ Some i) same is in
        let i_is : n ≡ i = cc in
        (omega arith, subst (λ k. TakesFrom operations k p) i_is (subst (TakesFrom operations n) (sym same) here))
    | inr other ↦ let was = known.taken p i (sym (get_or-set_other takers q p (Some n) None other) ∙ is) in (omega (arith, was.0), was.1)
  ];
  takes = λ i p below from. elim (cases_eq i n) [
    | inl last ↦
        let same = one_source operations complete n p q (subst (λ k. TakesFrom operations k p) last from) here in
        rw (same, last) now
    | inr before ↦
        let was = known.takes i p (omega arith) from in
        get_or-set_other takers q p (Some n) None (λ same. let none = sym was ∙ ap (λ k. get_or takers k None) same ∙ free in cc) ∙ was
  ];
}
  where
    now : get_or (set takers q (Some n)) q None ≡ Some n
    now = get_or-set_same takers q (Some n) None (let inside = source_inside operations n q here in omega (arith, inside, known.one_each))

-- ---- the walk over the operations after the prefix

-- for each source the operation that takes from it and returns first, among the first n
pub record HasFirsts (operations : List Operation) (firsts : List (Option ℕ)) (n : ℕ) : Type 0 where
  pub one_each : length firsts ≡ length operations
  pub taken : (p i : ℕ) → get_or firsts p None ≡ Some i → (i < n) × TakesFrom operations i p
  pub least : (i p : ℕ) → i < n → TakesFrom operations i p
      → (first : ℕ) × (get_or firsts p None ≡ Some first) × (return_at operations first ≤ return_at operations i)

-- two operations that take from one place; no pair among the first n operations has a later one that returns sooner
pub record IsSoonest (operations : List Operation) (n : ℕ) (pair : RepeatPlaces) : Type 0 where
  pub first_from : TakesFrom operations pair.first pair.enq
  pub second_from : TakesFrom operations pair.second pair.enq
  pub in_order : return_at operations pair.first < return_at operations pair.second
  pub soonest : (p i j : ℕ) → i < n → j < n → TakesFrom operations i p → TakesFrom operations j p
      → return_at operations i < return_at operations j
      → return_at operations pair.second ≤ return_at operations j

-- no two of the first n operations take from one place
abbrev pub Once : List Operation → ℕ → Type 0
Once operations n = (p i j : ℕ) → i < n → j < n → TakesFrom operations i p → TakesFrom operations j p → i ≡ j

-- no two of the first n operations take from one place, or the soonest pair that does
abbrev pub Twice : List Operation → ℕ → Option RepeatPlaces → Type 0
Twice operations n found = MatchOption found (Once operations n) (IsSoonest operations n)

-- the state of the walk after the first n operations
pub record HasMet (operations : List Operation) (firsts : List (Option ℕ)) (n : ℕ)
    (found : Option RepeatPlaces) : Type 0 where
  pub kept : HasFirsts operations firsts n
  pub twice : Twice operations n found

-- the walk begins with the takers of the prefix
pub met_once : (operations : List Operation) (takers : List (Option ℕ)) (n : ℕ) → HasTakersTo operations n takers
    → HasMet operations takers n None
met_once operations takers n known = record {
  kept = record { one_each = known.one_each; taken = known.taken; least = λ i p below from. (i, known.takes i p below from, omega arith) };
  twice = λ p i j below_i below_j from_i from_j.
      let both : ◌≡◌ {A = Option ℕ} (Some i) (Some j) = sym (known.takes i p below_i from_i) ∙ known.takes j p below_j from_j in cc;
}

-- one more operation that adds no pair
met_more : (operations : List Operation) (n : ℕ) (found : Option RepeatPlaces)
    → ((q i j : ℕ) → i < n + 1 → j < n + 1 → TakesFrom operations i q → TakesFrom operations j q → i ≢ j
    → (i < n) × (j < n))
    → Twice operations n found → Twice operations (n + 1) found
met_more operations n None before once = λ q i j low high from_i from_j. elim (cases_eq i j) [
  | inl same ↦ same
  | inr differ ↦ let was = before q i j low high from_i from_j differ in once q i j was.0 was.1 from_i from_j
]
met_more operations n (Some pair) before is = record {
  first_from = is.first_from;
  second_from = is.second_from;
  in_order = is.in_order;
  soonest = λ q i j low high from_i from_j less.
      let was = before q i j low high from_i from_j (λ same. let equal = ap (return_at operations) same in omega arith) in
      is.soonest q i j was.0 was.1 from_i from_j less;
}

-- one more operation that takes from nothing
pub met_skip : (operations : List Operation) (firsts : List (Option ℕ)) (n : ℕ) (found : Option RepeatPlaces)
    → ((p : ℕ) → ¬ (TakesFrom operations n p))
    → HasMet operations firsts n found → HasMet operations firsts (n + 1) found
met_skip operations firsts n found none met = record {
  kept = record {
    one_each = met.kept.one_each;
    taken = λ p i is. let was = met.kept.taken p i is in (omega (arith, was.0), was.1);
    least = λ i p below from. met.kept.least i p (earlier i p below from) from;
  };
  twice = met_more operations n found (λ q i j low high from_i from_j _. (earlier i q low from_i, earlier j q high from_j)) met.twice;
}
  where
    earlier : (i p : ℕ) → i < n + 1 → TakesFrom operations i p → i < n
    earlier i p below from = elim (cases_eq i n) [
      | inl last ↦ absurd (none p (subst (λ k. TakesFrom operations k p) last from))
      | inr before ↦ omega arith
    ]

-- a pair made of two places, in the order of their returns
pub record IsPairOf (returns : ℕ → ℕ) (p i j : ℕ) (pair : RepeatPlaces) : Type 0 where
  pub enq : pair.enq ≡ p
  pub in_order : returns pair.first ≤ returns pair.second
  pub both : ((pair.first ≡ i) × (pair.second ≡ j)) ⊎ ((pair.first ≡ j) × (pair.second ≡ i))

-- the pair, or the one found before, if that is no later
abbrev pub IsSoonerOf : (ℕ → ℕ) → Option RepeatPlaces → RepeatPlaces → RepeatPlaces → Type 0
IsSoonerOf returns found pair result = MatchOption found (result ≡ pair)
    (λ f. ((result ≡ f) × (returns f.second ≤ returns pair.second)) ⊎ ((result ≡ pair) × (returns pair.second ≤ returns f.second)))

-- facts about a pair made of a place before n, and of n
record Ends (operations : List Operation) (n p other : ℕ) (pair : RepeatPlaces) : Type 0 where
  pub first_below : pair.first < n + 1
  pub first_from : TakesFrom operations pair.first p
  pub second_from : TakesFrom operations pair.second p
  pub apart : pair.first ≢ pair.second
  pub first_here : return_at operations pair.first ≤ return_at operations n
  pub first_there : return_at operations pair.first ≤ return_at operations other
  pub second_least : (m : ℕ) → return_at operations other ≤ m → return_at operations n ≤ m
      → return_at operations pair.second ≤ m

module _ (operations : List Operation) (complete : AreComplete operations) (firsts : List (Option ℕ)) (n p : ℕ)
    (from : TakesFrom operations n p) where
  -- an operation that takes from another place is another operation
  other_source : (i q : ℕ) → q ≢ p → i < n + 1 → TakesFrom operations i q → i < n
  other_source i q other below from_i = elim (cases_eq i n) [
    | inl last ↦ absurd (other (one_source operations complete n q p (subst (λ k. TakesFrom operations k q) last from_i) from))
    | inr before ↦ omega arith
  ]

  -- the first operations by source, once one is kept that returns no later than those of its source before it
  firsts_more : (first : ℕ) → first < n + 1 → TakesFrom operations first p
      → return_at operations first ≤ return_at operations n
      → ((i : ℕ) → i < n → TakesFrom operations i p → return_at operations first ≤ return_at operations i)
      → HasFirsts operations firsts n → HasFirsts operations (set firsts p (Some first)) (n + 1)
  firsts_more first below from_first least_here least_before known = record {
    one_each = length-set firsts p (Some first) ∙ known.one_each;
    taken = λ q i is. elim (cases_eq q p) [
      | inl same ↦
          let held : ◌≡◌ {A = Option ℕ} (Some first) (Some i) = sym now ∙ subst (λ k. get_or (set firsts p (Some first)) k None ≡ Some i) same is in
          let i_is : first ≡ i = cc in
          (omega arith, subst (λ k. TakesFrom operations k q) i_is (subst (TakesFrom operations first) (sym same) from_first))
      | inr other ↦ let was = known.taken q i (sym (get_or-set_other firsts p q (Some first) None other) ∙ is) in (omega (arith, was.0), was.1)
    ];
    least = λ i q low from_i. elim (cases_eq q p) [
      | inl same ↦ (
        first,
        rw same now,
        elim (cases_eq i n) [
          | inl last ↦ rw last least_here
          | inr before ↦ least_before i (omega arith) (subst (TakesFrom operations i) same from_i)
        ],
      )
      | inr other ↦
          let was = known.least i q (other_source i q other low from_i) from_i in
          (was.0, get_or-set_other firsts p q (Some first) None other ∙ was.1, was.2)
    ];
  }
    where
      now : get_or (set firsts p (Some first)) p None ≡ Some first
      now = get_or-set_same firsts p (Some first) None (let inside = source_inside operations n p from in omega (arith, inside, known.one_each))

  -- one more operation, the first with its source
  pub met_first : (found : Option RepeatPlaces) → get_or firsts p None ≡ None → HasMet operations firsts n found
      → HasMet operations (set firsts p (Some n)) (n + 1) found
  met_first found free met = record {
    kept = firsts_more n (omega arith) from (omega arith) (λ i below from_i. absurd (alone i below from_i)) met.kept;
    twice = met_more operations n found (λ q i j low high from_i from_j differ. elim (cases_eq q p) [
      | inl same ↦ absurd (differ (only i low (subst (TakesFrom operations i) same from_i) ∙ sym (only j high (subst (TakesFrom operations j) same from_j))))
      | inr other ↦ (other_source i q other low from_i, other_source j q other high from_j)
    ]) met.twice;
  }
    where
      alone : (i : ℕ) → i < n → TakesFrom operations i p → ⊥
      alone i below from_i = let was = met.kept.least i p below from_i in cc

      only : (i : ℕ) → i < n + 1 → TakesFrom operations i p → i ≡ n
      only i below from_i = elim (cases_eq i n) [ inl last ↦ last | inr before ↦ absurd (alone i (omega arith) from_i) ]

  -- one more operation, whose source has a taker
  pub met_again : (other : ℕ) (found : Option RepeatPlaces) (pair result : RepeatPlaces)
      → get_or firsts p None ≡ Some other
      → IsPairOf (return_at operations) p other n pair → IsSoonerOf (return_at operations) found pair result
      → HasMet operations firsts n found
      → HasMet operations (set firsts p (Some pair.first)) (n + 1) (Some result)
  met_again other found pair result held is_pair sooner met = record {
    kept = firsts_more pair.first ends.first_below ends.first_from ends.first_here
        (λ i below from_i. let low = least i below from_i in let first = ends.first_there in omega arith) met.kept;
    twice = twice found sooner met.twice;
  }
    where
      ends : Ends operations n p other pair
      ends =
          let (below, from_other) = met.kept.taken p other held in
          let both = is_pair.both in
          let order = is_pair.in_order in
          record {
            first_below = grind arith;
            first_from = grind arith;
            second_from = grind arith;
            apart = λ same. grind arith;
            first_here = grind arith;
            first_there = grind arith;
            second_least = λ m low high. grind arith;
          }

      -- the kept operation returns no later than any before it
      least : (i : ℕ) → i < n → TakesFrom operations i p → return_at operations other ≤ return_at operations i
      least i below from_i = let found' = met.kept.least i p below from_i in grind arith

      -- no pair with this operation is sooner
      no_sooner : (q i j : ℕ) → i < n + 1 → j < n + 1 → TakesFrom operations i q → TakesFrom operations j q
          → return_at operations i < return_at operations j
          → (i < n) × (j < n) ⊎ (return_at operations pair.second ≤ return_at operations j)
      no_sooner q i j low high from_i from_j less = elim (cases_eq q p) [
        | inl same ↦
            let from_i' = subst (TakesFrom operations i) same from_i in
            let from_j' = subst (TakesFrom operations j) same from_j in
            grind (arith, cases_eq i n, cases_eq j n, least i, least j, ends.second_least (return_at operations j))
        | inr differ ↦ inl (other_source i q differ low from_i, other_source j q differ high from_j)
      ]

      soonest_pair : ((q i j : ℕ) → i < n → j < n → TakesFrom operations i q → TakesFrom operations j q
          → return_at operations i < return_at operations j
          → return_at operations pair.second ≤ return_at operations j) → IsSoonest operations (n + 1) pair
      soonest_pair before = record {
        first_from = rw is_pair.enq ends.first_from;
        second_from = rw is_pair.enq ends.second_from;
        in_order =
            let differ : return_at operations pair.first ≢ return_at operations pair.second =
            λ same. ends.apart (distinct_returns operations complete p pair.first pair.second ends.first_from ends.second_from same) in
            let order = is_pair.in_order in omega arith;
        soonest = λ q i j low high from_i from_j less. elim (no_sooner q i j low high from_i from_j less) [
          | inl both ↦ before q i j both.0 both.1 from_i from_j less
          | inr late ↦ late
        ];
      }

      twice : (found : Option RepeatPlaces) → IsSoonerOf (return_at operations) found pair result
          → Twice operations n found
          → IsSoonest operations (n + 1) result
      twice None is once = rw is (soonest_pair (λ q i j low high from_i from_j less. let same = once q i j low high from_i from_j in grind arith))
      twice (Some f) (inl (is, sooner')) old = rw is (record {
        first_from = old.first_from;
        second_from = old.second_from;
        in_order = old.in_order;
        soonest = λ q i j low high from_i from_j less. elim (no_sooner q i j low high from_i from_j less) [
          | inl both ↦ old.soonest q i j both.0 both.1 from_i from_j less
          | inr late ↦ omega arith
        ];
      })
      twice (Some f) (inr (is, sooner')) old =
          rw is (soonest_pair (λ q i j low high from_i from_j less. let before = old.soonest q i j low high from_i from_j less in omega arith))

-- ---- the end of the walk

-- the later operation of the pair found is one of the operations
pub found_inside : (operations : List Operation) (n : ℕ) (found : Option RepeatPlaces) → Twice operations n found
    → MatchOption found ⊤ (λ f. f.second < length operations)
found_inside operations n None met = tt
found_inside operations n (Some f) met = slice_get_within operations f.second met.second_from.dequeue met.second_from.at

-- the soonest pair of all operations is chosen
pub repeat_chosen : (operations : List Operation) (n : ℕ) (pair : RepeatPlaces) → NoFreshViolation (on operations)
    → length operations ≤ n
    → IsSoonest operations n pair → AreChosenRepeat operations pair
repeat_chosen operations n pair no_fresh all is =
    let one = is.first_from in
    let two = is.second_from in
    let first = accepted_call operations pair.first pair.enq no_fresh one in
    let second = accepted_call operations pair.second pair.enq no_fresh two in
    let calls = one_at operations pair.enq one.from_call.0 two.from_call.0 one.from_call.1 two.from_call.1 in
    let kinds : Enqueue one.value ≡ Enqueue two.value = sym first ∙ ap (λ (o : Operation). o.kind) calls ∙ second in
    let same_value : one.value ≡ two.value = cc in
    let ret_one : return_at operations pair.first ≡ one.dequeue.ret = rw one.at refl in
    let ret_two : return_at operations pair.second ≡ two.dequeue.ret = rw two.at refl in (
      two.from_call.0,
      one.dequeue,
      two.dequeue,
      two.from_call.1,
      one.at,
      two.at,
      no_fresh,
      record {
        violates = record {
          value = two.value;
          enqueues = (contains_at operations pair.enq two.from_call.0 two.from_call.1, second);
          dequeues = (contains_at operations pair.first one.dequeue one.at, one.dequeues ∙ ap Dequeue same_value);
          dequeues_again = (contains_at operations pair.second two.dequeue two.at, two.dequeues);
          in_order = let order = is.in_order in omega arith;
        };
        soonest = λ enq' first' second' r.
            let (p, at_p) = place_of operations enq' r.enqueues.0 in
            let (i, at_i) = place_of operations first' r.dequeues.0 in
            let (j, at_j) = place_of operations second' r.dequeues_again.0 in
            let from_i = takes_from_enqueue operations i p first' enq' r.value at_i r.dequeues.1 at_p r.enqueues.1 in
            let from_j = takes_from_enqueue operations j p second' enq' r.value at_j r.dequeues_again.1 at_p r.enqueues.1 in
            let ret_i : return_at operations i ≡ first'.ret = rw at_i refl in
            let ret_j : return_at operations j ≡ second'.ret = rw at_j refl in
            let low = slice_get_within operations i first' at_i in
            let high = slice_get_within operations j second' at_j in
            let late = is.soonest p i j (omega arith) (omega arith) from_i from_j (omega (arith, ret_i, ret_j, r.in_order)) in
            omega (arith, late, ret_j, ret_two);
      },
    )

-- if all operations take from different places, the kept ones are their takers
pub once_taken : (operations : List Operation) (firsts : List (Option ℕ)) (n : ℕ) → length operations ≤ n
    → HasFirsts operations firsts n
    → Once operations n → HasTakersTo operations (length operations) firsts
once_taken operations firsts n all known once = record {
  one_each = known.one_each;
  taken = λ p i is. let was = known.taken p i is in (slice_get_within operations i was.1.dequeue was.1.at, was.1);
  takes = λ i p below from.
      let first = known.least i p (omega arith) from in
      let was = known.taken p first.0 first.1 in
      first.1 ∙ ap (λ k. Some k) (once p first.0 i was.0 (omega arith) was.1 from);
}

-- ---- the dequeue of each enqueue

-- the taker of each enqueue is the dequeue of its value
pub dequeues_by_enqueues : (operations : List Operation) (takers : List (Option ℕ)) → NoFreshViolation (on operations)
    → HasTakersTo operations (length operations) takers → HoldsDequeues operations takers
dequeues_by_enqueues operations takers no_fresh taken = record {
  one_each = taken.one_each;
  each = λ i o v here is. at_place i o v here is (get_or takers i None) refl;
}
  where
    at_place : (i : ℕ) (o : Operation) (v : ℕ) → IsAt operations i o → o.kind ≡ Enqueue v → (taker : Option ℕ)
        → get_or takers i None ≡ taker
        → IsDequeuePlace operations v taker
    at_place i o v here is None none = λ x among dequeues.
        let j = place_of operations x among in
        let taker = taken.takes j.0 i (slice_get_within operations j.0 x j.1) (takes_from_enqueue operations j.0 i x o v j.1 dequeues here is) in
        cc
    at_place i o v here is (Some j) some =
        let t = (taken.taken i j some).1 in
        let call = accepted_call operations j i no_fresh t in
        let kinds : Enqueue t.value ≡ Enqueue v =
        sym call ∙ ap (λ (x : Operation). x.kind) (one_at operations i t.from_call.0 o t.from_call.1 here) ∙ is in
        let value : t.value ≡ v = cc in
        (t.dequeue, t.at, t.dequeues ∙ ap Dequeue value)

-- the dequeue at this place is the one that `find` gives
pub found_at_place : (operations : List Operation) (enq : Operation) (v : ℕ) (place : Option ℕ)
    (dequeue : Option Operation) → IsClear (on operations)
    → Did operations enq (Enqueue v) → IsDequeuePlace operations v place
    → IsMaybeAt operations place dequeue → dequeue ≡ find (is_dequeue_of v) operations
found_at_place operations enq v place dequeue clear did is at =
    same_found operations enq v dequeue (find (is_dequeue_of v) operations) clear did (named place dequeue is at)
    (found_dequeue operations v (find (is_dequeue_of v) operations) refl)
  where
    named : (p : Option ℕ) (d : Option Operation) → IsDequeuePlace operations v p → IsMaybeAt operations p d
        → MatchOption d (NoneDid operations (Dequeue v)) (λ x. Did operations x (Dequeue v))
    named None None none there = none
    named (Some p) (Some d) (x, at_x, dequeues) there = (contains_at operations p d there, cc)
    named _ _ is there = absurd there

-- with one taker each, there is no violation of the first two kinds
pub clear_from_takers : (operations : List Operation) (takers : List (Option ℕ)) → AreComplete operations
    → NoFreshViolation (on operations)
    → HasTakersTo operations (length operations) takers → IsClear (on operations)
clear_from_takers operations takers complete no_fresh taken = record {
  complete = complete;
  no_fresh = no_fresh;
  no_repeat = λ enq first second r.
      let (p, at_p) = place_of operations enq r.enqueues.0 in
      let (i, at_i) = place_of operations first r.dequeues.0 in
      let (j, at_j) = place_of operations second r.dequeues_again.0 in
      let taker_i = taken.takes i p (slice_get_within operations i first at_i)
      (takes_from_enqueue operations i p first enq r.value at_i r.dequeues.1 at_p r.enqueues.1) in
      let taker_j = taken.takes j p (slice_get_within operations j second at_j)
      (takes_from_enqueue operations j p second enq r.value at_j r.dequeues_again.1 at_p r.enqueues.1) in
      let less = r.in_order in
      absurd (grind arith);
}
