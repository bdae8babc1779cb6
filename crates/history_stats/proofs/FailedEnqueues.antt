-- The number of values during failed enqueues: just after the call, and just after each arrival before the return.
use Rattle.std.proofs.Common.{◌≡◌, ℕ, zero, suc, ◌+◌, ◌-◌, ◌<◌, ◌≤◌, ◌++◌, ◌∷◌, List, [], length, get_or, cond, refl}
use Rattle.std.proofs.Common.{sym, ◌∙◌, ap, Bool, true, false}
use Rattle.std.proofs.Common.{All, None, Option, Some, inl, inr, arith, nat_lt, not, subst, take, ◌⊎◌}
use Rattle.std.specs.Prelude.{Contains, MatchOption, count_by, filter_map, nat_eq, nat_le, ◌&&◌, ◌||◌}
use Rattle.std.specs.List.{cons_option, list_any}
use Rattle.std.specs.List.Sorted.{IsNonDecreasing, IsPermutation}
use Rattle.std.proofs.lemmas.List.Sorted.{sum_by-IsPermutation}
use Rattle.std.proofs.lemmas.Bool.{cases_eq, cases_lt, eqb-true, eq-eqb, false≢true, le-leb, leb-true, lt-ltb, le-ltb}
use Rattle.std.proofs.lemmas.Bool.{ltb-true}
use Rattle.std.proofs.lemmas.Bool.Decides.{nat_tests}
use Rattle.std.proofs.lemmas.List.Elements.{All-cons}
use Rattle.std.proofs.lemmas.List.Sums.{sum_by-append, sum_by-cons, sum_by_more}
use Rattle.std.proofs.Math.ListN.{set}
use Rattle.std.proofs.lemmas.List.{get_or-set_other, get_or-set_same}
use Rattle.history_merge.specs.declared.operation.Operation.{Operation}
use Rattle.history_stats.specs.Counts.{is_failed_enqueue}
use Rattle.history_stats.specs.FailedEnqueues.{IsDuring, IsFailedEnqueue, IsRefusedAt, NoFailedEnqueue, is_gone_before, left_count}
use Rattle.history_stats.specs.FailedEnqueues.{values_called_before}
use Rattle.history_stats.specs.Inner.AtOnce.{count_before}
use Rattle.history_stats.specs.Inner.FailedEnqueues.{AreHeights, count_above, stays_within, there_at, window_of, windows_of}
use Rattle.history_stats.specs.declared.failed_enqueues.Window.{Window}
use Rattle.history_stats.proofs.AtOnce.{at_least, below_at, count_few, count_rises}

-- ---- heights above a number

-- among more heights at least as many are above
more_above : (most i j : ℕ) (hs : List ℕ) → i ≤ j
    → count_by (λ h. nat_lt most h) (take i hs) ≤ count_by (λ h. nat_lt most h) (take j hs)
more_above most zero j hs le = omega arith
more_above most (suc i) zero hs le = absurd (omega arith)
more_above most (suc i) (suc j) [] le = omega arith
more_above most (suc i) (suc j) (h ∷ hs) le = omega (
  arith,
  sum_by-cons (λ x. cond (nat_lt most x) 1 0) h (take i hs),
  sum_by-cons (λ x. cond (nat_lt most x) 1 0) h (take j hs),
  more_above most i j hs (omega arith),
)

-- if no more are above, none between is
none_between : (most i j k : ℕ) (hs : List ℕ)
    → count_by (λ h. nat_lt most h) (take i hs) ≡ count_by (λ h. nat_lt most h) (take j hs) → i ≤ k → k < j
    → k < length hs → get_or hs k 0 ≤ most
none_between most i j k [] same from to within = absurd (omega arith)
none_between most zero zero k (h ∷ hs) same from to within = absurd (omega arith)
none_between most zero (suc j) zero (h ∷ hs) same from to within = elim (cases_lt most h) [
  | inr le ↦ le
  | inl above ↦ absurd (omega (arith, same, sum_by-cons (λ x. cond (nat_lt most x) 1 0) h (take j hs), ap {B = ℕ} (λ b. cond b 1 0) (lt-ltb most h above)))
]
none_between most zero (suc j) (suc k) (h ∷ hs) same from to within =
    none_between most zero j k hs (omega (arith, same, sum_by-cons (λ x. cond (nat_lt most x) 1 0) h (take j hs))) (omega arith) (omega arith) (omega arith)
none_between most (suc i) zero k (h ∷ hs) same from to within = absurd (omega arith)
none_between most (suc i) (suc j) zero (h ∷ hs) same from to within = absurd (omega arith)
none_between most (suc i) (suc j) (suc k) (h ∷ hs) same from to within = none_between most i j k hs
    (omega (arith, same, sum_by-cons (λ x. cond (nat_lt most x) 1 0) h (take i hs), sum_by-cons (λ x. cond (nat_lt most x) 1 0) h (take j hs)))
    (omega arith) (omega arith) (omega arith)

-- a height between two places that is above the number
record IsBetween (most i j : ℕ) (hs : List ℕ) : Type 0 where
  place : ℕ
  from : i ≤ place
  to : place < j
  within : place < length hs
  above : most < get_or hs place 0

-- if more are above, one between is
some_between : (most i j : ℕ) (hs : List ℕ)
    → count_by (λ h. nat_lt most h) (take i hs) < count_by (λ h. nat_lt most h) (take j hs) → IsBetween most i j hs
some_between most i zero hs more = absurd (omega arith)
some_between most zero (suc j) [] more = absurd (omega arith)
some_between most (suc i) (suc j) [] more = absurd (omega arith)
some_between most zero (suc j) (h ∷ hs) more = elim (cases_lt most h) [
  | inl above ↦ record { place = 0; from = omega arith; to = omega arith; within = omega arith; above = above }
  | inr le ↦
      let is = some_between most zero j hs
      (omega (arith, more, sum_by-cons (λ x. cond (nat_lt most x) 1 0) h (take j hs), ap {B = ℕ} (λ b. cond b 1 0) (le-ltb most h le))) in
      record { place = suc is.place; from = omega arith; to = omega (arith, is.to); within = omega (arith, is.within); above = is.above }
]
some_between most (suc i) (suc j) (h ∷ hs) more =
    let is = some_between most i j hs
    (omega (arith, more, sum_by-cons (λ x. cond (nat_lt most x) 1 0) h (take i hs), sum_by-cons (λ x. cond (nat_lt most x) 1 0) h (take j hs))) in
    record { place = suc is.place; from = omega (arith, is.from); to = omega (arith, is.to); within = omega (arith, is.within); above = is.above }

-- ---- windows of operations

module _ (first : ℕ) (arrivals departures heights : List ℕ) (up : IsNonDecreasing arrivals)
    (are : AreHeights first arrivals departures heights) where
  -- if the window never exceeds a number, there are never more during the operation
  window_stays : (o : Operation) (most gap : ℕ) → (there_at first arrivals departures (o.call + 1) ≤ most)
      → count_above most (take (count_before (o.call + 1) arrivals) heights)
      ≡ count_above most (take (count_before o.ret arrivals) heights)
      → IsDuring o gap → there_at first arrivals departures gap ≤ most
  window_stays o most gap start same during = elim (cases_lt (count_before (o.call + 1) arrivals) (count_before gap arrivals)) [
    | inr earlier ↦ omega (arith, start, count_rises (o.call + 1) gap departures (omega (arith, during.0)))
    | inl later ↦
        let k = count_before gap arrivals - 1 in
        let within = count_few gap arrivals in
        let came = below_at gap arrivals k up (omega arith) in
        let gone = count_rises (get_or arrivals k 0 + 1) gap departures (omega arith) in
        let few = count_rises gap o.ret arrivals during.1 in
        let low = none_between most (count_before (o.call + 1) arrivals) (count_before o.ret arrivals) k heights same (omega arith) (omega arith) (omega (arith, are.one_each)) in
        let height = are.each k (omega arith) in
        omega arith
  ]

  -- if the window exceeds it, there are more at some gap
  window_exceeds : (o : Operation) (most : ℕ) → o.call < o.ret
      → (most < there_at first arrivals departures (o.call + 1))
      ⊎ (count_above most (take (count_before (o.call + 1) arrivals) heights)
      < count_above most (take (count_before o.ret arrivals) heights))
      → (gap : ℕ) × IsDuring o gap × (most < there_at first arrivals departures gap)
  window_exceeds o most forward (inl start) = (o.call + 1, (omega arith, omega arith), start)
  window_exceeds o most forward (inr more) =
      let is = some_between most (count_before (o.call + 1) arrivals) (count_before o.ret arrivals) heights more in
      let k = is.place in
      let within : k < length arrivals = omega (arith, is.within, are.one_each) in
      let before : get_or arrivals k 0 < o.ret = below_at o.ret arrivals k up is.to in
      let after : o.call < get_or arrivals k 0 = elim (cases_lt (get_or arrivals k 0) (o.call + 1)) [
        | inl early ↦ absurd (omega (arith, at_least (o.call + 1) arrivals k up within early, is.from))
        | inr late ↦ omega arith
      ] in
      let came = at_least (get_or arrivals k 0 + 1) arrivals k up within (omega arith) in
      (get_or arrivals k 0 + 1, (omega arith, omega arith), omega (arith, is.above, are.each k within, came))

  -- the test of a window decides
  stays_so : (o : Operation) (most : ℕ) → stays_within heights most (window_of first arrivals departures o) ≡ true
      → (gap : ℕ) → IsDuring o gap
      → there_at first arrivals departures gap ≤ most
  stays_so o most is gap during =
      let parts = both (nat_le (there_at first arrivals departures (o.call + 1)) most) _ is in
      window_stays o most gap (leb-true _ _ parts.0) (eqb-true _ _ parts.1) during
    where
      both : (a b : Bool) → (a && b) ≡ true → (a ≡ true) × (b ≡ true)
      both true true is = (refl, refl)
      both true false is = absurd (cc)
      both false b is = absurd (cc)

  exceeds_so : (o : Operation) (most : ℕ) → o.call < o.ret
      → stays_within heights most (window_of first arrivals departures o) ≡ false
      → (gap : ℕ) × IsDuring o gap × (most < there_at first arrivals departures gap)
  exceeds_so o most forward is = window_exceeds o most forward (which (cases_lt most start) (cases_lt above_from above_to))
    where
      start : ℕ
      start = there_at first arrivals departures (o.call + 1)

      above_from : ℕ
      above_from = count_above most (take (count_before (o.call + 1) arrivals) heights)

      above_to : ℕ
      above_to = count_above most (take (count_before o.ret arrivals) heights)

      rises : above_from ≤ above_to
      rises = more_above most _ _ heights (count_rises (o.call + 1) o.ret arrivals (omega arith))

      which : (most < start) ⊎ (start ≤ most) → (above_from < above_to) ⊎ (above_to ≤ above_from)
          → (most < start) ⊎ (above_from < above_to)
      which (inl more) _ = inl more
      which (inr le) (inl more) = inr more
      which (inr le) (inr none) = absurd (neither (nat_le start most) (nat_eq above_from above_to)
          (le-leb start most le) (eq-eqb above_from above_to (omega (arith, rises, none))) is)
        where
          neither : (a b : Bool) → a ≡ true → b ≡ true → (a && b) ≡ false → ⊥
          neither true true x y z = absurd (cc)
          neither true false x y z = absurd (cc)
          neither false b x y z = absurd (cc)

-- ---- counts for each place

-- one more place
pub counts_more : (most place n : ℕ) (heights above new : List ℕ) → place < length heights
    → length above ≡ length heights + 1
    → n ≡ get_or above place 0 + cond (nat_lt most (get_or heights place 0)) 1 0 → new ≡ set above (place + 1) n
    → ((k : ℕ) → k ≤ place → get_or above k 0 ≡ count_above most (take k heights))
    → (k : ℕ) → k ≤ place + 1 → get_or new k 0 ≡ count_above most (take k heights)
counts_more most place n heights above new within room is pushed so_far k le = elim (cases_eq k (place + 1)) [
  | inl same ↦
      ap (λ l. get_or l k 0) pushed ∙ ap (λ m. get_or (set above (place + 1) n) m 0) same ∙ get_or-set_same above (place + 1) n 0 (omega (arith, room))
      ∙ omega (
        arith,
        is,
        so_far place (omega arith),
        sum_by_more (λ h. cond (nat_lt most h) 1 0) heights place 0 within,
        ap (λ m. count_above most (take m heights)) same,
      )
  | inr other ↦ ap (λ l. get_or l k 0) pushed ∙ get_or-set_other above (place + 1) k n 0 other ∙ so_far k (omega (arith, other))
]

-- ---- windows of failed enqueues

module _ (first : ℕ) (arrivals departures : List ℕ) where
  abbrev found_of : Operation → Option Window
  found_of o = cond (is_failed_enqueue o.kind) (Some (window_of first arrivals departures o)) None

  -- if some window passes a test, it is that of a failed enqueue
  some_failed : (p : Window → Bool) (operations : List Operation)
      → list_any p (windows_of first arrivals departures operations) ≡ true
      → (o : Operation) × IsFailedEnqueue operations o × (p (window_of first arrivals departures o) ≡ true)
  some_failed p [] is = absurd (cc)
  some_failed p (o ∷ rest) is = here (is_failed_enqueue o.kind) refl is (some_failed p rest)
    where
      later : (x : (z : Operation) × IsFailedEnqueue rest z × (p (window_of first arrivals departures z) ≡ true))
          → (z : Operation) × IsFailedEnqueue (o ∷ rest) z × (p (window_of first arrivals departures z) ≡ true)
      later x = (x.0, ((suc x.1.0.0, omega (arith, x.1.0.1), x.1.0.2), x.1.1), x.2)

      here : (b : Bool) → is_failed_enqueue o.kind ≡ b
          → list_any p (cons_option (cond b (Some (window_of first arrivals departures o)) None)
          (windows_of first arrivals departures rest)) ≡ true
          → (list_any p (windows_of first arrivals departures rest) ≡ true
          → (z : Operation) × IsFailedEnqueue rest z × (p (window_of first arrivals departures z) ≡ true))
          → (z : Operation) × IsFailedEnqueue (o ∷ rest) z × (p (window_of first arrivals departures z) ≡ true)
      here false not_so any more = later (more any)
      here true so any more = passes (p (window_of first arrivals departures o)) refl any
        where
          passes : (b : Bool) → p (window_of first arrivals departures o) ≡ b
              → (b || list_any p (windows_of first arrivals departures rest)) ≡ true
              → (z : Operation) × IsFailedEnqueue (o ∷ rest) z × (p (window_of first arrivals departures z) ≡ true)
          passes true it any = (o, ((0, omega arith, refl), so), it)
          passes false it any = later (more any)

  -- if no window passes a test, that of no failed enqueue does
  no_failed : (p : Window → Bool) (operations : List Operation)
      → list_any p (windows_of first arrivals departures operations) ≡ false
      → (o : Operation) → IsFailedEnqueue operations o → p (window_of first arrivals departures o) ≡ false
  no_failed p [] is o failed = absurd (omega (arith, failed.0.1))
  no_failed p (x ∷ rest) is o failed = here (is_failed_enqueue x.kind) refl is failed.0 (no_failed p rest)
    where
      at : (k : ℕ) → k < length (x ∷ rest) → get_or (x ∷ rest) k o ≡ o
          → ((x ≡ o) ⊎ Contains rest o)
      at zero within is = inl is
      at (suc k) within is = inr (k, omega arith, is)

      here : (b : Bool) → is_failed_enqueue x.kind ≡ b
          → list_any p (cons_option (cond b (Some (window_of first arrivals departures x)) None)
          (windows_of first arrivals departures rest)) ≡ false
          → Contains (x ∷ rest) o
          → (list_any p (windows_of first arrivals departures rest) ≡ false
          → (z : Operation) → IsFailedEnqueue rest z → p (window_of first arrivals departures z) ≡ false)
          → p (window_of first arrivals departures o) ≡ false
      here b so none among more = elim (at among.0 among.1 among.2) [
        | inl same ↦ it b (sym so ∙ ap (λ (z : Operation). is_failed_enqueue z.kind) same ∙ failed.1) none same
        | inr later ↦ more (rest_none b none) o (later, failed.1)
      ]
        where
          neither : (a c : Bool) → (a || c) ≡ false → (a ≡ false) × (c ≡ false)
          neither false false is = (refl, refl)
          neither false true is = absurd (cc)
          neither true c is = absurd (cc)

          rest_none : (b : Bool) → list_any p
              (cons_option (cond b (Some (window_of first arrivals departures x)) None)
              (windows_of first arrivals departures rest)) ≡ false
              → list_any p (windows_of first arrivals departures rest) ≡ false
          rest_none false none = none
          rest_none true none = (neither _ _ none).1

          it : (b : Bool) → b ≡ true
              → list_any p (cons_option (cond b (Some (window_of first arrivals departures x)) None)
              (windows_of first arrivals departures rest)) ≡ false
              → x ≡ o → p (window_of first arrivals departures o) ≡ false
          it true so none same = ap (λ z. p (window_of first arrivals departures z)) (sym same) ∙ (neither _ _ none).0
          it false so none same = absurd (cc)

-- without windows no enqueue failed
pub none_failed : (first : ℕ) (arrivals departures : List ℕ) (operations : List Operation) (windows : List Window)
    → windows ≡ windows_of first arrivals departures operations → length windows ≡ 0 → NoFailedEnqueue operations
none_failed first arrivals departures operations windows is none o failed =
    absurd (false≢true (sym (no_failed first arrivals departures (λ _. true) operations (ap (list_any (λ _. true)) (sym is) ∙ empty windows none) o failed)))
  where
    empty : (ws : List Window) → length ws ≡ 0 → list_any (λ _. true) ws ≡ false
    empty [] none = refl
    empty (w ∷ ws) none = absurd (omega arith)

-- the least number that a window never exceeds is the minimum of the maximum during a failed enqueue
pub refused_at_is : (first least : ℕ) (arrivals departures heights : List ℕ) (operations : List Operation)
    (windows : List Window) → IsNonDecreasing arrivals
    → AreHeights first arrivals departures heights → All (λ o. o.call < o.ret) operations → windows ≡ windows_of first arrivals departures operations
    → list_any (stays_within heights least) windows ≡ true → (0 < least → list_any (stays_within heights (least - 1)) windows ≡ false)
    → IsRefusedAt operations (there_at first arrivals departures) least
refused_at_is first least arrivals departures heights operations windows up are forward is within lower = record {
  failed = one.0;
  is_failed = one.1;
  at_most = stays_so first arrivals departures heights up are one.0 least one.2;
  at_each = λ o failed. each o failed (cases_lt 0 least);
}
  where
    one : (o : Operation) × IsFailedEnqueue operations o
        × (stays_within heights least (window_of first arrivals departures o) ≡ true)
    one = some_failed first arrivals departures (stays_within heights least) operations (ap (list_any (stays_within heights least)) (sym is) ∙ within)

    goes : (o : Operation) → Contains operations o → o.call < o.ret
    goes o among = let at = forward among.0 o among.1 in
        let same : get_or operations among.0 o ≡ o = among.2 in
        omega (arith, at, ap (λ (z : Operation). z.call) same, ap (λ (z : Operation). z.ret) same)

    each : (o : Operation) → IsFailedEnqueue operations o → (0 < least) ⊎ (least ≤ 0)
        → (gap : ℕ) × IsDuring o gap × (least ≤ there_at first arrivals departures gap)
    each o failed (inr none) = let less = goes o failed.0 in (o.call + 1, (omega arith, omega arith), omega arith)
    each o failed (inl some) =
        let passed = no_failed first arrivals departures (stays_within heights (least - 1)) operations
        (ap (list_any (stays_within heights (least - 1))) (sym is) ∙ lower some) o failed in
        let more = exceeds_so first arrivals departures heights up are o (least - 1) (goes o failed.0) passed in
        (more.0, more.1, omega (arith, more.2))

-- equal numbers have the same minimum
pub refused_at_alike : (operations : List Operation) (f g : ℕ → ℕ) (least : ℕ) → ((gap : ℕ) → f gap ≡ g gap)
    → IsRefusedAt operations f least
    → IsRefusedAt operations g least
refused_at_alike operations f g least same is = record {
  failed = is.failed;
  is_failed = is.is_failed;
  at_most = λ gap during. let e = same gap in let le = is.at_most gap during in omega arith;
  at_each = λ o failed. let one = is.at_each o failed in (one.0, one.1, omega (arith, one.2, same one.0));
}

-- permuted tickets have the same minimum
pub refused_at_permuted : (first least : ℕ) (arrivals arrivals' departures departures' : List ℕ)
    (operations : List Operation) → IsPermutation arrivals arrivals'
    → IsPermutation departures departures' → IsRefusedAt operations (there_at first arrivals' departures') least
    → IsRefusedAt operations (there_at first arrivals departures) least
refused_at_permuted first least arrivals arrivals' departures departures' operations came went is = refused_at_alike operations
    (there_at first arrivals' departures') (there_at first arrivals departures) least
    (λ gap i. first + sum_by-IsPermutation (λ t. cond (nat_lt t gap) 1 0) arrivals arrivals' came i
    - sum_by-IsPermutation (λ t. cond (nat_lt t gap) 1 0) departures departures' went i) is

-- ---- each window never exceeds the greatest number

-- if each window passes a test, some window does, if there is one
some_passes : (p : Window → Bool) (windows : List Window)
    → ((k : ℕ) (d : Window) → k < length windows → p (get_or windows k d) ≡ true) → 0 < length windows
    → list_any p windows ≡ true
some_passes p [] each some = absurd (omega arith)
some_passes p (w ∷ ws) each some = ap (λ b. b || list_any p ws) (each zero w (omega arith))

-- each window is that of an operation
each_window : (P : Window → Type 0) (first : ℕ) (arrivals departures : List ℕ)
    → ((o : Operation) → P (window_of first arrivals departures o))
    → (operations : List Operation) → All P (windows_of first arrivals departures operations)
each_window P first arrivals departures holds [] = λ k d below. absurd (omega arith)
each_window P first arrivals departures holds (o ∷ rest) = here (is_failed_enqueue o.kind) (each_window P first arrivals departures holds rest)
  where
    here : (b : Bool) → All P (windows_of first arrivals departures rest)
        → All P (cons_option (cond b (Some (window_of first arrivals departures o)) None)
        (windows_of first arrivals departures rest))
    here true more = All-cons P (window_of first arrivals departures o) (windows_of first arrivals departures rest) (holds o) more
    here false more = more

-- the arrivals of a window are among all
pub windows_end : (first : ℕ) (arrivals departures heights : List ℕ) (operations : List Operation)
    (windows : List Window)
    → windows ≡ windows_of first arrivals departures operations → length heights ≡ length arrivals
    → All (λ w. (w.from ≤ length heights) × (w.to ≤ length heights)) windows
windows_end first arrivals departures heights operations windows is each =
    subst (All (λ w. (w.from ≤ length heights) × (w.to ≤ length heights))) (sym is)
    (each_window (λ w. (w.from ≤ length heights) × (w.to ≤ length heights)) first arrivals departures
    (λ o. (omega (arith, count_few (o.call + 1) arrivals, each), omega (arith, count_few o.ret arrivals, each))) operations)

-- no height is above the greatest number
none_above : (most : ℕ) (hs : List ℕ) (i : ℕ) → ((k : ℕ) → k < length hs → get_or hs k 0 ≤ most)
    → count_above most (take i hs) ≡ 0
none_above most hs zero low = refl
none_above most [] (suc i) low = refl
none_above most (h ∷ hs) (suc i) low =
    let more = none_above most hs i (λ k below. low (suc k) (omega arith)) in
    omega (arith, more, sum_by-cons (λ x. cond (nat_lt most x) 1 0) h (take i hs), ap {B = ℕ} (λ b. cond b 1 0) (le-ltb most h (low zero (omega arith))))

-- no window exceeds the greatest number
pub stays_at_last : (first last : ℕ) (arrivals departures heights : List ℕ) (operations : List Operation)
    (windows : List Window)
    → windows ≡ windows_of first arrivals departures operations → AreHeights first arrivals departures heights → last ≡ first + length arrivals
    → 0 < length windows → list_any (stays_within heights last) windows ≡ true
stays_at_last first last arrivals departures heights operations windows is are greatest some =
    some_passes (stays_within heights last) windows (subst (All (λ w. stays_within heights last w ≡ true)) (sym is)
    (each_window (λ w. stays_within heights last w ≡ true) first arrivals departures passes operations)) some
  where
    low : (k : ℕ) → k < length heights → get_or heights k 0 ≤ last
    low k within = let height = are.each k (omega (arith, are.one_each)) in omega (arith, height, are.one_each)

    passes : (o : Operation) → stays_within heights last (window_of first arrivals departures o) ≡ true
    passes o =
        let start = count_few (o.call + 1) arrivals in
        let a = none_above last heights (count_before (o.call + 1) arrivals) low in
        let b = none_above last heights (count_before o.ret arrivals) low in
        (λ i. le-leb (there_at first arrivals departures (o.call + 1)) last (omega arith) i
        && eq-eqb (count_above last (take (count_before (o.call + 1) arrivals) heights)) (count_above last (take (count_before o.ret arrivals) heights)) (omega arith) i)

-- permuted tickets have the same minimum, whether an enqueue failed or not
pub permuted_maybe : (first : ℕ) (least : Option ℕ) (arrivals arrivals' departures departures' : List ℕ)
    (operations : List Operation)
    → IsPermutation arrivals arrivals' → IsPermutation departures departures'
    → MatchOption least (NoFailedEnqueue operations) (IsRefusedAt operations (there_at first arrivals' departures'))
    → MatchOption least (NoFailedEnqueue operations) (IsRefusedAt operations (there_at first arrivals departures))
permuted_maybe first None arrivals arrivals' departures departures' operations came went is = is
permuted_maybe first (Some least) arrivals arrivals' departures departures' operations came went is =
    refused_at_permuted first least arrivals arrivals' departures departures' operations came went is

-- the number present by arrivals and departures is the number that may be in the queue
pub refused_at_maybe : (least : Option ℕ) (operations : List Operation) (f g : ℕ → ℕ) → ((gap : ℕ) → f gap ≡ g gap)
    → MatchOption least (NoFailedEnqueue operations) (IsRefusedAt operations f)
    → MatchOption least (NoFailedEnqueue operations) (IsRefusedAt operations g)
refused_at_maybe None operations f g same is = is
refused_at_maybe (Some least) operations f g same is = refused_at_alike operations f g least same is

pub left_is_there : (initial : List ℕ) (operations : List Operation)
    (goes_before : ℕ → ℕ → Bool) (arrivals first_goes departures : List ℕ)
    → ((gap v : ℕ) → goes_before gap v ≡ is_gone_before gap operations v)
    → ((gap : ℕ) → count_by (λ v. not (goes_before gap v)) initial + count_before gap first_goes ≡ length initial + count_before gap [])
    → ((gap : ℕ) → count_by (λ v. not (goes_before gap v)) (values_called_before gap operations) + count_before gap departures + count_before gap []
    ≡ count_before gap arrivals + count_before gap first_goes) → (gap : ℕ)
    → there_at (length initial) arrivals departures gap ≡ left_count gap operations (initial ++ values_called_before gap operations)
left_is_there initial operations goes_before arrivals first_goes departures same firsts puts gap =
    let both = sum_by-append (λ v. cond (not (is_gone_before gap operations v)) 1 0) initial (values_called_before gap operations) in
    omega (arith, both, firsts gap, puts gap, alike initial, alike (values_called_before gap operations))
  where
    alike : (values : List ℕ) → count_by (λ v. not (goes_before gap v)) values ≡ left_count gap operations values
    alike values = λ i. count_by (λ v. not (same gap v i)) values
