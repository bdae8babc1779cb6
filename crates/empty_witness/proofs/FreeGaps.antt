-- The window of an operation has a least free gap, or is covered.
use Rattle.empty_witness.proofs.Common.{[], ap, AreApart, AreSpansOf, arith, call_before_return, cases_lt, cases_order}
use Rattle.empty_witness.proofs.Common.{Contains, Contains-get_or, contains_cons, Course, Covers, Enqueue, false}
use Rattle.empty_witness.proofs.Common.{get_or}
use Rattle.empty_witness.proofs.Common.{get_or_default, Holds, inl, inr, IsClear, IsCovered, IsFirstOutside, IsFreeGap}
use Rattle.empty_witness.proofs.Common.{IsLeastFreeGap, IsLife, le-ltb, leb, leb-false, leb-true, length, Life}
use Rattle.empty_witness.proofs.Common.{life_is_contained, life_of_contained, List, lives_of, lt-ltb, ltb, MatchOption}
use Rattle.empty_witness.proofs.Common.{max, not_in_none, on, one_deeper, Operation, Option, ORIGIN, refl, Span, subst}
use Rattle.empty_witness.proofs.Common.{suc, sym, time_of, true, zero, ℕ, ◌+◌, ◌-◌, ◌<◌, ◌∷◌, ◌≡◌, ◌≢◌, ◌≤◌, ◌⊎◌}
use Rattle.std.specs.Bool.{then_some}
use Rattle.std.specs.List.Sorted.{IsNonDecreasingBy, IsPartitionPoint}

-- ---- the least gap outside of spans, in a window

-- the starts of spans that are apart rise
pub starts_rise : (spans : List Span) → AreApart spans → IsNonDecreasingBy (λ span. span.start) spans
starts_rise spans are i j d le within = elim (cases_lt i j) [
  | inl less ↦ omega (arith, are.hold_some i d (omega arith), are.apart i j d less within)
  | inr same ↦ omega (arith, ap (λ k. (get_or spans k d).start) (let here : i ≡ j = omega arith in here))
]

module _ (spans : List Span) (from begun : ℕ) (point : IsPartitionPoint (λ span. leb span.start from ≡ true)
    (λ span. leb span.start from ≡ false) spans begun) where
  has_begun : (k : ℕ) (d : Span) → k < begun → (get_or spans k d).start ≤ from
  has_begun k d before = leb-true _ _ (point.0 k d (omega arith) before)

  begins_later : (k : ℕ) (d : Span) → begun ≤ k → k < length spans → from < (get_or spans k d).start
  begins_later k d after within = leb-false _ _ (point.1 k d after within)

  -- no span has begun
  pub none_begun : begun ≡ 0 → IsFirstOutside spans from from
  none_begun none = record {
    no_less = omega arith;
    outside = λ lies.
        let later = begins_later lies.1.0 lies.0 (omega arith) lies.1.1 in
        let is = ap (λ (s : Span). s.start) lies.1.2 in
        omega (arith, lies.2.0);
    least = λ b above below. absurd (omega arith);
  }

  -- some span has begun, the last of them just before
  pub after_last_begun : (d : Span) (c : ℕ) → AreApart spans → begun ≢ 0 → begun ≤ length spans
      → c ≡ max (get_or spans (begun - 1) d).end from
      → IsFirstOutside spans from c
  after_last_begun d c are some inside is = record {
    no_less = omega arith;
    outside = λ lies. not_at lies.1.0 lies.0 lies.1.1 (subst (λ s. Holds s c) (sym lies.1.2) lies.2);
    least = λ b above below. (get_or spans (begun - 1) d, Contains-get_or spans (begun - 1) d (omega arith), within b above below);
  }
    where
      within : (b : ℕ) → from ≤ b → b < c → Holds (get_or spans (begun - 1) d) b
      within b above below = let first = has_begun (begun - 1) d (omega arith) in (omega arith, omega arith)

      not_at : (k : ℕ) (e : Span) → k < length spans → Holds (get_or spans k e) c → ⊥
      not_at k e inside' holds =
          let first = has_begun (begun - 1) e (omega arith) in
          let ends = ap (λ (s : Span). s.end) (get_or_default spans (begun - 1) d e (omega arith)) in
          elim (cases_order k (begun - 1)) [
            | inr (inl before) ↦ let apart = are.apart k (begun - 1) e before (omega arith) in omega (arith, holds.1)
            | inl here ↦ let late = subst (λ m. c < (get_or spans m e).end) here holds.1 in omega arith
            | inr (inr after) ↦
                let apart = are.apart (begun - 1) k e after inside' in
                let later = begins_later k e (omega arith) inside' in
                omega (arith, holds.0)
          ]

module _ (c : Course) (spans : List Span) (o : Operation) (gap : ℕ) (are : AreSpansOf c spans)
    (is : IsFirstOutside spans o.call gap) where
  -- a gap inside of the window is its least free gap
  free_in_window : gap < o.ret → IsLeastFreeGap c o gap
  free_in_window below = record {
    in_window = (is.no_less, below);
    is_free = λ life is_life covers. is.outside ((are.cover gap).1 (life, is_life, covers));
    least = λ other window free. elim (cases_lt other gap) [
      | inr le ↦ le
      | inl less ↦ let life = (are.cover other).0 (is.least other window.0 less) in absurd (free life.0 life.1 life.2)
    ];
  }

  -- if the gap is past the window, the window is covered
  covered_to : o.ret ≤ gap → IsCovered c o
  covered_to past b window = (are.cover b).0 (is.least b window.0 (omega (arith, window.1)))

  -- a gap within the window is its least free one; if it is past the window, the window is covered
  pub gap_of_window : (found : Option ℕ) → ORIGIN ≤ o.call → found ≡ then_some (ltb gap o.ret) (gap - ORIGIN)
      → MatchOption found (IsCovered c o) (λ g. IsLeastFreeGap c o (time_of g))
  gap_of_window found late same = rw same (elim (cases_lt gap o.ret) [
    | inl below ↦
        let from = is.no_less in
        let back : gap ≡ time_of (gap - ORIGIN) = omega arith in
        rw (lt-ltb gap o.ret below) (subst (IsLeastFreeGap c o) back (free_in_window below))
    | inr past ↦ rw (le-ltb gap o.ret past) (covered_to past)
  ])

-- ---- the window of an operation has a least free gap, or is covered

-- some value of the list covers the gap, or none does
covering : (lives : List Life) (c : ℕ)
    → ((life : Life) × Contains lives life × Covers life c) ⊎ ((life : Life) → Contains lives life → ¬ (Covers life c))
covering [] c = inr (λ life among. absurd (not_in_none life among))
covering (x ∷ lives) c =
    let decided : Covers x c ⊎ ¬ (Covers x c) = grind arith in
    elim decided [
      | inl covers ↦ inl (x, (zero, omega arith, refl), covers)
      | inr not ↦ elim (covering lives c) [
        | inl found ↦ inl (found.0, one_deeper x lives found.0 found.1, found.2)
        | inr none ↦ inr (λ life among covers. elim (contains_cons x lives life among) [
          | inl same ↦ not (subst (λ l. Covers l c) (sym same) covers)
          | inr later ↦ none life later covers
        ])
      ]
    ]

-- from a gap on, below which the window is covered: the least free gap, or the whole window is covered
free_from : (left c : ℕ) (operations : List Operation) (o : Operation) → IsClear (on operations)
    → ((b : ℕ) → o.call ≤ b → b < c → (life : Life) × IsLife (on operations) life × Covers life b) → o.call ≤ c
    → c + left ≡ o.ret
    → ((g : ℕ) × IsLeastFreeGap (on operations) o g) ⊎ IsCovered (on operations) o
free_from zero c operations o clear below above long = inr (λ b window. below b window.0 (omega (arith, window.1)))
free_from (suc left) c operations o clear below above long =
    elim (covering (lives_of operations) c) [
      | inl found ↦ free_from left (suc c) operations o clear (further found.0 (life_of_contained operations found.0 found.1) found.2) (omega arith)
          (omega arith)
      | inr none ↦ inl (
        c,
        record {
          in_window = (above, omega arith);
          is_free = λ life is covers. none life (life_is_contained operations life clear is) covers;
          least = λ other window free. least other window.0 free;
        },
      )
    ]
  where
    further : (life : Life) → IsLife (on operations) life → Covers life c → (b : ℕ) → o.call ≤ b → b < suc c
        → (life : Life) × IsLife (on operations) life × Covers life b
    further life is covers b above' below' = elim (cases_lt b c) [
      | inl less ↦ below b above' less
      | inr more ↦ let same : c ≡ b = omega arith in (life, is, subst (Covers life) same covers)
    ]

    least : (other : ℕ) → o.call ≤ other → IsFreeGap (on operations) other → c ≤ other
    least other above' free = elim (cases_lt other c) [
      | inr le ↦ le
      | inl less ↦ let covered = below other above' less in absurd (free covered.0 covered.1 covered.2)
    ]

-- the window of an operation has a least free gap, or is covered
pub free_gap_or_covered : (operations : List Operation) (o : Operation) → IsClear (on operations)
    → Contains operations o → ((v : ℕ) → o.kind ≢ Enqueue v)
    → ((g : ℕ) × IsLeastFreeGap (on operations) o g) ⊎ IsCovered (on operations) o
free_gap_or_covered operations o clear among other =
    let less = call_before_return operations o clear.complete among other in
    free_from (o.ret - o.call) o.call operations o clear (λ b above below. absurd (omega arith)) (omega arith) (omega arith)
