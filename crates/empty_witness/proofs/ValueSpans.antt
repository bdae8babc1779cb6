-- The spans of the stays of a history's values are those of the history.
use Rattle.empty_witness.proofs.Common.{[], All, All-pop, All-push, All-weaker, ap, AreApart, AreSpansOf, arith}
use Rattle.empty_witness.proofs.Common.{Contains, Contains-append_left, Contains-push, Contains-push_cases, Contents}
use Rattle.empty_witness.proofs.Common.{course_of, Covers, get_or, get_or_append_left, get_or_push, Holds, HoldsValues}
use Rattle.empty_witness.proofs.Common.{inl, inr, IsClear, IsOfBoth, IsWithSpan, length, length-append, length-take-le}
use Rattle.empty_witness.proofs.Common.{LiesIn, life_value, List, MatchedValue, max, not_in_none, one_more}
use Rattle.empty_witness.proofs.Common.{refl, set, set_at, Some, Span, stay_of, subst, sym, take, take_all}
use Rattle.empty_witness.proofs.Common.{value_lives, ℕ, ◌++◌, ◌+◌, ◌<◌, ◌∙◌, ◌∷◌, ◌≡◌, ◌≤◌, ◌⊎◌}
use Rattle.std.proofs.lemmas.List.Quantifiers.{all_pairs_push}

-- ---- spans that are apart, and one more

lies_left : (xs : List Span) (x : Span) (c : ℕ) → LiesIn xs c → LiesIn (xs ++ x ∷ []) c
lies_left xs x c lies = (lies.0, Contains-append_left xs (x ∷ []) lies.0 lies.1, lies.2)

lies_last : (xs : List Span) (x : Span) (c : ℕ) → Holds x c → LiesIn (xs ++ x ∷ []) c
lies_last xs x c holds = (x, Contains-push xs x, holds)

lies_cases : (xs : List Span) (x : Span) (c : ℕ) → LiesIn (xs ++ x ∷ []) c → LiesIn xs c ⊎ Holds x c
lies_cases xs x c lies = elim (Contains-push_cases xs x lies.0 lies.1) [
  | inl before ↦ inl (lies.0, before, lies.2)
  | inr same ↦ inr (subst (λ span. Holds span c) (sym same) lies.2)
]

-- the last of some spans, and those before it
module _ (xs : List Span) (x : Span) (are : AreApart (xs ++ x ∷ [])) where
  some_hold : All (λ s. s.start < s.end) xs × (x.start < x.end)
  some_hold = All-pop (λ s. s.start < s.end) (xs ++ x ∷ []) xs (Some x) refl are.hold_some

  -- the spans before the last are apart
  pub apart_before : AreApart xs
  apart_before = record {
    hold_some = some_hold.0;
    apart = λ i j d less within.
        let pair = are.apart i j d less (let long = length-append xs (x ∷ []) in omega arith) in
        let first = ap (λ (s : Span). s.end) (get_or_append_left xs (x ∷ []) d i (omega arith)) in
        let second = ap (λ (s : Span). s.start) (get_or_append_left xs (x ∷ []) d j within) in
        omega (arith, pair, first, second);
  }

  -- the spans before the last end before it
  pub end_before : All (λ s. s.end < x.start) xs
  end_before k d within =
      let pair = are.apart k (length xs) d within (let long = length-append xs (x ∷ []) in omega arith) in
      let first = ap (λ (s : Span). s.end) (get_or_append_left xs (x ∷ []) d k within) in
      let second = ap (λ (s : Span). s.start) (get_or_push xs x d (length xs) refl) in
      omega (arith, pair, first, second)

spans_push : (spans : List Span) (last : Span) → AreApart spans → All (λ span. span.end < last.start) spans
    → last.start < last.end
    → AreApart (spans ++ last ∷ [])
spans_push spans last are below some = record {
  hold_some = All-push (λ span. span.start < span.end) spans last are.hold_some some;
  apart = all_pairs_push (λ x y. x.end < y.start) spans last are.apart (λ k d within. below k d within);
}

-- a span after all others
pub with_last : (spans : List Span) (span : Span) → AreApart spans → All (λ s. s.end < span.start) spans
    → span.start < span.end
    → IsWithSpan spans span (spans ++ span ∷ [])
with_last spans span are below some = record {
  apart = spans_push spans span are below some;
  same = λ c. (λ lies. lies_cases spans span c lies, λ side. elim side [ inl before ↦ lies_left spans span c before | inr here ↦ lies_last spans span c here ]);
  ends = λ b before ends. All-push (λ s. s.end < b) spans span before ends;
}

module _ (spans : List Span) (last span : Span)
    (are : AreApart (spans ++ last ∷ [])) (some : span.start < span.end) where
  -- a span that begins after the end of the last
  pub after_last : last.end < span.start → IsWithSpan (spans ++ last ∷ []) span ((spans ++ last ∷ []) ++ span ∷ [])
  after_last after = with_last (spans ++ last ∷ []) span are (All-push (λ s. s.end < span.start) spans last
      (All-weaker (λ s. s.end < last.start) (λ s. s.end < span.start) (λ s less. let holds = (some_hold spans last are).1 in omega arith) spans
      (end_before spans last are)) after) some

  -- a span that ends before the start of the last is put among those before it
  pub before_last : (new : List Span) → span.end < last.start → IsWithSpan spans span new
      → IsWithSpan (spans ++ last ∷ []) span (new ++ last ∷ [])
  before_last new before with_span = record {
    apart = spans_push new last with_span.apart (with_span.ends last.start (end_before spans last are) before) (some_hold spans last are).1;
    same = λ c. (
      λ lies. elim (lies_cases new last c lies) [
        | inl there ↦ elim ((with_span.same c).0 there) [ inl old ↦ inl (lies_left spans last c old) | inr here ↦ inr here ]
        | inr here ↦ inl (lies_last spans last c here)
      ],
      λ side. elim side [
        | inl old ↦ elim (lies_cases spans last c old) [
          | inl there ↦ lies_left new last c ((with_span.same c).1 (inl there))
          | inr here ↦ lies_last new last c here
        ]
        | inr here ↦ lies_left new last c ((with_span.same c).1 (inr here))
      ],
    );
    ends = λ b old ends.
        let parts = All-pop (λ s. s.end < b) (spans ++ last ∷ []) spans (Some last) refl old in
        All-push (λ s. s.end < b) new last (with_span.ends b parts.0 ends) parts.1;
  }

  -- a span that touches or overlaps the last is joined with it
  module _ (joined : Span) (of_both : IsOfBoth last span joined)
      (begins : span.start ≤ last.end) (ends : last.start ≤ span.end) where
    -- the joined span holds some gap
    pub joined_holds : joined.start < joined.end
    joined_holds = omega (arith, of_both.starts, of_both.ends, some)

    pub with_joined : (new : List Span) → IsWithSpan spans joined new → IsWithSpan (spans ++ last ∷ []) span new
    with_joined new with_span = record {
      apart = with_span.apart;
      same = λ c. (
        λ lies. elim ((with_span.same c).0 lies) [
          | inl old ↦ inl (lies_left spans last c old)
          | inr here ↦ elim (split c here) [ inl first ↦ inl (lies_last spans last c first) | inr second ↦ inr second ]
        ],
        λ side. elim side [
          | inl old ↦ elim (lies_cases spans last c old) [
            | inl there ↦ (with_span.same c).1 (inl there)
            | inr here ↦ (with_span.same c).1 (inr (omega (arith, here.0, of_both.starts), omega (arith, here.1, of_both.ends)))
          ]
          | inr here ↦ (with_span.same c).1 (inr (omega (arith, here.0, of_both.starts), omega (arith, here.1, of_both.ends)))
        ],
      );
      ends = λ b old less.
          let parts = All-pop (λ s. s.end < b) (spans ++ last ∷ []) spans (Some last) refl old in
          with_span.ends b parts.0 (omega (arith, of_both.ends, less, parts.1));
    }
      where
        split : (c : ℕ) → Holds joined c → Holds last c ⊎ Holds span c
        split c holds =
            let low = holds.0 in
            let high = holds.1 in
            let starts = of_both.starts in
            let ends' = of_both.ends in
            let cases : (((last.start ≤ c) × (c < last.end)) ⊎ ((span.start ≤ c) × (c < span.end))) = grind arith in
            cases

-- a span that begins within the last, or where that ends, makes the last longer
module _ (spans : List Span) (i : ℕ) (last stay grown : Span) (is_last : i + 1 ≡ length spans) (read : (d : Span) → last ≡ get_or spans i d)
    (are : AreApart spans) (some : stay.start < stay.end) (within : last.start ≤ stay.start) (touches : stay.start ≤ last.end)
    (starts : grown.start ≡ last.start) (ends : grown.end ≡ max last.end stay.end) where
  abbrev before : List Span
  before = take i spans

  split : spans ≡ before ++ last ∷ []
  split = sym (take_all (i + 1) spans (omega (arith, is_last))) ∙ one_more spans i last (omega (arith, is_last)) (read last)

  long : length before ≡ i
  long = length-take-le i spans (omega (arith, is_last))

  put : set spans i grown ≡ before ++ grown ∷ []
  put = ap (λ xs. set xs i grown) split ∙ set_at before last [] grown i long

  pub last_grown : IsWithSpan spans stay (set spans i grown)
  last_grown =
      let are' = subst AreApart split are in
      let both : IsOfBoth last stay grown = record { starts = omega (arith, starts, within); ends = ends } in
      let below = All-weaker (λ (s : Span). s.end < last.start) (λ s. s.end < grown.start) (λ s less. omega (arith, less, starts)) before
      (end_before before last are') in
      let holds = joined_holds before last stay are' some grown both touches (omega (arith, within, some)) in
      rw put (subst (λ xs. IsWithSpan xs stay (before ++ grown ∷ [])) (sym split)
      (with_joined before last stay are' some grown both touches (omega (arith, within, some)) (before ++ grown ∷ [])
      (with_last before grown (apart_before before last are') below holds)))

-- ---- the spans of the stays of a history's values are those of the history

-- some value is definitely in the queue at this gap
abbrev pub Stays : List MatchedValue → ℕ → Type 0
Stays values c = (m : MatchedValue) × Contains values m × Holds (stay_of m.life) c

-- the spans of the first n values
pub record AreSpansSoFar (values : List MatchedValue) (n : ℕ) (spans : List Span) : Type 0 where
  pub apart : AreApart spans
  pub lies : (c : ℕ) → LiesIn spans c → Stays (take n values) c
  pub stays : (c : ℕ) → Stays (take n values) c → LiesIn spans c

-- no values have no spans
pub no_spans : (values : List MatchedValue) → AreSpansSoFar values 0 []
no_spans values = record {
  apart = record { hold_some = λ k d within. absurd (omega arith); apart = λ i j d less within. absurd (omega arith) };
  lies = λ c lies. absurd (not_in_none lies.0 lies.1);
  stays = λ c stays. absurd (not_in_none stays.0 stays.1);
}

module _ (values : List MatchedValue) (n : ℕ) (spans : List Span) (m : MatchedValue) (so_far : AreSpansSoFar values n spans)
    (within : n < length values) (is : m ≡ get_or values n m) where
  more : take (n + 1) values ≡ take n values ++ m ∷ []
  more = one_more values n m within is

  sooner : (c : ℕ) → Stays (take n values) c → Stays (take (n + 1) values) c
  sooner c stays = subst (λ xs. Stays xs c) (sym more) (stays.0, Contains-append_left (take n values) (m ∷ []) stays.0 stays.1, stays.2)

  -- the spans with one more value
  pub with_value : (new : List Span) → IsWithSpan spans (stay_of m.life) new → AreSpansSoFar values (n + 1) new
  with_value new with_span = record {
    apart = with_span.apart;
    lies = λ c lies. elim ((with_span.same c).0 lies) [
      | inl old ↦ sooner c (so_far.lies c old)
      | inr here ↦ subst (λ xs. Stays xs c) (sym more) (m, Contains-push (take n values) m, here)
    ];
    stays = λ c stays.
        let now = subst (λ xs. Stays xs c) more stays in
        elim (Contains-push_cases (take n values) m now.0 now.1) [
          | inl old ↦ (with_span.same c).1 (inl (so_far.stays c (now.0, old, now.2)))
          | inr same ↦ (with_span.same c).1 (inr (subst (λ (x : MatchedValue). Holds (stay_of x.life) c) (sym same) now.2))
        ];
  }

  -- one more value without a stay
  pub without_value : (stay_of m.life).end ≤ (stay_of m.life).start → AreSpansSoFar values (n + 1) spans
  without_value none = record {
    apart = so_far.apart;
    lies = λ c lies. sooner c (so_far.lies c lies);
    stays = λ c stays.
        let now = subst (λ xs. Stays xs c) more stays in
        elim (Contains-push_cases (take n values) m now.0 now.1) [
          | inl old ↦ so_far.stays c (now.0, old, now.2)
          | inr same ↦
              let here = subst (λ (x : MatchedValue). Holds (stay_of x.life) c) (sym same) now.2 in
              absurd (omega (arith, here.0, here.1, none))
        ];
  }

-- the spans of all values are those of the history
pub are_spans : (history : Contents) (values : List MatchedValue) (n : ℕ) (spans : List Span)
    → IsClear (course_of history) → HoldsValues history values
    → length values ≤ n → AreSpansSoFar values n spans → AreSpansOf (course_of history) spans
are_spans history values n spans clear holds all are = record {
  apart = are.apart;
  cover = λ c. (
    λ lies.
        let stays = subst (λ xs. Stays xs c) (take_all n values all) (are.lies c lies) in
        (stays.0.life, value_lives history.initial history.operations clear values holds stays.0 stays.1, stays.2),
    λ covered.
        let value = life_value history.initial history.operations clear values holds covered.0 covered.1 in
        let at = subst (λ l. Covers l c) (sym value.2) covered.2 in
        are.stays c (subst (λ xs. Stays xs c) (sym (take_all n values all)) (value.0, value.1, at)),
  );
}
