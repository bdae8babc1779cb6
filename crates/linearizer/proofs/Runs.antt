-- Positions rise along the values, and operations in the order of their positions are a run that the queue accepts.
use Rattle.linearizer.proofs.Common.{[], All, All-contains, All-head, All-tail, AllPairs, AllZip, ap, arith, cases_lt}
use Rattle.linearizer.proofs.Common.{cases_order, Contains, contains_cons, Dequeue, earlier_dequeues, DequeueEmpty}
use Rattle.linearizer.proofs.Common.{Enqueue, enqueues}
use Rattle.linearizer.proofs.Common.{eq-eqb, if◌then◌else◌, inl, inr, IsAccepted, length, length_push, List, nat_lt}
use Rattle.linearizer.proofs.Common.{nat_tests, none-some, noop_answers, EnqueueFailed, OpKind, other_dequeues}
use Rattle.linearizer.proofs.Common.{Position, refl}
use Rattle.linearizer.proofs.Common.{slice_get, Some, StandsBefore, subst, suc, sym, zero, ℕ, ◌++◌, ◌+◌, ◌<◌, ◌∙◌, ◌∷◌}
use Rattle.linearizer.proofs.Common.{◌≡◌, ◌≤◌}
use Rattle.history_merge.proofs.Lists.{with_one_more, AllPairs-tail}

-- at most one of two positions is before the other
pub not_both : (p r : Position) → StandsBefore p r → StandsBefore r p → ⊥
not_both p r before after = grind arith

-- a position doesn't come before itself
pub not_itself : (p : Position) → StandsBefore p p → ⊥
not_itself p before = grind arith

-- the order of positions is transitive
pub before_through : (p q r : Position) → StandsBefore p q → StandsBefore q r → StandsBefore p r
before_through p q r first second = grind arith

-- not standing before is transitive too
pub through : (p q r : Position) → ¬ (StandsBefore p q) → ¬ (StandsBefore q r) → ¬ (StandsBefore p r)
through p q r first second both = grind arith

-- the position of a value's enqueue, by the gaps of enqueues and the value's place
abbrev pub enqueue_at : (ℕ → ℕ) → ℕ → Position
enqueue_at enter i = record { gap = enter i; class = enqueues; rank = i }

-- the position of a value's dequeue, by both gaps and the value's place
abbrev pub dequeue_at : (ℕ → ℕ) → (ℕ → ℕ) → ℕ → Position
dequeue_at enter leave i = record { gap = leave i; class = (if nat_lt (enter i) (leave i) then earlier_dequeues else other_dequeues); rank = i }

-- at no later gap and class, the lower rank comes before the higher
pub by_rank : (p r : Position) → p.gap ≤ r.gap → p.class ≤ r.class → p.rank < r.rank → StandsBefore p r
by_rank p r le also less = grind arith

-- facts about the gaps of n values: they rise, and no value is dequeued before it is enqueued
pub record AreGaps (n : ℕ) (enter leave : ℕ → ℕ) : Type 0 where
  pub enter_rises : (i j : ℕ) → i ≤ j → j < n → enter i ≤ enter j
  pub leave_rises : (i j : ℕ) → i ≤ j → j < n → leave i ≤ leave j
  pub enters_first : (i : ℕ) → i < n → enter i ≤ leave i

module _ (n : ℕ) (enter leave : ℕ → ℕ) (gaps : AreGaps n enter leave) where
  -- the enqueue of an earlier value comes before that of a later one
  pub enqueues_rise : (i j : ℕ) → i < j → j < n → StandsBefore (enqueue_at enter i) (enqueue_at enter j)
  enqueues_rise i j below within = let le = gaps.enter_rises i j (omega arith) within in
      by_rank (enqueue_at enter i) (enqueue_at enter j) le (omega arith) below

  -- the dequeue of an earlier value comes before that of a later one
  pub dequeues_rise : (i j : ℕ) → i < j → j < n → StandsBefore (dequeue_at enter leave i) (dequeue_at enter leave j)
  dequeues_rise i j below within =
      let enters = gaps.enter_rises i j (omega arith) within in
      let leaves = gaps.leave_rises i j (omega arith) within in
      grind (arith, nat_tests)

  -- the enqueue of a value comes before its dequeue
  pub enqueued_before_dequeued : (i : ℕ) → i < n → StandsBefore (enqueue_at enter i) (dequeue_at enter leave i)
  enqueued_before_dequeued i within = let le = gaps.enters_first i within in grind (arith, nat_tests)

  -- the position of an enqueue is not that of a dequeue
  pub enqueue_is_no_dequeue : (i j : ℕ) → ¬ (enqueue_at enter i ≡ dequeue_at enter leave j)
  enqueue_is_no_dequeue i j same = let classes : 2 ≡ (dequeue_at enter leave j).class = ap (λ p. p.class) same in grind (arith, nat_tests)

  -- the position of a no-op is not that of an enqueue
  pub noop_is_no_enqueue : (p : Position) (i : ℕ) → p.class ≡ noop_answers → ¬ (p ≡ enqueue_at enter i)
  noop_is_no_enqueue p i noop same = let classes : p.class ≡ 2 = ap (λ p. p.class) same in omega arith

  -- the position of a no-op is not that of a dequeue
  pub noop_is_no_dequeue : (p : Position) (i : ℕ) → p.class ≡ noop_answers → ¬ (p ≡ dequeue_at enter leave i)
  noop_is_no_dequeue p i noop same = let classes : p.class ≡ (dequeue_at enter leave i).class = ap (λ p. p.class) same in grind (arith, nat_tests)

-- the kind and the position of an operation of the run; the i-th of n values is v, and some are dequeued
abbrev pub IsItem : (n : ℕ) → (enter leave : ℕ → ℕ) → (ℕ → ℕ → Type 0) → (ℕ → Type 0) → OpKind → Position → Type 0
IsItem n enter leave Holds Leaves (Enqueue v) position = (i : ℕ) × (i < n) × Holds i v × (position ≡ enqueue_at enter i)
IsItem n enter leave Holds Leaves (Dequeue v) position = (i : ℕ) × (i < n) × Holds i v × Leaves i × (position ≡ dequeue_at enter leave i)
IsItem n enter leave Holds Leaves DequeueEmpty position = (position.class ≡ noop_answers)
    × ((i : ℕ) → i < n → enter i < position.gap → (leave i ≤ position.gap) × Leaves i)
IsItem n enter leave Holds Leaves (EnqueueFailed v) position = position.class ≡ noop_answers

past_first : (p x : Position) (xs : List Position) → ¬ (x ≡ p) → Contains (x ∷ xs) p → Contains xs p
past_first p x xs differs among = elim (contains_cons x xs p among) [ inl same ↦ absurd (differs same) | inr there ↦ there ]

-- in a rising list no position comes before the first
none_sooner : (x q : Position) (xs : List Position) → All (StandsBefore x) xs → Contains (x ∷ xs) q
    → ¬ (StandsBefore q x)
none_sooner x q xs rises among before = elim (contains_cons x xs q among) [
  | inl same ↦ not_itself x (subst (λ y. StandsBefore y x) (sym same) before)
  | inr there ↦ not_both q x before (All-contains (StandsBefore x) xs q rises there)
]

first_rises : (x : Position) (xs : List Position) → AllPairs StandsBefore (x ∷ xs) → All (StandsBefore x) xs
first_rises x xs rise k d within = rise zero (suc k) d (omega arith) (omega arith)

module _ (n : ℕ) (enter leave : ℕ → ℕ) (gaps : AreGaps n enter leave) (Holds : ℕ → ℕ → Type 0) (one_value : (i v w : ℕ) → Holds i v → Holds i w → v ≡ w)
    (Leaves : ℕ → Type 0) (leaves_first : (i j : ℕ) → i ≤ j → j < n → Leaves j → Leaves i) where
  -- the state between two operations of the run: of e enqueued values d were dequeued, and the others are in the
  -- queue
  record IsBetween (e d : ℕ) (queue : List ℕ) (positions : List Position) : Type 0 where
    in_order : d ≤ e
    within : e ≤ n
    long : length queue + d ≡ e
    queued : (k v : ℕ) → slice_get queue k ≡ Some v → Holds (d + k) v
    enqueues_gone : (i : ℕ) → i < e → All (StandsBefore (enqueue_at enter i)) positions
    enqueues_left : (i : ℕ) → e ≤ i → i < n → Contains positions (enqueue_at enter i)
    dequeues_gone : (i : ℕ) → i < d → All (StandsBefore (dequeue_at enter leave i)) positions
    dequeues_left : (i : ℕ) → d ≤ i → i < n → Leaves i → Contains positions (dequeue_at enter leave i)

  -- the positions along the values rise, the first e of them are past, and x is the first of those that are left
  module _ (at : ℕ → Position) (e : ℕ) (x : Position) (xs : List Position) (gone : (i : ℕ) → i < e → All (StandsBefore (at i)) (x ∷ xs))
      (rises : All (StandsBefore x) xs) where
    -- x is that of value e
    is_next : (r : ℕ) → ((i j : ℕ) → i < j → j < n → StandsBefore (at i) (at j)) → (e < r → Contains (x ∷ xs) (at e))
        → r < n → x ≡ at r → r ≡ e
    is_next r rise left within is = elim (cases_order r e) [
      | inl same ↦ same
      | inr (inl below) ↦ absurd (not_itself (at r) (subst (StandsBefore (at r)) is (All-head (StandsBefore (at r)) x xs (gone r below))))
      | inr (inr above) ↦ absurd (none_sooner x (at e) xs rises (left above) (subst (StandsBefore (at e)) (sym is) (rise e r above within)))
    ]

    -- then value e is past too
    one_more_gone : x ≡ at e → (i : ℕ) → i < suc e → All (StandsBefore (at i)) xs
    one_more_gone is i below = elim (cases_lt i e) [
      | inl less ↦ All-tail (StandsBefore (at i)) x xs (gone i less)
      | inr more ↦ let same : e ≡ i = omega arith in subst (λ p. All (StandsBefore p) xs) (is ∙ ap at same) rises
    ]

  module _ (e d : ℕ) (queue : List ℕ) (x : Position) (xs : List Position)
      (state : IsBetween e d queue (x ∷ xs)) (rises : All (StandsBefore x) xs) where
    -- each dequeued value was enqueued
    not_too_early : d < n → x ≡ dequeue_at enter leave d → d < e
    not_too_early within is = elim (cases_lt d e) [
      | inl below ↦ below
      | inr early ↦ absurd (none_sooner x (enqueue_at enter d) xs rises (state.enqueues_left d early within)
          (subst (StandsBefore (enqueue_at enter d)) (sym is) (enqueued_before_dequeued n enter leave gaps d within)))
    ]

    -- at an empty dequeue no value is in the queue
    all_gone : IsItem n enter leave Holds Leaves DequeueEmpty x → d ≡ e
    all_gone is = elim (cases_lt d e) [
      | inr all ↦ omega (arith, state.in_order)
      | inl below ↦
          let entered = gap_below (All-head (StandsBefore (enqueue_at enter d)) x xs (state.enqueues_gone d below)) is.0 in
          let gone = is.1 d (omega (arith, state.within)) entered in
          absurd (none_sooner x (dequeue_at enter leave d) xs rises (state.dequeues_left d (omega arith) (omega (arith, state.within)) gone.1)
          (left_before entered gone.0 is.0))
    ]
      where
        gap_below : StandsBefore (enqueue_at enter d) x → x.class ≡ noop_answers → enter d < x.gap
        gap_below before noop = grind arith

        left_before : enter d < x.gap → leave d ≤ x.gap → x.class ≡ noop_answers
            → StandsBefore (dequeue_at enter leave d) x
        left_before entered left noop = grind (arith, nat_tests)

    after_enqueue : (v : ℕ) → e < n → Holds e v → x ≡ enqueue_at enter e → IsBetween (suc e) d (queue ++ v ∷ []) xs
    after_enqueue v within holds is = record {
      in_order = omega (arith, state.in_order);
      within = within;
      long = omega (arith, length_push queue v, state.long);
      queued = λ k w at. elim (with_one_more queue v w k at) [
        | inl before ↦ state.queued k w before
        | inr last ↦
            let place : e ≡ d + k = omega (arith, state.long, last.0) in
            subst (λ u. Holds (d + k) u) last.1 (subst (λ i. Holds i v) place holds)
      ];
      enqueues_gone = one_more_gone (enqueue_at enter) e x xs state.enqueues_gone rises is;
      enqueues_left = λ i above below. past_first (enqueue_at enter i) x xs
          (λ same. let ranks : e ≡ i = ap (λ p. p.rank) (sym is ∙ same) in omega arith) (state.enqueues_left i (omega arith) below);
      dequeues_gone = λ i below. All-tail (StandsBefore (dequeue_at enter leave i)) x xs (state.dequeues_gone i below);
      dequeues_left = λ i above below leaves. past_first (dequeue_at enter leave i) x xs
          (λ same. enqueue_is_no_dequeue n enter leave gaps e i (sym is ∙ same)) (state.dequeues_left i above below leaves);
    }

    after_noop : x.class ≡ noop_answers → IsBetween e d queue xs
    after_noop noop = record {
      in_order = state.in_order;
      within = state.within;
      long = state.long;
      queued = state.queued;
      enqueues_gone = λ i below. All-tail (StandsBefore (enqueue_at enter i)) x xs (state.enqueues_gone i below);
      enqueues_left = λ i above below. past_first (enqueue_at enter i) x xs (noop_is_no_enqueue n enter leave gaps x i noop) (state.enqueues_left i above below);
      dequeues_gone = λ i below. All-tail (StandsBefore (dequeue_at enter leave i)) x xs (state.dequeues_gone i below);
      dequeues_left = λ i above below leaves. past_first (dequeue_at enter leave i) x xs (noop_is_no_dequeue n enter leave gaps x i noop)
          (state.dequeues_left i above below leaves);
    }

    -- the next dequeue is that of the first value that isn't dequeued yet
    is_next_dequeue : (r : ℕ) → r < n → Leaves r → x ≡ dequeue_at enter leave r → r ≡ d
    is_next_dequeue r within leaves = is_next (dequeue_at enter leave) d x xs state.dequeues_gone rises r (dequeues_rise n enter leave gaps)
        (λ above. state.dequeues_left d (omega arith) (omega arith) (leaves_first d r (omega arith) within leaves)) within

  after_dequeue : (e d front : ℕ) (rest : List ℕ) (x : Position) (xs : List Position)
      → IsBetween e d (front ∷ rest) (x ∷ xs)
      → All (StandsBefore x) xs → d < e → x ≡ dequeue_at enter leave d → IsBetween e (suc d) rest xs
  after_dequeue e d front rest x xs state rises below_e is = record {
    in_order = below_e;
    within = state.within;
    long = omega (arith, state.long);
    queued = λ k w at. let place : d + suc k ≡ suc d + k = omega arith in subst (λ i. Holds i w) place (state.queued (suc k) w at);
    enqueues_gone = λ i below. All-tail (StandsBefore (enqueue_at enter i)) x xs (state.enqueues_gone i below);
    enqueues_left = λ i above below. past_first (enqueue_at enter i) x xs (λ same. enqueue_is_no_dequeue n enter leave gaps i d (sym same ∙ is))
        (state.enqueues_left i above below);
    dequeues_gone = one_more_gone (dequeue_at enter leave) d x xs state.dequeues_gone rises is;
    dequeues_left = λ i above below leaves. past_first (dequeue_at enter leave i) x xs
        (λ same. let ranks : d ≡ i = ap (λ p. p.rank) (sym is ∙ same) in omega arith) (state.dequeues_left i (omega arith) below leaves);
  }

  is_accepted : (kinds : List OpKind) (positions : List Position) (e d : ℕ) (queue : List ℕ)
      → AllZip (IsItem n enter leave Holds Leaves) kinds positions → AllPairs StandsBefore positions
      → IsBetween e d queue positions
      → IsAccepted queue kinds
  is_accepted [] positions e d queue items rises state = refl
  is_accepted (k ∷ kinds) [] e d queue items rises state = absurd items
  is_accepted (Enqueue v ∷ kinds) (x ∷ xs) e d queue items rises state =
      let r = items.0.0 in
      let next = is_next (enqueue_at enter) e x xs state.enqueues_gone (first_rises x xs rises) r (enqueues_rise n enter leave gaps)
      (λ above. state.enqueues_left e (omega arith) (omega (arith, items.0.1))) items.0.1 items.0.3 in
      is_accepted kinds xs (suc e) d (queue ++ v ∷ []) items.1 (AllPairs-tail StandsBefore x xs rises)
      (after_enqueue e d queue x xs state (first_rises x xs rises) v (omega (arith, next, items.0.1))
      (subst (λ i. Holds i v) next items.0.2) (items.0.3 ∙ ap (enqueue_at enter) next))
  is_accepted (EnqueueFailed v ∷ kinds) (x ∷ xs) e d queue items rises state =
      is_accepted kinds xs e d queue items.1 (AllPairs-tail StandsBefore x xs rises) (after_noop e d queue x xs state (first_rises x xs rises) items.0)
  is_accepted (DequeueEmpty ∷ kinds) (x ∷ xs) e d [] items rises state =
      is_accepted kinds xs e d [] items.1 (AllPairs-tail StandsBefore x xs rises) (after_noop e d [] x xs state (first_rises x xs rises) items.0.0)
  is_accepted (DequeueEmpty ∷ kinds) (x ∷ xs) e d (front ∷ rest) items rises state =
      absurd (omega (arith, all_gone e d (front ∷ rest) x xs state (first_rises x xs rises) items.0, state.long))
  is_accepted (Dequeue v ∷ kinds) (x ∷ xs) e d [] items rises state =
      let next = is_next_dequeue e d [] x xs state (first_rises x xs rises) items.0.0 items.0.1 items.0.3 items.0.4 in
      let early = not_too_early e d [] x xs state (first_rises x xs rises) (omega (arith, next, items.0.1)) (items.0.4 ∙ ap (dequeue_at enter leave) next) in
      absurd (omega (arith, state.long))
  is_accepted (Dequeue v ∷ kinds) (x ∷ xs) e d (front ∷ rest) items rises state =
      let next = is_next_dequeue e d (front ∷ rest) x xs state (first_rises x xs rises) items.0.0 items.0.1 items.0.3 items.0.4 in
      let is : x ≡ dequeue_at enter leave d = items.0.4 ∙ ap (dequeue_at enter leave) next in
      let early = not_too_early e d (front ∷ rest) x xs state (first_rises x xs rises) (omega (arith, next, items.0.1)) is in
      let place : d + zero ≡ d = omega arith in
      let same : front ≡ v = one_value d front v (subst (λ i. Holds i front) place (state.queued zero front refl)) (subst (λ i. Holds i v) next items.0.2) in
      rw (eq-eqb front v same) (is_accepted kinds xs e (suc d) rest items.1 (AllPairs-tail StandsBefore x xs rises)
      (after_dequeue e d front rest x xs state (first_rises x xs rises) early is))

  -- a run is accepted if its positions rise, each value is enqueued, and each that leaves is dequeued
  pub run_is_accepted : (kinds : List OpKind) (positions : List Position)
      → AllZip (IsItem n enter leave Holds Leaves) kinds positions
      → AllPairs StandsBefore positions → ((i : ℕ) → i < n → Contains positions (enqueue_at enter i))
      → ((i : ℕ) → i < n → Leaves i → Contains positions (dequeue_at enter leave i)) → IsAccepted [] kinds
  run_is_accepted kinds positions items rises enqueued dequeued = is_accepted kinds positions 0 0 [] items rises (record {
    in_order = omega arith;
    within = omega arith;
    long = omega arith;
    queued = λ k v at. absurd (none-some v at);
    enqueues_gone = λ i below. absurd (omega arith);
    enqueues_left = λ i above below. enqueued i below;
    dequeues_gone = λ i below. absurd (omega arith);
    dequeues_left = λ i above below leaves. dequeued i below leaves;
  })
