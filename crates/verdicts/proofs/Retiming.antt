-- Operations that are part of a longer list at other times, in the same order. They have those violations of the list
-- whose lines are among them, and its chosen one, if its lines are among them. The selected values of a timeline are
-- part of it in this way, since their initial ones are enqueued at other times.
use Rattle.verdicts.proofs.Common.{[], ap, AreComplete, arith, Bool, call_before_return, call_by_return, call_or_never}
use Rattle.verdicts.proofs.Common.{cases_lt, cond, Contains, Contains-append_cases, Contains-append_left}
use Rattle.verdicts.proofs.Common.{Contains-append_right, contains_cons, Covers, dequeue_call, dequeue_of}
use Rattle.verdicts.proofs.Common.{dequeue_return, dequeued_if_called, Did, did_dequeue, DequeueEmpty, Enqueue}
use Rattle.verdicts.proofs.Common.{enqueue_at}
use Rattle.verdicts.proofs.Common.{enqueue_of, enqueue_place, enqueue_return, enqueues_from, eq-eqb, eqb-true, false}
use Rattle.verdicts.proofs.Common.{filter, flat_map, fresh, FullViolation, initial_enqueues, initial_time, inl, inr}
use Rattle.verdicts.proofs.Common.{IsChosenCoverFrom, IsChosenFullViolation, IsChosenWitness, IsClear, IsCovered}
use Rattle.verdicts.proofs.Common.{IsLife, IsOrderViolation, IsViolationOf, IsWitnessViolation, later_by, le-ltb}
use Rattle.verdicts.proofs.Common.{length, Life, lines_of, List, lt-ltb, ltb-true, map, map_fixed, mapped_from}
use Rattle.verdicts.proofs.Common.{mapped_to, MatchBool, MAX_INITIAL, nat_eq, nat_lt, nat_tests, NEVER, no_enqueue}
use Rattle.verdicts.proofs.Common.{NoFreshViolation, None, NoOrderViolation, NoRepeatViolation, not_in_none, on}
use Rattle.verdicts.proofs.Common.{one_deeper, one_life_of_enqueue, Operation, operations_of_life, Option, option_map}
use Rattle.verdicts.proofs.Common.{option_to_list, order, ORIGIN, passed_filter, passes_filter, refl, repeat}
use Rattle.verdicts.proofs.Common.{return_in_range, return_or_never, same_call, same_enqueue, same_operation, selects}
use Rattle.verdicts.proofs.Common.{Some, StaysAtLeast, subst, suc, sym, timeline, true, value_of, violation_covers}
use Rattle.verdicts.proofs.Common.{witness, zero, ℕ, ◌++◌, ◌+◌, ◌-◌, ◌<◌, ◌∙◌, ◌∷◌, ◌≡◌, ◌≤◌, ◌⊎◌}
use Rattle.history_merge.specs.Operations.{IsInWindow}
use Rattle.verdicts.proofs.NamedLines.{AreFor, cover_lines, fresh_lines, HasValue, IsOpOfLife, life_lines, line_of_a}
use Rattle.verdicts.proofs.NamedLines.{line_of_b, lines_are_operations, order_lines, repeat_lines, selects_as_value}
use Rattle.std.proofs.lemmas.Bool.{ltb_from_iff}
use Rattle.verdicts.proofs.Chosen.{chosen_is_violation}
use Rattle.verdicts.proofs.CoverGaps.{chosen_are_lives, left_by, match_then}
use Rattle.history_merge.proofs.Lists.{no_longer}
use Rattle.verdicts.proofs.Selections.{Carries, life_carried, mapped_life, mapped_violation}
use Rattle.verdicts.proofs.Selections.{violation_carried}

-- the same operation at other times
abbrev pub retimed : (ℕ → ℕ) → Operation → Operation
retimed h o = record { call = h o.call; ret = h o.ret; thread = o.thread; kind = o.kind }

-- the operations of a life at other times
abbrev pub retimed_life : (ℕ → ℕ) → Life → Life
retimed_life h = mapped_life (retimed h)

-- from a time on, later times have later images
abbrev pub Rises : ℕ → (ℕ → ℕ) → Type 0
Rises low h = (a b : ℕ) → low ≤ a → a < b → h a < h b

-- none of the operations comes before this time
abbrev pub AreLate : ℕ → List Operation → Type 0
AreLate low operations = (o : Operation) → Contains operations o → (low ≤ o.call) × (low ≤ o.ret)

module _ {low : ℕ} {h : ℕ → ℕ} (rises : Rises low h) where
  at_most : (a b : ℕ) → low ≤ a → a ≤ b → h a ≤ h b
  at_most a b from le = grind (arith, rises a b from)

  at_most_back : (a b : ℕ) → low ≤ b → h a ≤ h b → a ≤ b
  at_most_back a b from le = grind (arith, rises b a from)

  below_back : (a b : ℕ) → low ≤ b → h a < h b → a < b
  below_back a b from less = grind (arith, at_most b a from)

  -- the last time whose image isn't later than this one
  floor_by : (n a b c : ℕ) → a + n ≡ b → h a ≤ c → c < h b → (p : ℕ) × (a ≤ p) × (p < b) × (h p ≤ c) × (c < h (p + 1))
  floor_by zero a b c is from high = let e : a ≡ b = omega arith in let images = ap h e in absurd (omega arith)
  floor_by (suc n) a b c is from high = elim (cases_lt c (h (a + 1))) [
    | inl below ↦ (a, omega arith, omega arith, from, below)
    | inr above ↦
        let found = floor_by n (a + 1) b c (omega arith) above high in
        (found.0, omega (arith, found.1), found.2, found.3, found.4)
  ]

  -- the order of two times is that of their images
  same_test : (a b a' b' : ℕ) → low ≤ a → low ≤ b → h a ≡ a' → h b ≡ b' → nat_lt a' b' ≡ nat_lt a b
  same_test a b a' b' from_a from_b same_a same_b = ltb_from_iff (
    λ is. below_back a b from_b (omega (arith, same_a, same_b, ltb-true a' b' is)),
    λ less. lt-ltb a' b' (omega (arith, same_a, same_b, rises a b from_a less)),
  )

-- no operation is called or returns at NEVER or later
pub times_in_range : (operations : List Operation) (o : Operation) → AreComplete operations → Contains operations o
    → (o.call < NEVER) × (o.ret < NEVER)
times_in_range operations o complete among =
    let range = return_in_range operations o complete among in
    let ordered = call_by_return operations o complete among in
    (omega arith, omega arith)

-- the first list is the selection from the second, at other times; from the earliest time of the first list on, the
-- times rise
pub record StandsAs (values calls : ℕ → Bool) (h : ℕ → ℕ) (low : ℕ) (xs ys : List Operation) : Type 0 where
  pub rises : Rises low h
  pub never : (h NEVER ≡ NEVER) × (low ≤ NEVER)
  pub late : AreLate low xs
  pub part_complete : AreComplete xs
  pub complete : AreComplete ys
  pub there : (o : Operation) → Contains xs o → Contains ys (retimed h o) × (selects values calls (retimed h o) ≡ true)
  pub back : Operation → Operation
  pub brings : (o : Operation) → Contains ys o → selects values calls o ≡ true
      → Contains xs (back o) × (retimed h (back o) ≡ o)

module _ {values calls : ℕ → Bool} {h : ℕ → ℕ} {low : ℕ} {xs ys : List Operation}
    (stands : StandsAs values calls h low xs ys) where
  -- the operation is one of the second list, and is selected
  abbrev pub IsSelected : Operation → Type 0
  IsSelected o = Contains ys o × (selects values calls o ≡ true)

  abbrev pub AreSelected : List Operation → Type 0
  AreSelected listed = (o : Operation) → Contains listed o → IsSelected o

  -- a selected operation is in the first list, at its times there
  in_part : (o : Operation) → IsSelected o → Contains xs (stands.back o)
  in_part o is = (stands.brings o is.0 is.1).0

  called : (o : Operation) → IsSelected o → h (stands.back o).call ≡ o.call
  called o is = ap (λ (x : Operation). x.call) (stands.brings o is.0 is.1).1

  returned : (o : Operation) → IsSelected o → h (stands.back o).ret ≡ o.ret
  returned o is = ap (λ (x : Operation). x.ret) (stands.brings o is.0 is.1).1

  -- an operation of the first list comes back from its image
  pub back_there : (o : Operation) → Contains xs o → stands.back (retimed h o) ≡ o
  back_there o among =
      let at = stands.there o among in
      let from = (stands.late o among).0 in
      let from' = (stands.late (stands.back (retimed h o)) (in_part (retimed h o) at)).0 in
      let same = called (retimed h o) at in
      let below = at_most_back stands.rises (stands.back (retimed h o)).call o.call from (omega arith) in
      let above = at_most_back stands.rises o.call (stands.back (retimed h o)).call from' (omega arith) in
      same_call xs (stands.back (retimed h o)) o stands.part_complete (in_part (retimed h o) at) among (omega arith)

  carries_there : Carries xs ys (retimed h) (Contains xs)
  carries_there = record {
    did = λ o kind among did. ((stands.there o among).0, did.1);
    none_did = λ x v own kind did of_value is none y among did_y.
        let passes = selects_as_value values calls y v (ap value_of did_y ∙ is)
        ∙ sym (selects_as_value values calls (retimed h x) v (ap value_of did.1 ∙ of_value)) ∙ (stands.there x did.0).1 in
        let found = stands.brings y among passes in
        none (stands.back y) found.0 (ap (λ (o : Operation). o.kind) found.1 ∙ did_y);
    precedes = λ x y in_x in_y. stands.rises x.ret y.call (stands.late x in_x).1;
    in_turn = λ x y in_x in_y. stands.rises x.ret y.ret (stands.late x in_x).1;
    in_range = λ x in_x. times_in_range ys (retimed h x) stands.complete (stands.there x in_x).0;
  }

  carries_back : Carries ys xs stands.back IsSelected
  carries_back = record {
    did = λ o kind is did. (in_part o is, ap (λ (x : Operation). x.kind) (stands.brings o is.0 is.1).1 ∙ did.1);
    none_did = λ x v own kind did of_value is none o among. none (retimed h o) (stands.there o among).0;
    precedes = λ x y is_x is_y less. below_back stands.rises (stands.back x).ret (stands.back y).call (stands.late (stands.back y) (in_part y is_y)).0
        (omega (arith, returned x is_x, called y is_y, less));
    in_turn = λ x y is_x is_y less. below_back stands.rises (stands.back x).ret (stands.back y).ret (stands.late (stands.back y) (in_part y is_y)).1
        (omega (arith, returned x is_x, returned y is_y, less));
    in_range = λ x is_x. times_in_range xs (stands.back x) stands.part_complete (in_part x is_x);
  }

  -- a life of the first list is one of the second
  pub life_there : (life : Life) → IsLife (on xs) life → IsLife (on ys) (retimed_life h life)
  life_there life is = life_carried carries_there life (λ o at. (life_lines xs life is o at).0) is

  -- a violation of the first list is one of the second
  pub violation_there : (full : FullViolation) → IsViolationOf (on xs) full
      → IsViolationOf (on ys) (mapped_violation (retimed h) full)
  violation_there full is = violation_carried carries_there full (lines_are_operations xs full is) is

  -- a violation of the second list whose lines are selected is one of the first
  pub violation_back : (full : FullViolation) → AreSelected (lines_of full) → IsViolationOf (on ys) full
      → IsViolationOf (on xs) (mapped_violation stands.back full)
  violation_back = violation_carried carries_back

  pub no_fresh_back : NoFreshViolation (on ys) → NoFreshViolation (on xs)
  no_fresh_back none deq enq is = none (retimed h deq) (option_map (retimed h) enq) (violation_there (fresh deq enq) is)

  pub no_repeat_back : NoRepeatViolation (on ys) → NoRepeatViolation (on xs)
  no_repeat_back none enq first second is = none (retimed h enq) (retimed h first) (retimed h second) (violation_there (repeat enq first second) is)

  pub no_order_back : NoOrderViolation (on ys) → NoOrderViolation (on xs)
  no_order_back none a b is = none (retimed_life h a) (retimed_life h b) (violation_there (order a b) is)

  -- ---- the chosen violation

  -- the call of an optional operation, and its image
  calls_there : (d : Option Operation) → h (call_or_never d) ≡ call_or_never (option_map (retimed h) d)
  calls_there None = stands.never.0
  calls_there (Some d) = refl

  calls_back : (d : Option Operation) → AreSelected (option_to_list d)
      → (h (call_or_never (option_map stands.back d)) ≡ call_or_never d)
      × (low ≤ call_or_never (option_map stands.back d))
  calls_back None are = stands.never
  calls_back (Some d) are = let is = are d (zero, omega arith, refl) in (called d is, (stands.late (stands.back d) (in_part d is)).0)

  no_later : (o x : Operation) → IsSelected o → Contains xs x → o.ret ≤ h x.ret → (stands.back o).ret ≤ x.ret
  no_later o x is among le = at_most_back stands.rises (stands.back o).ret x.ret (stands.late x among).1 (omega (arith, returned o is))

  stays_back : (x y : Life) → AreSelected (operations_of_life x) → Contains xs (enqueue_of y)
      → StaysAtLeast x (retimed_life h y)
      → StaysAtLeast (mapped_life stands.back x) y
  stays_back x y are among stays =
      let own = calls_back (dequeue_of x) (λ o at. are o (one_deeper (enqueue_of x) (option_to_list (dequeue_of x)) o at)) in
      let other = calls_there (dequeue_of y) in (
        at_most_back stands.rises (dequeue_call y) _ own.1 (omega (arith, own.0, other, stays.0)),
        λ same. no_later (enqueue_of x) (enqueue_of y) (are (enqueue_of x) (zero, omega arith, refl)) among
            (stays.1 (sym other ∙ ap h same ∙ own.0)),
      )

  -- a value that is dequeued no later in the second list is dequeued no later in the first
  sooner_back : (x y : Life) → AreSelected (operations_of_life x) → dequeue_call x < NEVER → IsLife (on xs) y
      → dequeue_call y < NEVER
      → dequeue_return x ≤ dequeue_return (retimed_life h y)
      → dequeue_return (mapped_life stands.back x) ≤ dequeue_return y
  sooner_back x y are called_x is_y called_y le =
      let (d, at_x) = dequeued_if_called x called_x in
      let (e, at_y) = dequeued_if_called y called_y in
      let x_there : dequeue_return x ≡ d.ret = ap return_or_never at_x in
      let y_there : dequeue_return (retimed_life h y) ≡ h e.ret = ap (λ o. return_or_never (option_map (retimed h) o)) at_y in
      let x_here : dequeue_return (mapped_life stands.back x) ≡ (stands.back d).ret = ap (λ o. return_or_never (option_map stands.back o)) at_x in
      let y_here : dequeue_return y ≡ e.ret = ap return_or_never at_y in
      let own = are d (one_deeper (enqueue_of x) (option_to_list (dequeue_of x)) d (subst (λ o. Contains (option_to_list o) d) (sym at_x) (zero, omega arith, refl))) in
      let later = no_later d e own (did_dequeue xs y e is_y at_y).0 (omega arith) in
      omega arith

  -- a life whose operations are selected is the image of its own in the first list
  brought_life : (life : Life) → AreSelected (operations_of_life life)
      → retimed_life h (mapped_life stands.back life) ≡ life
  brought_life life are =
      let first = are (enqueue_of life) (zero, omega arith, refl) in
      let enqueue = (stands.brings (enqueue_of life) first.0 first.1).1 in
      let dequeue = brought (dequeue_of life) (λ o at. are o (one_deeper (enqueue_of life) (option_to_list (dequeue_of life)) o at)) in
      λ i. record { enqueue = enqueue i; dequeue = dequeue i }
    where
      brought : (d : Option Operation) → AreSelected (option_to_list d)
          → option_map (retimed h) (option_map stands.back d) ≡ d
      brought None are = refl
      brought (Some d) are = let is = are d (zero, omega arith, refl) in ap (λ o. Some o) (stands.brings d is.0 is.1).1

  -- at each gap of a covered window, a life of the first list is definitely in the queue
  pub covered_by : (o : Operation) → Contains xs o → IsCovered (on xs) o → (c : ℕ) → IsInWindow (retimed h o) c
      → (z : Life) × IsLife (on xs) z × Covers (retimed_life h z) c
  covered_by o among covered c window =
      let by = call_by_return xs o stands.part_complete among in
      let gap = floor_by stands.rises (o.ret - o.call) o.call o.ret c (omega arith) window.0 window.1 in
      let z = covered gap.0 (gap.1, gap.2) in
      let from = (stands.late o among).0 in
      let entered = at_most stands.rises (enqueue_return z.0) gap.0 (stands.late (enqueue_of z.0) z.1.1.0).1 z.2.0 in
      let stays = at_most stands.rises (gap.0 + 1) (dequeue_call z.0) (omega (arith, gap.1)) (omega (arith, z.2.1)) in
      (z.0, z.1, (omega (arith, gap.3), omega (arith, gap.4, calls_there (dequeue_of z.0))))

  chosen_cover_back : (empty : Operation) → IsSelected empty → (cover : List Life) (frontier time : ℕ)
      → h time ≡ frontier → low ≤ time
      → AreSelected (flat_map operations_of_life cover) → IsChosenCoverFrom (on ys) empty frontier cover
      → IsChosenCoverFrom (on xs) (stands.back empty) time (map (mapped_life stands.back) cover)
  chosen_cover_back empty is [] frontier time same from are chosen = chosen
  chosen_cover_back empty is (life ∷ rest) frontier time same from are chosen = (
    record {
      is_life = life_carried carries_back life own chosen.0.is_life;
      before_frontier = below_back stands.rises _ time from
          (omega (arith, same, returned (enqueue_of life) (own (enqueue_of life) (zero, omega arith, refl)), chosen.0.before_frontier));
      longest = λ other is_other before. stays_back life other own is_other.1.0 (chosen.0.longest (retimed_life h other) (life_there other is_other)
          (omega (arith, same, stands.rises (enqueue_return other) time (stands.late (enqueue_of other) is_other.1.0).1 before)));
    },
    match_then (nat_lt (stands.back empty).ret (dequeue_call (mapped_life stands.back life)))
        (subst (λ test. MatchBool test (rest ≡ []) (IsChosenCoverFrom (on ys) empty (dequeue_call life) rest))
        (same_test stands.rises (stands.back empty).ret (dequeue_call (mapped_life stands.back life)) empty.ret (dequeue_call life)
        (stands.late (stands.back empty) (in_part empty is)).1 dequeue.1 (returned empty is) dequeue.0) chosen.1)
        (ap (map (mapped_life stands.back)))
        (chosen_cover_back empty is rest (dequeue_call life) _ dequeue.0 dequeue.1
        (λ o at. are o (Contains-append_right (operations_of_life life) (flat_map operations_of_life rest) o at))),
  )
    where
      own : AreSelected (operations_of_life life)
      own o at = are o (Contains-append_left (operations_of_life life) (flat_map operations_of_life rest) o at)

      dequeue : (h (dequeue_call (mapped_life stands.back life)) ≡ dequeue_call life)
          × (low ≤ dequeue_call (mapped_life stands.back life))
      dequeue = calls_back (dequeue_of life) (λ o at. own o (one_deeper (enqueue_of life) (option_to_list (dequeue_of life)) o at))

  -- the chosen violation of the second list is chosen in the first, if its lines are selected
  pub chosen_back : (full : FullViolation) → AreSelected (lines_of full) → IsChosenFullViolation (on ys) full
      → IsChosenFullViolation (on xs) (mapped_violation stands.back full)
  chosen_back (fresh deq enq) are chosen = record {
    violates = violation_back (fresh deq enq) are chosen.violates;
    first = λ deq' enq' is. no_later deq deq' (are deq (0, omega arith, refl)) (lines_are_operations xs (fresh deq' enq') is deq' (0, omega arith, refl))
        (chosen.first (retimed h deq') (option_map (retimed h) enq') (violation_there (fresh deq' enq') is));
  }
  chosen_back (repeat enq first second) are chosen = (
    no_fresh_back chosen.0,
    record {
      violates = violation_back (repeat enq first second) are chosen.1.violates;
      soonest = λ enq' first' second' is. no_later second second' (are second (2, omega arith, refl)) is.dequeues_again.0
          (chosen.1.soonest (retimed h enq') (retimed h first') (retimed h second') (violation_there (repeat enq' first' second') is));
    },
  )
  chosen_back (order a b) are chosen = (
    no_fresh_back chosen.0,
    no_repeat_back chosen.1,
    record {
      violates = violation_back (order a b) are chosen.2.violates;
      first = λ x y is. sooner_back b y (λ o at. are o (line_of_b a b o at)) chosen.2.violates.is_dequeued is.is_b is.is_dequeued
          (chosen.2.first (retimed_life h x) (retimed_life h y) (violation_there (order x y) is));
      longest = λ x is. stays_back a x (λ o at. are o (line_of_a a b o at)) is.is_a.1.0 (chosen.2.longest (retimed_life h x)
          (subst (IsOrderViolation (on ys) (retimed_life h x)) (brought_life b (λ o at. are o (line_of_b a b o at)))
          (violation_there (order x (mapped_life stands.back b)) is)));
    },
  )
  chosen_back (witness empty cover) are chosen = (
    no_fresh_back chosen.0,
    no_repeat_back chosen.1,
    no_order_back chosen.2,
    record {
      answers_empty = is.answers_empty;
      is_covered = violation_covers (on xs) (stands.back empty) (map (mapped_life stands.back) cover) is;
      first = λ empty' did covered. no_later empty empty' own did.0 (chosen.3.first (retimed h empty') ((stands.there empty' did.0).0, did.1)
          (λ c window. let z = covered_by empty' did.0 covered c window in (retimed_life h z.0, life_there z.0 z.1, z.2)));
      cover_is_chosen = chosen_cover_back empty own cover empty.call (stands.back empty).call (called empty own)
          (stands.late (stands.back empty) (in_part empty own)).0 (λ o at. are o (one_deeper empty (flat_map operations_of_life cover) o at))
          chosen.3.cover_is_chosen;
    },
  )
    where
      own : IsSelected empty
      own = are empty (0, omega arith, refl)

      is : IsWitnessViolation (on xs) (stands.back empty) (map (mapped_life stands.back) cover)
      is = violation_back (witness empty cover) are (chosen_is_violation ys (witness empty cover) stands.complete chosen)

-- ---- operations by their images

-- the operation whose image has this one's call
abbrev brought : (Operation → Operation) → List Operation → Operation → Operation
brought f [] o = o
brought f (x ∷ xs) o = cond (nat_eq (f x).call o.call) x (brought f xs o)

brought_back : (f : Operation → Operation) (xs : List Operation) (o : Operation) → Contains (map f xs) o
    → Contains xs (brought f xs o) × ((f (brought f xs o)).call ≡ o.call)
brought_back f [] o among = absurd (not_in_none o among)
brought_back f (x ∷ xs) o among = pick (nat_eq (f x).call o.call) refl (brought_back f xs o)
  where
    pick : (b : Bool) → nat_eq (f x).call o.call ≡ b
        → (Contains (map f xs) o → Contains xs (brought f xs o) × ((f (brought f xs o)).call ≡ o.call))
        → Contains (x ∷ xs) (cond b x (brought f xs o)) × ((f (cond b x (brought f xs o))).call ≡ o.call)
    pick true test more = ((zero, omega arith, refl), eqb-true (f x).call o.call test)
    pick false test more = elim (contains_cons (f x) (map f xs) o among) [
      | inl same ↦ let clash : true ≡ false = sym (eq-eqb (f x).call o.call (ap (λ (y : Operation). y.call) same)) ∙ test in cc
      | inr later ↦ let found = more later in (one_deeper x xs (brought f xs o) found.0, found.1)
    ]

-- a selection that is another list at later times
pub selected_stands : (values calls : ℕ → Bool) (h : ℕ → ℕ) (low : ℕ) (xs ys : List Operation) → Rises low h
    → (h NEVER ≡ NEVER) × (low ≤ NEVER)
    → AreLate low xs → AreComplete xs → AreComplete ys → filter (selects values calls) ys ≡ map (retimed h) xs
    → StandsAs values calls h low xs ys
selected_stands values calls h low xs ys rises never late part_complete complete same = record {
  rises = rises;
  never = never;
  late = late;
  part_complete = part_complete;
  complete = complete;
  there = there;
  back = brought (retimed h) xs;
  brings = λ o among is.
      let found = brought_back (retimed h) xs o (subst (λ os. Contains os o) same (passes_filter (selects values calls) ys o is among)) in
      (found.0, same_call ys (retimed h (brought (retimed h) xs o)) o complete (there (brought (retimed h) xs o) found.0).0 among found.1);
}
  where
    there : (o : Operation) → Contains xs o → Contains ys (retimed h o) × (selects values calls (retimed h o) ≡ true)
    there o among = passed_filter (selects values calls) ys (retimed h o)
        (subst (λ os. Contains os (retimed h o)) (sym same) (mapped_to (retimed h) xs o among))

-- ---- times

-- the time in the timeline of what has this time in the selection's, which lacks the enqueues of the values left out
abbrev pub lifted : (ℕ → Bool) → List ℕ → ℕ → ℕ
lifted keeps [] t = t
lifted keeps (v ∷ rest) t = cond (nat_lt t (ORIGIN - length (filter keeps rest))) (ORIGIN - length (v ∷ rest)) (lifted keeps rest t)

-- the time of the first initial value
abbrev pub start : List ℕ → ℕ
start initial = ORIGIN - length initial

-- there are no more initial values than come before the first ticket
abbrev AreFew : List ℕ → Type 0
AreFew initial = length initial ≤ MAX_INITIAL

-- no time from the first kept value on is before the first value
lifted_from : (keeps : ℕ → Bool) (initial : List ℕ) (t : ℕ) → start (filter keeps initial) ≤ t
    → start initial ≤ lifted keeps initial t
lifted_from keeps [] t from = from
lifted_from keeps (v ∷ rest) t from = grind (arith, nat_tests, lifted_from keeps rest t)

-- a kept value comes just before the others
first_kept : (kept : Bool) (v : ℕ) (others : List ℕ) (t : ℕ) → start (cond kept (v ∷ others) others) ≤ t
    → start others ≤ t + 1
first_kept true v others t from = omega arith
first_kept false v others t from = omega arith

-- times stay in their order
pub lifted_rises : (keeps : ℕ → Bool) (initial : List ℕ) → AreFew initial
    → Rises (start (filter keeps initial)) (lifted keeps initial)
lifted_rises keeps [] few a b from less = less
lifted_rises keeps (v ∷ rest) few a b from less =
    grind (arith, nat_tests, lifted_from keeps rest b, first_kept (keeps v) v (filter keeps rest) a from, lifted_rises keeps rest (omega arith) a b)

-- the times of tickets stay
pub lifted_late : (keeps : ℕ → Bool) (initial : List ℕ) (t : ℕ) → ORIGIN ≤ t → lifted keeps initial t ≡ t
lifted_late keeps [] t late = refl
lifted_late keeps (v ∷ rest) t late = grind (arith, nat_tests, lifted_late keeps rest t late)

-- no operation of a timeline is before the first initial value
pub timeline_late : (initial : List ℕ) (operations : List Operation)
    → AreLate (start initial) (timeline initial operations)
timeline_late initial operations o among =
    elim (Contains-append_cases (initial_enqueues initial) (map (later_by ORIGIN) operations) o among) [
      | inl here ↦
          let found = enqueue_place initial o here in
          let call : initial_time (length initial) found.0 ≡ o.call = ap (λ (o : Operation). o.call) found.3 in
          let ret : initial_time (length initial) found.0 ≡ o.ret = ap (λ (o : Operation). o.ret) found.3 in
          (omega arith, omega arith)
      | inr there ↦
          let found = mapped_from (later_by ORIGIN) operations o there in
          let call : found.0.call + ORIGIN ≡ o.call = ap (λ (o : Operation). o.call) found.2 in
          let ret : found.0.ret + ORIGIN ≡ o.ret = ap (λ (o : Operation). o.ret) found.2 in
          (omega arith, omega arith)
    ]

-- ---- one more value

-- functions that agree on each element map a list to the same list
pub map_agree : {X Y : Type 0} (f g : X → Y) (xs : List X) → ((x : X) → Contains xs x → f x ≡ g x)
    → map f xs ≡ map g xs
map_agree f g [] same = refl
map_agree f g (x ∷ xs) same =
    let here = same x (0, omega arith, refl) in
    let more = map_agree f g xs (λ y among. same y (one_deeper x xs y among)) in
    cc

filter_mapped : {X Y : Type 0} (p : Y → Bool) (f : X → Y) (xs : List X)
    → filter p (map f xs) ≡ map f (filter (λ x. p (f x)) xs)
filter_mapped p f [] = refl
filter_mapped p f (x ∷ xs) = grind (arith, filter_mapped p f xs)

-- the first initial value is enqueued before the others, which stay where they are
timeline_cons : (v : ℕ) (values : List ℕ) (operations : List Operation) → AreFew (v ∷ values)
    → timeline (v ∷ values) operations ≡ enqueue_at (start (v ∷ values)) v ∷ timeline values operations
timeline_cons v values operations few =
    let next : start (v ∷ values) + 1 ≡ start values = omega arith in
    ap (λ time. enqueue_at (start (v ∷ values)) v ∷ enqueues_from time values ++ map (later_by ORIGIN) operations) next

-- ---- selections

-- the selected operations, by their calls in the timeline
abbrev pub selected_behind : (ℕ → Bool) → (ℕ → Bool) → List Operation → List Operation
selected_behind values calls operations = filter (selects values (λ call. calls (call + ORIGIN))) operations

-- a selection from a timeline is a timeline at other times
pub selected_of_timeline : (values calls : ℕ → Bool) (initial : List ℕ) (operations : List Operation) → AreFew initial
    → filter (selects values calls) (timeline initial operations)
    ≡ map (retimed (lifted values initial)) (timeline (filter values initial) (selected_behind values calls operations))
selected_of_timeline values calls [] operations few =
    filter_mapped (selects values calls) (later_by ORIGIN) operations
    ∙ sym (map_fixed (retimed (λ t. t)) (map (later_by ORIGIN) (selected_behind values calls operations)) (λ k d below. refl))
selected_of_timeline values calls (v ∷ rest) operations few =
    ap (filter (selects values calls)) (timeline_cons v rest operations few)
    ∙ ap (λ os. cond (values v) (enqueue_at (start (v ∷ rest)) v ∷ os) os) (selected_of_timeline values calls rest operations (omega arith))
    ∙ join (values v)
  where
    others : List ℕ
    others = filter values rest

    selected : List Operation
    selected = timeline others (selected_behind values calls operations)

    fewer : length others ≤ length rest
    fewer = no_longer values rest

    same : (t : ℕ) → start others ≤ t → lifted values rest t ≡ lifted values (v ∷ rest) t
    same t from = rw (le-ltb t (start others) from) refl

    all_same : map (retimed (lifted values rest)) selected ≡ map (retimed (lifted values (v ∷ rest))) selected
    all_same = map_agree (retimed (lifted values rest)) (retimed (lifted values (v ∷ rest))) selected
        (λ o among. let late = timeline_late others (selected_behind values calls operations) o among in
        same_operation _ _ (same o.call late.0) (same o.ret late.1) refl refl)

    join : (b : Bool) → cond b (enqueue_at (start (v ∷ rest)) v ∷ map (retimed (lifted values rest)) selected)
        (map (retimed (lifted values rest)) selected)
        ≡ map (retimed (lifted values (v ∷ rest))) (timeline (cond b (v ∷ others) others) (selected_behind values calls operations))
    join false = all_same
    join true =
        ap (λ os. enqueue_at (start (v ∷ rest)) v ∷ os) all_same ∙ ap (λ time. enqueue_at time v ∷ map (retimed (lifted values (v ∷ rest))) selected) (sym here)
        ∙ sym (ap (map (retimed (lifted values (v ∷ rest)))) (timeline_cons v others (selected_behind values calls operations) (omega (arith, fewer))))
      where
        here : (lifted values (v ∷ rest)) (start (v ∷ others)) ≡ start (v ∷ rest)
        here = rw (lt-ltb (start (v ∷ others)) (start others) (omega (arith, fewer))) refl

-- a filter keeps all, or some element fails its test
pub all_or_one : {X : Type 0} (p : X → Bool) (xs : List X)
    → (filter p xs ≡ xs) ⊎ ((x : X) × Contains xs x × (p x ≡ false))
all_or_one p [] = inl refl
all_or_one {X} p (x ∷ xs) = pick (p x) refl (all_or_one p xs)
  where
    pick : (b : Bool) → p x ≡ b → (filter p xs ≡ xs) ⊎ ((y : X) × Contains xs y × (p y ≡ false))
        → (cond b (x ∷ filter p xs) (filter p xs) ≡ x ∷ xs) ⊎ ((y : X) × Contains (x ∷ xs) y × (p y ≡ false))
    pick true is (inl all) = inl (ap (λ ys. x ∷ ys) all)
    pick true is (inr one) = inr (one.0, one_deeper x xs one.0 one.1, one.2)
    pick false is rest = inr (x, (zero, omega arith, refl), is)

-- a violation has a first line
first_line : (full : FullViolation) → (o : Operation) × Contains (lines_of full) o
first_line (fresh deq enq) = (deq, (zero, omega arith, refl))
first_line (repeat enq first second) = (enq, (zero, omega arith, refl))
first_line (order a b) = (enqueue_of a, (zero, omega arith, refl))
first_line (witness empty cover) = (empty, (zero, omega arith, refl))

-- the two values of an order violation are different
not_itself : (operations : List Operation) (a b : Life) (is : IsOrderViolation (on operations) a b)
    → AreComplete operations → is.is_a.0 ≡ is.is_b.0 → ⊥
not_itself operations a b is complete same =
    let one = same_enqueue operations (enqueue_of a) (enqueue_of b) is.is_b.0 complete (subst (λ v. Did operations (enqueue_of a) (Enqueue v)) same is.is_a.1)
    is.is_b.1 in
    let ordered = call_by_return operations (enqueue_of b) complete is.is_b.1.0 in
    let returns = ap (λ o. o.ret) one in
    absurd (omega (arith, is.overtakes.0))

-- an operation that is left out, and with it all operations of its value
module _ {values calls : ℕ → Bool} {h : ℕ → ℕ} {low : ℕ} {xs ys : List Operation} (stands : StandsAs values calls h low xs ys)
    (missing : Operation) (was : Contains ys missing) (left_out : selects values calls missing ≡ false) where
  none_of_its_value : (o : Operation) (v : ℕ) → HasValue missing v → HasValue o v → Contains xs o → ⊥
  none_of_its_value o v is_missing is_o among =
      let there = sym (stands.there o among).1 ∙ selects_as_value values calls (retimed h o) v is_o in
      let clash : true ≡ false = there ∙ sym (selects_as_value values calls missing v is_missing) ∙ left_out in
      cc

  -- if all operations have one value, none is left
  nothing_left : (v : ℕ) → ((o : Operation) → Contains ys o → HasValue o v) → (full : FullViolation)
      → IsViolationOf (on xs) full → ⊥
  nothing_left v all full is =
      let first = first_line full in
      let among = lines_are_operations xs full is first.0 first.1 in
      none_of_its_value first.0 v (all missing was) (all (retimed h first.0) (stands.there first.0 among).0) among

  -- if all operations have one of two values, one value is left, which isn't out of order with itself
  no_order : (m n : ℕ) → HasValue missing m → ((o : Operation) → Contains ys o → HasValue o m ⊎ HasValue o n)
      → (a b : Life) → IsOrderViolation (on xs) a b → ⊥
  no_order m n is_missing of_two a b is =
      let both : Some is.is_a.0 ≡ Some is.is_b.0 = sym (ap value_of is.is_a.1.1) ∙ other (enqueue_of a) is.is_a.1.0
      ∙ sym (other (enqueue_of b) is.is_b.1.0) ∙ ap value_of is.is_b.1.1 in
      not_itself xs a b is stands.part_complete (cc)
    where
      other : (o : Operation) → Contains xs o → HasValue o n
      other o among = elim (of_two (retimed h o) (stands.there o among).0) [
        | inl same ↦ absurd (none_of_its_value o m is_missing same among)
        | inr another ↦ another
      ]

  module _ (empty : Operation) (cover : List Life) (clear : IsClear (on ys)) (chosen : IsChosenWitness (on ys) empty cover)
      (are : AreFor (lines_of (witness empty cover)) ys) where
    line_is : (l : Operation) → Contains (lines_of (witness empty cover)) l → (empty ≡ l) ⊎ IsOpOfLife ys cover l
    line_is l at = elim (contains_cons empty (flat_map operations_of_life cover) l at) [
      | inl same ↦ inl same
      | inr later ↦ inr (cover_lines ys cover (λ life among. chosen_are_lives ys empty cover empty.call life chosen.cover_is_chosen among) l later)
    ]

    -- the only operation without a value is the empty dequeue
    is_the_empty_answer : (o : Operation) → Contains ys o → value_of o.kind ≡ None → o ≡ empty
    is_the_empty_answer o among none =
        let line = are o among in
        elim (line_is line.0 line.1.among) [
          | inl same ↦ sym (line.1.itself none) ∙ sym same
          | inr of_life ↦ let clash : None ≡ Some of_life.is_life.0 = sym none ∙ sym line.1.same_value ∙ of_life.is_of.1 in cc
        ]

    -- the other operations have values of the cover
    has_value_of_cover : (o : Operation) (v : ℕ) → Contains ys o → HasValue o v
        → (life : Life) × Contains cover life × Did ys (enqueue_of life) (Enqueue v)
    has_value_of_cover o v among is =
        let line = are o among in
        elim (line_is line.0 line.1.among) [
          | inl same ↦ let clash : None ≡ Some v = sym (ap value_of chosen.answers_empty.1) ∙ ap (λ x. value_of x.kind) same ∙ line.1.same_value ∙ is in cc
          | inr of_life ↦
              let both : Some of_life.is_life.0 ≡ Some v = sym of_life.is_of.1 ∙ line.1.same_value ∙ is in
              let values_same : of_life.is_life.0 ≡ v = cc in
              (of_life.life, of_life.among, subst (λ w. Did ys (enqueue_of of_life.life) (Enqueue w)) values_same of_life.is_life.1)
        ]

    -- the value that is left out was the only one in the queue at some gap
    not_covered_without : (v : ℕ) → HasValue missing v → (o : Operation) → Contains xs o → retimed h o ≡ empty
        → IsCovered (on xs) o → ⊥
    not_covered_without v is_missing o among same covered =
        let x = has_value_of_cover missing v was is_missing in
        let other = no_enqueue empty DequeueEmpty chosen.answers_empty.1 refl in
        let window = call_before_return ys empty stands.complete chosen.answers_empty.0 other in
        let gap = left_by ys empty clear chosen.answers_empty chosen.is_covered cover empty x.0
        (record { among = chosen.answers_empty.0; after_call = omega arith; before_return = window; is_other = other }) chosen.cover_is_chosen x.1 in
        let z = covered_by stands o among covered gap.0 (subst (λ e. IsInWindow e gap.0) (sym same) (gap.1.after, gap.1.before_return)) in
        let life = retimed_life h z.0 in
        let is_z = life_there stands z.0 z.1 in
        let y = has_value_of_cover (enqueue_of life) is_z.0 is_z.1.0 (ap value_of is_z.1.1) in
        let enqueues = same_enqueue ys (enqueue_of life) (enqueue_of y.0) is_z.0 stands.complete is_z.1 y.2 in
        let one = one_life_of_enqueue ys life y.0 clear is_z (chosen_are_lives ys empty cover empty.call y.0 chosen.cover_is_chosen y.1) enqueues in
        let only : life ≡ x.0 = one ∙ gap.1.no_other y.0 y.1 (subst (λ w. Covers w gap.0) one z.2) in
        none_of_its_value (enqueue_of z.0) v is_missing (ap (λ w. value_of (enqueue_of w).kind) only ∙ ap value_of x.2.1) z.1.1.0

    no_cover : (o : Operation) (lives : List Life) → IsWitnessViolation (on xs) o lives → ⊥
    no_cover o lives is = by_value (value_of missing.kind) refl
      where
        at : Contains ys (retimed h o) × (selects values calls (retimed h o) ≡ true)
        at = stands.there o is.answers_empty.0

        same : retimed h o ≡ empty
        same = is_the_empty_answer (retimed h o) at.0 (ap value_of is.answers_empty.1)

        by_value : (w : Option ℕ) → value_of missing.kind ≡ w → ⊥
        by_value (Some v) is_missing = not_covered_without v is_missing o is.answers_empty.0 same
            (violation_covers (on xs) o lives is)
        by_value None none =
            let one : retimed h o ≡ missing = same ∙ sym (is_the_empty_answer missing was none) in
            let clash : true ≡ false = sym at.1 ∙ ap (selects values calls) one ∙ left_out in
            cc

  -- so the operations that are left have no violation
  pub none_is_left : (full : FullViolation) → IsChosenFullViolation (on ys) full → AreFor (lines_of full) ys
      → (other : FullViolation)
      → IsViolationOf (on xs) other → ⊥
  none_is_left (fresh deq enq) chosen are other is = let lines = fresh_lines ys deq enq chosen.violates in
      nothing_left lines.0 (λ o among. let line = are o among in sym line.1.same_value ∙ (lines.1 line.0 line.1.among).1) other is
  none_is_left (repeat enq first second) chosen are other is = nothing_left chosen.1.violates.value (λ o among. let line = are o among in
      sym line.1.same_value ∙ (repeat_lines ys enq first second chosen.1.violates line.0 line.1.among).1) other is
  none_is_left (order x y) chosen are other is = left other is
    where
      a : ℕ
      a = chosen.2.violates.is_a.0

      b : ℕ
      b = chosen.2.violates.is_b.0

      of_two : (o : Operation) → Contains ys o → HasValue o a ⊎ HasValue o b
      of_two o among = let line = are o among in elim (order_lines ys x y chosen.2.violates line.0 line.1.among) [
        | inl of_a ↦ inl (sym line.1.same_value ∙ of_a.1)
        | inr of_b ↦ inr (sym line.1.same_value ∙ of_b.1)
      ]

      left : (other : FullViolation) → IsViolationOf (on xs) other → ⊥
      left (fresh deq enq) is = no_fresh_back stands chosen.0 deq enq is
      left (repeat enq first second) is = no_repeat_back stands chosen.1 enq first second is
      left (order z w) is = elim (of_two missing was) [
        | inl of_a ↦ no_order a b of_a of_two z w is
        | inr of_b ↦ no_order b a of_b (λ o among. elim (of_two o among) [ inl first ↦ inr first | inr second ↦ inl second ]) z w is
      ]
      left (witness o lives) is = elim (of_two (retimed h o) (stands.there o is.answers_empty.0).0) [
        | inl of_a ↦ let clash : None ≡ Some a = sym (ap value_of is.answers_empty.1) ∙ of_a in cc
        | inr of_b ↦ let clash : None ≡ Some b = sym (ap value_of is.answers_empty.1) ∙ of_b in cc
      ]
  none_is_left (witness empty cover) chosen are other is = left other is
    where
      left : (other : FullViolation) → IsViolationOf (on xs) other → ⊥
      left (fresh deq enq) is = no_fresh_back stands chosen.0 deq enq is
      left (repeat enq first second) is = no_repeat_back stands chosen.1 enq first second is
      left (order x y) is = no_order_back stands chosen.2 x y is
      left (witness o lives) is =
          no_cover empty cover (record { complete = stands.complete; no_fresh = chosen.0; no_repeat = chosen.1 }) chosen.3 are o lives is
