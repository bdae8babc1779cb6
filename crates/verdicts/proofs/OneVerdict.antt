-- Each result of a search in a history is unique.
use Rattle.verdicts.proofs.Common.{[], AllPairs, AllZip, ap, ap₂, AreComplete, ArePlacesOf, arith}
use Rattle.verdicts.proofs.Common.{behind, cases_lt, chosen_of, Contains, Contains-permutation}
use Rattle.verdicts.proofs.Common.{Course, course, course_on, CoverStep, dequeue_of, Did, DequeueEmpty, enqueue_of}
use Rattle.verdicts.proofs.Common.{Event}
use Rattle.verdicts.proofs.Common.{filter, fresh, FullViolation, get_or, initial_enqueue, inl, inr}
use Rattle.verdicts.proofs.Common.{is_empty_answer, IsAt, IsChosenCover, IsChosenViolation, IsClear, IsCompleteFrom}
use Rattle.verdicts.proofs.Common.{IsCovered, IsGapAnswer, IsLeastFreeGap, IsMaybeOperation, IsNamed}
use Rattle.verdicts.proofs.Common.{IsNonDecreasingBy, IsOfHistory, IsOperation, IsPermutation, IsPermutation-sym}
use Rattle.verdicts.proofs.Common.{IsPermutation-trans, IsSource, IsViolationOf, length}
use Rattle.verdicts.proofs.Common.{Life, List, map, mapped_option, MAX_INITIAL, Names, NamesCover, No, None, on}
use Rattle.verdicts.proofs.Common.{one_at, Operation, operation_on, operations_are_complete, operations_of}
use Rattle.verdicts.proofs.Common.{operations_rise, Option, order, OrderPair, passes_filter, place_of, refl}
use Rattle.verdicts.proofs.Common.{repeat, slice_get, slice_get-get_or, slice_get_within, Some, Source, source_on}
use Rattle.verdicts.proofs.Common.{subst, sym, time_of, timed, timeline, timeline_is_complete, timeline_of_history}
use Rattle.verdicts.proofs.Common.{true, Violation, witness, Yes, ℕ, ◌<◌, ◌↔◌, ◌∙◌, ◌∷◌, ◌≡◌, ◌≤◌}
use Rattle.value_match.proofs.Agreeing.{chosen_order_of, chosen_witness_of, cover_of}
use Rattle.value_match.proofs.HistoryPlaces.{clear_on, clear_told, source_place}
use Rattle.linearizer.proofs.OneOrder.{one_chosen_order, one_list}
use Rattle.order_violation.specs.Pairs.{violation_of}
use Rattle.empty_witness.specs.declared.answer.GapAnswer.{GapAnswer}
use Rattle.linearizer.proofs.Elements.{beside_first, one_place as one_place_of_key}
use Rattle.verdicts.specs.Laws.{GapIsOne, MatchedIsOne, PairIsOne, VerdictIsOne, WitnessIsOne}
use Rattle.verdicts.proofs.Chosen.{one_chosen_violation, one_cover, one_order, one_witness}
use Rattle.std.proofs.lemmas.List.Sorted.{IsPermutation-refl}
use Rattle.verdicts.proofs.Exactly.{violation_excludes_order}
use Rattle.value_match.specs.declared.matching.Matched.TheVariants as matched
use Rattle.value_match.specs.declared.life.Source.TheVariants as source
use Rattle.value_match.specs.declared.violation.Violation.TheVariants as violation
use Rattle.empty_witness.specs.declared.answer.GapAnswer.TheVariants as gap
use Rattle.empty_witness.specs.declared.answer.WitnessAnswer.TheVariants as found

-- the keys rise along the list
abbrev pub KeysRise : {X : Type 0} → (X → ℕ) → List X → Type 0
KeysRise key xs = AllPairs (λ x y. key x < key y) xs

-- two lists with rising keys and the same elements are equal
pub same_lists : {X : Type 0} (key : X → ℕ) (xs ys : List X) → KeysRise key xs → KeysRise key ys
    → ((z : X) → Contains xs z → Contains ys z)
    → ((z : X) → Contains ys z → Contains xs z) → xs ≡ ys
same_lists key = one_list (λ x y. key x < key y) (λ x y less more. omega arith)

-- a permutation, sorted by a key, of a list with rising keys is that list
sorted_is_same : {X : Type 0} (key : X → ℕ) (xs ys : List X) → KeysRise key xs → IsPermutation xs ys
    → IsNonDecreasingBy key ys → ys ≡ xs
sorted_is_same {X} key xs ys rises moved sorted =
    same_lists key ys xs rises' rises (λ z among. Contains-permutation ys xs z (IsPermutation-sym xs ys moved) among)
    (λ z among. Contains-permutation xs ys z moved among)
  where
    rises' : KeysRise key ys
    rises' i j d less within =
        let le = sorted i j d (omega arith) within in
        elim (cases_lt (key (get_or ys i d)) (key (get_or ys j d))) [
          | inl below ↦ below
          | inr above ↦ let here = one_place_of_key key xs ys i j (get_or ys i d) (get_or ys j d) rises moved (slice_get-get_or ys i d (omega arith))
              (slice_get-get_or ys j d within) (omega arith) in absurd (omega arith)
        ]

-- sorting by a key gives a list with rising keys if and only if the elements are the same
pub sorted_tells : {X : Type 0} (key : X → ℕ) (xs ys sorted : List X) → KeysRise key xs → IsPermutation ys sorted
    → IsNonDecreasingBy key sorted
    → (sorted ≡ xs) ↔ IsPermutation xs ys
sorted_tells {X} key xs ys sorted rises moved in_order = (
  λ same. subst (λ zs. IsPermutation zs ys) same (IsPermutation-sym ys sorted moved),
  λ whole. sorted_is_same key xs sorted rises (IsPermutation-trans xs ys sorted whole moved) in_order,
)

-- a list paired with another, element by element, is unique if each element's partner is
pub one_beside : {X Y : Type 0} (R : X → Y → Type 0) → ((x : X) (y z : Y) → R x y → R x z → y ≡ z)
    → (xs : List X) (ys zs : List Y)
    → AllZip R xs ys → AllZip R xs zs → ys ≡ zs
one_beside R one [] [] [] first second = refl
one_beside {X} {Y} R one (x ∷ xs) (y ∷ ys) (z ∷ zs) first second =
    ap₂ (λ (w : Y) (ws : List Y). w ∷ ws) (one x y z first.0 second.0) (one_beside R one xs ys zs first.1 second.1)
one_beside R one _ _ _ first second = absurd assumption

-- ---- each result of a search in a history is unique

-- an operation has only one place
one_place_at : (operations : List Operation) (p q : ℕ) (o : Operation) → AreComplete operations → IsAt operations p o
    → IsAt operations q o → p ≡ q
one_place_at operations p q o complete at_p at_q =
    one_place_of_key (λ x. x.call) operations operations p q o o (operations_rise operations complete) (IsPermutation-refl operations) at_p at_q refl

-- a list of operations has only one list of places
one_list_of_places : (operations : List Operation) (ps qs : List ℕ) (listed : List Operation) → AreComplete operations
    → ArePlacesOf operations ps listed → ArePlacesOf operations qs listed → ps ≡ qs
one_list_of_places operations [] [] listed complete at_ps at_qs = refl
one_list_of_places operations (p ∷ ps) (q ∷ qs) (o ∷ listed) complete at_ps at_qs =
    grind (arith, one_place_at operations p q o complete, one_list_of_places operations ps qs listed complete)
one_list_of_places operations _ _ _ complete at_ps at_qs = cc

module _ (initial : List ℕ) (operations : List Operation) (is_history : IsOfHistory initial operations) where
  abbrev k : ℕ
  k = length initial

  abbrev all : List Operation
  all = timeline initial operations

  complete : AreComplete all
  complete = (timeline_of_history initial operations is_history).1

  one_place : (p q : ℕ) (o : Operation) → IsOperation operations p o → IsOperation operations q o → p ≡ q
  one_place p q o at_p at_q =
      let same = one_place_at all (behind k p) (behind k q) o complete (operation_on initial operations p o at_p) (operation_on initial operations q o at_q) in
      omega (arith, same)

  maybe_one_place : (o : Option Operation) (p q : Option ℕ) → IsMaybeOperation operations p o
      → IsMaybeOperation operations q o → p ≡ q
  maybe_one_place (Some o) (Some p) (Some q) at_p at_q = ap (λ place. Some place) (one_place p q o at_p at_q)
  maybe_one_place None None None at_p at_q = refl
  maybe_one_place _ _ _ at_p at_q = absurd assumption

  initial_within : (p : ℕ) (o : Operation) → IsSource initial operations (source.Initial p) o → p < k
  initial_within p o at = let (v, stands, is) = mapped_option (initial_enqueue k p) (slice_get initial p) o at in slice_get_within initial p v stands

  -- an enqueue has only one source
  one_source : (s t : Source) (o : Operation) → IsSource initial operations s o → IsSource initial operations t o
      → s ≡ t
  one_source s t o at_s at_t = by_place s t at_s at_t
      (one_place_at all (source_place initial operations s) (source_place initial operations t) o complete (source_on initial operations s o at_s)
      (source_on initial operations t o at_t))
    where
      by_place : (s t : Source) → IsSource initial operations s o → IsSource initial operations t o
          → source_place initial operations s ≡ source_place initial operations t → s ≡ t
      by_place (source.Enq p) (source.Enq q) at_p at_q same = let one : p ≡ q = omega (arith, same) in ap source.Enq one
      by_place (source.Enq p) (source.Initial q) at_p at_q same = let within = initial_within q o at_q in absurd (omega (arith, same, within))
      by_place (source.Initial p) (source.Enq q) at_p at_q same = let within = initial_within p o at_p in absurd (omega (arith, same, within))
      by_place (source.Initial p) (source.Initial q) at_p at_q same = ap source.Initial same

  one_step : (p q : CoverStep) (life : Life) → IsNamed initial operations p.source p.dequeue life
      → IsNamed initial operations q.source q.dequeue life → p ≡ q
  one_step p q life at_p at_q =
      let step : Source → Option ℕ → CoverStep = λ s d. record { source = s; dequeue = d } in
      ap₂ step (one_source p.source q.source (enqueue_of life) at_p.0 at_q.0)
      (maybe_one_place (dequeue_of life) p.dequeue q.dequeue at_p.1 at_q.1)

  one_named_cover : (lives : List Life) (ps qs : List CoverStep) → NamesCover initial operations ps lives
      → NamesCover initial operations qs lives → ps ≡ qs
  one_named_cover [] [] [] names_p names_q = refl
  one_named_cover (life ∷ lives) (p ∷ ps) (q ∷ qs) names_p names_q =
      ap₂ (λ (x : CoverStep) (xs : List CoverStep). x ∷ xs) (one_step p q life names_p.0 names_q.0) (one_named_cover lives ps qs names_p.1 names_q.1)
  one_named_cover _ _ _ names_p names_q = absurd assumption

  -- the operations of a violation are named by one list of places only
  one_named : (full : FullViolation) (x y : Violation) → Names initial operations x full
      → Names initial operations y full → x ≡ y
  one_named (fresh deq enq) (violation.Fresh d e) (violation.Fresh d' e') at at' =
      ap₂ (λ (p : ℕ) (q : Option ℕ). violation.Fresh p q) (one_place d d' deq at.0 at'.0) (maybe_one_place enq e e' at.1 at'.1)
  one_named (repeat enq first second) (violation.Repeat e d f) (violation.Repeat e' d' f') at at' =
      let enqs = one_source e e' enq at.0 at'.0 in
      let firsts = one_place d d' first at.1 at'.1 in
      let seconds = one_place f f' second at.2 at'.2 in
      cc
  one_named (order x y) (violation.Order a b d c) (violation.Order a' b' d' c') at at' =
      let first = one_step (record { source = a; dequeue = c }) (record { source = a'; dequeue = c' }) x at.0 at'.0 in
      let second = one_step (record { source = b; dequeue = Some d }) (record { source = b'; dequeue = Some d' }) y at.1 at'.1 in
      let ds : Some d ≡ Some d' = ap (λ (s : CoverStep). s.dequeue) second in
      let one : d ≡ d' = cc in
      λ i. violation.Order (first i).source (second i).source (one i) (first i).dequeue
  one_named (witness empty lives) (violation.Witness o cover) (violation.Witness o' cover') at at' =
      ap₂ (λ (p : ℕ) (steps : List CoverStep). violation.Witness p steps) (one_place o o' empty at.0 at'.0)
      (one_named_cover lives cover cover' at.1 at'.1)
  one_named _ _ _ at at' = absurd assumption

  -- equal violations are named by the same places
  one_violation : (x y : Violation) (b c : FullViolation) → b ≡ c → Names initial operations x b
      → Names initial operations y c → x ≡ y
  one_violation x y b c same at at' = one_named c x y (subst (Names initial operations x) same at) at'

  -- only one violation is chosen
  one_chosen : (x y : Violation) → IsChosenViolation initial operations x → IsChosenViolation initial operations y
      → x ≡ y
  one_chosen x y (b, names_x, chosen_x) (c, names_y, chosen_y) =
      let there = chosen_of (course initial operations) (on all) (course_on initial operations) in
      one_violation x y b c (one_chosen_violation all b c complete (there b chosen_x) (there c chosen_y)) names_x names_y

-- a history has only one chosen violation
pub chosen_violation_is_one : (initial : List ℕ) (events : List Event) (x y : Violation)
    → IsCompleteFrom initial events → length initial ≤ MAX_INITIAL
    → IsChosenViolation initial (operations_of events) x → IsChosenViolation initial (operations_of events) y → x ≡ y
chosen_violation_is_one initial events x y complete few =
    one_chosen initial (operations_of events) (events, refl, complete, few) x y

-- a history has only one verdict
pub verdict_is_one : VerdictIsOne
verdict_is_one initial events (Yes ps) (Yes qs) complete few x exact_x y exact_y =
    let operations = operations_of events in
    let all = timeline initial operations in
    let all_complete = timeline_is_complete initial events complete few in
    let none = λ (b : FullViolation) (violates : IsViolationOf (on all) b). violation_excludes_order initial operations b all_complete violates exact_x in
    let clear : IsClear (on all) = record {
      complete = all_complete;
      no_fresh = λ deq enq. none (fresh deq enq);
      no_repeat =
          λ enq first second. none (repeat enq first second);
    } in
    let orders = one_chosen_order initial operations x.0 y.0 (clear_told initial operations (events, refl, complete, few) clear) x.2 y.2 in
    ap (λ places. Yes places) (one_list_of_places operations ps qs y.0 (operations_are_complete events complete.complete)
    (subst (ArePlacesOf operations ps) orders x.1) y.1)
verdict_is_one initial events (Yes ps) (No v) complete few x exact_x y exact_y = absurd (exact_y exact_x)
verdict_is_one initial events (No v) (Yes qs) complete few x exact_x y exact_y = absurd (exact_x exact_y)
verdict_is_one initial events (No v) (No w) complete few x exact_x y exact_y =
    ap (λ named. No named) (chosen_violation_is_one initial events v w complete few x y)

-- a history has only one result of matching
pub matched_is_one : MatchedIsOne
matched_is_one initial operations (matched.Clear m) (matched.Clear n) complete x y = ap (λ matching. matched.Clear matching) (x.0 ∙ sym y.0)
matched_is_one initial operations (matched.Clear m) (matched.Fresh v) complete x y = absurd (x.1.no_fresh y.0 y.1 y.3.violates)
matched_is_one initial operations (matched.Clear m) (matched.Repeat v) complete x y = absurd (x.1.no_repeat y.0 y.1 y.2 y.4.1.violates)
matched_is_one initial operations (matched.Fresh v) (matched.Clear m) complete x y = absurd (y.1.no_fresh x.0 x.1 x.3.violates)
matched_is_one initial operations (matched.Repeat v) (matched.Clear m) complete x y = absurd (y.1.no_repeat x.0 x.1 x.2 x.4.1.violates)
matched_is_one initial operations (matched.Fresh v) (matched.Repeat w) complete x y = absurd (y.4.0 x.0 x.1 x.3.violates)
matched_is_one initial operations (matched.Repeat v) (matched.Fresh w) complete x y = absurd (x.4.0 y.0 y.1 y.3.violates)
matched_is_one initial operations (matched.Fresh v) (matched.Fresh w) complete x y =
    ap (λ named. matched.Fresh named) (one_chosen initial operations complete v w (fresh x.0 x.1, x.2, x.3) (fresh y.0 y.1, y.2, y.3))
matched_is_one initial operations (matched.Repeat v) (matched.Repeat w) complete x y =
    ap (λ named. matched.Repeat named) (one_chosen initial operations complete v w (repeat x.0 x.1 x.2, x.3, x.4) (repeat y.0 y.1 y.2, y.3, y.4))

-- the pair that an order violation names
abbrev pair_of : Violation → OrderPair
pair_of (violation.Order a b d c) = record { enq_a = a; enq_b = b; deq_b = d; deq_a = c }
pair_of _ = record { enq_a = source.Enq 0; enq_b = source.Enq 0; deq_b = 0; deq_a = None }

-- only one pair is found
pub pair_is_one : PairIsOne
pair_is_one initial operations None None complete x y = refl
pair_is_one initial operations None (Some q) complete x y = absurd (x y.a y.b y.is_chosen.violates)
pair_is_one initial operations (Some p) None complete x y = absurd (y x.a x.b x.is_chosen.violates)
pair_is_one initial operations (Some p) (Some q) complete x y =
    let there = chosen_order_of (course initial operations) (on (timeline initial operations)) (course_on initial operations) in
    let violations = one_order (timeline initial operations) x.a x.b y.a y.b (timeline_of_history initial operations complete).1
    (there x.a x.b x.is_chosen) (there y.a y.b y.is_chosen) in
    let named = one_violation initial operations complete (violation_of p) (violation_of q) (order x.a x.b) (order y.a y.b) violations x.names y.names in
    ap (λ pair. Some pair) (ap pair_of named)

one_least_gap : (h : Course) (o : Operation) (c d : ℕ) → IsLeastFreeGap h o c → IsLeastFreeGap h o d → c ≡ d
one_least_gap h o c d x y = let le = x.least d y.in_window y.is_free in let ge = y.least c x.in_window x.is_free in omega arith

-- a covered window has no free gap
free_or_covered : (h : Course) (o : Operation) (c : ℕ) → IsLeastFreeGap h o c → IsCovered h o → ⊥
free_or_covered h o c free covered = let stays = covered c free.in_window in free.is_free stays.0 stays.1 stays.2

-- gaps with the same time are equal
gap_told : (c d : ℕ) → time_of c ≡ time_of d → c ≡ d
gap_told c d same = omega (arith, same)

-- only one gap is found
pub gap_is_one : GapIsOne
gap_is_one initial operations place = one
  where
    h : Course
    h = course initial operations

    one : (x y : GapAnswer) → IsClear h → IsGapAnswer initial operations place x
        → IsGapAnswer initial operations place y → x ≡ y
    one (gap.Free c) (gap.Free d) clear x y =
        let same = one_at (timed operations) place x.0 y.0 x.1 y.1 in
        let gaps = one_least_gap h y.0 (time_of c) (time_of d) (subst (λ o. IsLeastFreeGap h o (time_of c)) same x.2) y.2 in
        ap (λ c. gap.Free c) (gap_told c d gaps)
    one (gap.Free c) (gap.Covered cover) clear x y =
        let same = one_at (timed operations) place x.0 y.0 x.1 y.2 in
        absurd (free_or_covered h y.0 (time_of c) (subst (λ o. IsLeastFreeGap h o (time_of c)) same x.2) y.4)
    one (gap.Covered cover) (gap.Free c) clear x y =
        let same = one_at (timed operations) place y.0 x.0 y.1 x.2 in
        absurd (free_or_covered h x.0 (time_of c) (subst (λ o. IsLeastFreeGap h o (time_of c)) same y.2) x.4)
    one (gap.Covered steps) (gap.Covered steps') clear x y =
        let same = one_at (timed operations) place x.0 y.0 x.2 y.2 in
        let there = cover_of h (on (timeline initial operations)) (course_on initial operations) y.0 y.0.call in
        let lives = one_cover (timeline initial operations) y.0 y.0.call x.1 y.1 (clear_on initial operations clear)
        (there x.1 (subst (λ o. IsChosenCover h o x.1) same x.5)) (there y.1 y.5) in
        ap (λ steps. gap.Covered steps) (one_named_cover initial operations clear.complete y.1 steps steps'
        (subst (NamesCover initial operations steps) lives x.3) y.3)

gaps_told : (cs ds : List ℕ) → map time_of cs ≡ map time_of ds → cs ≡ ds
gaps_told [] [] same = refl
gaps_told (c ∷ cs) (d ∷ ds) same = grind (arith, gaps_told cs ds)
gaps_told _ _ same = cc

-- if each empty dequeue has a free gap, none is covered
none_covered : (h : Course) (gaps : List ℕ) (o : Operation)
    → AllZip (λ o c. IsLeastFreeGap h o c) (filter is_empty_answer h.operations) gaps → Did h.operations o DequeueEmpty
    → IsCovered h o → ⊥
none_covered h gaps o each did covered =
    let passes : is_empty_answer o ≡ true = rw did.1 refl in
    let place = place_of (filter is_empty_answer h.operations) o (passes_filter is_empty_answer h.operations o passes did.0) in
    let free = beside_first (λ o c. IsLeastFreeGap h o c) (filter is_empty_answer h.operations) gaps place.0 o each place.1 in
    free_or_covered h o free.0 free.2 covered

-- only one result of the search for covered windows is found
pub witness_is_one : WitnessIsOne
witness_is_one initial operations (found.Gaps cs) (found.Gaps ds) clear x y =
    let h = course initial operations in
    let times = one_beside (λ o c. IsLeastFreeGap h o c) (one_least_gap h) (filter is_empty_answer h.operations) (map time_of cs)
    (map time_of ds) x y in
    ap (λ gaps. found.Gaps gaps) (gaps_told cs ds times)
witness_is_one initial operations (found.Gaps cs) (found.Covered place cover) clear x y =
    absurd (none_covered (course initial operations) (map time_of cs) y.0 x y.4.answers_empty y.4.is_covered)
witness_is_one initial operations (found.Covered place cover) (found.Gaps cs) clear x y =
    absurd (none_covered (course initial operations) (map time_of cs) x.0 y x.4.answers_empty x.4.is_covered)
witness_is_one initial operations (found.Covered p steps) (found.Covered q steps') clear x y =
    let there = chosen_witness_of (course initial operations) (on (timeline initial operations)) (course_on initial operations) in
    let same : violation.Witness p steps ≡ violation.Witness q steps' = one_violation initial operations clear.complete _ _ (witness x.0 x.1)
    (witness y.0 y.1) (one_witness (timeline initial operations) x.0 y.0 x.1 y.1 (clear_on initial operations clear) (there x.0 x.1 x.4)
    (there y.0 y.1 y.4)) (x.2, x.3) (y.2, y.3) in
    cc
