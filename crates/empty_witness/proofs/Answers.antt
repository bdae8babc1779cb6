-- The empty dequeues by their places, and one more of them in a scan.
use Rattle.empty_witness.proofs.Common.{[], All, All-append, All-contains, All-get_or, All-nil, All-push, AllZip}
use Rattle.empty_witness.proofs.Common.{AllZip-get_or, ap, AreGapsAt, AreLeastFreeGaps, arith, clear_on, Contains}
use Rattle.empty_witness.proofs.Common.{Contains-append_right, Contains-get_or, Contents, Course, course_of, Did, drop}
use Rattle.empty_witness.proofs.Common.{DequeueEmpty, false, filter, get_or, get_or_default, HoldsPlaces}
use Rattle.empty_witness.proofs.Common.{initial_enqueues, inl, inr, is_empty_answer, is_empty_kind, is_none, IsAt}
use Rattle.empty_witness.proofs.Common.{IsChosenCover, IsChosenWitness, IsClear, IsCovered, IsEmptyAnswerAt}
use Rattle.empty_witness.proofs.Common.{IsFirstCovered, IsLeastFreeGap, IsSoonerOf, later_by, length, Life, List, map}
use Rattle.empty_witness.proofs.Common.{MatchOption, NEVER, None, one_at, one_deeper, one_more, one_more_zipped}
use Rattle.empty_witness.proofs.Common.{Operation, Option, option_map, ORIGIN, passed_filter, passes_filter, refl}
use Rattle.empty_witness.proofs.Common.{return_in_range, slice_get, slice_get-map, Some, subst, suc, sym, take}
use Rattle.empty_witness.proofs.Common.{take-append-drop, time_of, timed, timeline, true, zero, ℕ, ◌++◌, ◌+◌, ◌<◌, ◌∙◌}
use Rattle.empty_witness.proofs.Common.{◌∷◌, ◌≡◌, ◌≤◌}
use Rattle.history_merge.proofs.Distinct.{call_by_return, contains_at}
use Rattle.value_match.proofs.HistoryPlaces.{filter_timed, places_timed}
use Rattle.std.proofs.lemmas.List.{append_assoc}
use Rattle.history_merge.specs.declared.operation.OpKind.{OpKind}
use Rattle.history_merge.specs.Legal.{ArePlacesOf}
use Rattle.empty_witness.specs.declared.search.EmptyAnswer.{EmptyAnswer}

-- ---- empty dequeues at their times

-- an empty dequeue of the history, at its times
pub answer_timed : (history : Contents) (place : ℕ) (o : Operation) → IsClear (course_of history)
    → IsEmptyAnswerAt history.operations place
    → slice_get history.operations place ≡ Some o → IsAt (timed history.operations) place (later_by ORIGIN o)
    × Did (timed history.operations) (later_by ORIGIN o) DequeueEmpty × (o.call ≤ o.ret) × (o.ret + ORIGIN < NEVER)
answer_timed history place o clear (x, at_x, is) at =
    let all = timeline history.initial history.operations in
    let whole = (clear_on history.initial history.operations clear).complete in
    let timed_at : IsAt (timed history.operations) place (later_by ORIGIN o) = slice_get-map (later_by ORIGIN) history.operations place ∙ ap (option_map (later_by ORIGIN)) at in
    let among = contains_at (timed history.operations) place (later_by ORIGIN o) timed_at in
    let there = Contains-append_right (initial_enqueues history.initial) (timed history.operations) (later_by ORIGIN o) among in
    let same = one_at history.operations place x o at_x at in
    let range = return_in_range all (later_by ORIGIN o) whole there in
    let order = call_by_return all (later_by ORIGIN o) whole there in
    (timed_at, (among, ap (λ (y : Operation). y.kind) (sym same) ∙ is), omega (arith, order), omega (arith, range))

-- empty dequeues have the same places at their times
pub empties_timed : (operations : List Operation) (places : List ℕ) → HoldsPlaces operations is_empty_answer places
    → HoldsPlaces (timed operations) is_empty_answer places
empties_timed operations places holds = subst (ArePlacesOf (timed operations) places) (sym (filter_timed is_empty_answer (λ o. refl) operations))
    (places_timed operations places (filter is_empty_answer operations) holds)

-- ---- the empty dequeues by their places, and one more of them in a scan

-- the operation at a place of a list of places
pub listed_at : (operations : List Operation) (places : List ℕ) (listed : List Operation) (i p : ℕ)
    → ArePlacesOf operations places listed
    → i < length places → p ≡ get_or places i p
    → (o : Operation) × IsAt operations p o × (i < length listed) × (o ≡ get_or listed i o)
listed_at operations [] listed i p named within is = absurd (omega arith)
listed_at operations (q ∷ places) [] i p named within is = cc
listed_at operations (q ∷ places) (o ∷ listed) zero p named within is = let at : slice_get operations q ≡ Some o = cc in
    (o, subst (λ r. IsAt operations r o) (sym is) at, omega arith, refl)
listed_at operations (q ∷ places) (o ∷ listed) (suc i) p named within is =
    let rest : map (slice_get operations) places ≡ map (λ o. Some o) listed = cc in
    let more = listed_at operations places listed i p rest (omega arith) is in
    (more.0, more.1, omega (arith, more.2), more.3)

kind_of_empty : (k : OpKind) → is_empty_kind k ≡ true → k ≡ DequeueEmpty
kind_of_empty DequeueEmpty is = refl
kind_of_empty _ is = cc

-- each listed empty dequeue is an operation of that kind
pub is_empty_did : (operations : List Operation) (o : Operation) → Contains (filter is_empty_answer operations) o
    → Did operations o DequeueEmpty
is_empty_did operations o among = let passed = passed_filter is_empty_answer operations o among in (passed.0, kind_of_empty o.kind passed.1)

-- each operation of that kind is a listed empty dequeue
pub empty_is_listed : (operations : List Operation) (o : Operation) → Did operations o DequeueEmpty
    → Contains (filter is_empty_answer operations) o
empty_is_listed operations o did = passes_filter is_empty_answer operations o (rw did.1 refl) did.0

-- the operation at each of the places is an empty dequeue
pub places_are_empty : (operations : List Operation) (places : List ℕ) → HoldsPlaces operations is_empty_answer places
    → All (IsEmptyAnswerAt operations) places
places_are_empty operations places named i d within =
    let found = listed_at operations places (filter is_empty_answer operations) i (get_or places i d) named within
    (get_or_default places i d (get_or places i d) within) in
    let among = subst (Contains (filter is_empty_answer operations)) (sym found.3)
    (Contains-get_or (filter is_empty_answer operations) i found.0 found.2) in
    (found.0, found.1, (is_empty_did operations found.0 among).1)

-- the operation at the i-th place is an empty dequeue
pub answer_is_empty : (operations : List Operation) (places : List ℕ) (i place : ℕ)
    → All (IsEmptyAnswerAt operations) places → i < length places
    → place ≡ get_or places i place → IsEmptyAnswerAt operations place
answer_is_empty operations places i place empty within is = subst (IsEmptyAnswerAt operations) (sym is)
    (All-get_or (IsEmptyAnswerAt operations) places i place within empty)

-- a listed operation has a place
place_listed : (operations : List Operation) (places : List ℕ) (listed : List Operation) (i : ℕ) (o : Operation)
    → ArePlacesOf operations places listed → i < length listed → get_or listed i o ≡ o
    → (p : ℕ) × Contains places p × IsAt operations p o
place_listed operations places [] i o named within is = absurd (omega arith)
place_listed operations [] (x ∷ listed) i o named within is = cc
place_listed operations (p ∷ places) (x ∷ listed) zero o named within is = let at : slice_get operations p ≡ Some x = cc in
    (p, (zero, omega arith, refl), subst (IsAt operations p) is at)
place_listed operations (p ∷ places) (x ∷ listed) (suc i) o named within is =
    let rest : map (slice_get operations) places ≡ map (λ o. Some o) listed = cc in
    let more = place_listed operations places listed i o rest (omega arith) is in
    (more.0, one_deeper p places more.0 more.1, more.2)

-- a window with a free gap is not covered
pub free_is_not_covered : (c : Course) (o : Operation) (gap : ℕ) → IsLeastFreeGap c o gap → ¬ (IsCovered c o)
free_is_not_covered c o gap is covered = let life = covered gap is.in_window in is.is_free life.0 life.1 life.2

-- if no gap is found, the window is covered
pub covered_if_none : (c : Course) (o : Operation) (found : Option ℕ)
    → MatchOption found (IsCovered c o) (λ gap. IsLeastFreeGap c o (time_of gap)) → is_none found ≡ true
    → IsCovered c o
covered_if_none c o None covered none = covered
covered_if_none c o (Some gap) is none = cc

-- a gap that is found is the least free one of the window
pub gap_if_some : (c : Course) (o : Operation) (found : Option ℕ)
    → MatchOption found (IsCovered c o) (λ gap. IsLeastFreeGap c o (time_of gap)) → is_none found ≡ false
    → (gap : ℕ) × IsLeastFreeGap c o (time_of gap)
gap_if_some c o None covered some = cc
gap_if_some c o (Some gap) is some = (gap, is)

module _ (h : Course) where
  -- an empty dequeue whose window is covered returned no earlier than this one
  abbrev ReturnsLater : EmptyAnswer → ℕ → Type 0
  ReturnsLater answer place = (o : Operation) → IsAt h.operations place o → IsCovered h o → answer.operation.ret ≤ o.ret

  abbrev HasGap : ℕ → ℕ → Type 0
  HasGap place c = (o : Operation) × IsAt h.operations place o × IsLeastFreeGap h o (time_of c)

  -- if each window has a gap, none is covered
  gaps_come_later : (answer : EmptyAnswer) (places gaps : List ℕ) → AreGapsAt h places gaps
      → All (ReturnsLater answer) places
  gaps_come_later answer places gaps zip i d within o at covered =
      let has = AllZip-get_or HasGap places gaps i d 0 zip within in
      absurd (free_is_not_covered h o (time_of (get_or gaps i 0))
      (subst (λ x. IsLeastFreeGap h x (time_of (get_or gaps i 0))) (one_at h.operations (get_or places i d) has.0 o has.1 at) has.2) covered)

  -- the first of some places is the first of others, if none of these is covered and returned sooner
  first_of : (seen places : List ℕ) (answer : EmptyAnswer) → IsFirstCovered h seen answer
      → All (ReturnsLater answer) places
      → IsFirstCovered h places answer
  first_of seen places answer is first = record { at = is.at; is_empty = is.is_empty; is_covered = is.is_covered; first = first }

  -- the sooner of the first ones of two lists of places is the first of both
  pub sooner_is_first : (low high : List ℕ) (a b r : EmptyAnswer) → IsFirstCovered h low a → IsFirstCovered h high b
      → IsSoonerOf a b r → IsFirstCovered h (low ++ high) r
  sooner_is_first low high a b r is_a is_b sooner = elim sooner.is_one [
    | inl same ↦ first_of low (low ++ high) r (subst (IsFirstCovered h low) (sym same) is_a) all
    | inr same ↦ first_of high (low ++ high) r (subst (IsFirstCovered h high) (sym same) is_b) all
  ]
    where
      all : All (ReturnsLater r) (low ++ high)
      all = All-append (ReturnsLater r) low high (λ i d within o at covered. omega (arith, sooner.before_first, is_a.first i d within o at covered))
          (λ i d within o at covered. omega (arith, sooner.before_second, is_b.first i d within o at covered))

  -- if each window of the second list has a gap, the first of the first list is the first of all
  pub low_is_first : (low high gaps : List ℕ) (a : EmptyAnswer) → IsFirstCovered h low a → AreGapsAt h high gaps
      → IsFirstCovered h (low ++ high) a
  low_is_first low high gaps a is zip =
      first_of low (low ++ high) a is (All-append (ReturnsLater a) low high is.first (gaps_come_later a high gaps zip))

  -- if each window of the first list has a gap, the first of the second list is the first of all
  pub high_is_first : (low high gaps : List ℕ) (b : EmptyAnswer) → AreGapsAt h low gaps → IsFirstCovered h high b
      → IsFirstCovered h (low ++ high) b
  high_is_first low high gaps b zip is =
      first_of high (low ++ high) b is (All-append (ReturnsLater b) low high (gaps_come_later b low gaps zip) is.first)

  -- a single covered empty dequeue is the first
  pub first_of_one : (place : ℕ) (x : EmptyAnswer) → x.place ≡ place → IsAt h.operations place x.operation
      → Did h.operations x.operation DequeueEmpty
      → IsCovered h x.operation → IsFirstCovered h (place ∷ []) x
  first_of_one place x same at is_empty covered = record {
    at = subst (λ p. IsAt h.operations p x.operation) (sym same) at;
    is_empty = is_empty;
    is_covered = covered;
    first = All-push (ReturnsLater x) [] place (All-nil (ReturnsLater x))
        (λ o at_o _. subst (λ y. x.operation.ret ≤ y.ret) (one_at h.operations place x.operation o at at_o) (omega arith));
  }

  -- after windows with gaps comes a covered one, and then the first of the rest
  pub from_the_first : (places gaps others : List ℕ) (i place : ℕ) (x r : EmptyAnswer) → i < length places
      → place ≡ get_or places i place
      → AreGapsAt h (take i places) gaps → IsFirstCovered h (place ∷ []) x → others ≡ drop (i + 1) places
      → ((seen : List ℕ) → IsFirstCovered h seen x → IsFirstCovered h (seen ++ others) r) → IsFirstCovered h places r
  from_the_first places gaps others i place x r within is zip covered rest goes_on =
      let seen = subst (λ ps. IsFirstCovered h ps x) (sym (one_more places i place within is))
      (high_is_first (take i places) (place ∷ []) gaps x zip covered) in
      subst (λ ps. IsFirstCovered h ps r) (take-append-drop (i + 1) places)
      (subst (λ ps. IsFirstCovered h (take (i + 1) places ++ ps) r) rest (goes_on (take (i + 1) places) seen))

  one_further : (seen others : List ℕ) (i place : ℕ) (r : EmptyAnswer) → i < length others
      → place ≡ get_or others i place
      → IsFirstCovered h ((seen ++ take i others) ++ place ∷ []) r → IsFirstCovered h (seen ++ take (i + 1) others) r
  one_further seen others i place r within is first =
      subst (λ ps. IsFirstCovered h (seen ++ ps) r) (sym (one_more others i place within is))
      (subst (λ ps. IsFirstCovered h ps r) (append_assoc seen (take i others) (place ∷ [])) first)

  -- one more window is covered
  pub one_more_covered : (seen others : List ℕ) (i place : ℕ) (first x r : EmptyAnswer) → i < length others
      → place ≡ get_or others i place
      → IsFirstCovered h (seen ++ take i others) first → IsFirstCovered h (place ∷ []) x → IsSoonerOf first x r
      → IsFirstCovered h (seen ++ take (i + 1) others) r
  one_more_covered seen others i place first x r within is so_far covered sooner =
      one_further seen others i place r within is (sooner_is_first (seen ++ take i others) (place ∷ []) first x r so_far covered sooner)

  -- one more window has a gap
  pub one_more_free : (seen others : List ℕ) (i place c : ℕ) (o : Operation) (first : EmptyAnswer) → i < length others
      → place ≡ get_or others i place
      → IsFirstCovered h (seen ++ take i others) first → IsAt h.operations place o
      → IsLeastFreeGap h o (time_of c) → IsFirstCovered h (seen ++ take (i + 1) others) first
  one_more_free seen others i place c o first within is so_far at free =
      one_further seen others i place first within is (low_is_first (seen ++ take i others) (place ∷ []) (c ∷ []) first so_far ((o, at, free), tt))

  -- one more window's gap
  pub one_more_gap : (places gaps : List ℕ) (i place c : ℕ) (o : Operation) → i < length places
      → place ≡ get_or places i place
      → AreGapsAt h (take i places) gaps → IsAt h.operations place o → IsLeastFreeGap h o (time_of c)
      → AreGapsAt h (take (i + 1) places) (gaps ++ c ∷ [])
  one_more_gap places gaps i place c o within is zip at free =
      subst (λ seen. AreGapsAt h seen (gaps ++ c ∷ [])) (sym (one_more places i place within is))
      (one_more_zipped HasGap (take i places) gaps place c zip (o, at, free))

  -- the gaps of two lists of places are joined
  pub gaps_together : (low high gaps more : List ℕ) → AreGapsAt h low gaps → AreGapsAt h high more
      → AreGapsAt h (low ++ high) (gaps ++ more)
  gaps_together [] high [] more zip zip' = zip'
  gaps_together [] high (c ∷ gaps) more zip zip' = absurd zip
  gaps_together (place ∷ low) high [] more zip zip' = absurd zip
  gaps_together (place ∷ low) high (c ∷ gaps) more zip zip' = (zip.0, gaps_together low high gaps more zip.1 zip')

  -- the gaps at the places of all empty dequeues are the least free gaps
  pub gaps_are_all : (places gaps : List ℕ) → HoldsPlaces h.operations is_empty_answer places → AreGapsAt h places gaps
      → AreLeastFreeGaps h (map time_of gaps)
  gaps_are_all places gaps named zip = gaps_listed places (filter is_empty_answer h.operations) gaps named zip
    where
      gaps_listed : (places : List ℕ) (listed : List Operation) (gaps : List ℕ)
          → ArePlacesOf h.operations places listed
          → AreGapsAt h places gaps → AllZip (λ o c. IsLeastFreeGap h o c) listed (map time_of gaps)
      gaps_listed [] [] [] named zip = tt
      gaps_listed [] [] (c ∷ gaps) named zip = absurd zip
      gaps_listed [] (o ∷ listed) gaps named zip = cc
      gaps_listed (p ∷ places) [] gaps named zip = cc
      gaps_listed (p ∷ places) (o ∷ listed) [] named zip = absurd zip
      gaps_listed (p ∷ places) (o ∷ listed) (c ∷ gaps) named zip =
          let at : IsAt h.operations p o = cc in
          let rest : map (slice_get h.operations) places ≡ map (λ o. Some o) listed = cc in
          (subst (λ x. IsLeastFreeGap h x (time_of c)) (one_at h.operations p zip.0.0 o zip.0.1 at) zip.0.2, gaps_listed places listed gaps rest zip.1)

  -- the first of all empty dequeues whose window is covered is the chosen one
  pub first_is_chosen : (places : List ℕ) (first : EmptyAnswer) (cover : List Life)
      → HoldsPlaces h.operations is_empty_answer places
      → IsFirstCovered h places first → IsChosenCover h first.operation cover
      → IsChosenWitness h first.operation cover
  first_is_chosen places first cover named is chosen = record {
    answers_empty = is.is_empty;
    is_covered = is.is_covered;
    first = λ o did covered.
        let among = empty_is_listed h.operations o did in
        let listed = place_listed h.operations places (filter is_empty_answer h.operations) among.0 o named among.1 among.2 in
        All-contains (ReturnsLater first) places listed.0 is.first listed.1 o listed.2 covered;
    cover_is_chosen = chosen;
  }
