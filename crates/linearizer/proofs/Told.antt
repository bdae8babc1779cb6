-- The merged list is the chosen order of the history, which is legal.
use Rattle.linearizer.proofs.Elements.{earlier_at, value_order_along}
use Rattle.linearizer.proofs.OneOrder.{chosen_order_is_legal, each_once, operations_rise, position_along}
use Rattle.linearizer.proofs.OneOrder.{sorted_is_chosen}
use Rattle.value_match.proofs.HistoryPlaces.{course_back, earlier, earlier_later, earlier_none, timeline_earlier}
use Rattle.history_merge.specs.Initial.{enqueues_from, initial_enqueues}
use Rattle.history_merge.proofs.Timelines.{all_timeline_orders}
use Rattle.std.proofs.lemmas.List.Elements.{All-append}
use Rattle.std.proofs.lemmas.List.Sorted.{IsPermutation-append}
use Rattle.linearizer.proofs.Common.{All, All-head, All-permutation, All-tail, AllPairs, AllZip, ap, append_assoc, ap₂}
use Rattle.linearizer.proofs.Common.{AreChosenAndLegal, ArePlacesOf, Bool, clear_course, clear_on, cons_option}
use Rattle.linearizer.proofs.Common.{Contents, course, course_of, dequeues_of, Enqueue, enqueues_of, false, filter}
use Rattle.linearizer.proofs.Common.{filter_map, HoldsNoops, is_empty_answer, is_empty_kind, is_failed}
use Rattle.linearizer.proofs.Common.{is_failed_kind, IsChosenOrder, IsClear, IsMerge, IsPermutation}
use Rattle.linearizer.proofs.Common.{IsPermutation-map, IsPermutation-trans, IsPlaced, IsPositionOf, IsAtHistoryPlace}
use Rattle.linearizer.proofs.Common.{later_by, length, Life, List, map, map-append, MAX_INITIAL, no_order_of, None}
use Rattle.linearizer.proofs.Common.{noops_in, NoOrderViolation, on, Operation, OpKind, Option, ORIGIN, Placed}
use Rattle.linearizer.proofs.Common.{placed_in, Position, position_of, refl, same_lives, Some, StandsBefore, subst}
use Rattle.linearizer.proofs.Common.{sym, timed, timeline, timeline_of, ℕ, [], ◌++◌, ◌+◌, ◌-◌, ◌∙◌, ◌∷◌, ◌≡◌, ◌≤◌}
use Rattle.history_merge.proofs.Lists.{AllPairs-tail, pairs_map}

module _ (initial : List ℕ) (operations : List Operation) (clear : IsClear (course initial operations)) where
  abbrev all : List Operation
  all = timeline initial operations

  few : length initial ≤ MAX_INITIAL
  few = clear.complete.3

  -- the positions after those of the first operations
  behind : (R : Operation → Position → Type 0) (xs ys : List Operation) (positions : List Position)
      → AllZip R (xs ++ ys) positions
      → AllPairs StandsBefore positions → (rest : List Position) × AllZip R ys rest × AllPairs StandsBefore rest
  behind R [] ys positions zip rise = (positions, zip, rise)
  behind R (x ∷ xs) ys [] zip rise = absurd zip
  behind R (x ∷ xs) ys (p ∷ positions) zip rise = behind R xs ys positions zip.1 (AllPairs-tail StandsBefore p positions rise)

  positions_told : (lives : List Life) (os : List Operation) (positions : List Position)
      → AllZip (λ o position. IsPositionOf (on all) lives o position) os positions
      → AllZip (λ o position. IsPositionOf (course initial operations) lives o position) os positions
  positions_told lives [] [] zip = tt
  positions_told lives [] (p ∷ positions) zip = absurd zip
  positions_told lives (o ∷ os) [] zip = absurd zip
  positions_told lives (o ∷ os) (p ∷ positions) zip =
      let here = position_along (on all) (course initial operations) (course_back initial operations) lives o o.kind p zip.0 in
      (here, positions_told lives os positions zip.1)

  -- the chosen order of the timeline, without the enqueues of the initial values, is that of the history
  pub chosen_told : (order : List Operation) → IsPermutation operations order
      → IsChosenOrder (on all) (timeline initial order)
      → IsChosenOrder (course initial operations) (timed order)
  chosen_told order moved chosen =
      let rest = behind (λ o position. IsPositionOf (on all) chosen.lives o position) (initial_enqueues initial) (timed order) chosen.positions
      chosen.each_has_position chosen.positions_rise in
      record {
        lives = chosen.lives;
        positions = rest.0;
        values_in_order = value_order_along (on all) (course initial operations) chosen.lives (same_lives initial operations) chosen.values_in_order;
        holds_each_once = IsPermutation-map (later_by ORIGIN) operations order moved;
        each_has_position = positions_told chosen.lives (timed order) rest.0 rest.1;
        positions_rise = rest.2;
      }

module _ (history : Contents) (lives : List Life) where
  -- each operation has its position, and all but those of the initial values have their places
  positions_zip : (placed : List Placed) → All (IsPlaced history lives) placed
      → AllZip (λ o position. IsPositionOf (on (timeline_of history)) lives o position) (placed_in placed)
      (map (λ p. position_of p.position) placed)
  positions_zip [] each = tt
  positions_zip (p ∷ placed) each = ((All-head (IsPlaced history lives) p placed each).1, positions_zip placed (All-tail (IsPlaced history lives) p placed each))

  places_told : (placed : List Placed) → All (IsPlaced history lives) placed
      → ArePlacesOf history.operations (filter_map (λ p. p.place) placed)
      (filter_map (earlier ORIGIN) (placed_in placed))
  places_told [] each = refl
  places_told (p ∷ placed) each =
      one p.place (All-head (IsPlaced history lives) p placed each).0 (places_told placed (All-tail (IsPlaced history lives) p placed each))
    where
      one : (place : Option ℕ) → IsAtHistoryPlace history.operations place p.operation
          → ArePlacesOf history.operations (filter_map (λ p. p.place) placed)
          (filter_map (earlier ORIGIN) (placed_in placed))
          → ArePlacesOf history.operations (cons_option place (filter_map (λ p. p.place) placed))
          (cons_option (earlier ORIGIN p.operation) (filter_map (earlier ORIGIN) (placed_in placed)))
      one None early rest = rw (earlier_none ORIGIN p.operation early) rest
      one (Some place) at rest =
          let x = earlier_at history.operations place p.operation at in
          let was : earlier ORIGIN p.operation ≡ Some x.0 = ap (earlier ORIGIN) (sym x.2) ∙ earlier_later ORIGIN x.0 in
          rw was (ap₂ (λ (o : Option Operation) (os : List (Option Operation)). o ∷ os) x.1 rest)

-- the merged list of all operations at their positions is the chosen order, and legal
pub chosen_and_legal : (history : Contents) (noops : List Placed) (places : List ℕ) → IsClear (course_of history)
    → NoOrderViolation (course_of history)
    → HoldsNoops history noops → IsMerge history noops places
    → AreChosenAndLegal history.initial history.operations places
chosen_and_legal history noops places clear none noop (values, held, sorted) =
    let initial = history.initial in
    let operations = history.operations in
    let few = clear.complete.3 in
    let all = timeline initial operations in
    let clear_all = clear_on initial operations clear in
    let lives = held.lives in
    let in_order = value_order_along (course_of history) (on all) lives (sym (same_lives initial operations)) held.in_order in
    let of_values = enqueues_of lives ++ dequeues_of lives in
    let order = placed_in sorted.sorted in
    let of_noops : filter is_empty_answer all ++ filter is_failed all ≡ noops_in history =
    ap₂ (λ xs ys. xs ++ ys) (filter_behind is_empty_kind (λ v. refl) (ORIGIN - length initial) initial (timed operations))
    (filter_behind is_failed_kind (λ v. refl) (ORIGIN - length initial) initial (timed operations)) in
    let once = subst (IsPermutation all) (append_assoc of_values (filter is_empty_answer all) (filter is_failed all) ∙ ap (λ xs. of_values ++ xs) of_noops)
    (each_once all clear_all lives in_order (operations_rise all clear_all.complete)) in
    let moved = IsPermutation-trans all (of_values ++ noops_in history) order once
    (IsPermutation-trans (of_values ++ noops_in history) (placed_in (values ++ noops)) order
    (subst (IsPermutation (of_values ++ noops_in history)) (sym (map-append (λ p. p.operation) values noops))
    (IsPermutation-append _ _ _ _ held.each_once noop.each_once))
    (IsPermutation-map (λ p. p.operation) (values ++ noops) sorted.sorted sorted.holds_each_once)) in
    let right = All-permutation (IsPlaced history lives) (values ++ noops) sorted.sorted sorted.holds_each_once
    (All-append (IsPlaced history lives) values noops held.each_placed (noop.each_placed lives)) in
    let chosen = sorted_is_chosen all order lives (map (λ p. position_of p.position) sorted.sorted) clear_all in_order moved
    (positions_zip history lives sorted.sorted right)
    (pairs_map (λ p q. ¬ (StandsBefore q p)) (λ p. position_of p.position) sorted.sorted sorted.never_falls) in
    let none_all = no_order_of (course_of history) (on all) (clear_course initial operations clear) none in
    let legal = all_timeline_orders initial operations few order (chosen_order_is_legal all order clear_all none_all chosen) in (
      legal.0,
      subst (λ ps. ArePlacesOf operations ps legal.0) (sym sorted.places_are)
          (subst (ArePlacesOf operations (filter_map (λ p. p.place) sorted.sorted))
          (ap (filter_map (earlier ORIGIN)) legal.1 ∙ timeline_earlier initial legal.0 few)
          (places_told history lives sorted.sorted right)),
      chosen_told initial operations clear legal.0 legal.2.holds_each_once (subst (IsChosenOrder (on all)) legal.1 chosen),
      legal.2,
    )
  where
    filter_behind : (kinds : OpKind → Bool) → ((v : ℕ) → kinds (Enqueue v) ≡ false)
        → (time : ℕ) (values : List ℕ) (later : List Operation)
        → filter (λ o. kinds o.kind) (enqueues_from time values ++ later) ≡ filter (λ o. kinds o.kind) later
    filter_behind kinds none time [] later = refl
    filter_behind kinds none time (v ∷ values) later = rw (none v) (filter_behind kinds none (time + 1) values later)
