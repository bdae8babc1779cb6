-- Elements of lists at their places, and pairs of elements in zipped lists.
use Rattle.linearizer.proofs.Common.{Adds, All, All-contains, All-head, All-tail, all_zipped_more, AllPairs}
use Rattle.linearizer.proofs.Common.{AllPairs-cons, AllZip, AllZip-left, AllZip-right, ap, append-nil, append_assoc}
use Rattle.linearizer.proofs.Common.{arith, Bool, call_by_return, cases_Bool, cases_eq, clear_course, clear_on, cond}
use Rattle.linearizer.proofs.Common.{cons_option, Contains, Contains-append_cases}
use Rattle.linearizer.proofs.Common.{Contains-get_or, Contains-permutation, contains_at}
use Rattle.linearizer.proofs.Common.{contains_cons, Contents, Course, course_of, elements_at, DequeueEmpty, false}
use Rattle.linearizer.proofs.Common.{filter, filter_map, filter_map-append, flat_map, get_or}
use Rattle.linearizer.proofs.Common.{get_or-map, get_or_from_slice_get, HoldsPlaces, HoldsValues, inl, inr}
use Rattle.linearizer.proofs.Common.{is_empty_answer, is_empty_kind, is_failed, is_failed_kind, IsCalledInRange}
use Rattle.linearizer.proofs.Common.{IsClear, IsLeastFreeGap, IsNoopAt}
use Rattle.linearizer.proofs.Common.{IsOperation, IsOrderOf, IsPermutation, IsPermutation-cons}
use Rattle.linearizer.proofs.Common.{IsPermutation-keeps, IsPermutation-refl, IsPermutation-remove, IsPermutation-sym}
use Rattle.linearizer.proofs.Common.{IsPermutation-trans, IsPositionFor, IsSomeAnd, IsValueOrder, kept, later_by}
use Rattle.linearizer.proofs.Common.{least_of, length, length-map, length-swap, Life}
use Rattle.linearizer.proofs.Common.{List, lives_in, map, mapped_option, MatchedValue, MatchOption-at_some}
use Rattle.linearizer.proofs.Common.{MAX_MATCHED, MAX_TIME, None, noop_position, EnqueueFailed, not_in_none, on}
use Rattle.linearizer.proofs.Common.{one_deeper}
use Rattle.linearizer.proofs.Common.{one_more, Operation, operation_at, operation_on, OpKind, Option, option_map}
use Rattle.linearizer.proofs.Common.{ordered_lives, ORIGIN, pairs_at, passed_filter, place_of, PLACES, places_in, refl}
use Rattle.linearizer.proofs.Common.{remove, return_in_range, slice_get, slice_get-map}
use Rattle.linearizer.proofs.Common.{slice_get_within, Some, subst, suc, swap, Swapped, swapped_from_swap, sym, take}
use Rattle.linearizer.proofs.Common.{take_all, time_of, Timed, timed, timeline_of, true, zero, ℕ, ⊤, [], ◌++◌, ◌+◌}
use Rattle.linearizer.proofs.Common.{◌-◌, ◌<◌, ◌∙◌, ◌∷◌, ◌≡◌, ◌≤◌}
use Rattle.history_merge.specs.declared.packed.TheConstants.{PACKED_LIMIT}
use Rattle.history_merge.proofs.Lists.{at_place, AllPairs-tail}

-- the value in an option, with what holds of it
pub from_some_and : {X : Type 0} (o : Option X) (P : X → Type 0) → IsSomeAnd o P → (x : X) × (o ≡ Some x) × P x
from_some_and None P is = absurd is
from_some_and (Some x) P is = (x, refl, is)

-- the element paired with one of the first list, and with one of the second
module _ {A B : Type 0} (R : A → B → Type 0) (xs : List A) (ys : List B) (i : ℕ) where
  pub beside_first : (x : A) → AllZip R xs ys → slice_get xs i ≡ Some x → (y : B) × (slice_get ys i ≡ Some y) × R x y
  beside_first x zip at = from_some_and (slice_get ys i) (R x)
      (MatchOption-at_some (Unit {0}) (λ x. IsSomeAnd (slice_get ys i) (R x)) x at (AllZip-left R xs ys zip i))

  pub beside_second : (y : B) → AllZip R xs ys → slice_get ys i ≡ Some y → (x : A) × (slice_get xs i ≡ Some x) × R x y
  beside_second y zip at = from_some_and (slice_get xs i) (λ x. R x y)
      (MatchOption-at_some (Unit {0}) (λ y. IsSomeAnd (slice_get xs i) (λ x. R x y)) y at (AllZip-right R xs ys zip i))

-- the first elements and the next one
pub take_next : {X : Type 0} (xs : List X) (i : ℕ) (x : X) → slice_get xs i ≡ Some x
    → take (i + 1) xs ≡ take i xs ++ x ∷ []
take_next xs i x at = one_more xs i x (slice_get_within xs i x at) (sym (get_or_from_slice_get xs i x x at))

-- two zipped lists joined
pub zip_joined : {A B : Type 0} (R : A → B → Type 0) (xs xs' : List A) (ys ys' : List B) → AllZip R xs ys
    → AllZip R xs' ys' → AllZip R (xs ++ xs') (ys ++ ys')
zip_joined R [] xs' [] ys' zip zip' = zip'
zip_joined R [] xs' (y ∷ ys) ys' zip zip' = absurd zip
zip_joined R (x ∷ xs) xs' [] ys' zip zip' = absurd zip
zip_joined R (x ∷ xs) xs' (y ∷ ys) ys' zip zip' = (zip.0, zip_joined R xs xs' ys ys' zip.1 zip')

-- ---- operations added one by one, each at its position

-- nothing is added at first
pub adds_none : (history : Contents) (old : List Timed) → Adds history [] old old
adds_none history old = record { added = []; after = sym (append-nil old); each_stands = tt }

-- one more operation is added, with its gap
adds_more : (history : Contents) (listed : List Operation) (k : ℕ) (o : Operation) (old new : List Timed)
    (timed : Timed)
    → Adds history (take k listed) old new → slice_get listed k ≡ Some o → IsNoopAt history o timed
    → Adds history (take (k + 1) listed) old (new ++ timed ∷ [])
adds_more history listed k o old new timed adds at is = record {
  added = adds.added ++ timed ∷ [];
  after = ap (λ items. items ++ timed ∷ []) adds.after ∙ append_assoc old adds.added (timed ∷ []);
  each_stands = subst (λ xs. AllZip (IsNoopAt history) xs (adds.added ++ timed ∷ [])) (sym (take_next listed k o at))
      (all_zipped_more (IsNoopAt history) (take k listed) adds.added o timed adds.each_stands is);
}

-- the operations of these kinds, at their times
abbrev of_kinds : (OpKind → Bool) → List Operation → List Operation
of_kinds kinds operations = filter (λ o. kinds o.kind) (timed operations)

kinds_later : (kinds : OpKind → Bool) (operations : List Operation)
    → of_kinds kinds operations ≡ timed (filter (λ o. kinds o.kind) operations)
kinds_later kinds [] = refl
kinds_later kinds (o ∷ operations) = grind (arith, kinds_later kinds operations, cases_Bool (kinds o.kind))

-- the k-th operation of these kinds, and its place
pub record IsListed (history : Contents) (kinds : OpKind → Bool) (k p : ℕ) : Type 0 where
  pub o : Operation
  pub is_listed : slice_get (filter (λ o. kinds o.kind) (timed history.operations)) k ≡ Some o
  pub at : IsOperation history.operations p o

-- the operation at the k-th place
pub listed_at : (history : Contents) (kinds : OpKind → Bool) (places : List ℕ) (k p : ℕ)
    → HoldsPlaces history.operations (λ o. kinds o.kind) places
    → slice_get places k ≡ Some p → IsListed history kinds k p
listed_at history kinds places k p holds at =
    let operations = history.operations in
    let listed = filter (λ o. kinds o.kind) operations in
    let stands : option_map Some (slice_get listed k) ≡ Some (slice_get operations p) =
    sym (slice_get-map Some listed k) ∙ sym (ap (λ os. slice_get os k) holds) ∙ slice_get-map (slice_get operations) places k
    ∙ ap (option_map (slice_get operations)) at in
    let found = mapped_option Some (slice_get listed k) (slice_get operations p) stands in
    record {
      o = later_by ORIGIN found.0;
      is_listed = ap (λ os. slice_get os k) (kinds_later kinds operations)
          ∙ slice_get-map (later_by ORIGIN) listed k ∙ ap (option_map (later_by ORIGIN)) found.1;
      at = slice_get-map (later_by ORIGIN) operations p ∙ ap (option_map (later_by ORIGIN)) (sym found.2);
    }

-- there are as many operations as places
pub listed_long : (history : Contents) (kinds : OpKind → Bool) (places : List ℕ)
    → HoldsPlaces history.operations (λ o. kinds o.kind) places
    → length (filter (λ o. kinds o.kind) (timed history.operations)) ≡ length places
listed_long history kinds places holds =
    let listed = filter (λ o. kinds o.kind) history.operations in
    ap length (kinds_later kinds history.operations) ∙ length-map listed (later_by ORIGIN)
    ∙ sym (sym (length-map places (slice_get history.operations)) ∙ ap length holds ∙ length-map listed Some)

-- after the last place all operations are added
pub all_added : (history : Contents) (kinds : OpKind → Bool) (places : List ℕ) (n : ℕ) (old new : List Timed)
    → HoldsPlaces history.operations (λ o. kinds o.kind) places → length places ≤ n
    → Adds history (take n (filter (λ o. kinds o.kind) (timed history.operations))) old new
    → Adds history (filter (λ o. kinds o.kind) (timed history.operations)) old new
all_added history kinds places n old new holds all adds =
    subst (λ xs. Adds history xs old new) (take_all n _ (omega (arith, listed_long history kinds places holds))) adds

-- the operation by tickets, from that by times
pub earlier_at : (operations : List Operation) (p : ℕ) (o : Operation) → IsOperation operations p o
    → (x : Operation) × (slice_get operations p ≡ Some x) × (later_by ORIGIN x ≡ o)
earlier_at operations p o at = mapped_option (later_by ORIGIN) (slice_get operations p) o (sym (slice_get-map (later_by ORIGIN) operations p) ∙ at)

-- the operation read at this place
pub read_at : (operations : List Operation) (p : ℕ) (o : Operation) → IsOperation operations p o
    → later_by ORIGIN (operation_at operations p) ≡ o
read_at operations p o at =
    let x = earlier_at operations p o at in ap (later_by ORIGIN) (get_or_from_slice_get operations p x.0 _ x.1) ∙ x.2

-- a place of the history fits into a packed word
pub place_fits : (operations : List Operation) (p : ℕ) (o : Operation) → IsOperation operations p o
    → length operations ≤ MAX_MATCHED → p < PLACES
place_fits operations p o at few = omega (arith, slice_get_within (timed operations) p o at, length-map operations (later_by ORIGIN))

module _ (history : Contents) (clear : IsClear (course_of history)) where
  abbrev all : List Operation
  all = timeline_of history

  in_range : (p : ℕ) (o : Operation) → IsOperation history.operations p o → o.ret ≤ MAX_TIME
  in_range p o at = return_in_range all o (clear_on history.initial history.operations clear).complete
      (contains_at all _ o (operation_on history.initial history.operations p o at))

  -- the operation's call fits into a packed word
  pub called_in_range : (p : ℕ) (o : Operation) → IsOperation history.operations p o
      → IsCalledInRange history.operations p
  called_in_range p o at =
      let x = earlier_at history.operations p o at in
      let calls : x.0.call + ORIGIN ≡ o.call = ap (λ (y : Operation). y.call) x.2 in
      let less = call_by_return all o (clear_on history.initial history.operations clear).complete
      (contains_at all _ o (operation_on history.initial history.operations p o at)) in
      subst (λ found. IsSomeAnd found (λ o. o.call + ORIGIN < PACKED_LIMIT)) (sym x.1) (omega (arith, in_range p o at))

  -- the gap before the operation's return fits into a packed word
  pub gap_fits : (p gap : ℕ) (o : Operation) → IsOperation history.operations p o
      → IsLeastFreeGap (course_of history) o gap → gap < PACKED_LIMIT
  gap_fits p gap o at free = omega (arith, in_range p o at, free.in_window.1)

  -- an empty dequeue is added at its least free gap
  pub adds_empty : (k p gap : ℕ) (old new : List Timed) (is : IsListed history is_empty_kind k p)
      → Adds history (take k (filter is_empty_answer (timed history.operations))) old new
      → IsLeastFreeGap (course_of history) is.o gap
      → Adds history (take (k + 1) (filter is_empty_answer (timed history.operations))) old
      (new ++ record { time = gap; place = p } ∷ [])
  adds_empty k p gap old new is adds free = adds_more history _ k is.o old new _ adds is.is_listed (record {
    at = is.at;
    stands = λ lives. stands_empty lives is.o.kind (passed_filter is_empty_answer (timed history.operations) is.o (contains_at _ k is.o is.is_listed)).1;
  })
    where
      stands_empty : (lives : List Life) (kind : OpKind) → is_empty_kind kind ≡ true
          → IsPositionFor (on all) lives is.o kind (noop_position is.o gap)
      stands_empty lives DequeueEmpty empty = (gap, least_of (course_of history) (on all) (clear_course history.initial history.operations clear) is.o gap free, refl)
      stands_empty lives _ empty = cc

-- a failed enqueue is added at its call
pub adds_failed : (history : Contents) (k p call : ℕ) (old new : List Timed) (is : IsListed history is_failed_kind k p)
    → Adds history (take k (filter is_failed (timed history.operations))) old new
    → call ≡ (operation_at history.operations p).call + ORIGIN
    → Adds history (take (k + 1) (filter is_failed (timed history.operations))) old
    (new ++ record { time = call; place = p } ∷ [])
adds_failed history k p call old new is adds calls = adds_more history _ k is.o old new _ adds is.is_listed (record {
  at = is.at;
  stands = λ lives. subst (λ gap. IsPositionFor (on (timeline_of history)) lives is.o is.o.kind (noop_position is.o gap))
      (sym (calls ∙ ap (λ (o : Operation). o.call) (read_at history.operations p is.o is.at)))
      (stands_failed lives is.o.kind (passed_filter is_failed (timed history.operations) is.o (contains_at _ k is.o is.is_listed)).1);
})
  where
    stands_failed : (lives : List Life) (kind : OpKind) → is_failed_kind kind ≡ true
        → IsPositionFor (on (timeline_of history)) lives is.o kind (noop_position is.o is.o.call)
    stands_failed lives (EnqueueFailed v) failed = refl
    stands_failed lives _ failed = cc

-- the gap paired with an empty dequeue
pub gap_beside : (c : Course) (listed : List Operation) (gaps : List ℕ) (k gap d : ℕ) (o : Operation)
    → AllZip (λ o gap. IsLeastFreeGap c o gap) listed (map time_of gaps) → slice_get listed k ≡ Some o
    → gap ≡ get_or gaps k d
    → IsLeastFreeGap c o (time_of gap)
gap_beside c listed gaps k gap d o free at is =
    let found = beside_first (λ o gap. IsLeastFreeGap c o gap) listed (map time_of gaps) k o free at in
    let within = slice_get_within (map time_of gaps) k found.0 found.1 in
    subst (IsLeastFreeGap c o) (sym (get_or_from_slice_get (map time_of gaps) k found.0 0 found.1)
    ∙ get_or-map time_of gaps k d 0 (omega (arith, within, length-map gaps time_of)) ∙ ap time_of (sym is)) found.2

-- ---- elements with different keys have one place each, in any order of the list

-- equal keys have equal places
abbrev pub OnePlaceEach : {K : Type 0} → (ℕ → K) → ℕ → Type 0
OnePlaceEach key n = (i j : ℕ) → i < n → j < n → key i ≡ key j → i ≡ j

-- this holds after two elements are swapped
swapped : {K : Type 0} (f g : ℕ → K) (a b n : ℕ) → Swapped f g a b → a < n → b < n → OnePlaceEach f n
    → OnePlaceEach g n
swapped f g a b n is in_a in_b one i j in_i in_j same =
    grind (arith, cases_eq i a, cases_eq i b, cases_eq j a, cases_eq j b, is.0, is.1, is.2 i, is.2 j)

-- this holds in any order of the list
pub once_in_other_order : {X K : Type 0} (key : X → K) (xs ys : List X) (d : X)
    → OnePlaceEach (λ k. key (get_or xs k d)) (length xs) → IsPermutation xs ys
    → (i j : ℕ) (x y : X) → slice_get ys i ≡ Some x → slice_get ys j ≡ Some y → key x ≡ key y → i ≡ j
once_in_other_order {X} key xs ys d once moved i j x y at_x at_y same =
    let each = IsPermutation-keeps xs (λ l. (length l ≡ length xs) × OnePlaceEach (λ k. key (get_or l k d)) (length xs)) (refl, once)
    (λ l a b in_a in_b one. (length-swap l a b ∙ one.0, at_swap l a b in_a in_b one)) ys moved in
    each.1 i j (omega (arith, slice_get_within ys i x at_x, each.0)) (omega (arith, slice_get_within ys j y at_y, each.0))
    (ap key (get_or_from_slice_get ys i x d at_x) ∙ same ∙ sym (ap key (get_or_from_slice_get ys j y d at_y)))
  where
    at_swap : (l : List X) (a b : ℕ) → a < length l → b < length l
        → (length l ≡ length xs) × OnePlaceEach (λ k. key (get_or l k d)) (length xs)
        → OnePlaceEach (λ k. key (get_or (swap l a b) k d)) (length xs)
    at_swap l a b in_a in_b (long, one) =
        let is = swapped_from_swap l (swap l a b) a b d in_a in_b refl in
        swapped (λ k. key (get_or l k d)) (λ k. key (get_or (swap l a b) k d)) a b (length xs)
        (ap key is.0, ap key is.1, λ m not_a not_b. ap key (is.2 m not_a not_b)) (omega arith) (omega arith) one

-- in a permutation of a list with rising keys, each key has one place
pub one_place : {X : Type 0} (key : X → ℕ) (xs ys : List X) (i j : ℕ) (x y : X) → AllPairs (λ x y. key x < key y) xs
    → IsPermutation xs ys
    → slice_get ys i ≡ Some x → slice_get ys j ≡ Some y → key x ≡ key y → i ≡ j
one_place key xs ys i j x y rises moved at_x at_y same = once_in_other_order key xs ys x once moved i j x y at_x at_y same
  where
    once : OnePlaceEach (λ k. key (get_or xs k x)) (length xs)
    once i j in_i in_j same = grind (arith, rises i j x, rises j i x)

-- a filtered list has rising keys if the list has, and each element keeps its key
pub kept_rises : {X Y : Type 0} (h : X → Option Y) (key : X → ℕ) (key' : Y → ℕ) (xs : List X)
    → ((x : X) (y : Y) → h x ≡ Some y → key' y ≡ key x)
    → AllPairs (λ x y. key x < key y) xs → AllPairs (λ x y. key' x < key' y) (filter_map h xs)
kept_rises h key key' [] keeps rises = λ i j d below within. absurd (omega arith)
kept_rises {X} {Y} h key key' (x ∷ xs) keeps rises = join (kept_rises h key key' xs keeps (AllPairs-tail (λ x y. key x < key y) x xs rises)) (h x) refl
  where
    join : AllPairs (λ x y. key' x < key' y) (filter_map h xs) → (o : Option Y) → h x ≡ o
        → AllPairs (λ x y. key' x < key' y) (cons_option o (filter_map h xs))
    join more None is = more
    join more (Some y) is = AllPairs-cons (λ x y. key' x < key' y) y (filter_map h xs) above more
      where
        above : All (λ z. key' y < key' z) (filter_map h xs)
        above k d within =
            let z = get_or (filter_map h xs) k d in
            let from = kept h xs z (Contains-get_or (filter_map h xs) k d within) in
            let place = place_of xs from.0 from.1 in
            let less = pairs_at (λ x y. key x < key y) (x ∷ xs) zero (suc place.0) x from.0 rises (omega arith) refl place.1 in
            omega (arith, keeps x y is, keeps from.0 z from.2)

-- ---- lists without repetition

-- no element is there twice
abbrev pub NoneTwice : {X : Type 0} → List X → Type 0
NoneTwice [] = ⊤
NoneTwice (x ∷ xs) = ¬ (Contains xs x) × NoneTwice xs

-- a list has no repetition if equal elements have equal places
pub none_twice_from_places : {X : Type 0} (xs : List X)
    → ((i j : ℕ) (x y : X) → slice_get xs i ≡ Some x → slice_get xs j ≡ Some y → x ≡ y → i ≡ j)
    → NoneTwice xs
none_twice_from_places [] one = tt
none_twice_from_places (x ∷ xs) one = (
  λ among. let place = place_of xs x among in let same = one zero (suc place.0) x x refl place.1 refl in absurd (omega arith),
  none_twice_from_places xs (λ i j y z at_y at_z same. let places = one (suc i) (suc j) y z at_y at_z same in omega arith),
)

at_one_place : {X : Type 0} (xs : List X) (d : X) → NoneTwice xs → OnePlaceEach (λ k. get_or xs k d) (length xs)
at_one_place [] d none i j in_i in_j same = absurd (omega arith)
at_one_place (x ∷ xs) d none zero zero in_i in_j same = refl
at_one_place (x ∷ xs) d none zero (suc j) in_i in_j same = absurd (none.0 (subst (Contains xs) (sym same) (Contains-get_or xs j d (omega arith))))
at_one_place (x ∷ xs) d none (suc i) zero in_i in_j same = absurd (none.0 (subst (Contains xs) same (Contains-get_or xs i d (omega arith))))
at_one_place (x ∷ xs) d none (suc i) (suc j) in_i in_j same = omega (arith, at_one_place xs d none.1 i j (omega arith) (omega arith) same)

-- a permutation of a list without repetition has none
none_twice-permutation : {X : Type 0} (xs ys : List X) → IsPermutation xs ys → NoneTwice xs → NoneTwice ys
none_twice-permutation xs [] moved none = tt
none_twice-permutation xs (y ∷ ys) moved none =
    none_twice_from_places (y ∷ ys) (once_in_other_order (λ x. x) xs (y ∷ ys) y (at_one_place xs y none) moved)

-- lists without repetition that have the same elements are permutations of each other
pub same_elements_permute : {X : Type 0} (xs ys : List X) → NoneTwice xs → NoneTwice ys
    → ((x : X) → Contains xs x → Contains ys x)
    → ((x : X) → Contains ys x → Contains xs x) → IsPermutation xs ys
same_elements_permute [] [] none_x none_y into back = IsPermutation-refl []
same_elements_permute [] (y ∷ ys) none_x none_y into back = absurd (not_in_none y (back y (zero, omega arith, refl)))
same_elements_permute {X} (x ∷ xs) ys none_x none_y into back =
    let at = into x (zero, omega arith, refl) in
    let rest = remove ys at.0 in
    let moved = IsPermutation-remove ys at.0 x at.1 (sym at.2) in
    let none = none_twice-permutation ys (x ∷ rest) moved none_y in
    let others = same_elements_permute xs rest none_x.1 none.1
    (λ z among. behind xs rest z among none_x.0 (Contains-permutation ys (x ∷ rest) z moved (into z (one_deeper x xs z among))))
    (λ z among. behind rest xs z among none.0
    (back z (Contains-permutation (x ∷ rest) ys z (IsPermutation-sym ys (x ∷ rest) moved) (one_deeper x rest z among)))) in
    IsPermutation-trans (x ∷ xs) (x ∷ rest) ys (IsPermutation-cons x xs rest others) (IsPermutation-sym ys (x ∷ rest) moved)
  where
    behind : (xs ys : List X) (z : X) → Contains xs z → ¬ (Contains xs x) → Contains (x ∷ ys) z → Contains ys z
    behind xs ys z among none there = elim (contains_cons x ys z there) [
      | inl same ↦ absurd (none (subst (Contains xs) (sym same) among))
      | inr later ↦ later
    ]

-- lists without repetition that share no element have none when joined
pub none_twice-append : {X : Type 0} (xs ys : List X) → NoneTwice xs → NoneTwice ys
    → ((x : X) → Contains xs x → ¬ (Contains ys x)) → NoneTwice (xs ++ ys)
none_twice-append [] ys none_x none_y apart = none_y
none_twice-append (x ∷ xs) ys none_x none_y apart = (
  λ among. elim (Contains-append_cases xs ys x among) [ inl here ↦ none_x.0 here | inr there ↦ apart x (zero, omega arith, refl) there ],
  none_twice-append xs ys none_x.1 none_y (λ z among. apart z (one_deeper x xs z among)),
)

-- a filtered list has no repetition if the list has none
pub none_twice-filter : {X : Type 0} (p : X → Bool) (xs : List X) → NoneTwice xs → NoneTwice (filter p xs)
none_twice-filter p [] none = tt
none_twice-filter {X} p (x ∷ xs) none = pick (none_twice-filter p xs none.1) (p x)
  where
    pick : NoneTwice (filter p xs) → (b : Bool) → NoneTwice (cond b (x ∷ filter p xs) (filter p xs))
    pick rest true = (λ among. none.0 (passed_filter p xs x among).0, rest)
    pick rest false = rest

-- an element of a flattened list comes from one of its parts
pub from_flat_map : {X Y : Type 0} (f : X → List Y) (xs : List X) (y : Y) → Contains (flat_map f xs) y
    → (x : X) × Contains xs x × Contains (f x) y
from_flat_map f [] y among = absurd (not_in_none y among)
from_flat_map f (x ∷ xs) y among = elim (Contains-append_cases (f x) (flat_map f xs) y among) [
  | inl here ↦ (x, (zero, omega arith, refl), here)
  | inr there ↦ let more = from_flat_map f xs y there in (more.0, one_deeper x xs more.0 more.1, more.2)
]

-- ---- the values at the places of their order

-- one more place gives one more element
pub elements_push : {X : Type 0} (xs : List X) (places : List ℕ) (p : ℕ) (x : X) → slice_get xs p ≡ Some x
    → elements_at xs (places ++ p ∷ []) ≡ elements_at xs places ++ x ∷ []
elements_push xs places p x at = filter_map-append (slice_get xs) places (p ∷ []) ∙ ap (λ o. elements_at xs places ++ cons_option o []) at

-- mapping commutes with taking elements at places
pub elements_mapped : {X Y : Type 0} (f : X → Y) (xs : List X) (places : List ℕ)
    → elements_at (map f xs) places ≡ map f (elements_at xs places)
elements_mapped f xs [] = refl
elements_mapped f xs (p ∷ places) = grind (arith, slice_get-map f xs p, elements_mapped f xs places)

-- a first place in range gives a first element
first_of : {X : Type 0} (xs : List X) (p : ℕ) (places : List ℕ) → p < length xs
    → (x : X) × (slice_get xs p ≡ Some x) × (elements_at xs (p ∷ places) ≡ x ∷ elements_at xs places)
first_of xs p places below =
    let x = at_place xs p below in (x.0, x.1, ap (λ o. cons_option o (elements_at xs places)) x.1)

-- there are as many elements as places
pub elements_long : {X : Type 0} (xs : List X) (places : List ℕ) → All (λ p. p < length xs) places
    → length (elements_at xs places) ≡ length places
elements_long xs [] within = refl
elements_long xs (p ∷ places) within =
    let here = first_of xs p places (All-head (λ p. p < length xs) p places within) in
    let more = elements_long xs places (All-tail (λ p. p < length xs) p places within) in
    ap length here.2 ∙ ap suc more

-- the element at one of the places
pub element_at : {X : Type 0} (xs : List X) (places : List ℕ) (i p : ℕ) → All (λ p. p < length xs) places
    → slice_get places i ≡ Some p
    → slice_get (elements_at xs places) i ≡ slice_get xs p
element_at xs [] i p within at = cc
element_at xs (q ∷ places) zero p within at =
    let here = first_of xs q places (All-head (λ p. p < length xs) q places within) in
    let same : q ≡ p = cc in
    ap (λ ys. slice_get ys 0) here.2 ∙ sym here.1 ∙ ap (slice_get xs) same
element_at xs (q ∷ places) (suc i) p within at =
    let here = first_of xs q places (All-head (λ p. p < length xs) q places within) in
    ap (λ ys. slice_get ys (suc i)) here.2 ∙ element_at xs places i p (All-tail (λ p. p < length xs) q places within) at

-- the order of the values depends on their lives only
pub value_order_along : (c d : Course) (lives : List Life) → c.lives ≡ d.lives → IsValueOrder c lives
    → IsValueOrder d lives
value_order_along c d lives same order =
    record { holds_each_once = subst (λ ls. IsPermutation ls lives) same order.holds_each_once; each_is_choice = order.each_is_choice }

-- the lives of the values at these places
pub lives_are : (history : Contents) (values : List MatchedValue) (order : List Timed) → HoldsValues history values
    → lives_in (elements_at values (places_in order)) ≡ ordered_lives history order
lives_are history values order holds =
    sym (elements_mapped (λ m. m.life) values (places_in order)) ∙ ap (λ lives. elements_at lives (places_in order)) holds.lives

-- there are as many lives as places
pub lives_long : (history : Contents) (order : List Timed) → IsOrderOf history order
    → length (ordered_lives history order) ≡ length order
lives_long history order is =
    elements_long (course_of history).lives (places_in order) is.within ∙ length-map order (λ timed. timed.place)

-- the value at this rank of the order
pub record IsValueAt (history : Contents) (values : List MatchedValue) (order : List Timed)
    (rank place : ℕ) : Type 0 where
  pub value : MatchedValue
  pub is_at : slice_get values place ≡ Some value
  pub has_rank : slice_get (ordered_lives history order) rank ≡ Some value.life

-- a timed place at this rank has its value
pub value_at : (history : Contents) (values : List MatchedValue) (order : List Timed) (rank : ℕ) (t : Timed)
    → HoldsValues history values
    → IsOrderOf history order → slice_get order rank ≡ Some t → IsValueAt history values order rank t.place
value_at history values order rank t holds is at =
    let place = slice_get-map (λ (x : Timed). x.place) order rank ∙ ap (option_map (λ (x : Timed). x.place)) at in
    let below = All-contains (λ p. p < length (course_of history).lives) (places_in order) t.place is.within (contains_at (places_in order) rank t.place place) in
    let m = at_place values t.place (omega (arith, below, ap length holds.lives, length-map values (λ m. m.life))) in
    record {
      value = m.0;
      is_at = m.1;
      has_rank =
          element_at (course_of history).lives (places_in order) rank t.place is.within place ∙ ap (λ lives. slice_get lives t.place) (sym holds.lives)
          ∙ slice_get-map (λ m. m.life) values t.place ∙ ap (option_map (λ m. m.life)) m.1;
    }
