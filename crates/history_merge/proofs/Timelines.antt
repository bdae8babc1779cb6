-- The timeline: the initial values are enqueued before all else.
use Rattle.history_merge.proofs.Common.{[], All, All-append, All-cons, All-contains, All-map, All-nil, All-permutation}
use Rattle.history_merge.proofs.Common.{AllPairs, AllPairs-cons, ap, append-nil, AreApart}
use Rattle.history_merge.proofs.Common.{AreComplete, AreDistinct, arith, called_value, called_values, cases_eq}
use Rattle.history_merge.proofs.Common.{common_steps, Contains, Contains-get_or, Contains-permutation, Dequeue, drop}
use Rattle.history_merge.proofs.Common.{drop-append_seam, earlier_by, DequeueEmpty, Enqueue, enqueue_at}
use Rattle.history_merge.proofs.Common.{enqueued_value}
use Rattle.history_merge.proofs.Common.{enqueues_from, Event, get_or, get_or-drop, get_or-map, initial_enqueues, inl}
use Rattle.history_merge.proofs.Common.{inr, IsAccepted, IsCompleteFrom, IsLegalOrder, IsLinearizable, IsPermutation}
use Rattle.history_merge.proofs.Common.{IsPermutation-cons, IsPermutation-map, IsPermutation-refl}
use Rattle.history_merge.proofs.Common.{IsPermutation-remove, IsPermutation-sym, IsPermutation-trans, IsTimed}
use Rattle.history_merge.proofs.Common.{IsTimeline, kind_of, later_by, length, length-map, map, map-append, map-set}
use Rattle.history_merge.proofs.Common.{map_fixed, MAX_INITIAL, nat_tests, EnqueueFailed, OnErr, OnOk, Operation}
use Rattle.history_merge.proofs.Common.{operations_of}
use Rattle.history_merge.proofs.Common.{operations_on, OpKind, ORIGIN, Precedes, refl, remove, same_Some, set}
use Rattle.history_merge.proofs.Common.{set-append_right, slice_get, slice_get-map, Some, subst, suc, sum_by}
use Rattle.history_merge.proofs.Common.{sum_by-cons, sum_by-IsPermutation, sym, take, take_more, timeline, What, zero}
use Rattle.history_merge.proofs.Common.{⊤, ◌++◌, ◌+◌, ◌-◌, ◌↔◌, ◌∙◌, ◌∷◌, ◌≡◌, ◌⊎◌}
use Rattle.std.proofs.Common.{append_assoc, Err, length-take-le, List, Ok, Result, ℕ, ◌<◌, ◌≤◌}
use Rattle.std.proofs.lemmas.List.{length-append}
use Rattle.history_merge.proofs.Distinct.{all_apart, contains_cons, each_timed, not_in_none, traced, value_called}
use Rattle.history_merge.proofs.Lists.{pairs_map}

-- ---- operations and events that are all moved later

-- ---- operations

pub there_and_back : (n : ℕ) (o : Operation) → earlier_by n (later_by n o) ≡ o
there_and_back n o = grind arith

-- mapping twice is mapping once
pub map_map : {X Y Z : Type 0} (f : X → Y) (g : Y → Z) (xs : List X) → map g (map f xs) ≡ map (λ x. g (f x)) xs
map_map f g [] = refl
map_map f g (x ∷ xs) = ap (λ zs. g (f x) ∷ zs) (map_map f g xs)

-- operations moved later and back are themselves
pub all_back : (n : ℕ) (operations : List Operation) → map (earlier_by n) (map (later_by n) operations) ≡ operations
all_back n operations = grind (arith, map_map, map_fixed, there_and_back)

-- moving operations later is injective
pub later_injective : (n : ℕ) (xs ys : List Operation) → map (later_by n) xs ≡ map (later_by n) ys → xs ≡ ys
later_injective n xs ys same = sym (all_back n xs) ∙ ap (map (earlier_by n)) same ∙ all_back n ys

-- a map that keeps kinds, and adds no precedence, keeps an order legal
pub legal_moved : (move : Operation → Operation) (queue : List ℕ) (operations order : List Operation)
    → ((xs : List Operation) → map (λ o. o.kind) (map move xs) ≡ map (λ o. o.kind) xs)
    → ((x y : Operation) → Precedes (move x) (move y) → Precedes x y)
    → IsLegalOrder queue operations order → IsLegalOrder queue (map move operations) (map move order)
legal_moved move queue operations order kinds back legal = record {
  holds_each_once = IsPermutation-map move operations order legal.holds_each_once;
  extends_precedence = pairs_map (λ earlier later. ¬ (Precedes later earlier)) move order
      (λ i j d below inside precedes. legal.extends_precedence i j d below inside (back (get_or order j d) (get_or order i d) precedes));
  is_accepted = subst (IsAccepted queue) (sym (kinds order)) legal.is_accepted;
}

-- an order stays legal when moved later
pub legal_later : (n : ℕ) (queue : List ℕ) (operations order : List Operation) → IsLegalOrder queue operations order
    → IsLegalOrder queue (map (later_by n) operations) (map (later_by n) order)
legal_later n queue operations order =
    legal_moved (later_by n) queue operations order (map_map (later_by n) (λ o. o.kind)) (λ x y precedes. omega (arith, precedes))

-- a linearization of operations moved later is a linearization moved later
pub legal_earlier : (n : ℕ) (queue : List ℕ) (operations found : List Operation)
    → IsLegalOrder queue (map (later_by n) operations) found
    → (order : List Operation) × (found ≡ map (later_by n) order) × IsLegalOrder queue operations order
legal_earlier n queue operations found legal = (
  map (earlier_by n) found,
  sym (map_map (earlier_by n) (later_by n) found ∙ map_fixed (λ o. later_by n (earlier_by n o)) found
      (All-permutation (λ o. later_by n (earlier_by n o) ≡ o) (map (later_by n) operations) found legal.holds_each_once stays)),
  subst (λ os. IsLegalOrder queue os (map (earlier_by n) found)) (all_back n operations)
      (legal_moved (earlier_by n) queue (map (later_by n) operations) found (map_map (earlier_by n) (λ o. o.kind))
      (λ x y precedes. omega (arith, precedes)) legal),
)
  where
    stays : All (λ o. later_by n (earlier_by n o) ≡ o) (map (later_by n) operations)
    stays = All-map (λ o. later_by n (earlier_by n o) ≡ o) (later_by n) operations (λ k d below. ap (later_by n) (there_and_back n _))

-- ---- the length of a timeline, its operations by tickets, and one more operation

-- there is one enqueue for each initial value
pub length_enqueues : (n : ℕ) (initial : List ℕ) → length (enqueues_from n initial) ≡ length initial
length_enqueues n [] = refl
length_enqueues n (v ∷ rest) = ap suc (length_enqueues (n + 1) rest)

-- the length of a timeline
pub length_timeline : (initial : List ℕ) (operations : List Operation)
    → length (timeline initial operations) ≡ length initial + length operations
length_timeline initial operations = grind (arith, length_enqueues, length-append, length-map)

-- the operations come after the enqueues, at their times
pub behind_enqueues : (initial : List ℕ) (all operations : List Operation) → all ≡ timeline initial operations
    → drop (length initial) all ≡ map (later_by ORIGIN) operations
behind_enqueues initial all operations is = grind (arith, length_enqueues, drop-append_seam)

-- the operations of a timeline by their tickets
pub operations_back : (initial : List ℕ) (all operations : List Operation) → all ≡ timeline initial operations
    → operations_on (length initial) all ≡ operations
operations_back initial all operations is = grind (arith, behind_enqueues, all_back)

-- no operation of the timeline comes before the first ticket
pub all_late : (n : ℕ) (operations late : List Operation) → late ≡ map (later_by n) operations
    → All (λ o. (n ≤ o.call) × (n ≤ o.ret)) late
all_late n operations late is =
    subst (All (λ o. (n ≤ o.call) × (n ≤ o.ret))) (sym is)
    (All-map (λ o. (n ≤ o.call) × (n ≤ o.ret)) (later_by n) operations (λ k d below. (omega arith, omega arith)))

-- a list that is a timeline is that of its own operations
pub is_timeline : (initial : List ℕ) (all operations : List Operation) → length initial ≤ MAX_INITIAL
    → all ≡ timeline initial operations → IsTimeline initial all
is_timeline initial all operations few is = record { few = few; is = is ∙ ap (timeline initial) (sym (operations_back initial all operations is)) }

-- ---- one more value or operation

enqueues_push : (time : ℕ) (values : List ℕ) (v : ℕ)
    → enqueues_from time (values ++ v ∷ []) ≡ enqueues_from time values ++ enqueue_at (time + length values) v ∷ []
enqueues_push time [] v = ap (λ n. enqueue_at n v ∷ []) (let same : time ≡ time + 0 = omega arith in same)
enqueues_push time (w ∷ values) v = grind (arith, enqueues_push (time + 1) values v)

-- one more value
pub enqueues_more : (time : ℕ) (values : List ℕ) (i : ℕ) → i < length values
    → enqueues_from time (take (i + 1) values) ≡ enqueues_from time (take i values)
    ++ enqueue_at (time + i) (get_or values i 0) ∷ []
enqueues_more time values i below = grind (arith, nat_tests, common_steps, length-take-le, take_more, enqueues_push)

-- one more operation
pub timeline_push : (initial : List ℕ) (operations : List Operation) (o : Operation)
    → timeline initial operations ++ later_by ORIGIN o ∷ [] ≡ timeline initial (operations ++ o ∷ [])
timeline_push initial operations o = grind (arith, append_assoc, map-append)

-- one operation replaced by another
pub timeline_set : (initial : List ℕ) (operations : List Operation) (place : ℕ) (o : Operation)
    → set (timeline initial operations) (length initial + place) (later_by ORIGIN o)
    ≡ timeline initial (set operations place o)
timeline_set initial operations place o =
    let n = ORIGIN in
    let front = initial_enqueues initial in
    set-append_right front (map (later_by n) operations) (length initial) (length initial + place) (later_by n o) (length_enqueues (ORIGIN - length initial) initial) (omega arith)
    ∙ ap (λ i. front ++ set (map (later_by n) operations) i (later_by n o)) (let same : length initial + place - length initial ≡ place = omega arith in same)
    ∙ ap (λ os. front ++ os) (sym (map-set (later_by n) operations place o))

-- an operation after the enqueues is one of the operations, moved later
pub later_at : (n : ℕ) (operations : List Operation) (place : ℕ) (later : Operation)
    → slice_get (map (later_by n) operations) place ≡ Some later
    → (o : Operation) × (slice_get operations place ≡ Some o) × (later_by n o ≡ later)
later_at n operations place later at = grind (arith, slice_get-map)

-- ---- pushing and completing

-- a push adds one operation, or leaves the list
pub pushed : {T E : Type 0} (r : Result T E) (old new more : List Operation) → OnOk r (new ≡ more)
    → OnErr r (new ≡ old) → (new ≡ more) ⊎ (new ≡ old)
pushed (Ok t) old new more added kept = inl added
pushed (Err e) old new more added kept = inr kept

-- the operation at a place is completed
pub completed : (initial : List ℕ) (all own : List Operation) (place ret : ℕ) (kind : OpKind) (d later : Operation)
    → all ≡ timeline initial own
    → place < length own → later ≡ get_or all (length initial + place) d
    → set all (length initial + place) (record later { ret = ret + ORIGIN; kind = kind })
    ≡ timeline initial (set own place (record (get_or own place d) { ret = ret; kind = kind }))
completed initial all own place ret kind d later is within at =
    let n = ORIGIN in
    let behind = sym (get_or-drop (length initial) all place d) ∙ ap (λ os. get_or os place d) (behind_enqueues initial all own is)
    ∙ get_or-map (later_by n) own place d d within in
    ap (λ os. set os (length initial + place) (record later { ret = ret + n; kind = kind })) is
    ∙ ap (λ (o : Operation). set (timeline initial own) (length initial + place) (record o { ret = ret + n; kind = kind })) (at ∙ behind)
    ∙ timeline_set initial own place (record (get_or own place d) { ret = ret; kind = kind })

-- a push to a timeline
pub ruleset pushes = (is_timeline, operations_back, pushed, timeline_push)

-- ---- enqueues that precede all other operations come first in each linearization

-- ---- permutations without an operation that comes first in both

-- two of them are equal or differ
abbrev EqualOrNot : {X : Type 0} → X → X → Type 0
EqualOrNot x y = (x ≡ y) ⊎ (x ≡ y → ⊥)

abbrev as_number : {X : Type 0} (x y : X) → EqualOrNot x y → ℕ
as_number x y (inl same) = 1
as_number x y (inr other) = 0

-- the number of times that an element is in a list
module _ {X : Type 0} (which : (x y : X) → EqualOrNot x y) where
  abbrev one : X → X → ℕ
  one z y = as_number z y (which z y)

  one_itself : (z : X) → one z z ≡ 1
  one_itself z = grind arith

  counted : (z : X) (ys : List X) → 1 ≤ sum_by (one z) ys → Contains ys z
  counted z [] some = absurd (omega arith)
  counted z (y ∷ ys) some = join (which z y) refl (counted z ys)
    where
      join : (w : EqualOrNot z y) → which z y ≡ w → (1 ≤ sum_by (one z) ys → Contains ys z) → Contains (y ∷ ys) z
      join (inl same) is more = (zero, omega arith, sym same)
      join (inr other) is more =
          let none : one z y ≡ 0 = ap (as_number z y) is in
          let both = sum_by-cons (one z) y ys in
          let there = more (omega (arith, some, none, both)) in (suc there.0, omega (arith, there.1), there.2)

  -- lists in which each element is equally often are permutations
  same_counts : (xs ys : List X) → ((z : X) → sum_by (one z) xs ≡ sum_by (one z) ys) → IsPermutation xs ys
  same_counts [] [] same = IsPermutation-refl []
  same_counts [] (y ∷ ys) same = let here = same y in let own = one_itself y in let both = sum_by-cons (one y) y ys in absurd (omega (arith, here, own, both))
  same_counts (x ∷ xs) ys same =
      let here = same x in
      let own = one_itself x in
      let both = sum_by-cons (one x) x xs in
      let there = counted x ys (omega (arith, here, own, both)) in
      let moved = IsPermutation-remove ys there.0 x there.1 (sym there.2) in
      let rest = same_counts xs (remove ys there.0)
      (λ z. let whole = sum_by-IsPermutation (one z) ys (x ∷ remove ys there.0) moved in
      let each = same z in
      let left = sum_by-cons (one z) x xs in
      let right = sum_by-cons (one z) x (remove ys there.0) in omega (arith, whole, each, left, right)) in
      IsPermutation-trans (x ∷ xs) (x ∷ remove ys there.0) ys (IsPermutation-cons x xs (remove ys there.0) rest)
      (IsPermutation-sym ys (x ∷ remove ys there.0) moved)

  cancelled : (x : X) (xs ys : List X) → IsPermutation (x ∷ xs) (x ∷ ys) → IsPermutation xs ys
  cancelled x xs ys moved = same_counts xs ys
      (λ z. let whole = sum_by-IsPermutation (one z) (x ∷ xs) (x ∷ ys) moved in
      let left = sum_by-cons (one z) x xs in
      let right = sum_by-cons (one z) x ys in omega (arith, whole, left, right))

kind_or_not : (j k : OpKind) → EqualOrNot j k
kind_or_not (Enqueue v) (Enqueue w) = grind (arith, cases_eq v w)
kind_or_not (EnqueueFailed v) (EnqueueFailed w) = grind (arith, cases_eq v w)
kind_or_not (Dequeue v) (Dequeue w) = grind (arith, cases_eq v w)
kind_or_not DequeueEmpty DequeueEmpty = inl refl
kind_or_not _ _ = inr (λ same. cc)

operation_or_not : (x y : Operation) → EqualOrNot x y
operation_or_not x y = grind (arith, cases_eq x.call y.call, cases_eq x.ret y.ret, cases_eq x.thread y.thread, kind_or_not x.kind y.kind)

-- an operation that comes first in both may be left out
pub rest_permutes : (x : Operation) (xs ys : List Operation) → IsPermutation (x ∷ xs) (x ∷ ys) → IsPermutation xs ys
rest_permutes = cancelled operation_or_not

-- ---- enqueues that come first

-- each linearization begins with an enqueue that precedes all other operations, and continues from the queue with its
-- value
pub first_begins : (queue : List ℕ) (v : ℕ) (x : Operation) (others order : List Operation) → x.kind ≡ Enqueue v
    → All (Precedes x) others
    → IsLegalOrder queue (x ∷ others) order
    → (rest : List Operation) × (order ≡ x ∷ rest) × IsLegalOrder (queue ++ v ∷ []) others rest
first_begins queue v x others [] kind first legal =
    absurd (not_in_none x (Contains-permutation (x ∷ others) [] x legal.holds_each_once (zero, omega arith, refl)))
first_begins queue v x others (h ∷ rest) kind first legal = (
  rest,
  ap (λ o. o ∷ rest) heads,
  record {
    holds_each_once = rest_permutes x others rest (subst (λ o. IsPermutation (x ∷ others) (o ∷ rest)) heads legal.holds_each_once);
    extends_precedence = λ i j d below inside. legal.extends_precedence (suc i) (suc j) d (omega arith) (omega arith);
    is_accepted = subst (λ k. IsAccepted queue (k ∷ map (λ o. o.kind) rest)) (ap (λ o. o.kind) heads ∙ kind) legal.is_accepted;
  },
)
  where
    -- the first operation doesn't come after x
    behind : Contains others h → Contains rest x → ⊥
    behind among later =
        let early : Precedes x h = All-contains (Precedes x) others h first among in
        let late = legal.extends_precedence zero (suc later.0) x (omega arith) (omega (arith, later.1)) in
        late (subst (λ o. Precedes o h) (sym later.2) early)

    heads : h ≡ x
    heads = grind (
      arith,
      behind,
      contains_cons h rest x (Contains-permutation (x ∷ others) (h ∷ rest) x legal.holds_each_once (zero, omega arith, refl)),
      contains_cons x others h (Contains-permutation (h ∷ rest) (x ∷ others) h
          (IsPermutation-sym (x ∷ others) (h ∷ rest) legal.holds_each_once) (zero, omega arith, refl)),
    )

-- an enqueue that no other operation precedes may come first
pub first_put : (queue : List ℕ) (v : ℕ) (x : Operation) (others rest : List Operation) → x.kind ≡ Enqueue v
    → All (λ o. ¬ (Precedes o x)) others
    → IsLegalOrder (queue ++ v ∷ []) others rest → IsLegalOrder queue (x ∷ others) (x ∷ rest)
first_put queue v x others rest kind none legal = record {
  holds_each_once = IsPermutation-cons x others rest legal.holds_each_once;
  extends_precedence = AllPairs-cons (λ earlier later. ¬ (Precedes later earlier)) x rest
      (All-permutation (λ o. ¬ (Precedes o x)) others rest legal.holds_each_once none) legal.extends_precedence;
  is_accepted = subst (λ k. IsAccepted queue (k ∷ map (λ o. o.kind) rest)) (sym kind) legal.is_accepted;
}

-- each of the first operations precedes all later ones and the others, and is preceded by none of these
abbrev pub LeadAll : List Operation → List Operation → Type 0
LeadAll [] others = ⊤
LeadAll (x ∷ leading) others = All (λ o. Precedes x o × ¬ (Precedes o x)) (leading ++ others) × LeadAll leading others

-- the operations are enqueues of these values
abbrev pub AreEnqueuesOf : List ℕ → List Operation → Type 0
AreEnqueuesOf [] [] = ⊤
AreEnqueuesOf [] (x ∷ leading) = ⊥
AreEnqueuesOf (v ∷ values) [] = ⊥
AreEnqueuesOf (v ∷ values) (x ∷ leading) = (x.kind ≡ Enqueue v) × AreEnqueuesOf values leading

-- each linearization begins with enqueues that precede all other operations in turn, and continues from the queue
-- with their values
pub enqueues_begin : (queue values : List ℕ) (leading others order : List Operation) → AreEnqueuesOf values leading
    → LeadAll leading others
    → IsLegalOrder queue (leading ++ others) order
    → (rest : List Operation) × (order ≡ leading ++ rest) × IsLegalOrder (queue ++ values) others rest
enqueues_begin queue [] [] others order kinds lead legal = grind (arith, append-nil)
enqueues_begin queue [] (x ∷ leading) others order kinds lead legal = absurd kinds
enqueues_begin queue (v ∷ values) [] others order kinds lead legal = absurd kinds
enqueues_begin queue (v ∷ values) (x ∷ leading) others order kinds lead legal =
    let first = first_begins queue v x (leading ++ others) order kinds.0 (λ k d below. (lead.0 k d below).0) legal in
    let next = enqueues_begin (queue ++ v ∷ []) values leading others first.0 kinds.1 lead.1 first.2 in (
      next.0,
      first.1 ∙ ap (λ os. x ∷ os) next.1,
      subst (λ q. IsLegalOrder q others next.0) (append_assoc queue (v ∷ []) values) next.2,
    )

-- such enqueues may come first
pub enqueues_put : (queue values : List ℕ) (leading others rest : List Operation) → AreEnqueuesOf values leading
    → LeadAll leading others
    → IsLegalOrder (queue ++ values) others rest → IsLegalOrder queue (leading ++ others) (leading ++ rest)
enqueues_put queue [] [] others rest kinds lead legal = subst (λ q. IsLegalOrder q others rest) (append-nil queue) legal
enqueues_put queue [] (x ∷ leading) others rest kinds lead legal = absurd kinds
enqueues_put queue (v ∷ values) [] others rest kinds lead legal = absurd kinds
enqueues_put queue (v ∷ values) (x ∷ leading) others rest kinds lead legal =
    first_put queue v x (leading ++ others) (leading ++ rest) kinds.0 (λ k d below. (lead.0 k d below).1)
    (enqueues_put (queue ++ v ∷ []) values leading others rest kinds.1 lead.1
    (subst (λ q. IsLegalOrder q others rest) (sym (append_assoc queue (v ∷ []) values)) legal))

-- ---- the timeline: the initial values are enqueued before all else

-- ---- legal orders

-- the enqueues, and all later operations, are called and return from this time on
all_from : (time n : ℕ) (values : List ℕ) (operations : List Operation) → time + length values ≤ n
    → All (λ o. (time ≤ o.call) × (time ≤ o.ret)) (enqueues_from time values ++ map (later_by n) operations)
all_from time n [] operations after =
    All-map (λ o. (time ≤ o.call) × (time ≤ o.ret)) (later_by n) operations (λ k d below. (omega arith, omega arith))
all_from time n (v ∷ values) operations after = grind (arith, All-cons, all_from (time + 1) n values operations)

-- each of the enqueues precedes all later ones and all later operations
lead_all : (time n : ℕ) (values : List ℕ) (operations : List Operation) → time + length values ≤ n
    → LeadAll (enqueues_from time values) (map (later_by n) operations)
lead_all time n [] operations after = tt
lead_all time n (v ∷ values) operations after = grind (arith, all_from, lead_all (time + 1) n values operations)

enqueue_all : (time : ℕ) (values : List ℕ) → AreEnqueuesOf values (enqueues_from time values)
enqueue_all time [] = tt
enqueue_all time (v ∷ values) = (refl, enqueue_all (time + 1) values)

module _ (initial : List ℕ) (operations : List Operation) (few : length initial ≤ MAX_INITIAL) where
  -- each linearization of the timeline begins with the initial values, and continues with a linearization from these
  pub all_timeline_orders : (found : List Operation) → IsLegalOrder [] (timeline initial operations) found
      → (order : List Operation) × (found ≡ timeline initial order) × IsLegalOrder initial operations order
  all_timeline_orders found legal =
      let begun = enqueues_begin [] initial (initial_enqueues initial) (map (later_by ORIGIN) operations) found (enqueue_all _ initial)
      (lead_all _ ORIGIN initial operations (omega arith)) legal in
      let back = legal_earlier ORIGIN initial operations begun.0 begun.2 in
      (back.0, begun.1 ∙ ap (λ os. initial_enqueues initial ++ os) back.1, back.2)

  -- the initial enqueues followed by a linearization from the initial values are one of the timeline
  pub timeline_order : (order : List Operation) → IsLegalOrder initial operations order
      → IsLegalOrder [] (timeline initial operations) (timeline initial order)
  timeline_order order legal =
      enqueues_put [] initial (initial_enqueues initial) (map (later_by ORIGIN) operations) (map (later_by ORIGIN) order) (enqueue_all _ initial)
      (lead_all _ ORIGIN initial operations (omega arith)) (legal_later ORIGIN initial operations order legal)

  -- a history has a linearization if and only if its timeline has one
  pub linearizable_from_exactly : IsLinearizable initial operations ↔ IsLinearizable [] (timeline initial operations)
  linearizable_from_exactly = (
    λ found. (timeline initial found.0, timeline_order found.0 found.1),
    λ found. let order = all_timeline_orders found.0 found.1 in (order.0, order.2),
  )

-- ---- complete histories

-- the value that the operation called to enqueue, if it did, is one of these
abbrev CallsAmong : List ℕ → Operation → Type 0
CallsAmong values o = (w : ℕ) → enqueued_value o.kind ≡ Some w → Contains values w

what_was_called : (call answer : What) (kind : OpKind) (w : ℕ) → kind_of call answer ≡ Some kind
    → enqueued_value kind ≡ Some w
    → called_value call ≡ Some w
what_was_called call answer kind w is called = grind arith

-- the operations call for the values of the events' calls
calls_among : (events : List Event) → All (CallsAmong (called_values events)) (operations_of events)
calls_among events k d below w is =
    let o = get_or (operations_of events) k d in
    let t = traced events o (Contains-get_or (operations_of events) k d below) in
    value_called events t.called_at t.call w t.at_call (what_was_called t.call.what t.answer.what o.kind w t.made.kind is)

-- the operations of a timeline call for these and the initial values
all_among : (time n : ℕ) (values calls : List ℕ) (operations : List Operation) → All (CallsAmong calls) operations
    → All (CallsAmong (values ++ calls)) (enqueues_from time values ++ map (later_by n) operations)
all_among time n [] calls operations among = All-map (CallsAmong calls) (later_by n) operations among
all_among time n (v ∷ values) calls operations among =
    All-cons (CallsAmong (v ∷ values ++ calls)) (enqueue_at time v) (enqueues_from (time + 1) values ++ map (later_by n) operations)
    (λ w is. (zero, omega arith, same_Some v w is))
    (λ k d below w is. let rest = all_among (time + 1) n values calls operations among k d below w is in
    (suc rest.0, omega (arith, rest.1), rest.2))

-- the initial enqueues are apart from one another and from later operations, which are apart too
apart_from : (time n : ℕ) (values calls : List ℕ) (operations : List Operation) → time + length values ≤ n
    → AreDistinct (values ++ calls)
    → All (CallsAmong calls) operations → AllPairs AreApart operations
    → AllPairs AreApart (enqueues_from time values ++ map (later_by n) operations)
apart_from time n [] calls operations after distinct among apart = pairs_map AreApart (later_by n) operations
    (λ i j d below within. let a = apart i j d below within in record {
      called_first = omega (arith, a.called_first);
      returns_apart = λ same. a.returns_apart (omega arith);
      return_apart = λ same. a.return_apart (omega arith);
      values_apart = a.values_apart;
    })
apart_from time n (v ∷ values) calls operations after distinct among apart =
    let others = enqueues_from (time + 1) values ++ map (later_by n) operations in
    AllPairs-cons AreApart (enqueue_at time v) others
    (λ k d below.
    let late = all_from (time + 1) n values operations (omega arith) k d below in
    let own = all_among (time + 1) n values calls operations among k d below in
    record {
      called_first = omega (arith, late.0);
      returns_apart = λ same. absurd (omega (arith, late.1, same));
      return_apart = λ same. absurd (omega (arith, late.0, same));
      values_apart = λ w is is_too.
          let at = own w is_too in
          distinct zero (suc at.0) w (omega arith) (omega (arith, at.1)) (same_Some v w is ∙ sym at.2);
    })
    (apart_from (time + 1) n values calls operations (omega arith) (λ i j d below within. distinct (suc i) (suc j) d (omega arith) (omega arith))
    among apart)

-- the initial enqueues are within the times before the first ticket
enqueues_timed : (time : ℕ) (values : List ℕ) → 0 < time → time + length values ≤ ORIGIN
    → All IsTimed (enqueues_from time values)
enqueues_timed time [] above within = All-nil IsTimed
enqueues_timed time (v ∷ values) above within = grind (arith, All-cons, enqueues_timed (time + 1) values)

-- the timeline is complete
pub timeline_is_complete : (initial : List ℕ) (events : List Event) → IsCompleteFrom initial events
    → length initial ≤ MAX_INITIAL
    → AreComplete (timeline initial (operations_of events))
timeline_is_complete initial events whole few = record {
  timed = All-append IsTimed (initial_enqueues initial) (map (later_by ORIGIN) (operations_of events))
      (enqueues_timed _ initial (omega arith) (omega arith))
      (All-map IsTimed (later_by ORIGIN) (operations_of events) (λ k d below.
      let t = each_timed events whole.complete k d below in
      record { returns_late = omega (arith, t.0); takes_time = λ other. omega (arith, t.0); above_zero = omega arith; in_range = omega (arith, t.1) }));
  apart = apart_from _ ORIGIN initial (called_values events) (operations_of events) (omega arith) whole.values_are_distinct (calls_among events)
      (all_apart events whole.complete);
}
