-- The overtakings found in another order are those of the definition, once they are sorted.
use Rattle.std.proofs.Common.{◌≡◌, ℕ, zero, suc, ◌+◌, ◌-◌, ◌<◌, ◌≤◌, ◌++◌, ◌∷◌, List, [], length, get_or, cond, refl}
use Rattle.std.proofs.Common.{sym, ◌∙◌, ap, Bool, true, false}
use Rattle.std.proofs.Common.{All, None, Option, Some, inl, inr, arith, map, nat_lt, subst}
use Rattle.std.specs.Prelude.{AllPairs, count_by, filter_map, find, nat_eq, option_map, ◌&&◌}
use Rattle.std.specs.Option.{option_map_or}
use Rattle.std.specs.List.{cons_option, sum_by}
use Rattle.std.specs.List.Sorted.{IsNonDecreasing, IsNonDecreasingBy, IsPermutation}
use Rattle.std.proofs.lemmas.Bool.{cases_lt, eqb-true, lt-ltb, le-ltb}
use Rattle.std.proofs.lemmas.Bool.Decides.{nat_tests}
use Rattle.std.proofs.lemmas.List.Elements.{All-append, All-cons, All-head, All-tail}
use Rattle.std.proofs.lemmas.List.Kept.{AllPairs-cons}
use Rattle.std.proofs.lemmas.List.Sums.{sum_by-cons}
use Rattle.std.proofs.lemmas.List.Sorted.{sum_by-IsPermutation}
use Rattle.event_records.specs.declared.limits.TheConstants.{ORIGIN}
use Rattle.history_merge.specs.Initial.{HistoryView, enqueues_from, initial_enqueues, later_by}
use Rattle.history_merge.specs.Operations.{operations_of}
use Rattle.history_merge.specs.declared.operation.Operation.{Operation}
use Rattle.history_merge.specs.declared.operation.OpKind.{OpKind}
use Rattle.history_merge.specs.declared.operation.OpKind.TheVariants.{Enqueue, Dequeue, DequeueEmpty, EnqueueFailed}
use Rattle.history_stats.specs.AtOnce.{stay_count, values_put_before}
use Rattle.history_merge.specs.Complete.{AreComplete}
use Rattle.history_stats.specs.Overtaking.{all_operations, overtakings, overtaking_by, overtaking_of, put}
use Rattle.history_stats.specs.Overtaking.{values_before}
use Rattle.history_stats.specs.Inner.Overtaking.{CountStays, overtaking_among, taking_by, takings_in}
use Rattle.history_stats.specs.declared.overtaking.Overtaking.{Overtaking}
use Rattle.history_stats.specs.declared.stays.Stay.{Stay}
use Rattle.history_stats.specs.declared.takings.Taking.{Taking}

-- ---- sums over what `filter_map` gives

-- the sum over what `filter_map` gives is the sum over all elements
sum_found : {X Y : Type 0} (h : X → Option Y) (g : Y → ℕ) (xs : List X)
    → sum_by g (filter_map h xs) ≡ sum_by (λ x. option_map_or g (h x) 0) xs
sum_found h g [] = refl
sum_found {X} {Y} h g (x ∷ xs) = here (h x) ∙ ap (λ n. option_map_or g (h x) 0 + n) (sum_found h g xs) ∙ sym (sum_by-cons (λ y. option_map_or g (h y) 0) x xs)
  where
    here : (o : Option Y) → sum_by g (cons_option o (filter_map h xs))
        ≡ option_map_or g o 0 + sum_by g (filter_map h xs)
    here None = omega arith
    here (Some y) = sum_by-cons g y (filter_map h xs)

-- ---- sorted lists with the same sums are equal

abbrev is_same : Overtaking → Overtaking → Bool
is_same x y = nat_eq x.count y.count && (nat_eq x.ticket y.ticket && nat_eq x.value y.value)

same_one : (x y : Overtaking) → is_same x y ≡ true → x ≡ y
same_one x y is = λ i. record { count = count i; ticket = ticket i; value = value i }
  where
    parts : (a b c : Bool) → (a && (b && c)) ≡ true → (a ≡ true) × (b ≡ true) × (c ≡ true)
    parts true true true is = (refl, refl, refl)
    parts true true false is = absurd (cc)
    parts true false c is = absurd (cc)
    parts false b c is = absurd (cc)

    all : (nat_eq x.count y.count ≡ true) × (nat_eq x.ticket y.ticket ≡ true) × (nat_eq x.value y.value ≡ true)
    all = parts _ _ _ is

    count : x.count ≡ y.count
    count = eqb-true _ _ all.0

    ticket : x.ticket ≡ y.ticket
    ticket = eqb-true _ _ all.1

    value : x.value ≡ y.value
    value = eqb-true _ _ all.2

is_itself : (x : Overtaking) → is_same x x ≡ true
is_itself x = grind (arith, nat_tests)

-- the number of times that an overtaking is in the list
abbrev times : Overtaking → List Overtaking → ℕ
times x ys = sum_by (λ y. cond (is_same x y) 1 0) ys

-- an overtaking in a list has a ticket at least that of all there
stands_above : (n : ℕ) (x : Overtaking) (ys : List Overtaking) → All (λ y. n ≤ y.ticket) ys → 0 < times x ys
    → n ≤ x.ticket
stands_above n x [] all some = absurd (omega arith)
stands_above n x (y ∷ ys) all some = here (is_same x y) refl (stands_above n x ys (All-tail (λ (z : Overtaking). n ≤ z.ticket) y ys all))
  where
    here : (b : Bool) → is_same x y ≡ b → (0 < times x ys → n ≤ x.ticket) → n ≤ x.ticket
    here true is more = omega (arith, All-head (λ (z : Overtaking). n ≤ z.ticket) y ys all, ap (λ (z : Overtaking). z.ticket) (same_one x y is))
    here false is more = more (omega (arith, some, sum_by-cons (λ z. cond (is_same x z) 1 0) y ys, ap {B = ℕ} (λ b. cond b 1 0) is))

-- the first elements of two such lists are equal
same_first : (x y : Overtaking) (xs ys : List Overtaking) → IsNonDecreasingBy (λ z. z.ticket) (x ∷ xs)
    → AllPairs (λ z w. z.ticket < w.ticket) (y ∷ ys)
    → ((g : Overtaking → ℕ) → sum_by g (x ∷ xs) ≡ sum_by g (y ∷ ys)) → x ≡ y
same_first x y xs ys up rise same = here (is_same x y) refl
  where
    y_stands : 0 < times y (x ∷ xs)
    y_stands = omega (
      arith,
      same (λ z. cond (is_same y z) 1 0),
      sum_by-cons (λ z. cond (is_same y z) 1 0) y ys,
      ap {B = ℕ} (λ b. cond b 1 0) (is_itself y),
    )

    x_stands : 0 < times x (y ∷ ys)
    x_stands = omega (
      arith,
      same (λ z. cond (is_same x z) 1 0),
      sum_by-cons (λ z. cond (is_same x z) 1 0) x xs,
      ap {B = ℕ} (λ b. cond b 1 0) (is_itself x),
    )

    here : (b : Bool) → is_same x y ≡ b → x ≡ y
    here true is = same_one x y is
    here false is =
        let less = stands_above x.ticket y (x ∷ xs) (λ k d below. up zero k d (omega arith) below) y_stands in
        let more = stands_above (suc y.ticket) x ys (λ k d below. rise zero (suc k) d (omega arith) (omega arith))
        (omega (arith, x_stands, sum_by-cons (λ z. cond (is_same x z) 1 0) y ys, ap {B = ℕ} (λ b. cond b 1 0) is)) in
        absurd (omega (arith, less, more))

pub one_sorted : (xs ys : List Overtaking) → IsNonDecreasingBy (λ x. x.ticket) xs
    → AllPairs (λ x y. x.ticket < y.ticket) ys
    → ((g : Overtaking → ℕ) → sum_by g xs ≡ sum_by g ys) → xs ≡ ys
one_sorted [] [] up rise same = refl
one_sorted [] (y ∷ ys) up rise same = absurd (omega (arith, same (λ _. 1), sum_by-cons (λ (_ : Overtaking). 1) y ys))
one_sorted (x ∷ xs) [] up rise same = absurd (omega (arith, same (λ _. 1), sum_by-cons (λ (_ : Overtaking). 1) x xs))
one_sorted (x ∷ xs) (y ∷ ys) up rise same =
    let first = same_first x y xs ys up rise same in
    let rest = one_sorted xs ys (λ i j d le within. up (suc i) (suc j) d (omega arith) (omega arith))
    (λ i j d before within. rise (suc i) (suc j) d (omega arith) (omega arith))
    (λ g. omega (arith, same g, sum_by-cons g x xs, sum_by-cons g y ys, ap g first)) in
    λ i. first i ∷ rest i

-- ---- overtakings have rising tickets

-- a filtered list has rising keys if the list has, and each element keeps its key
module _ {X Y : Type 0} (h : X → Option Y) (key : X → ℕ) (key' : Y → ℕ) where
  all_kept : (n : ℕ) (xs : List X) → All (λ x. (y : Y) → h x ≡ Some y → key' y ≡ key x) xs → All (λ x. n < key x) xs
      → All (λ y. n < key' y) (filter_map h xs)
  all_kept n [] keeps above = λ k d below. absurd (omega arith)
  all_kept n (x ∷ xs) keeps above = join (h x) refl
      (all_kept n xs (All-tail (λ z. (y : Y) → h z ≡ Some y → key' y ≡ key z) x xs keeps) (All-tail (λ z. n < key z) x xs above))
    where
      join : (o : Option Y) → h x ≡ o → All (λ y. n < key' y) (filter_map h xs)
          → All (λ y. n < key' y) (cons_option o (filter_map h xs))
      join None is more = more
      join (Some y) is more = All-cons (λ z. n < key' z) y (filter_map h xs)
          (omega (arith, All-head (λ z. n < key z) x xs above, All-head (λ z. (y : Y) → h z ≡ Some y → key' y ≡ key z) x xs keeps y is)) more

  kept_rises : (xs : List X) → All (λ x. (y : Y) → h x ≡ Some y → key' y ≡ key x) xs
      → AllPairs (λ x y. key x < key y) xs
      → AllPairs (λ x y. key' x < key' y) (filter_map h xs)
  kept_rises [] keeps rises = λ i j d before within. absurd (omega arith)
  kept_rises (x ∷ xs) keeps rises = join (h x) refl
      (kept_rises xs (All-tail (λ z. (y : Y) → h z ≡ Some y → key' y ≡ key z) x xs keeps)
      (λ i j d before within. rises (suc i) (suc j) d (omega arith) (omega arith)))
    where
      later : All (λ z. (y : Y) → h z ≡ Some y → key' y ≡ key z) xs
      later = All-tail (λ z. (y : Y) → h z ≡ Some y → key' y ≡ key z) x xs keeps

      join : (o : Option Y) → h x ≡ o → AllPairs (λ y z. key' y < key' z) (filter_map h xs)
          → AllPairs (λ y z. key' y < key' z) (cons_option o (filter_map h xs))
      join None is more = more
      join (Some y) is more = AllPairs-cons (λ a b. key' a < key' b) y (filter_map h xs)
          (λ k d within. omega (
            arith,
            all_kept (key x) xs later (λ j e below. rises zero (suc j) e (omega arith) (omega arith)) k d within,
            All-head (λ z. (y : Y) → h z ≡ Some y → key' y ≡ key z) x xs keeps y is,
          )) more

-- initial values come in by enqueues
all_enqueued : (P : Operation → Type 0)
    → ((time v : ℕ) → P (record { call = time; ret = time; thread = 0; kind = Enqueue v }))
    → (time : ℕ) (values : List ℕ)
    → All P (enqueues_from time values)
all_enqueued P each time [] = λ k d below. absurd (omega arith)
all_enqueued P each time (v ∷ rest) = All-cons P _ (enqueues_from (time + 1) rest) (each time v) (all_enqueued P each (time + 1) rest)

all_later : (P : Operation → Type 0) → ((o : Operation) → P (later_by ORIGIN o)) → (operations : List Operation)
    → All P (map (later_by ORIGIN) operations)
all_later P each [] = λ k d below. absurd (omega arith)
all_later P each (o ∷ rest) = All-cons P (later_by ORIGIN o) (map (later_by ORIGIN) rest) (each o) (all_later P each rest)

-- an overtaking has the ticket of its call
abbrev KeepsCall : List Operation → Operation → Type 0
KeepsCall all o = (found : Overtaking) → overtaking_by all o o.kind ≡ Some found → found.ticket + ORIGIN ≡ o.call

keeps_ticket : (count call v : ℕ) (found : Overtaking) → overtaking_of count (call + ORIGIN) v ≡ Some found
    → found.ticket + ORIGIN ≡ call + ORIGIN
keeps_ticket count call v found is = here (nat_lt 0 count) is
  where
    here : (b : Bool) → cond b (Some (record { count = count; ticket = call + ORIGIN - ORIGIN; value = v })) None
        ≡ Some found → found.ticket + ORIGIN ≡ call + ORIGIN
    here true some =
        let t : call + ORIGIN - ORIGIN ≡ found.ticket = cc in
        omega (arith, t)
    here false some = absurd (cc)

keeps_later : (all : List Operation) (o : Operation) (kind : OpKind) (found : Overtaking)
    → overtaking_by all (later_by ORIGIN o) kind ≡ Some found
    → found.ticket + ORIGIN ≡ o.call + ORIGIN
keeps_later all o (Dequeue v) found is = keeps_ticket _ o.call v found is
keeps_later all o DequeueEmpty found is = absurd (cc)
keeps_later all o (Enqueue v) found is = absurd (cc)
keeps_later all o (EnqueueFailed v) found is = absurd (cc)

keeps_call : (all : List Operation) (history : HistoryView) → All (KeepsCall all) (all_operations history)
keeps_call all history = All-append (KeepsCall all) (initial_enqueues history.initial) (map (later_by ORIGIN) (operations_of history.events))
    (all_enqueued (KeepsCall all) (λ time v found is. absurd (cc)) (ORIGIN - length history.initial) history.initial)
    (all_later (KeepsCall all) (λ o. keeps_later all o o.kind) (operations_of history.events))

-- so overtakings have rising tickets
overtakings_rise : (history : HistoryView) → AllPairs (λ x y. x.call < y.call) (all_operations history)
    → AllPairs (λ x y. x.ticket < y.ticket)
    (filter_map (λ o. overtaking_by (all_operations history) o o.kind) (all_operations history))
overtakings_rise history rise =
    let all = all_operations history in
    let more = kept_rises (λ (o : Operation). overtaking_by all o o.kind) (λ o. o.call) (λ x. x.ticket + ORIGIN) all (keeps_call all history) rise in
    λ i j d before within. omega (arith, more i j d before within)

-- ---- overtakings that are found

-- the stays give the overtaking of a dequeue as the definition does
found_alike : (operations : List Operation) (calls : List ℕ) (stays : List Stay) → CountStays operations calls stays
    → (g : Overtaking → ℕ) (o : Operation) (kind : OpKind)
    → option_map_or (λ t. option_map_or g (overtaking_among calls stays t) 0) (taking_by operations o kind) 0
    ≡ option_map_or g (overtaking_by operations o kind) 0
found_alike operations calls stays counted g o (Dequeue v) = here (find (λ x. put v x.kind) operations)
  where
    here : (e : Option Operation)
        → option_map_or (λ t. option_map_or g (overtaking_among calls stays t) 0)
        (option_map (λ call. record { enqueue_call = call; call = o.call; ret = o.ret; value = v }) (option_map (λ x. x.call) e)) 0
        ≡ option_map_or g (overtaking_of (stay_count o.ret operations (option_map_or (λ x. values_put_before x.call operations) e [])) o.call v) 0
    here None = refl
    here (Some e) = ap (λ n. option_map_or g (overtaking_of n o.call v) 0) (counted e.call o.ret)
found_alike operations calls stays counted g o DequeueEmpty = refl
found_alike operations calls stays counted g o (Enqueue v) = refl
found_alike operations calls stays counted g o (EnqueueFailed v) = refl

-- the overtakings found and sorted are those of the definition
pub found_sorted : (history : HistoryView) (calls : List ℕ) (stays : List Stay) (takings : List Taking)
    (found sorted : List Overtaking)
    → AllPairs (λ x y. x.call < y.call) (all_operations history) → CountStays (all_operations history) calls stays
    → IsPermutation (takings_in (all_operations history)) takings → found ≡ filter_map (overtaking_among calls stays) takings
    → IsPermutation found sorted → IsNonDecreasingBy (λ x. x.ticket) sorted
    → sorted ≡ filter_map (λ o. overtaking_by (all_operations history) o o.kind) (all_operations history)
found_sorted history calls stays takings found sorted rise counted listed is moved up =
    one_sorted sorted _ up (overtakings_rise history rise) same
  where
    same : (g : Overtaking → ℕ)
        → sum_by g sorted ≡ sum_by g
        (filter_map (λ o. overtaking_by (all_operations history) o o.kind) (all_operations history))
    same g =
        let all = all_operations history in
        let among : Taking → ℕ = λ t. option_map_or g (overtaking_among calls stays t) 0 in
        sum_by-IsPermutation g found sorted moved ∙ ap (sum_by g) is ∙ sum_found (overtaking_among calls stays) g takings
        ∙ sum_by-IsPermutation among (takings_in all) takings listed
        ∙ sum_found (λ (o : Operation). taking_by all o o.kind) among all
        ∙ (λ i. sum_by (λ (o : Operation). found_alike all calls stays counted g o o.kind i) all)
        ∙ sym (sum_found (λ (o : Operation). overtaking_by all o o.kind) g all)

-- ---- calls in order

above_first : (x : ℕ) (xs : List ℕ) → All (λ y. x ≤ y) xs → IsNonDecreasing xs → IsNonDecreasing (x ∷ xs)
above_first x xs above up zero zero d le within = omega arith
above_first x xs above up zero (suc j) d le within = above j d (omega arith)
above_first x xs above up (suc i) zero d le within = absurd (omega arith)
above_first x xs above up (suc i) (suc j) d le within = up i j d (omega arith) (omega arith)

all_mapped : {X : Type 0} (P : ℕ → Type 0) (f : X → ℕ) (xs : List X) → All (λ x. P (f x)) xs → All P (map f xs)
all_mapped P f [] all = λ k d below. absurd (omega arith)
all_mapped P f (x ∷ xs) all = All-cons P (f x) (map f xs) (All-head (λ y. P (f y)) x xs all) (all_mapped P f xs (All-tail (λ y. P (f y)) x xs all))

-- the calls of operations in the order of their calls are sorted
pub calls_in_order : (operations : List Operation) → AllPairs (λ x y. x.call < y.call) operations
    → IsNonDecreasing (map (λ o. o.call) operations)
calls_in_order [] rise = λ i j d le within. absurd (omega arith)
calls_in_order (o ∷ rest) rise = above_first o.call (map (λ x. x.call) rest)
    (all_mapped (λ y. o.call ≤ y) (λ (x : Operation). x.call) rest (λ k d below. let less = rise zero (suc k) d (omega arith) (omega arith) in omega (arith, less)))
    (calls_in_order rest (λ i j d before within. rise (suc i) (suc j) d (omega arith) (omega arith)))

-- the calls of a complete history's operations rise
pub complete_rise : (operations : List Operation) → AreComplete operations
    → AllPairs (λ x y. x.call < y.call) operations
complete_rise operations complete = λ i j d before within. (complete.apart i j d before within).called_first

-- the overtakings found are those of the history of these operations
pub found_in_history : (history : HistoryView) (operations : List Operation) (calls : List ℕ) (stays : List Stay)
    (takings : List Taking)
    (found sorted : List Overtaking) → operations ≡ all_operations history → AreComplete operations → CountStays operations calls stays
    → IsPermutation (takings_in operations) takings → found ≡ filter_map (overtaking_among calls stays) takings
    → IsPermutation found sorted → IsNonDecreasingBy (λ x. x.ticket) sorted → sorted ≡ overtakings history
found_in_history history operations calls stays takings found sorted is complete counted listed found_is moved up =
    found_sorted history calls stays takings found sorted (complete_rise (all_operations history) (subst AreComplete is complete))
    (subst (λ os. CountStays os calls stays) is counted) (subst (λ os. IsPermutation (takings_in os) takings) is listed) found_is moved up
