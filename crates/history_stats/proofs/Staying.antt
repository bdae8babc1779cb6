-- The values that were enqueued before a ticket and not taken before another, and the number of calls before each.
use Rattle.std.proofs.Common.{◌≡◌, ℕ, zero, suc, ◌+◌, ◌<◌, ◌≤◌, ◌++◌, List, [], ◌∷◌, length, get_or, cond, refl, sym}
use Rattle.std.proofs.Common.{◌∙◌, ap, Bool, true, false}
use Rattle.std.proofs.Common.{All, append-nil, subst, inl, inr, arith, map, not, take, nat_lt, Option, Some, None}
use Rattle.std.specs.Prelude.{count_by, filter_map, ◌&&◌, ◌||◌, option_map, find}
use Rattle.std.specs.Option.{option_map_or, option_or}
use Rattle.std.specs.List.{cons_option, list_any}
use Rattle.std.specs.List.Sorted.{IsNonDecreasing, IsNonDecreasingBy, IsPermutation}
use Rattle.std.proofs.lemmas.Bool.{cases_lt, lt-ltb, le-ltb}
use Rattle.std.proofs.lemmas.Bool.Decides.{nat_tests}
use Rattle.std.proofs.lemmas.List.{length_push, take_all, take_more}
use Rattle.std.proofs.lemmas.List.Elements.{All-push, filter_map-append}
use Rattle.std.proofs.lemmas.List.Sums.{sum_by-cons, sum_by-append, sum_by_push, sum_by_more}
use Rattle.std.proofs.lemmas.List.Sorted.{sum_by-IsPermutation}
use Rattle.history_merge.specs.declared.operation.Operation.{Operation}
use Rattle.history_merge.specs.declared.operation.OpKind.{OpKind}
use Rattle.history_merge.specs.declared.operation.OpKind.TheVariants.{Enqueue, Dequeue, DequeueEmpty, EnqueueFailed}
use Rattle.history_stats.specs.AtOnce.{gave, is_taken_before, put_value, stay_count, value_put_before}
use Rattle.history_stats.specs.AtOnce.{values_put_before}
use Rattle.history_stats.specs.Inner.AtOnce.{count_before}
use Rattle.history_stats.specs.Inner.Overtaking.{CountStays, stays_at}
use Rattle.history_stats.specs.declared.stays.Stay.{Stay}
use Rattle.history_stats.proofs.AtOnce.{count_cons, count_few, count_rises}

-- ---- the number of calls before a dequeue

calls_in : List Operation → List ℕ
calls_in operations = map (λ o. o.call) operations

-- if a dequeue of the value was called by a ticket, and none before it, a call comes at that ticket
one_more_call : (v t : ℕ) (operations : List Operation) → is_taken_before t operations v ≡ false
    → is_taken_before (t + 1) operations v ≡ true
    → count_before t (map (λ o. o.call) operations) + 1 ≤ count_before (t + 1) (map (λ o. o.call) operations)
one_more_call v t [] none some = absurd (cc)
one_more_call v t (o ∷ rest) none some =
    here (gave v o.kind) (is_taken_before t rest v) (is_taken_before (t + 1) rest v) none some (one_more_call v t rest)
  where
    here : (g earlier by : Bool) → ((g && nat_lt o.call t) || earlier) ≡ false
        → ((g && nat_lt o.call (t + 1)) || by) ≡ true
        → (earlier ≡ false → by ≡ true
        → count_before t (map (λ o. o.call) rest) + 1 ≤ count_before (t + 1) (map (λ o. o.call) rest))
        → count_before t (o.call ∷ map (λ o. o.call) rest) + 1 ≤ count_before (t + 1) (o.call ∷ map (λ o. o.call) rest)
    here g earlier by none some more =
        let a = count_cons t o.call (map (λ o. o.call) rest) in
        let b = count_cons (t + 1) o.call (map (λ o. o.call) rest) in
        let c = count_rises t (t + 1) (map (λ o. o.call) rest) (omega arith) in
        grind (arith, nat_tests)

-- more calls come before a gap than before a value is taken, if and only if it is taken before the gap
pub taken_before : (operations : List Operation) (v : ℕ) (first : Option ℕ)
    → ((gap : ℕ) → option_map_or (λ t. nat_lt t gap) first false ≡ is_taken_before gap operations v) → (gap : ℕ)
    → nat_lt (option_map_or (λ t. count_before t (map (λ o. o.call) operations)) first
    (length (map (λ o. o.call) operations)))
    (count_before gap (map (λ o. o.call) operations)) ≡ is_taken_before gap operations v
taken_before operations v None is gap = le-ltb _ _ (count_few gap (map (λ o. o.call) operations)) ∙ is gap
taken_before operations v (Some t) is gap = elim (cases_lt t gap) [
  | inl before ↦
      let more = one_more_call v t operations (sym (is t) ∙ le-ltb t t (omega arith)) (sym (is (t + 1)) ∙ lt-ltb t (t + 1) (omega arith)) in
      let rises = count_rises (t + 1) gap (map (λ o. o.call) operations) (omega arith) in
      lt-ltb _ _ (omega (arith, more, rises)) ∙ sym (lt-ltb t gap before) ∙ is gap
  | inr after ↦ le-ltb _ _ (count_rises gap t (map (λ o. o.call) operations) after) ∙ sym (le-ltb t gap after) ∙ is gap
]

-- ---- one more operation

-- an unpacked element is at the place of its item
pub is_at : {X : Type 0} (xs : List X) (i : ℕ) (item x : X) → item ≡ get_or xs i item → x ≡ item → x ≡ get_or xs i x
is_at xs i item x at is = is ∙ at ∙ ap (get_or xs i) (sym is)

-- an operation other than an enqueue puts no value
pub puts_none : (kind : OpKind) → ((v : ℕ) → kind ≡ Enqueue v → ⊥) → put_value kind ≡ None
puts_none (Enqueue v) other = absurd (other v refl)
puts_none (Dequeue v) other = refl
puts_none DequeueEmpty other = refl
puts_none (EnqueueFailed v) other = refl

-- the values of one more operation
put_more : (p : ℕ) (operations : List Operation) (i : ℕ) (d : Operation) → i < length operations
    → values_put_before p (take (i + 1) operations) ≡ values_put_before p (take i operations)
    ++ cons_option (value_put_before p (get_or operations i d)) []
put_more p operations i d within =
    ap (values_put_before p) (take_more operations i d within) ∙ filter_map-append (value_put_before p) (take i operations) (get_or operations i d ∷ [])

-- there are as many stays as values so far
abbrev pub CountSoFar : List Operation → List ℕ → ℕ → List Stay → Type 0
CountSoFar operations calls i stays = (p gap : ℕ) →
    count_by (stays_at p (count_before gap calls)) stays ≡ stay_count gap operations (values_put_before p (take i operations))

-- the count before the first operation
pub counted_first : (operations : List Operation) (calls : List ℕ) → CountSoFar operations calls 0 []
counted_first operations calls p gap = refl

-- one more operation, which put no value
pub counted_none : (operations : List Operation) (calls : List ℕ) (i : ℕ) (o : Operation) (stays : List Stay)
    → i < length operations
    → o ≡ get_or operations i o → put_value o.kind ≡ None → CountSoFar operations calls i stays
    → CountSoFar operations calls (i + 1) stays
counted_none operations calls i o stays within is none so_far p gap =
    so_far p gap ∙ ap (stay_count gap operations) (sym (put_more p operations i o within ∙ ap (λ vs. values_put_before p (take i operations) ++ vs) nothing ∙ append-nil _))
  where
    neither : (b : Bool) (found : Option ℕ) → found ≡ None → cons_option (cond b found None) [] ≡ []
    neither true found is = ap (λ f. cons_option f []) is
    neither false found is = refl

    nothing : cons_option (value_put_before p (get_or operations i o)) [] ≡ []
    nothing = ap (λ x. cons_option (value_put_before p x) []) (sym is) ∙ neither (nat_lt o.ret p) (put_value o.kind) none

-- one more operation, which put a value, with its stay
pub counted_one : (operations : List Operation) (calls : List ℕ) (i v taken : ℕ) (o : Operation) (first : Option ℕ)
    (stays new : List Stay)
    → i < length operations → o ≡ get_or operations i o → put_value o.kind ≡ Some v → calls ≡ map (λ x. x.call) operations
    → ((gap : ℕ) → option_map_or (λ t. nat_lt t gap) first false ≡ is_taken_before gap operations v)
    → taken ≡ option_map_or (λ t. count_before t calls) first (length calls) → new ≡ stays ++ record { put = o.ret; taken = taken } ∷ []
    → CountSoFar operations calls i stays → CountSoFar operations calls (i + 1) new
counted_one operations calls i v taken o first stays new within is some are_calls tells at pushed so_far p gap = omega (
  arith,
  ap (count_by (stays_at p (count_before gap calls))) pushed,
  sum_by_push (λ s. cond (stays_at p (count_before gap calls) s) 1 0) stays (record { put = o.ret; taken = taken }),
  so_far p gap,
  ap (stay_count gap operations) (put_more p operations i o within),
  sum_by-append (λ w. cond (not (is_taken_before gap operations w)) 1 0) (values_put_before p (take i operations))
      (cons_option (value_put_before p (get_or operations i o)) []),
  same,
)
  where
    one : (b : Bool) (found : Option ℕ) (stays_so : Bool) → found ≡ Some v
        → stays_so ≡ not (is_taken_before gap operations v)
        → stay_count gap operations (cons_option (cond b found None) []) ≡ cond (b && stays_so) 1 0
    one true found stays_so is stay =
        ap (λ f. stay_count gap operations (cons_option f [])) is ∙ (λ i. 0 + cond (sym stay i) 1 0) ∙ omega arith
    one false found stays_so is stay = refl

    taken_so : nat_lt taken (count_before gap calls) ≡ is_taken_before gap operations v
    taken_so = ap (λ n. nat_lt n (count_before gap calls)) at
        ∙ ap (λ cs. nat_lt (option_map_or (λ t. count_before t cs) first (length cs)) (count_before gap cs)) are_calls ∙ taken_before operations v first tells gap

    same : stay_count gap operations (cons_option (value_put_before p (get_or operations i o)) [])
        ≡ cond (nat_lt o.ret p && not (nat_lt taken (count_before gap calls))) 1 0
    same = ap (λ x. stay_count gap operations (cons_option (value_put_before p x) [])) (sym is)
        ∙ one (nat_lt o.ret p) (put_value o.kind) (not (nat_lt taken (count_before gap calls))) some (ap not taken_so)

-- the count after all operations
pub counted_all : (operations : List Operation) (calls : List ℕ) (i : ℕ) (stays : List Stay) → length operations ≤ i
    → CountSoFar operations calls i stays
    → CountStays operations calls stays
counted_all operations calls i stays all so_far p gap =
    so_far p gap ∙ ap (λ os. stay_count gap operations (values_put_before p os)) (take_all i operations all)

-- permuted stays have the same count
pub counted_sorted : (operations : List Operation) (calls : List ℕ) (stays sorted : List Stay)
    → IsPermutation stays sorted
    → CountStays operations calls stays → CountStays operations calls sorted
counted_sorted operations calls stays sorted moved counted p gap =
    sum_by-IsPermutation (λ s. cond (stays_at p (count_before gap calls) s) 1 0) stays sorted moved ∙ counted p gap

-- the stays of the operations so far: they count the values, and each value was taken after at most all calls
pub record StaysSoFar (operations : List Operation) (calls : List ℕ) (i : ℕ) (stays : List Stay) : Type 0 where
  pub counted : CountSoFar operations calls i stays
  pub taken : All (λ s. s.taken ≤ length calls) stays
  pub few : length stays ≤ i

pub stays_first : (operations : List Operation) (calls : List ℕ) (stays : List Stay) → stays ≡ []
    → StaysSoFar operations calls 0 stays
stays_first operations calls stays none = subst (StaysSoFar operations calls 0) (sym none)
    (record { counted = counted_first operations calls; taken = λ k d below. absurd (omega arith); few = omega arith })

pub stays_none : (operations : List Operation) (calls : List ℕ) (i : ℕ) (o : Operation) (stays : List Stay)
    → i < length operations
    → o ≡ get_or operations i o → put_value o.kind ≡ None → StaysSoFar operations calls i stays
    → StaysSoFar operations calls (i + 1) stays
stays_none operations calls i o stays within is none so_far = record {
  counted = counted_none operations calls i o stays within is none so_far.counted;
  taken = so_far.taken;
  few = omega (arith, so_far.few);
}

pub stays_one : (operations : List Operation) (calls : List ℕ) (i v taken : ℕ) (o : Operation) (first : Option ℕ)
    (stays new : List Stay)
    → i < length operations → o ≡ get_or operations i o → put_value o.kind ≡ Some v → calls ≡ map (λ x. x.call) operations
    → ((gap : ℕ) → option_map_or (λ t. nat_lt t gap) first false ≡ is_taken_before gap operations v)
    → taken ≡ option_map_or (λ t. count_before t calls) first (length calls) → new ≡ stays ++ record { put = o.ret; taken = taken } ∷ []
    → StaysSoFar operations calls i stays → StaysSoFar operations calls (i + 1) new
stays_one operations calls i v taken o first stays new within is some are_calls tells at pushed so_far = record {
  counted = counted_one operations calls i v taken o first stays new within is some are_calls tells at pushed so_far.counted;
  taken = subst (All (λ s. s.taken ≤ length calls)) (sym pushed)
      (All-push (λ s. s.taken ≤ length calls) stays (record { put = o.ret; taken = taken }) so_far.taken (omega (arith, at, fits first)));
  few = omega (arith, so_far.few, ap length pushed, length_push stays (record { put = o.ret; taken = taken }));
}
  where
    fits : (first : Option ℕ) → option_map_or (λ t. count_before t calls) first (length calls) ≤ length calls
    fits None = omega arith
    fits (Some t) = count_few t calls
