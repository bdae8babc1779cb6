-- Places of calls and of sources, found by walks over the operations.
use Rattle.value_match.proofs.Common.{[], All, All-permutation, All-pop, All-push, ap, arith, Bool, btree_set_len}
use Rattle.value_match.proofs.Common.{BTreeSet, Call, CallsNoneOf, cases_Bool, cases_eq, cond, contains, Dequeue}
use Rattle.value_match.proofs.Common.{each_more, enqueued_value, eq-eqb, false, false≢true, get_or, get_or-append_seam}
use Rattle.value_match.proofs.Common.{get_or-set_other, get_or-set_same, get_or_append_left, HoldsNear, HoldsOthers}
use Rattle.value_match.proofs.Common.{HoldsSources, inl, inr, is_eq, is_eq-nat_cmp, is_some, IsAt, IsCall, IsCallPlace}
use Rattle.value_match.proofs.Common.{IsNearSource, IsNonDecreasingBy, IsPermutation, IsPermutation-sym, IsSourceOf}
use Rattle.value_match.proofs.Common.{keys, length, length-append, length-set, List, list_any, nat_cmp, None, NoneOf}
use Rattle.value_match.proofs.Common.{one_at, Operation, OpKind, Option, place_of, refl, set, slice_get_within, Some}
use Rattle.value_match.proofs.Common.{subst, sym, true, ℕ, ◌++◌, ◌+◌, ◌-◌, ◌<◌, ◌∙◌, ◌∷◌, ◌≡◌, ◌≤◌}

-- none of the first n operations called to enqueue the value
abbrev pub NotCalledTo : List Operation → ℕ → ℕ → Type 0
NotCalledTo operations n v = (k : ℕ) (o : Operation) → k < n → IsAt operations k o → ¬ (enqueued_value o.kind ≡ Some v)

-- the calls of the wanted values among the first n operations
pub record MetOthers (wanted : BTreeSet ℕ) (operations : List Operation) (n : ℕ) (calls : List Call) : Type 0 where
  pub are_calls : All (IsCall operations) calls
  pub has_all : (v : ℕ) → contains nat_cmp wanted v ≡ true → NoneOf calls v → NotCalledTo operations n v

-- an operation that calls no wanted value, or one that does
module _ (wanted : BTreeSet ℕ) (operations : List Operation) (i : ℕ) (o : Operation) (calls : List Call) (here : IsAt operations i o)
    (met : MetOthers wanted operations i calls) where
  -- the operation adds no call
  pub others_unwanted : CallsNoneOf wanted o → MetOthers wanted operations (i + 1) calls
  others_unwanted none = record {
    are_calls = met.are_calls;
    has_all = λ v is_wanted none_of.
        each_more (λ k x. ¬ (enqueued_value x.kind ≡ Some v)) operations i o here (none v is_wanted) (met.has_all v is_wanted none_of);
  }

  -- the operation is added with its place
  pub others_more : (w : ℕ) → enqueued_value o.kind ≡ Some w
      → MetOthers wanted operations (i + 1) (calls ++ record { value = w; place = i } ∷ [])
  others_more w called = record {
    are_calls = All-push (IsCall operations) calls (record { value = w; place = i }) met.are_calls (o, here, called);
    has_all = λ v is_wanted none_of.
        let parts = All-pop (λ (call : Call). ¬ (call.value ≡ v)) (calls ++ record { value = w; place = i } ∷ []) calls
        (Some (record { value = w; place = i })) refl none_of in
        each_more (λ k x. ¬ (enqueued_value x.kind ≡ Some v)) operations i o here (λ same. parts.1 (let e = sym called ∙ same in cc))
        (met.has_all v is_wanted parts.0);
  }

-- all calls of the wanted values, sorted by value
pub others_sorted : (wanted : BTreeSet ℕ) (operations : List Operation) (n : ℕ) (calls sorted : List Call)
    → length operations ≤ n
    → MetOthers wanted operations n calls → IsPermutation calls sorted
    → IsNonDecreasingBy (λ call. call.value) sorted → HoldsOthers wanted operations sorted
others_sorted wanted operations n calls sorted all met moved rises = record {
  are_calls = All-permutation (IsCall operations) calls sorted moved met.are_calls;
  has_all = λ v is_wanted none_of o among called.
      let at = place_of operations o among in
      met.has_all v is_wanted (All-permutation (λ (call : Call). ¬ (call.value ≡ v)) sorted calls (IsPermutation-sym calls sorted moved) none_of)
      at.0 o (let within = slice_get_within operations at.0 o at.1 in omega arith) at.1 called;
  rises = rises;
}

-- near sources stay near when more values are wanted
near_wider : (wanted more : BTreeSet ℕ) (operations : List Operation) (kind : OpKind) (source : Option ℕ)
    → ((v : ℕ) → contains nat_cmp wanted v ≡ true → contains nat_cmp more v ≡ true)
    → IsNearSource wanted operations kind source → IsNearSource more operations kind source
near_wider wanted more operations (Dequeue v) None wider near = wider v near
near_wider wanted more operations _ _ wider near = near

-- near sources of operations stay near when one more value is wanted
pub wants_more : (wanted more : BTreeSet ℕ) (w : ℕ) (operations : List Operation) (from to : ℕ)
    (sources : List (Option ℕ))
    → ((v : ℕ) → contains nat_cmp more v ≡ cond (is_eq (nat_cmp w v)) true (contains nat_cmp wanted v))
    → HoldsNear wanted operations from to sources → HoldsNear more operations from to sources
wants_more wanted more w operations from to sources adds near = record {
  one_each = near.one_each;
  each = λ i o below at. near_wider wanted more operations o.kind (get_or sources i None) wider (near.each i o below at);
}
  where
    wider : (v : ℕ) → contains nat_cmp wanted v ≡ true → contains nat_cmp more v ≡ true
    wider v is = adds v ∙ rw is (elim (cases_Bool (is_eq (nat_cmp w v))) [ inl here ↦ rw here refl | inr other ↦ rw other refl ])

-- the added value is wanted
pub is_wanted : (wanted more : BTreeSet ℕ) (w : ℕ)
    → ((v : ℕ) → contains nat_cmp more v ≡ cond (is_eq (nat_cmp w v)) true (contains nat_cmp wanted v))
    → contains nat_cmp more w ≡ true
is_wanted wanted more w adds =
    adds w ∙ ap (λ b. cond b true (contains nat_cmp wanted w)) (is_eq-nat_cmp w w ∙ eq-eqb w w refl)

-- an operation that is no dequeue has no source
pub no_source : (operations : List Operation) (kind : OpKind) → ((v : ℕ) → ¬ (kind ≡ Dequeue v))
    → IsSourceOf operations kind None
no_source operations (Dequeue v) other = absurd (other v refl)
no_source operations _ other = refl

-- an operation that is no dequeue has no near source
pub no_near_source : (wanted : BTreeSet ℕ) (operations : List Operation) (kind : OpKind)
    → ((v : ℕ) → ¬ (kind ≡ Dequeue v))
    → IsNearSource wanted operations kind None
no_near_source wanted operations (Dequeue v) other = absurd (other v refl)
no_near_source wanted operations _ other = refl

-- one more operation, with its near source
pub near_push : (wanted : BTreeSet ℕ) (operations : List Operation) (from n : ℕ) (o : Operation)
    (sources : List (Option ℕ)) (source : Option ℕ)
    → IsAt operations n o → IsNearSource wanted operations o.kind source → HoldsNear wanted operations from n sources
    → HoldsNear wanted operations from (n + 1) (sources ++ source ∷ [])
near_push wanted operations from n o sources source here is known = record {
  one_each = simp length-append (omega (arith, known.one_each));
  each = λ i x below at. elim (cases_eq i (length sources)) [
    | inl last ↦
        let there : from + i ≡ n = omega (arith, known.one_each) in
        let same = one_at operations n x o (subst (λ k. IsAt operations k x) there at) here in
        rw (same, last, get_or-append_seam) is
    | inr other ↦
        let before : i < length sources = omega (arith, below, length-append {A = Option ℕ}) in
        rw (get_or_append_left sources (source ∷ []) None i before) (known.each i x before at)
  ];
}

-- the call is one of the operations
pub call_within : (operations : List Operation) (v place : ℕ) → IsCallPlace operations v (Some place)
    → place < length operations
call_within operations v place (o, here, called) = slice_get_within operations place o here

-- ---- the remaining sources are found

-- the first n sources from one place on are found, and the values of the others are wanted
pub record FindsOthers (operations : List Operation) (from n : ℕ) (sources : List (Option ℕ))
    (calls : List Call) : Type 0 where
  pub wanted : BTreeSet ℕ
  pub one_each : from + length sources ≡ length operations
  pub found : (i : ℕ) (o : Operation) → from + i < n → IsAt operations (from + i) o
      → IsSourceOf operations o.kind (get_or sources i None)
  pub near : (i : ℕ) (o : Operation) → n ≤ from + i → IsAt operations (from + i) o
      → IsNearSource wanted operations o.kind (get_or sources i None)
  pub others : HoldsOthers wanted operations calls

-- a source that was found near
pub near_source : (wanted : BTreeSet ℕ) (operations : List Operation) (kind : OpKind) (source : Option ℕ)
    → IsNearSource wanted operations kind source
    → ¬ (source ≡ None) → IsSourceOf operations kind source
near_source wanted operations (Dequeue v) None near some = absurd (some refl)
near_source wanted operations _ _ near some = near

-- an operation after a place, by its index among those from there on
pub behind_at : (operations : List Operation) (from n : ℕ) (o : Operation) → from ≤ n → IsAt operations n o
    → IsAt operations (from + (n - from)) o
behind_at operations from n o late here = let there : from + (n - from) ≡ n = omega arith in rw there here

-- one more source is found
pub found_more : (operations : List Operation) (from n : ℕ) (o : Operation) (sources : List (Option ℕ))
    (source : Option ℕ) (calls : List Call)
    → from ≤ n → IsAt operations n o → IsSourceOf operations o.kind source → FindsOthers operations from n sources calls
    → FindsOthers operations from (n + 1) (set sources (n - from) source) calls
found_more operations from n o sources source calls late here is known = record {
  wanted = known.wanted;
  one_each = ap (λ k. from + k) (length-set sources (n - from) source) ∙ known.one_each;
  found = λ i x below at. elim (cases_eq i (n - from)) [
    | inl last ↦
        let there : from + i ≡ n = omega arith in
        let same = one_at operations n x o (subst (λ k. IsAt operations k x) there at) here in
        rw (same, last, get_or-set_same sources (n - from) source None within) is
    | inr other ↦ rw (get_or-set_other sources (n - from) i source None other) (known.found i x (omega arith) at)
  ];
  near = λ i x after at. rw (get_or-set_other sources (n - from) i source None (omega arith)) (known.near i x (omega arith) at);
  others = known.others;
}
  where
    within : n - from < length sources
    within = let inside = slice_get_within operations n o here in omega (arith, inside, known.one_each)

-- a source stays as it was
pub found_here : (operations : List Operation) (from n : ℕ) (o : Operation) (sources : List (Option ℕ))
    (calls : List Call) → from ≤ n
    → IsAt operations n o → IsSourceOf operations o.kind (get_or sources (n - from) None) → FindsOthers operations from n sources calls
    → FindsOthers operations from (n + 1) sources calls
found_here operations from n o sources calls late here is known = record {
  wanted = known.wanted;
  one_each = known.one_each;
  found = λ i x below at. elim (cases_eq i (n - from)) [
    | inl last ↦
        let there : from + i ≡ n = omega arith in
        let same = one_at operations n x o (subst (λ k. IsAt operations k x) there at) here in
        rw (same, last) is
    | inr other ↦ known.found i x (omega arith) at
  ];
  near = λ i x after at. known.near i x (omega arith) at;
  others = known.others;
}

-- the value of a dequeue has no call if no call of the wanted values is of it
pub found_nowhere : (wanted : BTreeSet ℕ) (operations : List Operation) (o : Operation) (v : ℕ) (source : Option ℕ)
    (calls : List Call)
    → o.kind ≡ Dequeue v → source ≡ None → HoldsOthers wanted operations calls → NoneOf calls v → IsNearSource wanted operations o.kind source
    → IsSourceOf operations o.kind source
found_nowhere wanted operations o v source calls is none others none_of near =
    rw (is, none) (others.has_all v (rw (is, none) at near) none_of)

-- the sources of all operations are found
pub found_all : (operations : List Operation) (from n : ℕ) (sources : List (Option ℕ)) (calls : List Call)
    → length operations ≤ n
    → FindsOthers operations from n sources calls → HoldsSources operations from sources
found_all operations from n sources calls all known = record {
  one_each = known.one_each;
  each = λ i o at. known.found i o (let below = slice_get_within operations (from + i) o at in omega (arith, below)) at;
}

-- if no value is wanted, all sources are near
pub none_wanted : (wanted : BTreeSet ℕ) (operations : List Operation) (from : ℕ) (sources : List (Option ℕ))
    → btree_set_len wanted ≡ 0
    → HoldsNear wanted operations from (length operations) sources → HoldsSources operations from sources
none_wanted wanted operations from sources none near = record {
  one_each = near.one_each;
  each = λ i o at. settled o.kind (get_or sources i None)
      (near.each i o (let below = slice_get_within operations (from + i) o at in omega (arith, below, near.one_each)) at);
}
  where
    any_of_none : (test : ℕ → Bool) (keys : List ℕ) → length keys ≡ 0 → list_any test keys ≡ false
    any_of_none test [] none = refl
    any_of_none test (k ∷ keys) none = absurd (omega (arith, none))

    settled : (kind : OpKind) (source : Option ℕ) → IsNearSource wanted operations kind source
        → IsSourceOf operations kind source
    settled (Dequeue v) None is_wanted = absurd (false≢true (sym (any_of_none _ (keys wanted) none) ∙ is_wanted))
    settled _ _ is = is

-- the source of an operation after a place
pub source_at : (operations : List Operation) (from n : ℕ) (o : Operation) (sources : List (Option ℕ))
    → HoldsSources operations from sources
    → from ≤ n → IsAt operations n o → IsSourceOf operations o.kind (get_or sources (n - from) None)
source_at operations from n o sources holds late here = holds.each (n - from) o (behind_at operations from n o late here)

-- an optional place that isn't some place is none
pub none_if : (x : Option ℕ) → is_some x ≡ false → x ≡ None
none_if None is = refl
none_if (Some n) is = absurd (false≢true (sym is))
