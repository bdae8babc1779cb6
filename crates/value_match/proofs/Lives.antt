-- The listed lives are exactly the lives of the course, and operations tell them apart.
use Rattle.value_match.proofs.Common.{[], All-contains, ap, arith, Bool, call_or_never, cases_Bool, cases_order}
use Rattle.value_match.proofs.Common.{Contains, contains_at, contains_cons, Dequeue, dequeue_call, dequeue_of}
use Rattle.value_match.proofs.Common.{dequeues_kind, Did, Enqueue, enqueue_of, eq-eqb, eqb-true, false, find}
use Rattle.value_match.proofs.Common.{found_first}
use Rattle.value_match.proofs.Common.{HasPlaces, HoldsLives, inl, inr, is_dequeue_of, IsClear, IsLife, Life, life_from}
use Rattle.value_match.proofs.Common.{List, lives_of, MatchOption, NEVER, None, NoneDid, not_in_none, on, Operation}
use Rattle.value_match.proofs.Common.{OpKind, Option, PlacedLife, refl, same_enqueue, same_return, Some, subst, sym}
use Rattle.value_match.proofs.Common.{true, ℕ, ◌<◌, ◌∙◌, ◌∷◌, ◌≡◌}
use Rattle.value_match.proofs.Lists.{keeps, kept, mapped_to}

-- if `find` gives nothing, no element passes
none_found : {X : Type 0} (p : X → Bool) (xs : List X) (x : X) → find p xs ≡ None → Contains xs x → p x ≡ false
none_found p [] x none among = absurd (not_in_none x among)
none_found p (z ∷ xs) x none among = elim (cases_Bool (p z)) [
  | inl passes ↦ let clash : Some z ≡ None = rw passes at none in cc
  | inr fails ↦ elim (contains_cons z xs x among) [ inl here ↦ cc | inr there ↦ none_found p xs x (rw fails at none) there ]
]

dequeues : (v : ℕ) (k : OpKind) → dequeues_kind v k ≡ true → k ≡ Dequeue v
dequeues v (Dequeue w) is = ap (λ u. Dequeue u) (eqb-true w v is)
dequeues v _ is = cc

passes : (v : ℕ) (o : Operation) → o.kind ≡ Dequeue v → is_dequeue_of v o ≡ true
passes v o is = rw (is, eq-eqb v v refl)

-- the dequeue that is found is one of the value; if none is found, there is none
pub found_dequeue : (operations : List Operation) (v : ℕ) (found : Option Operation)
    → find (is_dequeue_of v) operations ≡ found
    → MatchOption found (NoneDid operations (Dequeue v)) (λ d. Did operations d (Dequeue v))
found_dequeue operations v None none = λ o among is. let fails = none_found (is_dequeue_of v) operations o none among in let clash : true ≡ false =
    sym (passes v o is) ∙ fails in cc
found_dequeue operations v (Some d) same = let first = found_first (is_dequeue_of v) operations d same in
    (contains_at operations first.place d first.at, dequeues v d.kind first.passes)

-- each listed life is a life
pub life_of_contained : (operations : List Operation) (life : Life) → Contains (lives_of operations) life
    → IsLife (on operations) life
life_of_contained operations life among =
    let o = kept (λ o. life_from operations o o.kind) operations life among in
    begun o.0 o.1 o.0.kind refl o.2
  where
    begun : (o : Operation) → Contains operations o → (k : OpKind) → o.kind ≡ k → life_from operations o k ≡ Some life
        → IsLife (on operations) life
    begun o in_o (Enqueue v) is same =
        let made : ◌≡◌ {A = Life} (record { enqueue = o; dequeue = find (is_dequeue_of v) operations }) life = cc in
        subst (IsLife (on operations)) made (v, (in_o, is), found_dequeue operations v (find (is_dequeue_of v) operations) refl)
    begun o in_o _ is same = cc

-- all dequeues of an enqueued value are equal
pub same_dequeue : (operations : List Operation) (enq x y : Operation) (v : ℕ) → IsClear (on operations)
    → Did operations enq (Enqueue v)
    → Did operations x (Dequeue v) → Did operations y (Dequeue v) → x ≡ y
same_dequeue operations enq x y v clear did did_x did_y =
    let same = same_return operations x y clear.complete did_x.0 did_y.0 in
    let less = λ (is : x.ret < y.ret). clear.no_repeat enq x y (record { value = v; enqueues = did; dequeues = did_x; dequeues_again = did_y; in_order = is }) in
    let more = λ (is : y.ret < x.ret). clear.no_repeat enq y x (record { value = v; enqueues = did; dequeues = did_y; dequeues_again = did_x; in_order = is }) in
    grind (arith, cases_order x.ret y.ret)

-- the optional dequeue of an enqueued value is unique
pub same_found : (operations : List Operation) (enq : Operation) (v : ℕ) (a b : Option Operation)
    → IsClear (on operations) → Did operations enq (Enqueue v)
    → MatchOption a (NoneDid operations (Dequeue v)) (λ d. Did operations d (Dequeue v))
    → MatchOption b (NoneDid operations (Dequeue v)) (λ d. Did operations d (Dequeue v)) → a ≡ b
same_found operations enq v None None clear did x y = refl
same_found operations enq v None (Some d) clear did x y = absurd (x d y.0 y.1)
same_found operations enq v (Some d) None clear did x y = absurd (y d x.0 x.1)
same_found operations enq v (Some d) (Some e) clear did x y = ap (λ o. Some o) (same_dequeue operations enq d e v clear did x y)

-- each life is listed
pub life_is_contained : (operations : List Operation) (life : Life) → IsClear (on operations)
    → IsLife (on operations) life → Contains (lives_of operations) life
life_is_contained operations life clear is =
    let v = is.0 in
    let dequeue = same_found operations (enqueue_of life) v (find (is_dequeue_of v) operations) (dequeue_of life) clear is.1
    (found_dequeue operations v (find (is_dequeue_of v) operations) refl) is.2 in
    keeps (λ o. life_from operations o o.kind) operations (enqueue_of life) life is.1.0 (rw (is.1.1, dequeue) refl)

-- lives with the same enqueue are equal
pub one_life_of_enqueue : (operations : List Operation) (x y : Life) → IsClear (on operations)
    → IsLife (on operations) x → IsLife (on operations) y
    → enqueue_of x ≡ enqueue_of y → x ≡ y
one_life_of_enqueue operations x y clear is_x is_y same =
    let values : is_x.0 ≡ is_y.0 = cc in
    let y_dequeue = subst (λ v. MatchOption (dequeue_of y) (NoneDid operations (Dequeue v)) (λ d. Did operations d (Dequeue v))) (sym values) is_y.2 in
    let dequeues = same_found operations (enqueue_of x) is_x.0 (dequeue_of x) (dequeue_of y) clear is_x.1 is_x.2 y_dequeue in
    λ i. record { enqueue = same i; dequeue = dequeues i }

-- lives with the same dequeue are equal
pub one_life_of_dequeue : (operations : List Operation) (x y : Life) (d : Operation) → IsClear (on operations)
    → IsLife (on operations) x → IsLife (on operations) y
    → dequeue_of x ≡ Some d → dequeue_of y ≡ Some d → x ≡ y
one_life_of_dequeue operations x y d clear is_x is_y same_x same_y =
    let did_x : Did operations d (Dequeue is_x.0) = rw same_x at is_x.2 in
    let did_y : Did operations d (Dequeue is_y.0) = rw same_y at is_y.2 in
    let values : is_x.0 ≡ is_y.0 = cc in
    let enq_y : Did operations (enqueue_of y) (Enqueue is_x.0) = rw values is_y.1 in
    one_life_of_enqueue operations x y clear is_x is_y (same_enqueue operations (enqueue_of x) (enqueue_of y) is_x.0 clear.complete is_x.1 enq_y)

-- a value whose dequeue is called before `NEVER` is dequeued
pub dequeued_if_called : (life : Life) → dequeue_call life < NEVER → (d : Operation) × (dequeue_of life ≡ Some d)
dequeued_if_called life less = go (dequeue_of life) refl less
  where
    go : (o : Option Operation) → dequeue_of life ≡ o → call_or_never o < NEVER
        → (d : Operation) × (dequeue_of life ≡ Some d)
    go None same less = absurd (omega arith)
    go (Some d) same less = (d, same)

-- each listed value is a life
pub value_is_life : (operations : List Operation) (values : List PlacedLife) (value : PlacedLife)
    → HoldsLives operations values
    → Contains values value → IsLife (on operations) value.life
value_is_life operations values value holds among =
    life_of_contained operations value.life (subst (λ lives. Contains lives value.life) holds.0 (mapped_to (λ m. m.life) values value among))

-- the places of a value are those of its operations
pub places_of_value : (operations : List Operation) (values : List PlacedLife) (value : PlacedLife)
    → HoldsLives operations values → Contains values value
    → HasPlaces operations value
places_of_value operations values value holds among =
    All-contains (HasPlaces operations) values value holds.1 among
