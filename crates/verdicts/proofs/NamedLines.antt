-- The values and calls that the lines of a violation name, and the operations of a selection by them.
use Rattle.verdicts.proofs.Common.{[], All-contains, All-from_recursion, AllByRecursion, ap, arith, Bool, Contains}
use Rattle.verdicts.proofs.Common.{Contains-append_cases, Contains-append_left, Contains-append_right, contains_cons}
use Rattle.verdicts.proofs.Common.{CoversFrom, Dequeue, dequeue_call, dequeue_of, Did, Enqueue, enqueue_of, flat_map}
use Rattle.verdicts.proofs.Common.{fresh}
use Rattle.verdicts.proofs.Common.{FullViolation, inl, inr, IsFreshViolation, IsLife, IsOrderViolation}
use Rattle.verdicts.proofs.Common.{IsRepeatViolation, IsViolationOf, Life, lines_of, List, MatchOption, None, NoneDid}
use Rattle.verdicts.proofs.Common.{EnqueueFailed, not_in_none, on, one_deeper, Operation, operations_of_life, OpKind}
use Rattle.verdicts.proofs.Common.{Option}
use Rattle.verdicts.proofs.Common.{option_map_or, option_to_list, order, Precedes, refl, repeat, selects, Some, subst}
use Rattle.verdicts.proofs.Common.{value_of, witness, zero, ℕ, ◌++◌, ◌∙◌, ◌∷◌, ◌≡◌, ◌⊎◌}
use Rattle.linearizer.proofs.Elements.{from_flat_map}

-- the operation has this value
abbrev pub HasValue : Operation → ℕ → Type 0
HasValue o v = value_of o.kind ≡ Some v

-- the operation is one of the operations, and has this value
abbrev pub IsOpOf : List Operation → ℕ → Operation → Type 0
IsOpOf operations v o = Contains operations o × HasValue o v

-- an operation of this kind has the value of the kind
pub op_of : (operations : List Operation) (o : Operation) (kind : OpKind) (v : ℕ) → Did operations o kind
    → value_of kind ≡ Some v → IsOpOf operations v o
op_of operations o kind v did is = (did.0, ap value_of did.1 ∙ is)

-- a recursive statement about a list holds of each element
pub each_of : (P : Operation → Type 0) (xs : List Operation) → AllByRecursion P xs → (o : Operation) → Contains xs o
    → P o
each_of P xs all o among = All-contains P xs o (All-from_recursion P xs all) among

-- the lines of a fresh-value violation have its value
pub fresh_lines : (operations : List Operation) (deq : Operation) (enq : Option Operation)
    → IsFreshViolation (on operations) deq enq
    → (v : ℕ) × ((o : Operation) → Contains (deq ∷ option_to_list enq) o → IsOpOf operations v o)
fresh_lines operations deq None is =
    (is.value, each_of (IsOpOf operations is.value) (deq ∷ []) (op_of operations deq (Dequeue is.value) is.value is.dequeues refl, tt))
fresh_lines operations deq (Some enq) is = (
  is.value,
  each_of (IsOpOf operations is.value) (deq ∷ enq ∷ [])
      (op_of operations deq (Dequeue is.value) is.value is.dequeues refl, (by_call is.enqueues, tt)),
)
  where
    by_call : Did operations enq (EnqueueFailed is.value) ⊎ (Did operations enq (Enqueue is.value) × Precedes deq enq)
        → IsOpOf operations is.value enq
    by_call (inl failed) = op_of operations enq (EnqueueFailed is.value) is.value failed refl
    by_call (inr late) = op_of operations enq (Enqueue is.value) is.value late.0 refl

-- the lines of a repeated-value violation have its value
pub repeat_lines : (operations : List Operation) (enq first second : Operation)
    (is : IsRepeatViolation (on operations) enq first second) → (o : Operation)
    → Contains (enq ∷ first ∷ second ∷ []) o → IsOpOf operations is.value o
repeat_lines operations enq first second is = each_of (IsOpOf operations is.value) (enq ∷ first ∷ second ∷ []) (
  op_of operations enq (Enqueue is.value) is.value is.enqueues refl,
  (
    op_of operations first (Dequeue is.value) is.value is.dequeues refl,
    (op_of operations second (Dequeue is.value) is.value is.dequeues_again refl, tt),
  ),
)

-- the operation is one of the operations, and has one of two values
abbrev pub IsOpOfTwo : List Operation → ℕ → ℕ → Operation → Type 0
IsOpOfTwo operations a b o = IsOpOf operations a o ⊎ IsOpOf operations b o

-- the operation is one of the operations, and has the value of a life
pub record IsOpOfLife (operations : List Operation) (cover : List Life) (o : Operation) : Type 0 where
  pub life : Life
  pub among : Contains cover life
  pub is_life : IsLife (on operations) life
  pub is_of : IsOpOf operations is_life.0 o

-- the lines of a life have its value
pub life_lines : (operations : List Operation) (life : Life) (is : IsLife (on operations) life) (o : Operation)
    → Contains (operations_of_life life) o
    → IsOpOf operations is.0 o
life_lines operations life is = each_of (IsOpOf operations is.0) (enqueue_of life ∷ option_to_list (dequeue_of life))
    (op_of operations (enqueue_of life) (Enqueue is.0) is.0 is.1 refl, dequeue (dequeue_of life) is.2)
  where
    dequeue : (d : Option Operation)
        → MatchOption d (NoneDid operations (Dequeue is.0)) (λ d. Did operations d (Dequeue is.0))
        → AllByRecursion (IsOpOf operations is.0) (option_to_list d)
    dequeue None none = tt
    dequeue (Some d) did = (op_of operations d (Dequeue is.0) is.0 did refl, tt)

-- the operations of both values are lines of an order violation
pub line_of_a : (a b : Life) (o : Operation) → Contains (operations_of_life a) o → Contains (lines_of (order a b)) o
line_of_a a b o at = elim (contains_cons (enqueue_of a) (option_to_list (dequeue_of a)) o at) [
  | inl same ↦ (zero, omega arith, same)
  | inr later ↦ one_deeper (enqueue_of a) (operations_of_life b ++ option_to_list (dequeue_of a)) o
      (Contains-append_right (operations_of_life b) (option_to_list (dequeue_of a)) o later)
]

pub line_of_b : (a b : Life) (o : Operation) → Contains (operations_of_life b) o → Contains (lines_of (order a b)) o
line_of_b a b o at = one_deeper (enqueue_of a) (operations_of_life b ++ option_to_list (dequeue_of a)) o
    (Contains-append_left (operations_of_life b) (option_to_list (dequeue_of a)) o at)

-- the lines of an order violation have one of its two values
pub order_lines : (operations : List Operation) (a b : Life) (is : IsOrderViolation (on operations) a b)
    (o : Operation) → Contains (lines_of (order a b)) o
    → IsOpOfTwo operations is.is_a.0 is.is_b.0 o
order_lines operations a b is o at = elim (contains_cons (enqueue_of a) (operations_of_life b ++ option_to_list (dequeue_of a)) o at) [
  | inl same ↦ inl (life_lines operations a is.is_a o (zero, omega arith, same))
  | inr later ↦ elim (Contains-append_cases (operations_of_life b) (option_to_list (dequeue_of a)) o later) [
    | inl of_b ↦ inr (life_lines operations b is.is_b o of_b)
    | inr of_a ↦ inl (life_lines operations a is.is_a o (one_deeper (enqueue_of a) (option_to_list (dequeue_of a)) o of_a))
  ]
]

-- the lines of a cover have its values
pub cover_lines : (operations : List Operation) (cover : List Life)
    → ((life : Life) → Contains cover life → IsLife (on operations) life)
    → (o : Operation) → Contains (flat_map operations_of_life cover) o → IsOpOfLife operations cover o
cover_lines operations cover lives o at =
    let found = from_flat_map operations_of_life cover o at in
    let is = lives found.0 found.1 in
    record { life = found.0; among = found.1; is_life = is; is_of = life_lines operations found.0 is o found.2 }

-- the values of a cover are lives
pub covered_lives : (operations : List Operation) (empty : Operation) (frontier : ℕ) (cover : List Life)
    → CoversFrom (on operations) empty frontier cover
    → (life : Life) → Contains cover life → IsLife (on operations) life
covered_lives operations empty frontier [] covers life among = absurd covers
covered_lives operations empty frontier (x ∷ []) covers life among = elim (contains_cons x [] life among) [
  | inl same ↦ subst (IsLife (on operations)) same covers.0
  | inr later ↦ absurd (not_in_none life later)
]
covered_lives operations empty frontier (x ∷ next ∷ rest) covers life among = elim (contains_cons x (next ∷ rest) life among) [
  | inl same ↦ subst (IsLife (on operations)) same covers.0
  | inr later ↦ covered_lives operations empty (dequeue_call x) (next ∷ rest) covers.3 life later
]

-- the lines of a violation are operations
pub lines_are_operations : (operations : List Operation) (full : FullViolation) → IsViolationOf (on operations) full
    → (o : Operation)
    → Contains (lines_of full) o → Contains operations o
lines_are_operations operations (fresh deq enq) is o at = ((fresh_lines operations deq enq is).1 o at).0
lines_are_operations operations (repeat enq first second) is o at = (repeat_lines operations enq first second is o at).0
lines_are_operations operations (order a b) is o at = elim (order_lines operations a b is o at) [ inl of_a ↦ of_a.0 | inr of_b ↦ of_b.0 ]
lines_are_operations operations (witness empty cover) is o at =
    elim (contains_cons empty (flat_map operations_of_life cover) o at) [
      | inl same ↦ subst (Contains operations) same is.answers_empty.0
      | inr later ↦ (cover_lines operations cover (covered_lives operations empty empty.call cover is.covers) o later).is_of.0
    ]

-- whether an operation with a value is selected depends on the value alone
pub selects_as_value : (values calls : ℕ → Bool) (o : Operation) (v : ℕ) → HasValue o v
    → selects values calls o ≡ values v
selects_as_value values calls o v is = ap (λ w. option_map_or values w (calls o.call)) is

-- an operation without a value is selected by its call
pub selects_as_call : (values calls : ℕ → Bool) (o : Operation) → value_of o.kind ≡ None
    → selects values calls o ≡ calls o.call
selects_as_call values calls o is = ap (λ w. option_map_or values w (calls o.call)) is

-- the line that an operation belongs to: one with its value, or the operation itself
pub record IsFor (lines : List Operation) (o line : Operation) : Type 0 where
  pub among : Contains lines line
  pub same_value : value_of line.kind ≡ value_of o.kind
  pub itself : value_of o.kind ≡ None → line ≡ o

-- each of the operations belongs to a line
abbrev pub AreFor : List Operation → List Operation → Type 0
AreFor lines operations = (o : Operation) → Contains operations o → (line : Operation) × IsFor lines o line
