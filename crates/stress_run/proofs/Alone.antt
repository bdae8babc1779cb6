-- The rows of a plan that have an operation of a kind.
use Rattle.std.proofs.Common.{◌≡◌, ℕ, ◌+◌, ◌<◌, ◌≤◌, ◌⊎◌, Bool, true, false, List, [], length, Contains}
use Rattle.std.proofs.Common.{get_or, ap, sym, subst, ◌∙◌, arith, inl, inr}
use Rattle.std.proofs.lemmas.Bool.{false≢true, cases_lt}
use Rattle.std.proofs.lemmas.List.{get_or_default, get_or_read}
use Rattle.event_records.specs.declared.kind.Kind.{Kind}
use Rattle.event_records.specs.declared.kind.Kind.TheVariants.{Enq, Deq}
use Rattle.stress_run.specs.Roles.{AtMostOneHas, HasOneOfEach}

-- at most one of the first rows has an operation of this kind, and `found` says whether one has
pub record IsAlone (kind : Kind) (rows : List (List Kind)) (count : ℕ) (found : Bool) : Type 0 where
  pub one : (i j : ℕ) → i < j → j < count → Contains (get_or rows i []) kind → Contains (get_or rows j []) kind → ⊥
  pub has : found ≡ true → (i : ℕ) × (i < count) × Contains (get_or rows i []) kind
  pub none : found ≡ false → (i : ℕ) → i < count → Contains (get_or rows i []) kind → ⊥

-- before the first row
pub alone_none : (kind : Kind) (rows : List (List Kind)) → IsAlone kind rows 0 false
alone_none kind rows = record { one = λ i j before below. absurd (omega (arith, below)); has = λ e. absurd (false≢true e); none = λ e i below. absurd (omega (arith, below)) }

-- after the last row
pub alone_all : (kind : Kind) (rows : List (List Kind)) (count : ℕ) (found : Bool) → length rows ≤ count → IsAlone kind rows count found → AtMostOneHas kind rows
alone_all kind rows count found past p i j d before below first second =
    p.one i j before (omega (arith, past, below)) (subst (λ (r : List Kind). Contains r kind) (get_or_default rows i d [] (omega (arith, before, below))) first)
    (subst (λ (r : List Kind). Contains r kind) (get_or_default rows j d [] below) second)

module _ (kind : Kind) (rows : List (List Kind)) (place : ℕ) (inside : place < length rows) (row : List Kind) (is : row ≡ get_or rows place row) (found : Bool)
    (p : IsAlone kind rows place found) where
  at_place : Contains row kind → Contains (get_or rows place []) kind
  at_place among = subst (λ (r : List Kind). Contains r kind) (get_or_read rows place row inside is []) among

  from_place : (i : ℕ) → i ≡ place → Contains (get_or rows i []) kind → Contains row kind
  from_place i e among = subst (λ (r : List Kind). Contains r kind) (ap (λ (n : ℕ). get_or rows n []) e ∙ sym (get_or_read rows place row inside is [])) among

  -- the next row is the second one with such an operation
  pub alone_two : found ≡ true → Contains row kind → ¬ (AtMostOneHas kind rows)
  alone_two e among one = let first = p.has e in one first.0 place [] first.1 inside first.2 (at_place among)

  -- the next row is the first one with such an operation
  pub alone_first : found ≡ false → Contains row kind → IsAlone kind rows (place + 1) true
  alone_first e among = record {
    one = λ i j before below first second. p.none e i (omega (arith, before, below)) first;
    has = λ _. (place, omega arith, at_place among);
    none = λ e. absurd (false≢true (sym e));
  }

  -- the next row has no such operation
  pub alone_not : ¬ (Contains row kind) → IsAlone kind rows (place + 1) found
  alone_not not_among = record {
    one = λ i j before below first second.
        elim (before_or j below) [ inl less ↦ p.one i j before less first second | inr same ↦ not_among (from_place j same second) ];
    has = λ e. (let first = p.has e in (first.0, omega (arith, first.1), first.2));
    none = λ e i below among. elim (before_or i below) [ inl less ↦ p.none e i less among | inr same ↦ not_among (from_place i same among) ];
  }
    where
      before_or : (i : ℕ) → i < place + 1 → (i < place) ⊎ (i ≡ place)
      before_or i below = grind (arith, cases_lt)

-- a plan with one of each kind
pub one_of_each : (rows : List (List Kind)) → AtMostOneHas Enq rows → AtMostOneHas Deq rows → HasOneOfEach rows
one_of_each rows producer consumer Enq = producer
one_of_each rows producer consumer Deq = consumer
