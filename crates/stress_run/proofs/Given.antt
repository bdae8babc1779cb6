-- A crew in which each worker has the ends of its row.
use Rattle.std.proofs.Common.{◌≡◌, ℕ, ◌+◌, ◌<◌, ◌≤◌, ◌⊎◌, inl, inr, List, [], ◌∷◌, ◌++◌, length, All, Contains}
use Rattle.std.proofs.Common.{Option, None, refl, ap, sym, subst, ◌∙◌, arith, get_or, take, add-one}
use Rattle.std.proofs.Math.Seq.{take-suc}
use Rattle.std.proofs.lemmas.List.{get_or_default, get_or_read, take_all}
use Rattle.std.specs.List.{AllZip}
use Rattle.atomic_table.specs.Seated.{TableId}
use Rattle.event_records.specs.declared.kind.Kind.{Kind}
use Rattle.event_records.specs.declared.kind.Kind.TheVariants.{Enq, Deq}
use Rattle.history_merge.proofs.Lists.{one_more_zipped}
use Rattle.stress_run.specs.Ends.{EndsView, end_for, no_ends}
use Rattle.stress_run.specs.Inner.Crew.{HasItsEnds}
use Rattle.stress_run.specs.Roles.{HasOneOfEach}
use Rattle.stress_run.specs.Workers.{WorkerView}

-- the ends that serve for a row still serve for its next operation if they are the same
pub still_serves : (serves : Option TableId → Type 0) (kinds : List Kind) (ends ends' : EndsView) (i : ℕ) (d : Kind) → i < length kinds
    → All (λ kind. serves (end_for kind ends)) kinds → ends' ≡ ends → serves (end_for (get_or kinds i d) ends')
still_serves serves kinds ends ends' i d inside served same = subst (λ (e : EndsView). serves (end_for (get_or kinds i d) e)) (sym same) (served i d inside)

-- a row before this place has an operation of this kind
abbrev IsBefore : List (List Kind) → ℕ → Kind → Type 0
IsBefore rows place kind = (i : ℕ) × (i < place) × Contains (get_or rows i []) kind

-- the workers of the first rows have their ends, and each end is left or was given for an earlier row
pub record IsGiving (all : EndsView) (rows : List (List Kind)) (place : ℕ) (left : EndsView) (workers : List WorkerView) : Type 0 where
  pub given : AllZip (HasItsEnds all) (take place rows) workers
  pub left_is : (kind : Kind) → (end_for kind left ≡ end_for kind all) ⊎ ((end_for kind left ≡ None) × IsBefore rows place kind)

-- before the first worker is made
pub given_none : (all : EndsView) (rows : List (List Kind)) (workers : List WorkerView) → workers ≡ [] → IsGiving all rows 0 all workers
given_none all rows workers none = record {
  given = subst (AllZip (HasItsEnds all) []) (sym none) tt;
  left_is = λ kind. inl refl;
}

-- after the last worker is made
pub given_all : (all : EndsView) (rows : List (List Kind)) (place : ℕ) (left : EndsView) (workers : List WorkerView) → length rows ≤ place
    → IsGiving all rows place left workers → AllZip (HasItsEnds all) rows workers
given_all all rows place left workers past p = subst (λ (rs : List (List Kind)). AllZip (HasItsEnds all) rs workers) (take_all place rows past) p.given

none_for : (kind : Kind) → end_for kind no_ends ≡ None
none_for Enq = refl
none_for Deq = refl

module _ (all : EndsView) (rows : List (List Kind)) (roles : (all ≡ no_ends) ⊎ HasOneOfEach rows) (place : ℕ) (inside : place < length rows) (left : EndsView)
    (workers : List WorkerView) (p : IsGiving all rows place left workers) (row : List Kind) (is : row ≡ get_or rows place row) where
  here : row ≡ get_or rows place []
  here = get_or_read rows place row inside is []

  -- the next row finds the ends that it needs
  still_there : (kind : Kind) → Contains row kind → end_for kind left ≡ end_for kind all
  still_there kind among = elim (p.left_is kind) [
    | inl same ↦ same
    | inr gone ↦ elim roles [
      | inl none ↦ gone.0 ∙ sym (ap (end_for kind) none ∙ none_for kind)
      | inr one ↦ absurd (one kind gone.1.0 place [] gone.1.1 inside gone.1.2 (subst (λ (r : List Kind). Contains r kind) here among))
    ]
  ]

  -- after one more worker is made, which took the ends of its row
  pub given_more : (own left' : EndsView) (w : WorkerView) (workers' : List WorkerView) → All (λ kind. end_for kind own ≡ end_for kind left) row
      → ((kind : Kind) → (end_for kind left' ≡ end_for kind left) ⊎ ((end_for kind left' ≡ None) × Contains row kind))
      → w.ends ≡ own → workers' ≡ workers ++ w ∷ []
      → IsGiving all rows (place + 1) left' workers'
  given_more own left' w workers' took leaves has more = record {
    given = subst (AllZip (HasItsEnds all) (take (place + 1) rows)) (sym more)
        (subst (λ (rs : List (List Kind)). AllZip (HasItsEnds all) rs (workers ++ w ∷ [])) (sym taken)
        (one_more_zipped (HasItsEnds all) (take place rows) workers row w p.given its));
    left_is = λ kind. elim (leaves kind) [
      | inl same ↦ elim (p.left_is kind) [
        | inl there ↦ inl (same ∙ there)
        | inr gone ↦ inr (same ∙ gone.0, (gone.1.0, omega (arith, gone.1.1), gone.1.2))
      ]
      | inr gone ↦ inr (gone.0, (place, omega arith, subst (λ (r : List Kind). Contains r kind) here gone.1))
    ];
  }
    where
      taken : take (place + 1) rows ≡ take place rows ++ row ∷ []
      taken = ap (λ (n : ℕ). take n rows) (add-one place) ∙ take-suc rows place row inside ∙ ap (λ (r : List Kind). take place rows ++ r ∷ []) (sym is)

      its : HasItsEnds all row w
      its k d h =
          let kind = get_or row k d in
          ap (end_for kind) has ∙ took k d h ∙ still_there kind (k, h, get_or_default row k kind d h)
