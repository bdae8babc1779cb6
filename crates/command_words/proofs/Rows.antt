-- Rows of matches, each with a first value that passed a test by the row's id.
use Rattle.std.proofs.Common.{◌≡◌, ◌⊎◌, inl, inr, ◌||◌, ◌++◌, Bool, true, false, List, [], ◌∷◌, Some, refl, subst}
use Rattle.std.specs.Prelude.{⊤, IsSomeAnd, find, slice_get, if◌then◌else◌, option_and_then, fold}
use Rattle.std.specs.Option.{option_map_or}
use Rattle.std.specs.Str.{bytes_eq}
use Rattle.std.proofs.lemmas.Slice.Eq.{bytes_eq-Decides}
use Rattle.clap.specs.Facts.{explicit_source}
use Rattle.clap.specs.Takes.{is_given}
use Rattle.clap.specs.Walk.{Row, Rule, Text, at_row, default_rows, first_of, has_row, more_values, reading_by, with_default, with_values, without}
use Rattle.clap.specs.declared.builder.value_parser.Reading.{Reading}
use Rattle.clap.specs.declared.parser.matches.ValueSource.{ValueSource}
use Rattle.clap.specs.declared.parser.matches.ValueSource.TheVariants.{CommandLine, DefaultValue}

same_bytes : (a b : Text) → bytes_eq a b ≡ true → a ≡ b
same_bytes a b e = (bytes_eq-Decides a b).0 e

own_bytes : (a : Text) → bytes_eq a a ≡ true
own_bytes a = (bytes_eq-Decides a a).1 refl

either : (a b : Bool) → b ≡ true → (a || b) ≡ true
either true b e = refl
either false b e = e

-- ---- the first value of each row passes

module _ (test : Text → Text → Bool) where
  -- there is a first value, and it passes the test of the id
  abbrev pub FirstPasses : Text → List Text → Type 0
  FirstPasses id [] = ⊥
  FirstPasses id (v ∷ vs) = test id v ≡ true

  abbrev pub RowsPass : List Row → Type 0
  RowsPass [] = ⊤
  RowsPass (r ∷ rs) = FirstPasses r.id r.values × RowsPass rs

  rows_append : (xs ys : List Row) → RowsPass xs → RowsPass ys → RowsPass (xs ++ ys)
  rows_append [] ys p q = q
  rows_append (x ∷ xs) ys p q = (p.0, rows_append xs ys p.1 q)

  still_first : (id : Text) (values more : List Text) → FirstPasses id values → FirstPasses id (values ++ more)
  still_first id [] more p = absurd p
  still_first id (v ∷ vs) more p = p

  at_row_passes : (name : Text) (change : Row → List Row) (missing rows : List Row) → ((r : Row) → FirstPasses r.id r.values → RowsPass (change r))
      → RowsPass missing
      → RowsPass rows → RowsPass (at_row name change missing rows)
  at_row_passes name change missing [] f m p = m
  at_row_passes name change missing (r ∷ rs) f m p = go (bytes_eq r.id name) (at_row_passes name change missing rs f m p.1)
    where
      go : (b : Bool) → RowsPass (at_row name change missing rs) → RowsPass (if b then change r ++ rs else r ∷ at_row name change missing rs)
      go true rest = rows_append (change r) rs (f r p.0) p.1
      go false rest = (p.0, rest)

  without_passes : (name : Text) (rows : List Row) → RowsPass rows → RowsPass (without name rows)
  without_passes name rows p = at_row_passes name (λ _. []) [] rows (λ r q. tt) tt p

  -- values whose first one passes leave rows that pass
  pub with_values_passes : (name : Text) (how : Reading) (s : ValueSource) (values : List Text) (rows : List Row) → FirstPasses name values → RowsPass rows
      → RowsPass (with_values name how s values rows)
  with_values_passes name how s values rows f p = at_row_passes name (more_values s values) _ rows (λ r q. (still_first r.id r.values values q, tt)) (f, tt) p

  -- a use that sets the values of an option
  pub set_passes : (name : Text) (how : Reading) (values : List Text) (rows : List Row) → FirstPasses name values → RowsPass rows
      → RowsPass (with_values name how CommandLine values (without name rows))
  set_passes name how values rows f p = with_values_passes name how CommandLine values (without name rows) f (without_passes name rows p)

  -- ---- defaults

  -- the rule has no default, or one that passes
  abbrev pub DefaultPasses : Text → List Text → Type 0
  DefaultPasses id [] = ⊤
  DefaultPasses id (v ∷ vs) = test id v ≡ true

  abbrev pub DefaultsPass : List Rule → Type 0
  DefaultsPass [] = ⊤
  DefaultsPass (a ∷ rules) = DefaultPasses a.id a.defaults × DefaultsPass rules

  default_rows_pass : (id : Text) (how : Reading) (values : List Text) (rows : List Row) → DefaultPasses id values → RowsPass rows
      → RowsPass (default_rows id how values rows)
  default_rows_pass id how [] rows d p = p
  default_rows_pass id how (v ∷ vs) rows d p = with_values_passes id how DefaultValue (v ∷ vs) rows d p

  with_default_passes : (rows : List Row) (a : Rule) → DefaultPasses a.id a.defaults → RowsPass rows → RowsPass (with_default rows a)
  with_default_passes rows a d p = go (has_row a.id rows)
    where
      go : (b : Bool) → RowsPass (if b then rows else default_rows a.id (reading_by a) a.defaults rows)
      go true = p
      go false = default_rows_pass a.id (reading_by a) a.defaults rows d p

  -- rows that pass still pass with the defaults of their rules
  pub defaults_pass : (rules : List Rule) (rows : List Row) → DefaultsPass rules → RowsPass rows → RowsPass (fold with_default rows rules)
  defaults_pass [] rows d p = p
  defaults_pass (a ∷ rules) rows d p = defaults_pass rules (with_default rows a) d.1 (with_default_passes rows a d.0 p)

  -- ---- reading rows

  first_value_passes : (id : Text) (values : List Text) → FirstPasses id values → IsSomeAnd (slice_get values 0) (λ v. test id v ≡ true)
  first_value_passes id [] p = absurd p
  first_value_passes id (v ∷ vs) p = p

  -- an id that has a row has a first value, which passes
  pub first_of_passes : (id : Text) (rows : List Row) → has_row id rows ≡ true → RowsPass rows → IsSomeAnd (first_of id rows) (λ v. test id v ≡ true)
  first_of_passes id [] has p = cc
  first_of_passes id (r ∷ rs) has p = go (bytes_eq r.id id) refl has (λ h. first_of_passes id rs h p.1)
    where
      go : (b : Bool) → bytes_eq r.id id ≡ b → (b || has_row id rs) ≡ true → (has_row id rs ≡ true → IsSomeAnd (first_of id rs) (λ v. test id v ≡ true))
          → IsSomeAnd (option_and_then (λ x. slice_get x.values 0) (if b then Some r else find (λ x. bytes_eq x.id id) rs)) (λ v. test id v ≡ true)
      go true e h rest = subst (λ (k : Text). IsSomeAnd (slice_get r.values 0) (λ v. test k v ≡ true)) (same_bytes r.id id e)
          (first_value_passes r.id r.values p.0)
      go false e h rest = rest h

-- ---- ids that have a row

has_own : (name : Text) (how : Reading) (s : ValueSource) (values : List Text) (rows : List Row) → has_row name (with_values name how s values rows) ≡ true
has_own name how s values [] = rw (own_bytes name) refl
has_own name how s values (r ∷ rs) = go (bytes_eq r.id name) refl (has_own name how s values rs)
  where
    go : (b : Bool) → bytes_eq r.id name ≡ b → has_row name (with_values name how s values rs) ≡ true
        → has_row name (if b then more_values s values r ++ rs else r ∷ with_values name how s values rs) ≡ true
    go true e rest = rw e refl
    go false e rest = either (bytes_eq r.id name) _ rest

has_kept : (id name : Text) (how : Reading) (s : ValueSource) (values : List Text) (rows : List Row) → has_row id rows ≡ true
    → has_row id (with_values name how s values rows) ≡ true
has_kept id name how s values [] h = cc
has_kept id name how s values (r ∷ rs) h = go (bytes_eq r.id name) (bytes_eq r.id id) refl h (λ p. has_kept id name how s values rs p)
  where
    go : (b k : Bool) → bytes_eq r.id id ≡ k → (k || has_row id rs) ≡ true → (has_row id rs ≡ true → has_row id (with_values name how s values rs) ≡ true)
        → has_row id (if b then more_values s values r ++ rs else r ∷ with_values name how s values rs) ≡ true
    go true k e p rest = rw e p
    go false true e p rest = rw e refl
    go false false e p rest = rw e (rest p)

default_kept : (id name : Text) (how : Reading) (values : List Text) (rows : List Row) → has_row id rows ≡ true
    → has_row id (default_rows name how values rows) ≡ true
default_kept id name how [] rows h = h
default_kept id name how (v ∷ vs) rows h = has_kept id name how DefaultValue (v ∷ vs) rows h

with_default_kept : (id : Text) (rows : List Row) (a : Rule) → has_row id rows ≡ true → has_row id (with_default rows a) ≡ true
with_default_kept id rows a h = go (has_row a.id rows)
  where
    go : (b : Bool) → has_row id (if b then rows else default_rows a.id (reading_by a) a.defaults rows) ≡ true
    go true = h
    go false = default_kept id a.id (reading_by a) a.defaults rows h

defaults_kept : (id : Text) (rules : List Rule) (rows : List Row) → has_row id rows ≡ true → has_row id (fold with_default rows rules) ≡ true
defaults_kept id [] rows h = h
defaults_kept id (a ∷ rules) rows h = defaults_kept id rules (with_default rows a) (with_default_kept id rows a h)

-- a row with values
abbrev pub IsNonempty : List Text → Type 0
IsNonempty [] = ⊥
IsNonempty (v ∷ vs) = ⊤

-- a rule of the list has this id, and a default
abbrev pub HasDefault : Text → List Rule → Type 0
HasDefault id [] = ⊥
HasDefault id (a ∷ rules) = ((a.id ≡ id) × IsNonempty a.defaults) ⊎ HasDefault id rules

default_added : (name : Text) (how : Reading) (values : List Text) (rows : List Row) → IsNonempty values
    → has_row name (default_rows name how values rows) ≡ true
default_added name how [] rows d = absurd d
default_added name how (v ∷ vs) rows d = has_own name how DefaultValue (v ∷ vs) rows

with_default_added : (rows : List Row) (a : Rule) → IsNonempty a.defaults → has_row a.id (with_default rows a) ≡ true
with_default_added rows a d = go (has_row a.id rows) refl
  where
    go : (b : Bool) → has_row a.id rows ≡ b → has_row a.id (if b then rows else default_rows a.id (reading_by a) a.defaults rows) ≡ true
    go true e = e
    go false e = default_added a.id (reading_by a) a.defaults rows d

-- after all arguments a rule with a default has a row
pub has_default : (id : Text) (rules : List Rule) (rows : List Row) → HasDefault id rules → has_row id (fold with_default rows rules) ≡ true
has_default id [] rows d = absurd d
has_default id (a ∷ rules) rows d = elim d [
  | inl here ↦ defaults_kept id rules (with_default rows a) (subst (λ (k : Text). has_row k (with_default rows a) ≡ true) here.0
      (with_default_added rows a here.1))
  | inr there ↦ has_default id rules (with_default rows a) there
]

-- an option that was given has a row
pub given_has_row : (id : Text) (rows : List Row) → is_given id rows ≡ true → has_row id rows ≡ true
given_has_row id [] g = cc
given_has_row id (r ∷ rs) g = go (bytes_eq r.id id) refl g (λ h. given_has_row id rs h)
  where
    go : (b : Bool) → bytes_eq r.id id ≡ b → option_map_or (λ x. explicit_source x.source) (if b then Some r else find (λ x. bytes_eq x.id id) rs) false ≡ true
        → (is_given id rs ≡ true → has_row id rs ≡ true) → has_row id (r ∷ rs) ≡ true
    go true e h rest = rw e refl
    go false e h rest = either (bytes_eq r.id id) _ (rest h)
