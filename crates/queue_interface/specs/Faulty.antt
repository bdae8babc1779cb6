-- Lists that break the order at each 4th of the calls that they count.
use Rattle.std.specs.Prelude.{◌≡◌, ◌≢◌, ℕ, ◌+◌, ◌%◌, ◌^◌, List, [], ◌∷◌, ◌++◌, Option, None, if◌then◌else◌, Bool, true}
use Rattle.std.specs.Prelude.{IfNone, slice_get}
use Rattle.std.specs.Option.{option_to_list}

-- the next number of a count of 64 bits
abbrev pub next : ℕ → ℕ
next n = (n + 1) % 2 ^ 64

-- the values of a list, the first one first, and how many calls it has counted
pub record CountedView : Type 0 where
  pub values : List ℕ
  pub count : ℕ

-- such a list, and how many values it has made up
pub record InventingView : Type 0 where
  pub list : CountedView
  pub invented : ℕ

-- the value that is made up after this many: from 2^63 on, one after another
abbrev pub invention : ℕ → ℕ
invention before = (2 ^ 63 + before) % 2 ^ 64

-- one more call is counted
abbrev pub CountsCall : CountedView → CountedView → Type 0
CountsCall old new = new.count ≡ next old.count

-- the call that was counted last is a fourth one
abbrev pub IsFourth : CountedView → Type 0
IsFourth list = list.count % 4 ≡ 0

-- the value is appended if it is taken, otherwise nothing changes
abbrev pub PutsLast : List ℕ → ℕ → Bool → List ℕ → Type 0
PutsLast old value taken new = new ≡ (if taken then old ++ value ∷ [] else old)

-- the first value is given out if there is one
pub record TakesFirst (old : List ℕ) (got : Option ℕ) (new : List ℕ) : Type 0 where
  pub first : old ≡ option_to_list got ++ new
  pub none : IfNone got (old ≡ [])

-- the value is appended if it is taken, and nothing is counted
pub record PutsUncounted (old : CountedView) (value : ℕ) (taken : Bool) (new : CountedView) : Type 0 where
  pub last : PutsLast old.values value taken new.values
  pub uncounted : new.count ≡ old.count

-- the first value is given out if there is one, and nothing is counted
pub record TakesUncounted (old : CountedView) (got : Option ℕ) (new : CountedView) : Type 0 where
  pub first : TakesFirst old.values got new.values
  pub uncounted : new.count ≡ old.count

-- enqueues are counted, and the value of a fourth one is lost
pub record PutsOrLoses (old : CountedView) (value : ℕ) (taken : Bool) (new : CountedView) : Type 0 where
  pub counted : CountsCall old new
  pub lost : IsFourth new → (taken ≡ true) × (new.values ≡ old.values)
  pub last : ¬ (IsFourth new) → PutsLast old.values value taken new.values

-- dequeues of a list with values are counted, and a fourth one leaves its value there
pub record TakesOrDoubles (old : CountedView) (got : Option ℕ) (new : CountedView) : Type 0 where
  pub nothing : old.values ≡ [] → (got ≡ None) × (new ≡ old)
  pub counted : old.values ≢ [] → CountsCall old new
  pub doubled : old.values ≢ [] → IsFourth new → (got ≡ slice_get old.values 0) × (new.values ≡ old.values)
  pub first : old.values ≢ [] → ¬ (IsFourth new) → TakesFirst old.values got new.values

-- dequeues are counted, and a fourth one gives out nothing
pub record TakesOrShies (old : CountedView) (got : Option ℕ) (new : CountedView) : Type 0 where
  pub counted : CountsCall old new
  pub shy : IsFourth new → (got ≡ None) × (new.values ≡ old.values)
  pub first : ¬ (IsFourth new) → TakesFirst old.values got new.values
