-- An event packed into a few numbers.
use Rattle.std.specs.Prelude.{◌≡◌, ℕ, ◌+◌, ◌*◌, ◌/◌, ◌%◌, ◌<◌}
use Rattle.std.proofs.Common.{refl}
use Rattle.std.proofs.lemmas.Nat.{div-mul-add, mod-mul-add}
use Rattle.event_records.specs.declared.event.What.{What}
use Rattle.event_records.specs.declared.event.What.TheVariants.{CallEnq, RetEnq, RetNot, CallDeq, RetDeq, RetEmpty}
use Rattle.packed_events.specs.declared.packed.Tag.{Tag}
use Rattle.packed_events.specs.declared.packed.Tag.TheVariants as tag
use Rattle.packed_events.specs.declared.packed.TheConstants.{LOWER}

-- the kind of event by its tag and value
abbrev pub what_by : Tag → ℕ → What
what_by tag.CallEnq v = CallEnq v
what_by tag.RetEnq v = RetEnq
what_by tag.RetNot v = RetNot
what_by tag.CallDeq v = CallDeq
what_by tag.RetDeq v = RetDeq v
what_by tag.RetEmpty v = RetEmpty

-- the tag of a kind of event
abbrev pub tag_of : What → Tag
tag_of (CallEnq v) = tag.CallEnq
tag_of RetEnq = tag.RetEnq
tag_of RetNot = tag.RetNot
tag_of CallDeq = tag.CallDeq
tag_of (RetDeq v) = tag.RetDeq
tag_of RetEmpty = tag.RetEmpty

-- the value of a kind of event, or 0
abbrev pub value_of : What → ℕ
value_of (CallEnq v) = v
value_of (RetDeq v) = v
value_of _ = 0

-- two parts joined to a number
abbrev pub joined : ℕ → ℕ → ℕ
joined upper lower = upper * LOWER + lower

-- an event without a value has the number 0, and the lower part of the ticket is in range
pub record IsPacked (t : Tag) (value lower_ticket : ℕ) : Type 0 where
  pub no_value : value_of (what_by t value) ≡ value
  pub ticket : lower_ticket < LOWER

-- ---- packing loses nothing

pub back_upper : (upper lower : ℕ) → lower < LOWER → joined upper lower / LOWER ≡ upper
back_upper upper lower below = div-mul-add upper LOWER lower below

pub back_lower : (upper lower : ℕ) → lower < LOWER → joined upper lower % LOWER ≡ lower
back_lower upper lower below = mod-mul-add upper LOWER lower below

pub back_value : (t : Tag) (v : ℕ) → value_of (what_by t v) ≡ v → value_of (what_by t v) ≡ v
back_value t v same = same

pub back_tag : (t : Tag) (v : ℕ) → tag_of (what_by t v) ≡ t
back_tag tag.CallEnq v = refl
back_tag tag.RetEnq v = refl
back_tag tag.RetNot v = refl
back_tag tag.CallDeq v = refl
back_tag tag.RetDeq v = refl
back_tag tag.RetEmpty v = refl
