-- An operation packed into a few numbers.
use Rattle.std.specs.Prelude.{◌≡◌, ℕ, ◌+◌, ◌*◌, ◌/◌, ◌%◌, ◌<◌}
use Rattle.std.proofs.Common.{refl, ap, ◌∙◌}
use Rattle.std.proofs.lemmas.Nat.{div-mul-add, mod-mul-add}
use Rattle.history_merge.specs.declared.operation.OpKind.{OpKind}
use Rattle.history_merge.specs.declared.operation.OpKind.TheVariants.{Enqueue, Dequeue, DequeueEmpty, EnqueueFailed}
use Rattle.history_merge.specs.declared.packed.Tag.{Tag}
use Rattle.history_merge.specs.declared.packed.Tag.TheVariants as tag
use Rattle.history_merge.specs.declared.packed.TheConstants.{LOWER}

-- the kind by its tag and value
abbrev pub kind_by : Tag → ℕ → OpKind
kind_by tag.Enq v = Enqueue v
kind_by tag.Deq v = Dequeue v
kind_by tag.Empty v = DequeueEmpty
kind_by tag.Not v = EnqueueFailed v

-- the tag of a kind
abbrev pub tag_of : OpKind → Tag
tag_of (Enqueue v) = tag.Enq
tag_of (Dequeue v) = tag.Deq
tag_of DequeueEmpty = tag.Empty
tag_of (EnqueueFailed v) = tag.Not

-- the value of a kind, or 0
abbrev pub value_of : OpKind → ℕ
value_of (Enqueue v) = v
value_of (Dequeue v) = v
value_of DequeueEmpty = 0
value_of (EnqueueFailed v) = v

-- two halves joined to a number
abbrev pub joined : ℕ → ℕ → ℕ
joined upper lower = upper * LOWER + lower

-- an operation without a value has the number 0, and lower halves are in range
pub record IsPacked (t : Tag) (upper_value lower_value lower_call lower_ret : ℕ) : Type 0 where
  pub no_value : value_of (kind_by t (joined upper_value lower_value)) ≡ joined upper_value lower_value
  pub value : lower_value < LOWER
  pub call : lower_call < LOWER
  pub ret : lower_ret < LOWER

-- ---- packing loses nothing

pub back_upper : (upper lower : ℕ) → lower < LOWER → joined upper lower / LOWER ≡ upper
back_upper upper lower below = div-mul-add upper LOWER lower below

pub back_lower : (upper lower : ℕ) → lower < LOWER → joined upper lower % LOWER ≡ lower
back_lower upper lower below = mod-mul-add upper LOWER lower below

pub back_upper_value : (t : Tag) (upper lower : ℕ) → value_of (kind_by t (joined upper lower)) ≡ joined upper lower
    → lower < LOWER
    → value_of (kind_by t (joined upper lower)) / LOWER ≡ upper
back_upper_value t upper lower same below = ap (λ v. v / LOWER) same ∙ back_upper upper lower below

pub back_lower_value : (t : Tag) (upper lower : ℕ) → value_of (kind_by t (joined upper lower)) ≡ joined upper lower
    → lower < LOWER
    → value_of (kind_by t (joined upper lower)) % LOWER ≡ lower
back_lower_value t upper lower same below = ap (λ v. v % LOWER) same ∙ back_lower upper lower below

pub back_tag : (t : Tag) (v : ℕ) → tag_of (kind_by t v) ≡ t
back_tag tag.Enq v = refl
back_tag tag.Deq v = refl
back_tag tag.Empty v = refl
back_tag tag.Not v = refl
