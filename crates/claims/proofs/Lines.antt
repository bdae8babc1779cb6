-- The lines of a claim that is evidence are of the history, and a line of a history is of an operation or initial
-- value of it.
use Rattle.std.proofs.Common.{◌≡◌, ℕ, List, [], ◌∷◌, Contains, inl, inr, map, subst}
use Rattle.std.proofs.lemmas.List.Elements.{All-contains, All-from_recursion, Contains-append_cases}
use Rattle.std.proofs.lemmas.List.Elements.{Contains-append_left, Contains-append_right}
use Rattle.std.specs.List.{AllByRecursion}
use Rattle.history_merge.specs.declared.operation.OpKind.{OpKind}
use Rattle.history_merge.specs.declared.operation.OpKind.TheVariants.{Dequeue, DequeueEmpty, Enqueue, EnqueueFailed}
use Rattle.history_merge.specs.declared.operation.Operation.{Operation}
use Rattle.history_merge.proofs.Lists.{mapped_from, mapped_to}
use Rattle.claims.specs.declared.claimed.ClaimLine.{ClaimLine}
use Rattle.claims.specs.declared.claimed.ClaimLine.TheVariants.{Initial, Op}
use Rattle.claims.specs.declared.claimed.ViolationKind.{ViolationKind}
use Rattle.claims.specs.declared.claimed.ViolationKind.TheVariants.{VFresh, VOrd, VRepeat, VWit}
use Rattle.claims.specs.Claiming.{lines_of_history}
use Rattle.claims.specs.Showing.{LeavesAfter, LineDid, LinesCover, Shows}

module _ (initial : List ℕ) (operations : List Operation) where
  abbrev IsThere : ClaimLine → Type 0
  IsThere l = Contains (lines_of_history initial operations) l

  line_there : (l : ClaimLine) (kind : OpKind) → LineDid initial operations l kind → IsThere l
  line_there (Op o) kind did = Contains-append_right (map Initial initial) (map Op operations) (Op o) (mapped_to Op operations o did.0)
  line_there (Initial v) kind did = Contains-append_left (map Initial initial) (map Op operations) (Initial v) (mapped_to Initial initial v did.0)

  leaves_there : (line : ClaimLine) (v : ℕ) (lines : List ClaimLine) → LeavesAfter initial operations line v lines
      → AllByRecursion IsThere lines
  leaves_there line v [] leaves = tt
  leaves_there line v (l ∷ []) leaves = (line_there l (Dequeue v) leaves.0, tt)
  leaves_there line v (l ∷ m ∷ lines) leaves = absurd leaves

  cover_there : (empty line : ClaimLine) (lines : List ClaimLine) → LinesCover initial operations empty line lines
      → AllByRecursion IsThere lines
  cover_there empty line [] covers = absurd covers
  cover_there empty line (l ∷ []) (v, enters, leaves) = (line_there l (Enqueue v) enters.0, tt)
  cover_there empty line (l ∷ m ∷ []) (v, enters, leaves) = (line_there l (Enqueue v) enters.0, leaves_there empty v (m ∷ []) leaves)
  cover_there empty line (l ∷ m ∷ n ∷ lines) (v, enters, did, covers) =
      (line_there l (Enqueue v) enters.0, (line_there m (Dequeue v) did, cover_there empty m (n ∷ lines) covers))

  all_there : (kind : ViolationKind) (lines : List ClaimLine) → Shows initial operations kind lines
      → AllByRecursion IsThere lines
  all_there VFresh (l ∷ []) (v, did, not_accepted, not_refused) = (line_there l (Dequeue v) did, tt)
  all_there VFresh (l ∷ m ∷ []) (v, did, inl refused) = (line_there l (Dequeue v) did, (line_there m (EnqueueFailed v) refused, tt))
  all_there VFresh (l ∷ m ∷ []) (v, did, inr late) = (line_there l (Dequeue v) did, (line_there m (Enqueue v) late.0, tt))
  all_there VRepeat (l ∷ m ∷ n ∷ []) (v, put_in, taken, again, in_order) =
      (line_there l (Enqueue v) put_in, (line_there m (Dequeue v) taken, (line_there n (Dequeue v) again, tt)))
  all_there VOrd (l ∷ m ∷ n ∷ rest) (v, w, put_in, put_in', taken, before, leaves) =
      (line_there l (Enqueue v) put_in, (line_there m (Enqueue w) put_in', (line_there n (Dequeue w) taken, leaves_there n v rest leaves)))
  all_there VWit (l ∷ lines) (found, covers) = (line_there l DequeueEmpty found, cover_there l l lines covers)
  all_there _ _ shows = absurd shows

  pub each_there : (kind : ViolationKind) (lines : List ClaimLine) → Shows initial operations kind lines
      → (l : ClaimLine) → Contains lines l → IsThere l
  each_there kind lines shows l among = All-contains IsThere lines l (All-from_recursion IsThere lines (all_there kind lines shows)) among

-- ---- a line of the history

-- a line of an initial value in a history is of one of its own
pub value_among : (initial : List ℕ) (operations : List Operation) (v : ℕ)
    → Contains (lines_of_history initial operations) (Initial v) → Contains initial v
value_among initial operations v among = elim (Contains-append_cases (map Initial initial) (map Op operations) (Initial v) among) [
  | inl here ↦
      let found = mapped_from Initial initial (Initial v) here in
      let same : Initial found.0 ≡ Initial v = found.2 in
      let one : found.0 ≡ v = cc in
      subst (Contains initial) one found.1
  | inr there ↦ let found = mapped_from Op operations (Initial v) there in let clash : Op found.0 ≡ Initial v = found.2 in cc
]

pub operation_among : (initial : List ℕ) (operations : List Operation) (o : Operation)
    → Contains (lines_of_history initial operations) (Op o)
    → Contains operations o
operation_among initial operations o among = elim (Contains-append_cases (map Initial initial) (map Op operations) (Op o) among) [
  | inl here ↦ let found = mapped_from Initial initial (Op o) here in let clash : Initial found.0 ≡ Op o = found.2 in cc
  | inr there ↦
      let found = mapped_from Op operations (Op o) there in
      let same : Op found.0 ≡ Op o = found.2 in
      let one : found.0 ≡ o = cc in
      subst (Contains operations) one found.1
]
