-- Lines that show a violation of a history. A line is an operation, or an initial value, which counts as enqueued
-- before all else.
use Rattle.std.specs.Prelude.{◌≡◌, ◌<◌, ◌⊎◌, ⊤, ℕ, List, [], ◌∷◌, Contains, Some, slice_get}
use Rattle.history_merge.specs.declared.operation.Operation.{Operation}
use Rattle.history_merge.specs.declared.operation.OpKind.{OpKind}
use Rattle.history_merge.specs.declared.operation.OpKind.TheVariants.{Enqueue, Dequeue, DequeueEmpty, EnqueueFailed}
use Rattle.history_merge.specs.Operations.{Did, Precedes}
use Rattle.claims.specs.declared.claimed.ClaimLine.{ClaimLine}
use Rattle.claims.specs.declared.claimed.ClaimLine.TheVariants.{Op, Initial}
use Rattle.claims.specs.declared.claimed.ViolationKind.{ViolationKind}
use Rattle.claims.specs.declared.claimed.ViolationKind.TheVariants.{VFresh, VOrd, VRepeat, VWit}

-- the line is an operation of this kind, or an initial value that this kind enqueues
abbrev pub LineDid : List ℕ → List Operation → ClaimLine → OpKind → Type 0
LineDid initial operations (Op o) kind = Did operations o kind
LineDid initial operations (Initial v) kind = Contains initial v × (kind ≡ Enqueue v)

-- no operation is of this kind, and no initial value is enqueued by it
abbrev pub NoLineDid : List ℕ → List Operation → OpKind → Type 0
NoLineDid initial operations kind = (line : ClaimLine) → ¬ (LineDid initial operations line kind)

-- the first value comes before the second
abbrev pub ComesBefore : List ℕ → ℕ → ℕ → Type 0
ComesBefore values v w = (i : ℕ) × (j : ℕ) × (i < j) × (slice_get values i ≡ Some v) × (slice_get values j ≡ Some w)

-- the order of lines: operations by their tickets, initial values before all operations, and among one another in
-- their order
abbrev pub LinePrecedes : List ℕ → ClaimLine → ClaimLine → Type 0
LinePrecedes initial (Op x) (Op y) = Precedes x y
LinePrecedes initial (Op x) (Initial w) = ⊥
LinePrecedes initial (Initial v) (Op y) = ⊤
LinePrecedes initial (Initial v) (Initial w) = ComesBefore initial v w

-- both are operations, and the first returned first
abbrev pub ReturnsFirst : ClaimLine → ClaimLine → Type 0
ReturnsFirst (Op x) (Op y) = x.ret < y.ret
ReturnsFirst _ _ = ⊥

-- a phantom dequeue, with the call to enqueue its value, successful or failed, if the history has one
abbrev pub ShowsFresh : List ℕ → List Operation → List ClaimLine → Type 0
ShowsFresh initial operations (deq ∷ []) =
    (v : ℕ) × LineDid initial operations deq (Dequeue v) × NoLineDid initial operations (Enqueue v)
    × NoLineDid initial operations (EnqueueFailed v)
ShowsFresh initial operations (deq ∷ enq ∷ []) = (v : ℕ) × LineDid initial operations deq (Dequeue v)
    × (LineDid initial operations enq (EnqueueFailed v)
    ⊎ (LineDid initial operations enq (Enqueue v) × LinePrecedes initial deq enq))
ShowsFresh initial operations _ = ⊥

-- a successful enqueue, and two dequeues of its value in the order of their returns
abbrev pub ShowsRepeat : List ℕ → List Operation → List ClaimLine → Type 0
ShowsRepeat initial operations (enq ∷ first ∷ second ∷ []) = (v : ℕ) × LineDid initial operations enq (Enqueue v)
    × LineDid initial operations first (Dequeue v) × LineDid initial operations second (Dequeue v)
    × ReturnsFirst first second
ShowsRepeat initial operations _ = ⊥

-- the value's dequeue, which the given line precedes; or no line, if the value is never dequeued
abbrev pub LeavesAfter : List ℕ → List Operation → ClaimLine → ℕ → List ClaimLine → Type 0
LeavesAfter initial operations line v [] = NoLineDid initial operations (Dequeue v)
LeavesAfter initial operations line v (deq ∷ []) = LineDid initial operations deq (Dequeue v)
    × LinePrecedes initial line deq
LeavesAfter initial operations line v _ = ⊥

-- the enqueue of a, the later enqueue of b, the dequeue of b, and the dequeue of a after it, if there is one
abbrev pub ShowsOrder : List ℕ → List Operation → List ClaimLine → Type 0
ShowsOrder initial operations (enq_a ∷ enq_b ∷ deq_b ∷ deq_a) = (a : ℕ) × (b : ℕ)
    × LineDid initial operations enq_a (Enqueue a)
    × LineDid initial operations enq_b (Enqueue b) × LineDid initial operations deq_b (Dequeue b)
    × LinePrecedes initial enq_a enq_b
    × LeavesAfter initial operations deq_b a deq_a
ShowsOrder initial operations _ = ⊥

-- the line `enq` enqueues the value, and precedes the other
abbrev pub EnqueuedBefore : List ℕ → List Operation → ClaimLine → ClaimLine → ℕ → Type 0
EnqueuedBefore initial operations line enq v = LineDid initial operations enq (Enqueue v)
    × LinePrecedes initial enq line

-- the first value is enqueued before the given line; each value but the last is dequeued, and the next one is
-- enqueued before that; the last value is dequeued after the empty dequeue, or never
abbrev pub LinesCover : List ℕ → List Operation → ClaimLine → ClaimLine → List ClaimLine → Type 0
LinesCover initial operations empty line [] = ⊥
LinesCover initial operations empty line (enq ∷ []) =
    (v : ℕ) × EnqueuedBefore initial operations line enq v × LeavesAfter initial operations empty v []
LinesCover initial operations empty line (enq ∷ deq ∷ []) =
    (v : ℕ) × EnqueuedBefore initial operations line enq v × LeavesAfter initial operations empty v (deq ∷ [])
LinesCover initial operations empty line (enq ∷ deq ∷ next ∷ rest) =
    (v : ℕ) × EnqueuedBefore initial operations line enq v × LineDid initial operations deq (Dequeue v)
    × LinesCover initial operations empty deq (next ∷ rest)

-- an empty dequeue, and values of which one or another was in the queue all the time
abbrev pub ShowsWitness : List ℕ → List Operation → List ClaimLine → Type 0
ShowsWitness initial operations [] = ⊥
ShowsWitness initial operations (empty ∷ cover) = LineDid initial operations empty DequeueEmpty
    × LinesCover initial operations empty empty cover

-- the lines show a violation of this kind
abbrev pub Shows : List ℕ → List Operation → ViolationKind → List ClaimLine → Type 0
Shows initial operations VFresh lines = ShowsFresh initial operations lines
Shows initial operations VRepeat lines = ShowsRepeat initial operations lines
Shows initial operations VOrd lines = ShowsOrder initial operations lines
Shows initial operations VWit lines = ShowsWitness initial operations lines
