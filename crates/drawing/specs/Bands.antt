-- The bands beside the lanes of a `NO`: when a value was definitely in the queue, or definitely not, and the time
-- that contradicts it.
use Rattle.std.specs.Prelude.{ℕ, ◌+◌, ◌&&◌, ◌||◌, not, is_some, if◌then◌else◌, Bool, nat_lt, nat_le}
use Rattle.std.specs.Prelude.{Option, Some, None, option_and_then, slice_get, List, [], ◌∷◌, ◌++◌, codes}
use Rattle.std.specs.List.{concat}
use Rattle.history_merge.specs.declared.operation.OpKind.{OpKind}
use Rattle.history_merge.specs.declared.operation.OpKind.TheVariants as kind
use Rattle.claims.specs.declared.claimed.ClaimLine.{ClaimLine}
use Rattle.claims.specs.declared.claimed.Claimed.{Claimed}
use Rattle.claims.specs.declared.claimed.Claimed.TheVariants.{Yes, No}
use Rattle.claims.specs.declared.claimed.ViolationKind.{ViolationKind}
use Rattle.claims.specs.declared.claimed.ViolationKind.TheVariants.{VFresh, VRepeat, VOrd, VWit}
use Rattle.drawing.specs.Claim.{line_kind, line_call, line_return}
use Rattle.drawing.specs.Names.{value_text}
use Rattle.drawing.specs.declared.bands.Band.{Band}
use Rattle.drawing.specs.declared.bands.Head.{Head}
use Rattle.drawing.specs.declared.bands.Head.TheVariants.{DefinitelyIn, NotIn, Dequeued, InAndOut, SaidEmpty, InOrOut}

-- the value of an operation, or 0 if it has none
abbrev pub value_of : OpKind → ℕ
value_of (kind.Enqueue v) = v
value_of (kind.Dequeue v) = v
value_of (kind.EnqueueFailed v) = v
value_of kind.DequeueEmpty = 0

-- the value of a line
abbrev pub line_value : ClaimLine → ℕ
line_value line = value_of (line_kind line)

-- the value is definitely in the queue from the return of its enqueue, or from the top if it is an initial value, to
-- the call of its dequeue, or to the bottom if it has none
abbrev pub sure_until : ClaimLine → Option ℕ → Band
sure_until enq last = record { head = DefinitelyIn (line_value enq); first = line_return enq; last = last }

-- the time from one event to another; from the top if there is no first one
abbrev pub time_of : Head → Option ℕ → Option ℕ → Band
time_of head first last = record { head = head; first = first; last = last }

-- the call of a successful enqueue
abbrev pub call_if_taken : ClaimLine → OpKind → Option ℕ
call_if_taken line (kind.Enqueue v) = line_call line
call_if_taken line _ = None

-- the call of a successful enqueue in the first of these lines
abbrev pub enqueue_call : List ClaimLine → Option ℕ
enqueue_call [] = None
enqueue_call (enq ∷ rest) = call_if_taken enq (line_kind enq)

-- a band for the value of each enqueue of a cover, whose dequeue follows if there is one
abbrev pub cover_bands : List ClaimLine → List Band
cover_bands [] = []
cover_bands (enq ∷ []) = sure_until enq None ∷ []
cover_bands (enq ∷ deq ∷ rest) = sure_until enq (line_call deq) ∷ cover_bands rest

-- the time in which a, whose enqueue is first, was definitely in the queue, and the time in which b of the lines
-- after it was enqueued and dequeued
abbrev pub order_bands : ClaimLine → List ClaimLine → List Band
order_bands enq_a (enq_b ∷ deq_b ∷ rest) =
    sure_until enq_a (option_and_then line_call (slice_get rest 0))
    ∷ time_of (InAndOut (line_value enq_b)) (line_call enq_b) (line_return deq_b) ∷ []
order_bands enq_a _ = []

-- the bands of a `NO` of this kind. For a phantom dequeue: when its value was definitely not in the queue, before any
-- call to enqueue it, and when it was dequeued. For a value dequeued twice: a column for its words, without a band.
-- For order violations: see `order_bands`. For an empty dequeue: when the values of the cover were definitely in the
-- queue, and the time of the dequeue
abbrev pub bands_by : List ClaimLine → ViolationKind → List Band
bands_by [] kind = []
bands_by (deq ∷ rest) VFresh =
    time_of (NotIn (line_value deq)) None (enqueue_call rest)
    ∷ time_of (Dequeued (line_value deq)) (line_call deq) (line_return deq) ∷ []
bands_by (enq ∷ rest) VRepeat = time_of (InOrOut (line_value enq)) None None ∷ []
bands_by (enq_a ∷ later) VOrd = order_bands enq_a later
bands_by (empty ∷ cover) VWit = cover_bands cover ++ time_of SaidEmpty (line_call empty) (line_return empty) ∷ []

-- the bands of a claim, left to right
abbrev pub bands_of : Claimed → List Band
bands_of (Yes order) = []
bands_of (No kind lines) = bands_by lines kind

-- the words above a band
abbrev pub head_text : Head → List ℕ
head_text (DefinitelyIn v) = concat (value_text v ∷ codes " surely in" ∷ [])
head_text (NotIn v) = concat (value_text v ∷ codes " not in" ∷ [])
head_text (Dequeued v) = concat (value_text v ∷ codes " dequeued" ∷ [])
head_text (InAndOut v) = concat (value_text v ∷ codes " in and out" ∷ [])
head_text SaidEmpty = codes "empty"
head_text (InOrOut v) = concat (value_text v ∷ codes " in or out" ∷ [])

-- the form of a band: for a value definitely in the queue, for one definitely not in it, and for the time beside
-- them; a column without a band has none
abbrev pub form_words : Head → List ℕ → List ℕ → List ℕ → List ℕ
form_words (DefinitelyIn v) sure absent time = sure
form_words (NotIn v) sure absent time = absent
form_words (Dequeued v) sure absent time = time
form_words (InAndOut v) sure absent time = time
form_words SaidEmpty sure absent time = time
form_words (InOrOut v) sure absent time = []

-- the time of a gap: of the one just after a ticket, or 0 for the one before all tickets
abbrev pub gap_time : Option ℕ → ℕ
gap_time None = 0
gap_time (Some ticket) = ticket + 1

-- the band holds this gap: it has begun, and hasn't ended
abbrev pub holds : Band → Option ℕ → Bool
holds band gap =
    nat_le (gap_time band.first) (gap_time gap) &&
    (not (is_some band.last) || nat_lt (gap_time gap) (gap_time band.last))

-- the form of a band in a row at this gap; nothing if the band doesn't hold the gap
abbrev pub form_at : Band → Option ℕ → List ℕ
form_at band gap = if holds band gap then form_words band.head (codes "###") (codes "xxx") (codes ":::") else []
