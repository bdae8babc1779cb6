-- The words of a picture: its headline, and its caption.
use Rattle.std.specs.Prelude.{ℕ, ◌+◌, Bool, true, false, Option, Some, None, List, [], ◌∷◌, ◌++◌, codes, decimal}
use Rattle.std.specs.List.{concat}
use Rattle.history_merge.specs.declared.operation.OpKind.{OpKind}
use Rattle.history_merge.specs.declared.operation.OpKind.TheVariants as kind
use Rattle.claims.specs.declared.claimed.ClaimLine.{ClaimLine}
use Rattle.claims.specs.declared.claimed.ClaimLine.TheVariants.{Op, Initial}
use Rattle.claims.specs.declared.claimed.Claimed.{Claimed}
use Rattle.claims.specs.declared.claimed.Claimed.TheVariants.{Yes, No}
use Rattle.claims.specs.declared.claimed.ViolationKind.{ViolationKind}
use Rattle.claims.specs.declared.claimed.ViolationKind.TheVariants.{VFresh, VRepeat, VOrd, VWit}
use Rattle.text_lines.specs.Lines.{line}
use Rattle.drawing.specs.Claim.{line_kind, line_call, line_return}
use Rattle.drawing.specs.Names.{value_text}
use Rattle.drawing.specs.Bands.{line_value}
use Rattle.drawing.specs.Pending.{is_pending}
use Rattle.drawing.specs.declared.captions.TheConstants.{WITNESS_WORDS, YES_CAPTION}

-- the headline of a picture
abbrev pub headline : Claimed → List ℕ
headline (Yes order) = codes "YES: a FIFO queue can have answered so"
headline (No VFresh lines) = codes "NO: a value was dequeued that was not there"
headline (No VRepeat lines) = codes "NO: a value was dequeued twice"
headline (No VOrd lines) = codes "NO: values were dequeued against the order of their enqueues"
headline (No VWit lines) = codes "NO: an empty answer while the queue was never empty"

-- the name of a line's value
abbrev pub line_text : ClaimLine → List ℕ
line_text l = value_text (line_value l)

-- the reason why a value was not in the queue, by its enqueue
abbrev pub fresh_reason : OpKind → List ℕ
fresh_reason (kind.Enqueue v) = line (codes " was dequeued (1), but its enqueue (2) was called only afterwards.")
fresh_reason _ = line (codes " was dequeued (1), but its enqueue (2) was not taken.")

-- the reason why a value was not in the queue, by these lines, which show its enqueue or none
abbrev pub fresh_words : List ClaimLine → List ℕ
fresh_words [] = line (codes " was dequeued (1), but nobody ever enqueued it.")
fresh_words (enq ∷ rest) = fresh_reason (line_kind enq)

-- the words about the origin of a value that was dequeued twice
abbrev pub repeat_words : ClaimLine → List ℕ
repeat_words (Op enq) = line (codes " was enqueued once (1), but dequeued twice (2 and 3).")
repeat_words (Initial v) = line (codes " was in the queue first (1), but dequeued twice (2 and 3).")

-- the words about the origin of a before b
abbrev pub before_words : ClaimLine → List ℕ
before_words (Op enq) = codes " was enqueued (1) before "
before_words (Initial v) = codes " was in the queue (1) before "

-- the caption of an order violation: a came in before b, but b was dequeued before a, or a never
unfoldable pub overtaking_caption : ClaimLine → ClaimLine → List ℕ → List ℕ → List ℕ
overtaking_caption a b between end =
    concat (line_text a ∷ before_words a ∷ line_text b ∷ line (codes " (2),") ∷ codes "but " ∷ line_text b ∷ between
    ∷ line_text a ∷ end ∷ [])

-- the operation of a line never returned
abbrev pub never_returned : Option ℕ → ClaimLine → Bool
never_returned added_from (Op o) = is_pending added_from o
never_returned added_from (Initial v) = false

-- the words between b and a, if a was dequeued after b, or by a call that never returned
abbrev pub between_words : Bool → List ℕ
between_words false = codes " was dequeued (3) before "
between_words true = codes " was dequeued (3), and "

-- the words after a in this case
abbrev pub end_words : Bool → List ℕ
end_words false = line (codes " (4).")
end_words true = line (codes " only by a call that never returned (4).")

-- the caption of an order violation with a and the lines after it
abbrev pub order_caption : Option ℕ → ClaimLine → List ClaimLine → List ℕ
order_caption added_from a (b ∷ deq_b ∷ []) =
    overtaking_caption a b (codes " was dequeued (3) and ") (line (codes " never was."))
order_caption added_from a (b ∷ deq_b ∷ deq_a ∷ rest) =
    overtaking_caption a b (between_words (never_returned added_from deq_a))
    (end_words (never_returned added_from deq_a))
order_caption added_from a _ = []

-- the moment of a ticket, or the one before all tickets
abbrev pub moment_text : Option ℕ → List ℕ
moment_text None = codes "the start"
moment_text (Some ticket) = codes "ticket " ++ decimal ticket

-- the moment from which a value of a cover was definitely in the queue, with the number of its enqueue
unfoldable pub cover_from : ℕ → ClaimLine → List ℕ
cover_from number enq =
    concat (line_text enq ∷ codes " from " ∷ moment_text (line_return enq) ∷ codes " (" ∷ decimal number ∷ [])

-- the time in which a value of a cover was definitely in the queue, with the numbers of its enqueue and its dequeue
unfoldable pub one_of_cover : ℕ → ClaimLine → ClaimLine → List ℕ
one_of_cover number enq deq =
    cover_from number enq ++ concat
    (codes ") to " ∷ moment_text (line_call deq) ∷ codes " (" ∷ decimal (number + 1) ∷ line (codes ")") ∷ [])

-- the lines of the values of a cover, numbered from this number on
abbrev pub cover_caption : ℕ → List ClaimLine → List ℕ
cover_caption number [] = []
cover_caption number (enq ∷ []) = cover_from number enq ++ line (codes ") on")
cover_caption number (enq ∷ deq ∷ rest) = one_of_cover number enq deq ++ cover_caption (number + 2) rest

-- the first lines of the caption of an empty dequeue
unfoldable pub witness_words : List ℕ
witness_words = WITNESS_WORDS.now

-- the caption of a `NO` of this kind with these lines
abbrev pub lines_caption : Option ℕ → List ClaimLine → ViolationKind → List ℕ
lines_caption added_from [] kind = []
lines_caption added_from (deq ∷ rest) VFresh = concat (line_text deq ∷ fresh_words rest ∷ [])
lines_caption added_from (enq ∷ rest) VRepeat = concat (line_text enq ∷ repeat_words enq ∷ [])
lines_caption added_from (a ∷ later) VOrd = order_caption added_from a later
lines_caption added_from (empty ∷ cover) VWit = witness_words ++ cover_caption 2 cover

-- the caption of a claim, if returns from this ticket on were added
unfoldable pub caption : Option ℕ → Claimed → List ℕ
caption added_from (Yes order) = YES_CAPTION.now
caption added_from (No kind lines) = lines_caption added_from lines kind
