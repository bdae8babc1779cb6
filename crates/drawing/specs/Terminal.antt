-- A scene as lines of characters, one for each row.
use Rattle.std.specs.Prelude.{ℕ, ◌+◌, ◌-◌, ◌*◌, ◌/◌, ◌%◌, ◌==◌, ◌&&◌, not, nat_lt, max, Bool, true}
use Rattle.std.specs.Prelude.{false, if◌then◌else◌, Option, Some, None, List, [], ◌∷◌, ◌++◌, map}
use Rattle.std.specs.Prelude.{length, codes, decimal, unwrap_or}
use Rattle.std.specs.List.{flat_map, range_with_len, enumerate_from}
use Rattle.history_merge.specs.declared.operation.Operation.{Operation}
use Rattle.claims.specs.declared.claimed.Claimed.{Claimed}
use Rattle.claims.specs.declared.claimed.Claimed.TheVariants.{Yes, No}
use Rattle.text_lines.specs.Lines.{line}
use Rattle.drawing.specs.Claim.{count_of_lines, shown_by}
use Rattle.drawing.specs.declared.columns.Columns.{Columns}
use Rattle.drawing.specs.declared.bands.Band.{Band}
use Rattle.drawing.specs.Layout.{digits, label, numbered, initial_label, label_width, under_way, called_at, place_in}
use Rattle.drawing.specs.Layout.{number_at}
use Rattle.drawing.specs.Bands.{head_text, form_at}
use Rattle.drawing.specs.Drawn.{is_away}
use Rattle.drawing.specs.Pending.{is_pending}
use Rattle.drawing.specs.Scene.{SceneView, gap_of, ticket_words, ticket_width, way_in, lanes_before}
use Rattle.drawing.specs.declared.scene.Row.{Row}
use Rattle.drawing.specs.declared.scene.Row.TheVariants as row
use Rattle.drawing.specs.Words.{Word, line_of}
use Rattle.drawing.specs.Captions.{headline, caption}
use Rattle.drawing.specs.Signs.{signs_of, meaning}
use Rattle.drawing.specs.declared.signs.Sign.{Sign}
use Rattle.drawing.specs.declared.signs.Sign.TheVariants.{First, InOrder, OfOperations, OfValues, Present, Absent}
use Rattle.drawing.specs.declared.signs.Sign.TheVariants.{Away, Pending}
use Rattle.drawing.specs.declared.columns.TheConstants.{ROWS_UNDER_HEADS, WIDE_LANES}
use Rattle.drawing.specs.declared.terminal.TheConstants.{LANE_MEANINGS}

-- ---- columns

-- the width of the order of a `YES`, or of this many bands of a `NO`
abbrev pub room_beside : Claimed → ℕ → ℕ → ℕ
room_beside (Yes order) widest_label bands = digits (length order) + widest_label + 3
room_beside (No kind lines) widest_label bands = 5 * bands

-- the width of a lane: room for a bracket with a number, or for one character if there are many lanes
abbrev pub lane_width : ℕ → ℕ → ℕ
lane_width lanes lines = if nat_lt WIDE_LANES lanes then 1 else max 2 (digits lines) + 2

-- the place of a lane, to the right of `before` others; lanes of one character are in groups of four
abbrev pub lane_place : ℕ → ℕ → ℕ
lane_place lane before = if lane == 1 then before + before / 4 else lane * before

-- the columns for this width of tickets, room beside them, and width and number of lanes
abbrev pub columns_for : ℕ → ℕ → ℕ → ℕ → Columns
columns_for ticket room lane lanes = record {
  ticket = ticket;
  beside = ticket + 2;
  lanes = ticket + 2 + room;
  lane = lane;
  label = ticket + 2 + room + 2 + max 6 (lane_place lane lanes);
}

-- the columns of a scene
abbrev pub columns_of : SceneView → Columns
columns_of scene =
    columns_for (ticket_width scene.added_from scene.rows)
    (room_beside scene.claimed (label_width scene.initial scene.operations) (length scene.bands))
    (lane_width (length scene.threads) (count_of_lines scene.claimed)) (length scene.threads)

-- the column of a thread's lane, to the right of those of lower threads
abbrev pub lane_column : Columns → List ℕ → ℕ → ℕ
lane_column columns threads thread = columns.lanes + lane_place columns.lane (lanes_before threads thread)

-- ---- lanes

-- the round sign if the operation is away from those that show a `NO`, else the square one
abbrev pub one_of : Bool → List ℕ → List ℕ → List ℕ
one_of away round square = if away then round else square

-- an operation returns at this ticket; one that is pending never does
abbrev pub returns_at : SceneView → ℕ → Operation → Bool
returns_at scene ticket o = o.ret == ticket && not (is_pending scene.added_from o)

-- the sign in a lane in the row of an event: a call with its number, if there is room for it, a return, or a bar in
-- between
abbrev pub event_sign : Columns → SceneView → ℕ → Operation → List ℕ
event_sign columns scene ticket o =
    let away = is_away scene.claimed o in
    let shown = if columns.lane == 1 then [] else shown_by scene.claimed in
    if o.call == ticket then one_of away (codes "(") (codes "[") ++ number_at (place_in shown (row.Ticket o.call))
    else (if returns_at scene ticket o then one_of away (codes ")") (codes "]")
    else one_of away (codes ":") (codes "|"))

-- the sign in a lane in a row, by the operation that is under way: in the row of an effect its sign, or the bar of
-- another
abbrev pub lane_sign : Columns → SceneView → Row → Option Operation → List ℕ
lane_sign columns scene (row.Ticket ticket) (Some o) = event_sign columns scene ticket o
lane_sign columns scene (row.LeftOut count last) (Some o) = one_of (is_away scene.claimed o) (codes ":") (codes "|")
lane_sign columns scene (row.Effect effect number point) (Some o) =
    if o.call == effect.call then (if columns.lane == 1 then codes "*" else decimal number) else
    (if returns_at scene point o then [] else codes "|")
lane_sign columns scene r under = []

-- the signs in the lanes of a row
abbrev pub lane_words : Columns → SceneView → Row → List Word
lane_words columns scene r =
    map (λ thread. record {
      column = lane_column columns scene.threads thread;
      bytes = lane_sign columns scene r (under_way scene.added_from scene.operations thread (unwrap_or (gap_of r) 0));
    }) scene.threads

-- ---- rows

-- the column of band i
abbrev pub band_column : Columns → ℕ → ℕ
band_column columns i = columns.beside + 5 * i

-- band i, if it holds a gap
abbrev pub band_word : Columns → Option ℕ → ℕ × Band → Word
band_word columns gap (i, band) = record { column = band_column columns i; bytes = form_at band gap }

-- the bands that hold a gap
abbrev pub band_words : Columns → List Band → Option ℕ → List Word
band_words columns bands gap = map (band_word columns gap) (enumerate_from 0 bands)

-- the words beside the tickets: the number and the label of an effect, or whether a value goes in or out
abbrev pub beside_words : Claimed → Row → List ℕ
beside_words claimed (row.Effect effect number point) =
    numbered (digits (count_of_lines claimed)) (decimal number) (label effect.kind)
beside_words claimed r = way_in claimed r

-- the label of an operation, and whether its call is pending
abbrev pub operation_label : SceneView → Operation → List ℕ
operation_label scene o = label o.kind ++ (if is_pending scene.added_from o then codes " (pending)" else [])

-- the label of the called operation, if there is one; after its number, if lanes have no room for that
abbrev pub call_label : Columns → SceneView → Option Operation → List ℕ
call_label columns scene None = []
call_label columns scene (Some o) =
    let shown = shown_by scene.claimed in
    if columns.lane == 1 then numbered (digits (length shown)) (number_at (place_in shown (row.Ticket o.call)))
    (operation_label scene o)
    else operation_label scene o

-- the words to the right of the bands or the lanes: the head of the initial values, one of these with its number, or
-- a label
abbrev pub told_word : Columns → SceneView → Row → Word
told_word columns scene row.Head = record { column = columns.lanes; bytes = codes "in the queue first" }
told_word columns scene (row.Initial place v) = record {
  column = columns.lanes;
  bytes =
      numbered (digits (count_of_lines scene.claimed))
      (number_at (place_in (shown_by scene.claimed) (row.Initial place v))) (initial_label v);
}
told_word columns scene (row.Ticket ticket) = record {
  column = columns.label;
  bytes = call_label columns scene (called_at scene.operations ticket);
}
told_word columns scene r = record { column = columns.label; bytes = [] }

-- the words of a row
unfoldable pub row_words : Columns → SceneView → Row → List Word
row_words columns scene r =
    record {
      column = columns.ticket - length (ticket_words scene.added_from r);
      bytes = ticket_words scene.added_from r;
    }
    ∷ record { column = columns.beside; bytes = beside_words scene.claimed r }
    ∷ (band_words columns scene.bands (gap_of r) ++ (lane_words columns scene r ++ told_word columns scene r ∷ []))

-- ---- heads

-- a stroke for each band, under its head
abbrev pub strokes : Columns → ℕ → List Word
strokes columns n = map (λ i. record { column = band_column columns i + 1; bytes = codes "|" }) (range_with_len 0 n)

-- a line of the first strokes, and of a word at a column
abbrev pub under : Columns → ℕ → ℕ → List ℕ → List ℕ
under columns bands column bytes =
    line (line_of (strokes columns bands ++ record { column = column; bytes = bytes } ∷ []))

-- the line of the head of band i
abbrev pub head_line : Columns → ℕ × Band → List ℕ
head_line columns (i, band) = under columns i (band_column columns i) (head_text band.head)

-- the word above the order of a `YES`
abbrev pub order_word : Claimed → List ℕ
order_word (Yes order) = codes "order"
order_word (No kind lines) = []

-- the digits of a thread's number in a line above its lane: all of them, or, above narrow lanes, its tens or its
-- units
abbrev pub thread_digits : Bool → Bool → ℕ → List ℕ
thread_digits narrow true thread = if nat_lt thread 10 then [] else decimal (thread / 10)
thread_digits narrow false thread = decimal (if narrow then thread % 10 else thread)

-- the numbers of the threads above their lanes
abbrev pub lane_names : Columns → List ℕ → Bool → List ℕ → List Word
lane_names columns all tens threads =
    map (λ thread. record {
      column = lane_column columns all thread;
      bytes = thread_digits (columns.lane == 1) tens thread;
    }) threads

-- the word above the tickets, that above the order of a `YES`, and the numbers of the threads; or the tens of these
-- alone
abbrev pub name_words : Columns → SceneView → Bool → List Word
name_words columns scene tens =
    (if tens then []
    else record { column = columns.ticket - 6; bytes = codes "ticket" }
    ∷ record { column = columns.beside; bytes = order_word scene.claimed } ∷ [])
    ++ (strokes columns (length scene.bands) ++ lane_names columns scene.threads tens scene.threads)

-- the heads: those of the bands, the word above the lanes, the tens above narrow lanes, and those of the tickets and
-- the lanes
unfoldable pub heads : Columns → SceneView → List ℕ
heads columns scene =
    flat_map (head_line columns) (enumerate_from 0 scene.bands)
    ++ (under columns (length scene.bands) columns.lanes (codes "thread")
    ++ ((if columns.lane == 1 then line (line_of (name_words columns scene true)) else [])
    ++ line (line_of (name_words columns scene false))))

-- ---- the picture

-- row i, below heads of its own if it is a 40th one
abbrev pub numbered_row : Columns → SceneView → ℕ × Row → List ℕ
numbered_row columns scene (i, r) =
    (if nat_lt 0 i && i % ROWS_UNDER_HEADS == 0 then heads columns scene else [])
    ++ line (line_of (row_words columns scene r))

-- a sign in characters
abbrev pub sign_text : Sign → List ℕ
sign_text First = codes "init "
sign_text InOrder = codes "1    "
sign_text OfOperations = codes "1    "
sign_text OfValues = codes "1    "
sign_text Present = codes "###  "
sign_text Absent = codes "xxx  "
sign_text Away = codes "(:)  "
sign_text Pending = codes "|    "
sign_text sign = codes ":::  "

-- a sign with its meaning
abbrev pub sign_line : Sign → List ℕ
sign_line sign = line (sign_text sign ++ meaning sign)

-- the meaning of the sign of an effect, if lanes have no room for its number
abbrev pub effect_meaning : Bool → Claimed → List ℕ
effect_meaning true (Yes order) = line (codes "*    where the operation of the row takes effect, within its bar")
effect_meaning narrow claimed = []

-- the legend of the picture
unfoldable pub legend : Columns → SceneView → List ℕ
legend columns scene =
    LANE_MEANINGS.now ++ (effect_meaning (columns.lane == 1) scene.claimed ++ flat_map sign_line (signs_of scene))

-- the text above the rows: headline, caption and legend
unfoldable pub words : Columns → SceneView → List ℕ
words columns scene =
    line (headline scene.claimed)
    ++ (caption scene.added_from scene.claimed ++ (line [] ++ (legend columns scene ++ line [])))

-- the picture of a scene in lines of characters: the text above the rows, the heads, and the rows
unfoldable pub terminal_picture : SceneView → List ℕ
terminal_picture scene =
    words (columns_of scene) scene
    ++ (heads (columns_of scene) scene
    ++ flat_map (numbered_row (columns_of scene) scene) (enumerate_from 0 scene.rows))
