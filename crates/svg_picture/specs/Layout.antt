-- The layout of an SVG picture, in pixels: time runs down, threads are side by side.
use Rattle.std.specs.Prelude.{ℕ, ◌+◌, ◌*◌, max, if◌then◌else◌, List, [], ◌∷◌, length, count_by}
use Rattle.std.specs.List.{slice_split}
use Rattle.text_lines.specs.Lines.{is_line_feed}
use Rattle.history_merge.specs.declared.operation.Operation.{Operation}
use Rattle.drawing.specs.Pending.{is_pending}
use Rattle.drawing.specs.Scene.{SceneView, scene_on, row_number, lanes_before}
use Rattle.drawing.specs.declared.scene.Row.{Row}
use Rattle.drawing.specs.declared.scene.Row.TheVariants.{Ticket}
use Rattle.svg_picture.specs.declared.canvas.Measures.{Measures}
use Rattle.svg_picture.specs.declared.canvas.Canvas.{Canvas}

-- a scene, and its measures
pub record Page : Type 0 where
  pub measures : Measures
  pub scene : SceneView

-- the page of a value of the program
abbrev pub page_on : Canvas → Page
page_on canvas = record { measures = canvas.measures; scene = scene_on canvas.scene.now }

-- ---- from left to right

-- the right edge of the tickets, with a gap
abbrev pub shown : Measures → ℕ
shown m = 18 + 7 * m.ticket

-- the left edge of band i
abbrev pub band_x : Measures → ℕ → ℕ
band_x m i = shown m + 36 * i

-- the left edge of the first lane, to the right of the order of a `YES`, or of the bands of a `NO`
abbrev pub left : Measures → ℕ
left m = shown m + 12 + (if m.is_yes then 7 * (m.number + 1 + m.label) else 36 * m.heads)

-- the distance of an operation's number from the left edge of its lane; it is to the right of the label
abbrev pub number_x : Measures → ℕ
number_x m = 15 + 7 * m.label

-- the width of a bar: it has room for the longest label and for a number
abbrev pub bar_width : Measures → ℕ
bar_width m = 28 + 7 * (m.label + m.number)

-- the width of a lane: a bar with an edge on both sides
abbrev pub lane_width : Measures → ℕ
lane_width m = bar_width m + 6

-- the left edge of a lane, with this many lanes before it
abbrev pub lane_x : Measures → ℕ → ℕ
lane_x m before = left m + lane_width m * before

-- the left edge of a thread's lane, after those of lower threads
unfoldable pub thread_x : Page → ℕ → ℕ
thread_x page thread = lane_x page.measures (lanes_before page.scene.threads thread)

-- the width of the picture: of the fixed words, the caption, the lanes, and the heads of the bands
unfoldable pub width : Measures → ℕ
width m = 6 + max (max 582 (6 + 8 * m.caption)) (max (lane_x m m.lanes + 12) (band_x m m.heads + 7 * m.head))

-- ---- from top to bottom

-- the upper edge of the samples of bars, below the headline and the caption
abbrev pub legend_y : Measures → ℕ
legend_y m = 40 + 20 * m.captions

-- the upper edge of the first row, below the legend, the heads of the bands and the names of the lanes
unfoldable pub top : Measures → ℕ
top m = legend_y m + 32 + 20 * (m.legend + m.heads + 1)

-- the upper edge of a row
abbrev pub row_y : Page → Row → ℕ
row_y page row = top page.measures + 20 * row_number page.scene.rows row

-- the upper edge of a bar, in the row of its call
abbrev pub call_y : Page → ℕ → ℕ
call_y page ticket = row_y page (Ticket ticket) + 3

-- the lower edge of a bar, in the row of its return
abbrev pub ret_y : Page → ℕ → ℕ
ret_y page ticket = row_y page (Ticket ticket) + 17

-- the lower edge of the last row, which has the word `end`
unfoldable pub bottom : Measures → ℕ
bottom m = top m + 20 * (m.rows + 1)

-- the lower edge of an operation's bar; that of a pending one is at the end of its lane
abbrev pub bar_end : Page → Operation → ℕ
bar_end page o = if is_pending page.scene.added_from o then bottom page.measures else ret_y page o.ret

-- the height of the picture: below the last row the threads are named again
abbrev pub height : Measures → ℕ
height m = bottom m + 26

-- ---- words

-- the lines of a text, and an empty one after its last line feed
abbrev pub parts : List ℕ → List (List ℕ)
parts text = slice_split is_line_feed text

-- the number of lines of a text
abbrev pub line_count : List ℕ → ℕ
line_count text = count_by is_line_feed text

-- the length of the longest line
abbrev pub longest : List (List ℕ) → ℕ
longest [] = 0
longest (line ∷ lines) = max (length line) (longest lines)
