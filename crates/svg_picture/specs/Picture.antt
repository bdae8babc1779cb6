-- The picture of a history and a claim about it: the whole as a tree of elements, and its text.
use Rattle.std.specs.Prelude.{ℕ, ◌+◌, ◌-◌, ◌*◌, not, Bool, true, false, if◌then◌else◌, Option, Some, None}
use Rattle.std.specs.Prelude.{List, [], ◌∷◌, ◌++◌, length, map, codes, decimal}
use Rattle.std.specs.List.{concat, enumerate_from}
use Rattle.history_merge.specs.declared.operation.Operation.{Operation}
use Rattle.history_merge.specs.declared.operation.OpKind.{OpKind}
use Rattle.history_merge.specs.declared.operation.OpKind.TheVariants as kind
use Rattle.claims.specs.declared.claimed.Claimed.{Claimed}
use Rattle.claims.specs.declared.claimed.Claimed.TheVariants.{Yes, No}
use Rattle.drawing.specs.Claim.{count_of_lines, shown_by}
use Rattle.drawing.specs.declared.bands.Band.{Band}
use Rattle.drawing.specs.declared.bands.Head.{Head as BandHead}
use Rattle.drawing.specs.declared.bands.Head.TheVariants as band_head
use Rattle.drawing.specs.Layout.{digits, kind_word, told, label, numbered, initial_label, label_width, place_in}
use Rattle.drawing.specs.Layout.{place_of}
use Rattle.drawing.specs.Bands.{form_words, head_text}
use Rattle.drawing.specs.Captions.{headline, caption}
use Rattle.drawing.specs.Drawn.{is_away}
use Rattle.drawing.specs.Pending.{is_pending}
use Rattle.drawing.specs.Scene.{SceneView, ticket_words, ticket_width, way_in}
use Rattle.drawing.specs.declared.scene.Row.{Row}
use Rattle.drawing.specs.declared.scene.Row.TheVariants.{Head, Initial, Ticket, Effect}
use Rattle.drawing.specs.Signs.{signs_of, meaning}
use Rattle.drawing.specs.declared.signs.Sign.{Sign}
use Rattle.drawing.specs.declared.signs.Sign.TheVariants.{First, InOrder, OfOperations, OfValues, Present, Absent}
use Rattle.drawing.specs.declared.signs.Sign.TheVariants.{Away, Pending}
use Rattle.svg_picture.specs.declared.bars.Bar.{Bar}
use Rattle.svg_picture.specs.declared.canvas.Measures.{Measures}
use Rattle.svg_picture.specs.Markup.{Content, Nothing, Words, Element, Svg, Title, Desc, Defs, Pattern, Group, each}
use Rattle.svg_picture.specs.Markup.{group, document}
use Rattle.svg_picture.specs.Layout.{Page, shown, left, number_x, bar_width, thread_x, band_x, width, legend_y, top}
use Rattle.svg_picture.specs.Layout.{row_y, call_y, ret_y, bar_end, bottom, height}
use Rattle.svg_picture.specs.Layout.{line_count, parts, longest}
use Rattle.svg_picture.specs.declared.words.TheConstants.{READING}
use Rattle.svg_picture.specs.Elements.{text_at, rect, open_rect, stroke, lines_at, samples, hatch, style_element}

-- ---- parts that pictures of characters don't have

-- the rounding of a bar's corners: dequeues are round
abbrev pub corner : OpKind → ℕ
corner (kind.Enqueue v) = 0
corner (kind.Dequeue v) = 9
corner (kind.EnqueueFailed v) = 0
corner kind.DequeueEmpty = 9

-- the class of a band by its form; nothing without a band
abbrev pub form_class : BandHead → List ℕ
form_class head = form_words head (codes "sure") (codes "none") (codes "time")

-- ---- marks of operations

-- the class that marks an operation or an initial value: for a `NO` those of the claim are on, the others off, or
-- away from those
abbrev pub mark : Claimed → Bool → Option ℕ → List ℕ
mark (Yes order) away place = codes "yes"
mark (No kind lines) away (Some place) = codes "on"
mark (No kind lines) true None = codes "away"
mark (No kind lines) false None = codes "off"

-- ---- bars

-- the number of an operation at this place of the claim, in words
abbrev pub number_words : Option ℕ → List ℕ
number_words None = []
number_words (Some place) = codes ", number " ++ decimal (place + 1)

-- the tickets of an operation, in words; for a pending one only that of its call
abbrev pub tickets_words : Bool → Operation → List ℕ
tickets_words false o = concat (codes ", tickets " ∷ decimal o.call ∷ codes " to " ∷ decimal o.ret ∷ [])
tickets_words true o = concat (codes ", ticket " ∷ decimal o.call ∷ codes ", never returned" ∷ [])

-- the title of a bar: its thread, its kind and value, its tickets, and its number
unfoldable pub bar_words : Bool → Operation → Option ℕ → List ℕ
bar_words pending o place =
    concat (codes "thread " ∷ decimal o.thread ∷ codes ": " ∷ told true o.kind ∷ tickets_words pending o
    ∷ number_words place ∷ [])

-- a number in a pill
unfoldable pub pill : ℕ → ℕ → ℕ → Content
pill x y n =
    group (rect (codes "pill") 8 x y (10 + 7 * digits n) 16 ∷ text_at 7 (codes "pick") (x + 5) (y + 12) (decimal n)
    ∷ [])

-- the number of a place in a `NO`, to the right of the label of a bar whose lane begins at x
unfoldable pub bar_number : Measures → ℕ → ℕ → Option ℕ → Content
bar_number m x y None = Nothing
bar_number m x y (Some place) = pill (x + number_x m) y (place + 1)

-- the frame of a bar, without a lower edge if it is pending
abbrev pub bar_frame : Measures → Bar → Content
bar_frame m b =
    if b.is_pending then open_rect (kind_word b.kind) (corner b.kind) (b.x + 3) b.y (bar_width m) b.height
    else rect (kind_word b.kind) (corner b.kind) (b.x + 3) b.y (bar_width m) b.height

-- a bar with its mark, its title, its label and its number
unfoldable pub marked_bar : Measures → List ℕ → List ℕ → List ℕ → Bar → Content
marked_bar m class title words b =
    Element (Group class) (group (Element Title (Words title) ∷ bar_frame m b
    ∷ text_at 7 (codes "label") (b.x + 9) b.base words ∷ bar_number m b.x (b.base - 12) b.place ∷ []))

-- the bar of an operation, from its call to its end; for a `YES` its number is at its effect
abbrev pub bar_of : Page → Operation → Bar
bar_of page o = record {
  x = thread_x page o.thread;
  y = call_y page o.call;
  height = bar_end page o - call_y page o.call;
  base = row_y page (Ticket o.call) + 24;
  kind = o.kind;
  place = place_in (shown_by page.scene.claimed) (Ticket o.call);
  is_pending = is_pending page.scene.added_from o;
}

-- the bar of an operation
unfoldable pub bar : Page → Operation → Content
bar page o =
    let claimed = page.scene.claimed in
    let place = place_of claimed (Ticket o.call) in
    marked_bar page.measures (mark claimed (is_away claimed o) place)
    (bar_words (is_pending page.scene.added_from o) o place) (label o.kind) (bar_of page o)

-- the bars of the operations
unfoldable pub bars : Page → Content
bars page = each (bar page) page.scene.operations

-- ---- bands of a `NO`

-- the band is the time that contradicts the others
abbrev pub is_time : BandHead → Bool
is_time (band_head.Dequeued v) = true
is_time (band_head.InAndOut v) = true
is_time band_head.SaidEmpty = true
is_time _ = false

-- an edge of a band: in the row of a call or of a return, or at `here` if no event makes it
abbrev pub edge_y : Page → Bool → ℕ → Option ℕ → ℕ
edge_y page is_call here None = here
edge_y page is_call here (Some ticket) = if is_call then call_y page ticket else ret_y page ticket

-- the upper edge of a band: a time begins at a call, and a value is definitely in the queue from a return on
abbrev pub first_y : Page → Band → ℕ
first_y page band = edge_y page (is_time band.head) (top page.measures) band.first

-- the lower edge of a band: a time ends at a return, and a value is definitely in the queue up to a call
abbrev pub last_y : Page → Band → ℕ
last_y page band = edge_y page (not (is_time band.head)) (bottom page.measures) band.last

-- a dotted line from a band to the lanes, if an event makes its edge
unfoldable pub guide : Measures → List ℕ → ℕ → ℕ → Option ℕ → Content
guide m class x y None = Nothing
guide m class x y (Some ticket) = stroke class x y (left m) y

-- the band between its edges, with its dotted lines, and a thin line from its head; nothing if its head has no form
unfoldable pub formed_band : Page → List ℕ → ℕ → ℕ → Band → Content
formed_band page [] x y band = Nothing
formed_band page (b ∷ bytes) x y band =
    let class = b ∷ bytes in
    group (guide page.measures class (x + 28) (first_y page band) band.first
    ∷ guide page.measures class (x + 28) (last_y page band) band.last
    ∷ stroke (codes "lead") x y x (first_y page band)
    ∷ rect class 0 x (first_y page band) 28 (last_y page band - first_y page band) ∷ [])

-- the height of a head: each is above the next, so that it has the room to its right, and all are above the names of
-- the lanes
abbrev pub head_y : Measures → ℕ → ℕ
head_y m i = top m - (28 + 20 * (m.heads - (i + 1)))

-- band i with its head
unfoldable pub band_at : Page → ℕ × Band → Content
band_at page (i, band) =
    group (text_at 7 (codes "name") (band_x page.measures i) (head_y page.measures i) (head_text band.head)
    ∷ formed_band page (form_class band.head) (band_x page.measures i + 3) (head_y page.measures i + 4) band ∷ [])

-- the bands of a `NO`
unfoldable pub bands : Page → Content
bands page = each (band_at page) (enumerate_from 0 page.scene.bands)

-- ---- initial values

-- the title of an initial value, with its number
unfoldable pub initial_words : ℕ → Option ℕ → List ℕ
initial_words v place = concat (codes "init " ∷ decimal v ∷ codes ", in the queue first" ∷ number_words place ∷ [])

-- the bar of an initial value in its row, in line with the first lane
unfoldable pub placed_initial : Page → ℕ → Row → ℕ → Content
placed_initial page y r v =
    let place = place_in (shown_by page.scene.claimed) r in
    let b : Bar =
    record {
      x = left page.measures;
      y = y + 2;
      height = 16;
      base = y
          + 14;
      kind = kind.Enqueue v;
      place = place;
      is_pending = false;
    } in
    marked_bar page.measures (mark page.scene.claimed false place) (initial_words v place) (initial_label v) b

-- ---- rows

-- a word at the first band, with a dotted line from it to the lanes; nothing without a word
unfoldable pub way_at : Measures → ℕ → List ℕ → Content
way_at m y [] = Nothing
way_at m y (b ∷ bytes) =
    group (text_at 7 (codes "name") (shown m) (y + 4) (b ∷ bytes) ∷ stroke (codes "time") (shown m + 28) y (left m) y
    ∷ [])

-- words, right-aligned in the column of tickets; nothing without words
unfoldable pub in_tickets : Measures → ℕ → List ℕ → Content
in_tickets m y [] = Nothing
in_tickets m y (b ∷ bytes) = text_at 7 (codes "dim") (6 + 7 * (m.ticket - length (b ∷ bytes))) y (b ∷ bytes)

-- the number and the label of an operation of a `YES`, beside the tickets, and the number in its bar
unfoldable pub effect : Page → ℕ → Operation → ℕ → Content
effect page y o number =
    group (text_at 7 (codes "label") (shown page.measures + 7 * (page.measures.number - digits number)) (y + 14)
    (numbered 0 (decimal number) (label o.kind))
    ∷ pill (thread_x page o.thread + number_x page.measures) (y + 2) number ∷ [])

-- the distance of the word for a row's value from the upper edge of the row: a call is at the lower edge
abbrev pub way_y : Row → ℕ
way_y (Initial place v) = 10
way_y r = 20

-- the parts that only this kind of row has
abbrev pub row_own : Page → ℕ → Row → Content
row_own page y Head = text_at 7 (codes "dim") (left page.measures + 3) (y + 14) (codes "in the queue first")
row_own page y (Initial place v) = placed_initial page y (Initial place v) v
row_own page y (Effect o number point) = effect page y o number
row_own page y r = Nothing

-- the parts of a row: words in the column of tickets, the word `in` or `out` of a value that was dequeued twice, and
-- its own parts
unfoldable pub row_parts : Page → Row → Content
row_parts page r =
    group (in_tickets page.measures (row_y page r + 14) (ticket_words page.scene.added_from r)
    ∷ way_at page.measures (row_y page r + way_y r) (way_in page.scene.claimed r) ∷ row_own page (row_y page r) r ∷ [])

-- the rows, below the words above their columns, and the word below them
unfoldable pub rows : Page → Content
rows page = each (row_parts page) page.scene.rows

-- the words above and below the tickets, and above the order of a `YES`
unfoldable pub names : Measures → Content
names m =
    group (in_tickets m (top m - 8) (codes "ticket") ∷ in_tickets m (bottom m - 6) (codes "end")
    ∷ (if m.is_yes then text_at 7 (codes "dim") (shown m) (top m - 8) (codes "order") else Nothing) ∷ [])

-- ---- lanes

-- the name of a thread above its lane and below it
unfoldable pub lane_names : Page → ℕ → Content
lane_names page thread =
    let name = codes "thread " ++ decimal thread in
    group (text_at 7 (codes "name") (thread_x page thread + 3) (top page.measures - 8) name
    ∷ text_at 7 (codes "name") (thread_x page thread + 3) (bottom page.measures + 14) name ∷ [])

-- the names of the threads
unfoldable pub threads : Page → Content
threads page = each (lane_names page) page.scene.threads

-- the pattern of rows: each second one is tinted
unfoldable pub row_pattern : Measures → Content
row_pattern m = Element (Pattern (codes "rows") (top m) (width m) 40) (rect (codes "row") 0 0 0 (width m) 20)

-- the background with the patterns of hatched bands and of rows, and the rows
unfoldable pub background : Measures → Content
background m =
    group (Element Defs (group (hatch ∷ row_pattern m ∷ [])) ∷ rect (codes "page") 0 0 0 (width m) (height m)
    ∷ rect (codes "rows") 0 0 (top m) (width m) (bottom m - top m) ∷ [])

-- ---- the whole

-- a sign from this height on
abbrev pub sign : Sign → ℕ → Content
sign First y = text_at 7 (codes "label") 6 (y + 12) (codes "init")
sign InOrder y = pill 6 y 1
sign OfOperations y = pill 6 y 1
sign OfValues y = pill 6 y 1
sign Present y = rect (codes "sure") 0 6 (y + 1) 28 14
sign Absent y = rect (codes "none") 0 6 (y + 1) 28 14
sign Away y = rect (codes "far") 0 6 (y + 1) 28 14
sign Pending y = open_rect (codes "enq") 0 6 (y + 1) 28 14
sign others y = rect (codes "time") 0 6 (y + 1) 28 14

-- sign i with its meaning
unfoldable pub sign_at : Measures → ℕ × Sign → Content
sign_at m (i, s) =
    let y = legend_y m + 63 + 20 * i in
    group (sign s y ∷ text_at 7 (codes "dim") 41 (y + 12) (meaning s) ∷ [])

-- the signs of the picture, one to a line
unfoldable pub signs : Page → Content
signs page = each (sign_at page.measures) (enumerate_from 0 (signs_of page.scene))

-- the words above the lanes: the headline, the caption, and the legend
unfoldable pub heading : Page → Content
heading page =
    group (text_at 9 (codes "head") 6 26 (headline page.scene.claimed)
    ∷ lines_at 8 (codes "say") 46 (caption page.scene.added_from page.scene.claimed)
    ∷ samples (legend_y page.measures) ∷ lines_at 7 (codes "dim") (legend_y page.measures + 35) READING.now
    ∷ signs page ∷ [])

-- the words for those who can't see the picture, and its style
unfoldable pub about : SceneView → Content
about scene =
    group (Element Title (Words (headline scene.claimed))
    ∷ Element Desc (Words (caption scene.added_from scene.claimed))
    ∷ style_element ∷ [])

-- the units of the whole picture
unfoldable pub view_box : Measures → List ℕ
view_box m = concat (codes "0 0 " ∷ decimal (width m) ∷ codes " " ∷ decimal (height m) ∷ [])

-- all elements between the tags of the picture: above and below the lanes, and in them
unfoldable pub inside : Page → Content
inside page =
    group (about page.scene ∷ background page.measures ∷ heading page ∷ names page.measures
    ∷ threads page ∷ bands page ∷ bars page ∷ rows page ∷ [])

-- the picture on a page
unfoldable pub page_content : Page → Content
page_content page = Element (Svg (width page.measures) (height page.measures) (view_box page.measures)) (inside page)

-- ---- the picture of a scene

-- the claim is a `YES`
abbrev pub is_yes : Claimed → Bool
is_yes (Yes order) = true
is_yes (No kind lines) = false

-- the measures of a picture: how wide its parts are, in characters, and how many there are
abbrev pub measures_of : SceneView → Measures
measures_of scene = record {
  ticket = ticket_width scene.added_from scene.rows;
  number = digits (count_of_lines scene.claimed);
  label = label_width scene.initial scene.operations;
  lanes = length scene.threads;
  rows = length scene.rows;
  heads = length scene.bands;
  head = longest (map (λ band. head_text band.head) scene.bands);
  captions = line_count (caption scene.added_from scene.claimed);
  caption = longest (parts (caption scene.added_from scene.claimed));
  legend = 2 + length (signs_of scene);
  is_yes = is_yes scene.claimed;
}

-- a scene and its measures
abbrev pub page_of : SceneView → Page
page_of scene = record { measures = measures_of scene; scene = scene }

-- the picture of a scene as a document
unfoldable pub svg_picture : SceneView → List ℕ
svg_picture scene = document (page_content (page_of scene))
