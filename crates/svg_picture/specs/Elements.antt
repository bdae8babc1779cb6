-- The elements of a picture.
use Rattle.std.specs.Prelude.{ℕ, ◌+◌, ◌*◌, List, [], ◌∷◌, length, codes}
use Rattle.svg_picture.specs.Markup.{Content, Nothing, Words, Element, Then, Style, Pattern, Window, Text, Rect, Line}
use Rattle.svg_picture.specs.Markup.{group}
use Rattle.svg_picture.specs.Layout.{parts}
use Rattle.svg_picture.specs.declared.words.TheConstants.{LIGHT, DARK}

-- words of a class from this point on, this many pixels for each character
unfoldable pub text_at : ℕ → List ℕ → ℕ → ℕ → List ℕ → Content
text_at char class x y bytes = Element (Text x y (char * length bytes) class) (Words bytes)

-- a rectangle of a class, with round corners
unfoldable pub rect : List ℕ → ℕ → ℕ → ℕ → ℕ → ℕ → Content
rect class round x y wide high = Element (Rect x y wide high round class) (Words [])

-- a rectangle of a class without its lower edge: the edge is below a window that has room for the other edges
unfoldable pub open_rect : List ℕ → ℕ → ℕ → ℕ → ℕ → ℕ → Content
open_rect class round x y wide high =
    Element (Window (x + wide + 6) (y + high)) (rect class round x y wide (high + 20))

-- a straight line of a class
unfoldable pub stroke : List ℕ → ℕ → ℕ → ℕ → ℕ → Content
stroke class x1 y1 x2 y2 = Element (Line x1 y1 x2 y2 class) (Words [])

-- a line of words; nothing for an empty one
abbrev pub line_at : ℕ → List ℕ → ℕ → List ℕ → Content
line_at char class y [] = Nothing
line_at char class y (b ∷ bytes) = text_at char class 6 y (b ∷ bytes)

-- lines of words, each 20 pixels below the one before
abbrev pub lines_from : ℕ → List ℕ → ℕ → List (List ℕ) → Content
lines_from char class y [] = Nothing
lines_from char class y (line ∷ lines) = Then (line_at char class y line) (lines_from char class (y + 20) lines)

-- the lines of a text
unfoldable pub lines_at : ℕ → List ℕ → ℕ → List ℕ → Content
lines_at char class y text = lines_from char class y (parts text)

-- a sample of a bar with its word and its meaning
unfoldable pub sample : ℕ → ℕ → List ℕ → ℕ → List ℕ → Content
sample x y class round meaning =
    group (rect class round x y 47 18 ∷ text_at 7 (codes "label") (x + 6) (y + 13) class
    ∷ text_at 7 (codes "dim") (x + 53) (y + 13) meaning ∷ [])

-- the four samples
unfoldable pub samples : ℕ → Content
samples y =
    group (sample 6 y (codes "enq") 0 (codes "enqueued") ∷ sample 151 y (codes "deq") 9 (codes "dequeued")
    ∷ sample 296 y (codes "empty") 9 (codes "found empty") ∷ sample 441 y (codes "not") 0 (codes "not taken") ∷ [])

-- the pattern of a hatched band
unfoldable pub hatch : Content
hatch = Element (Pattern (codes "hatch") 0 8 8) (stroke (codes "hatch") 0 8 8 0)

-- the fonts and the colours
unfoldable pub style_element : Content
style_element = Element Style (group (Words LIGHT.now ∷ Words DARK.now ∷ []))
