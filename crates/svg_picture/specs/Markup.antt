-- Markup as text: elements with attributes, each closed by its end tag.
use Rattle.std.specs.Prelude.{ℕ, Bool, ◌||◌, ◌==◌, not, if◌then◌else◌, List, [], ◌∷◌, ◌++◌, map, codes, decimal}
use Rattle.std.specs.List.{flat_map}
use Rattle.svg_picture.specs.declared.markup.Attribute.{Attribute}
use Rattle.svg_picture.specs.declared.markup.Attribute.TheVariants as given

-- an attribute: its name and its value
pub record Named : Type 0 where
  pub name : List ℕ
  pub value : List ℕ

-- the tag of an element: the picture itself, words about it, a pattern, bars that belong together, a window from the
-- picture's upper left corner, which cuts off the rest, words, a rectangle, a straight line
pub data Tag : Type 0 where
  Svg : (width height : ℕ) (view_box : List ℕ) → Tag
  Title : Tag
  Desc : Tag
  Style : Tag
  Defs : Tag
  Pattern : (id : List ℕ) (y width height : ℕ) → Tag
  Group : (class : List ℕ) → Tag
  Window : (width height : ℕ) → Tag
  Text : (x y width : ℕ) (class : List ℕ) → Tag
  Rect : (x y width height round : ℕ) (class : List ℕ) → Tag
  Line : (x1 y1 x2 y2 : ℕ) (class : List ℕ) → Tag

-- the content of a document: nothing, words, an element around more, or one after another
pub data Content : Type 0 where
  Nothing : Content
  Words : List ℕ → Content
  Element : Tag → Content → Content
  Then : Content → Content → Content

-- ---- bytes

-- the byte stands for itself: it isn't `<`, `>`, `&` or the quote
abbrev pub is_plain : ℕ → Bool
is_plain b = not (b == 60 || b == 62 || b == 38 || b == 34)

-- the byte if it stands for itself, otherwise a question mark
abbrev pub plain_byte : ℕ → ℕ
plain_byte b = if is_plain b then b else 63

-- words in bytes that stand for themselves
abbrev pub plain_words : List ℕ → List ℕ
plain_words bytes = map plain_byte bytes

-- ---- tags

-- an attribute whose value is a number
abbrev pub number : List ℕ → ℕ → Named
number name n = record { name = name; value = plain_words (decimal n) }

-- an attribute whose value is words
abbrev pub words : List ℕ → List ℕ → Named
words name bytes = record { name = name; value = plain_words bytes }

-- the name of an element
abbrev pub tag_name : Tag → List ℕ
tag_name (Svg width height view_box) = codes "svg"
tag_name Title = codes "title"
tag_name Desc = codes "desc"
tag_name Style = codes "style"
tag_name Defs = codes "defs"
tag_name (Pattern id y width height) = codes "pattern"
tag_name (Group class) = codes "g"
tag_name (Window width height) = codes "svg"
tag_name (Text x y width class) = codes "text"
tag_name (Rect x y width height round class) = codes "rect"
tag_name (Line x1 y1 x2 y2 class) = codes "line"

-- the attributes of an element
abbrev pub tag_attributes : Tag → List Named
tag_attributes (Svg width height view_box) =
    words (codes "xmlns") (codes "http://www.w3.org/2000/svg") ∷ words (codes "version") (codes "1.1")
    ∷ number (codes "width") width
    ∷ number (codes "height") height ∷ words (codes "viewBox") view_box ∷ words (codes "role") (codes "img") ∷ []
tag_attributes Title = []
tag_attributes Desc = []
tag_attributes Style = []
tag_attributes Defs = []
tag_attributes (Pattern id y width height) =
    words (codes "id") id ∷ number (codes "x") 0 ∷ number (codes "y") y ∷ number (codes "width") width
    ∷ number (codes "height") height
    ∷ words (codes "patternUnits") (codes "userSpaceOnUse") ∷ []
tag_attributes (Group class) = words (codes "class") class ∷ []
tag_attributes (Window width height) = number (codes "width") width ∷ number (codes "height") height ∷ []
tag_attributes (Text x y width class) =
    number (codes "x") x ∷ number (codes "y") y ∷ number (codes "textLength") width ∷ words (codes "class") class ∷ []
tag_attributes (Rect x y width height round class) =
    number (codes "x") x ∷ number (codes "y") y ∷ number (codes "width") width ∷ number (codes "height") height
    ∷ number (codes "rx") round
    ∷ words (codes "class") class ∷ []
tag_attributes (Line x1 y1 x2 y2 class) =
    number (codes "x1") x1 ∷ number (codes "y1") y1 ∷ number (codes "x2") x2 ∷ number (codes "y2") y2
    ∷ words (codes "class") class ∷ []

-- ---- as text

-- a blank, the name, and the value in quotes
abbrev pub attribute_text : Named → List ℕ
attribute_text a = codes " " ++ (a.name ++ (codes "=\"" ++ (a.value ++ codes "\"")))

-- the tag that begins an element
abbrev pub start_tag : List ℕ → List Named → List ℕ
start_tag name attributes = codes "<" ++ (name ++ (flat_map attribute_text attributes ++ codes ">"))

-- the tag that closes an element, and a line feed
abbrev pub end_tag : List ℕ → List ℕ
end_tag name = codes "</" ++ (name ++ codes ">\n")

-- the text of a content; that of an element is between its tags
abbrev pub text_of : Content → List ℕ
text_of Nothing = []
text_of (Words words) = plain_words words
text_of (Element tag content) =
    start_tag (tag_name tag) (tag_attributes tag) ++ (text_of content ++ end_tag (tag_name tag))
text_of (Then first second) = text_of first ++ text_of second

-- the declaration of a document
abbrev pub declaration : List ℕ
declaration = codes "<?xml version=\"1.0\" encoding=\"UTF-8\"?>\n"

-- a document: its declaration, and its one element
abbrev pub document : Content → List ℕ
document content = declaration ++ text_of content

-- ---- contents

-- several contents, one after another
abbrev pub group : List Content → Content
group [] = Nothing
group (content ∷ more) = Then content (group more)

-- a content for each of these
abbrev pub each : {X : Type 0} → (X → Content) → List X → Content
each f xs = group (map f xs)

-- the attribute of a value of the program
abbrev pub named : Attribute → Named
named (given.Number name n) = number name.now n
named (given.Words name bytes) = words name.now bytes.now
