-- Laws of SVG pictures.
use Rattle.std.specs.Prelude.{◌≡◌, ℕ, ◌+◌, ◌<◌, ◌≤◌, ◌↔◌, ◌&&◌, ◌||◌, not, Option}
use Rattle.std.specs.Prelude.{nat_le, ⊤, Bool, true, false, List, [], ◌∷◌, ◌++◌, map, codes, Contains}
use Rattle.std.specs.List.{list_all, list_any}
use Rattle.std.specs.Str.{bytes_eq}
use Rattle.history_merge.specs.declared.operation.Operation.{Operation}
use Rattle.history_merge.specs.Operations.{Precedes, operations_of}
use Rattle.history_merge.specs.Initial.{HistoryView}
use Rattle.claims.specs.declared.claimed.Claimed.{Claimed}
use Rattle.drawing.specs.Pending.{is_added}
use Rattle.drawing.specs.Scene.{SceneView, scene_of, stands_above}
use Rattle.drawing.specs.declared.scene.Row.{Row}
use Rattle.svg_picture.specs.Markup.{Named, is_plain, declaration, start_tag, end_tag}
use Rattle.svg_picture.specs.Layout.{Page, lane_width, thread_x, row_y, call_y, bar_end}
use Rattle.svg_picture.specs.Picture.{page_of, svg_picture}

-- ---- well-formed text

-- each byte stands for itself
abbrev pub are_plain : List ℕ → Bool
are_plain bytes = list_all is_plain bytes

-- a letter
abbrev pub is_letter : ℕ → Bool
is_letter b = (nat_le 65 b && nat_le b 90) || (nat_le 97 b && nat_le b 122)

-- a letter or a digit
abbrev pub is_name_byte : ℕ → Bool
is_name_byte b = is_letter b || (nat_le 48 b && nat_le b 57)

-- a letter, and letters and digits after it
abbrev pub is_name : List ℕ → Bool
is_name [] = not true
is_name (b ∷ bytes) = is_letter b && list_all is_name_byte bytes

-- no name is in the list twice
abbrev pub are_distinct : List (List ℕ) → Bool
are_distinct [] = true
are_distinct (name ∷ names) = not (list_any (bytes_eq name) names) && are_distinct names

-- each attribute has a name, and a value of bytes that stand for themselves
abbrev pub AreAttributes : List Named → Type 0
AreAttributes [] = ⊤
AreAttributes (a ∷ attributes) = ((is_name a.name ≡ true) × (are_plain a.value ≡ true)) × AreAttributes attributes

-- the tag of an element: its name, and attributes with different names
pub record IsTag (name : List ℕ) (attributes : List Named) : Type 0 where
  pub named : is_name name ≡ true
  pub distinct : are_distinct (map (λ a. a.name) attributes) ≡ true
  pub each : AreAttributes attributes

-- the content of an element: nothing, bytes that stand for themselves, an element that its end tag closes, or one
-- after another
pub data IsMarkup : List ℕ → Type 0 where
  nothing : IsMarkup []
  plain : (bytes : List ℕ) → are_plain bytes ≡ true → IsMarkup bytes
  closed : (name : List ℕ) (attributes : List Named) (inner : List ℕ) → IsTag name attributes → IsMarkup inner
      → IsMarkup (start_tag name attributes ++ (inner ++ end_tag name))
  both : (first second : List ℕ) → IsMarkup first → IsMarkup second → IsMarkup (first ++ second)

-- a document: its declaration, and one element `svg` around the rest
pub record IsDocument (text : List ℕ) : Type 0 where
  pub attributes : List Named
  pub inner : List ℕ
  pub tag : IsTag (codes "svg") attributes
  pub markup : IsMarkup inner
  pub is : text ≡ declaration ++ (start_tag (codes "svg") attributes ++ (inner ++ end_tag (codes "svg")))

-- a picture is a well-formed document
abbrev pub PicturesAreWellFormed : Type 0
PicturesAreWellFormed = (scene : SceneView) → IsDocument (svg_picture scene)

-- ---- the order of time

-- a row ends at or above the upper edge of those below it
abbrev pub RowsAreApart : Type 0
RowsAreApart =
    (page : Page) (other row : Row) → Contains page.scene.rows other → stands_above other row ≡ true
    → row_y page other + 20 ≤ row_y page row

-- a bar ends above another if and only if its operation precedes the other, whose call was not added: so bars share a
-- height if and only if their operations overlap
abbrev pub BarsOverlapInTime : Type 0
BarsOverlapInTime =
    (history : HistoryView) (claimed : Claimed) (drawn : List Operation) (added_from : Option ℕ) (x y : Operation)
    → Contains (operations_of history.events) x → Contains drawn x → is_added added_from y.call ≡ false
    → let page = page_of (scene_of history claimed drawn added_from) in Precedes x y
    ↔ (bar_end page x < call_y page y.call)

-- ---- lanes

-- the lane of a thread ends before that of a higher one begins
abbrev pub LanesAreApart : Type 0
LanesAreApart =
    (page : Page) (thread higher : ℕ) → Contains page.scene.threads thread → thread < higher
    → thread_x page thread + lane_width page.measures ≤ thread_x page higher
