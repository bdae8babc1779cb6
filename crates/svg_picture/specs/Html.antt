-- A picture as a page for a browser: the picture, the operations of its history, and fixed pieces around both, with a
-- script.
use Rattle.std.specs.Prelude.{ℕ, Bool, true, false, if◌then◌else◌, nat_le, Option, List, [], ◌∷◌, ◌++◌, length, codes}
use Rattle.std.specs.Prelude.{decimal}
use Rattle.std.specs.List.{concat, flat_map}
use Rattle.text_lines.specs.Lines.{line}
use Rattle.history_merge.specs.declared.operation.Operation.{Operation}
use Rattle.history_merge.specs.Initial.{HistoryView}
use Rattle.history_merge.specs.Operations.{operations_of}
use Rattle.drawing.specs.Layout.{told}
use Rattle.drawing.specs.Pending.{is_pending}
use Rattle.drawing.specs.Scene.{SceneView}
use Rattle.svg_picture.specs.Markup.{text_of}
use Rattle.svg_picture.specs.Picture.{page_content, page_of}
use Rattle.svg_picture.specs.declared.html.TheConstants.{MOST_LISTED}
use Rattle.svg_picture.specs.declared.page.TheConstants.{PAGE_HEAD, PAGE_MIDDLE, PAGE_FOOT}

-- the page before the picture
unfoldable pub page_head : List ℕ
page_head = PAGE_HEAD.now

-- the page between the picture and the operations
unfoldable pub page_middle : List ℕ
page_middle = PAGE_MIDDLE.now

-- the page after the operations
unfoldable pub page_foot : List ℕ
page_foot = PAGE_FOOT.now

-- a word after a call that never returned
abbrev pub pending_word : Bool → List ℕ
pending_word false = []
pending_word true = codes " pending"

-- the tickets and the thread of an operation
abbrev pub times_words : Operation → List ℕ
times_words o = concat (decimal o.call ∷ codes " " ∷ decimal o.ret ∷ codes " " ∷ decimal o.thread ∷ codes " " ∷ [])

-- an operation in a line: its tickets, its thread, its kind and value, and whether a completion gave its return
unfoldable pub operation_line : Option ℕ → Operation → List ℕ
operation_line added_from o = times_words o ++ (told true o.kind ++ line (pending_word (is_pending added_from o)))

-- the operations of a history, one to a line, if they are few enough to be listed
abbrev pub operation_lines : HistoryView → Option ℕ → List ℕ
operation_lines history added_from =
    if nat_le (length (operations_of history.events)) MOST_LISTED then flat_map (operation_line added_from)
    (operations_of history.events) else []

-- the page of a history's scene: the picture, and the operations, which the picture may leave out
unfoldable pub html_picture : HistoryView → SceneView → List ℕ
html_picture history scene =
    page_head ++ (text_of (page_content (page_of scene))
    ++ (page_middle ++ (operation_lines history scene.added_from ++ page_foot)))
