-- The legend of a picture: its signs with their meanings. Characters and pixels draw the signs in their own ways.
use Rattle.std.specs.Prelude.{ℕ, if◌then◌else◌, List, [], ◌∷◌, ◌++◌, codes}
use Rattle.std.specs.List.{list_any}
use Rattle.claims.specs.declared.claimed.Claimed.{Claimed}
use Rattle.claims.specs.declared.claimed.Claimed.TheVariants.{Yes, No}
use Rattle.claims.specs.declared.claimed.ViolationKind.TheVariants.{VFresh, VRepeat, VOrd, VWit}
use Rattle.drawing.specs.declared.signs.Sign.{Sign}
use Rattle.drawing.specs.declared.signs.Sign.TheVariants.{First, InOrder, OfOperations, OfValues, Present, Absent}
use Rattle.drawing.specs.declared.signs.Sign.TheVariants.{Dequeued, InAndOut, SaidEmpty, Away, Pending}
use Rattle.drawing.specs.Drawn.{is_away}
use Rattle.drawing.specs.Pending.{is_pending}
use Rattle.drawing.specs.Scene.{SceneView}

-- the sign of initial values, if there are any, and that of numbers
abbrev pub number_signs : Claimed → List ℕ → List Sign
number_signs (Yes order) [] = InOrder ∷ []
number_signs (Yes order) (v ∷ initial) = First ∷ InOrder ∷ []
number_signs (No kind lines) [] = OfOperations ∷ []
number_signs (No kind lines) (v ∷ initial) = First ∷ OfValues ∷ []

-- the signs of the bands
abbrev pub band_signs : Claimed → List Sign
band_signs (Yes order) = []
band_signs (No VFresh lines) = Absent ∷ Dequeued ∷ []
band_signs (No VRepeat lines) = []
band_signs (No VOrd lines) = Present ∷ InAndOut ∷ []
band_signs (No VWit lines) = Present ∷ SaidEmpty ∷ []

-- the signs of the operations: if one overlaps none of those that show a `NO`, and if one never returned
abbrev pub operation_signs : SceneView → List Sign
operation_signs scene =
    (if list_any (is_away scene.claimed) scene.operations then Away ∷ [] else [])
    ++ (if list_any (is_pending scene.added_from) scene.operations then Pending ∷ [] else [])

-- the signs of a picture
unfoldable pub signs_of : SceneView → List Sign
signs_of scene = number_signs scene.claimed scene.initial ++ (band_signs scene.claimed ++ operation_signs scene)

-- the meaning of a sign
abbrev pub meaning : Sign → List ℕ
meaning First = codes "a value that was in the queue first, the front one on top"
meaning InOrder = codes "number 1 in the order, where it takes effect"
meaning OfOperations = codes "number 1 of the operations that show it"
meaning OfValues = codes "number 1 of the values and operations that show it"
meaning Present = codes "the value surely was in the queue."
meaning Absent = codes "the value surely was not in the queue."
meaning Dequeued = codes "within this time it was dequeued nevertheless."
meaning InAndOut = codes "within this time the later value went in and out."
meaning SaidEmpty = codes "within this time the queue was said to be empty."
meaning Away = codes "an operation that overlaps none of those with numbers"
meaning Pending = codes "to the end: a call that never returned; a completion gave its answer"
