-- The queues of the program's shelf.
use Rattle.std.specs.Prelude.{ℕ, List, [], ◌∷◌, codes}
use Rattle.commands.specs.declared.shelf.BuiltIn.{BuiltIn}
use Rattle.commands.specs.declared.shelf.BuiltIn.TheVariants.{Locked, TwoLock, Array, Seg, Lifo, Doubling, Inventing}
use Rattle.commands.specs.declared.shelf.BuiltIn.TheVariants.{Shy, Losing}

-- the name of a built-in queue, by its kind
abbrev pub name_of : {R : Type 0} → BuiltIn R → List ℕ
name_of (Locked queue) = codes "locked"
name_of (TwoLock queue) = codes "two-lock"
name_of (Array queue) = codes "array"
name_of (Seg queue) = codes "seg"
name_of (Lifo queue) = codes "lifo"
name_of (Doubling queue) = codes "doubling"
name_of (Inventing queue) = codes "inventing"
name_of (Shy queue) = codes "shy"
name_of (Losing queue) = codes "losing"

-- the names on the program's shelf, in their order
abbrev pub built_in_names : List (List ℕ)
built_in_names =
    codes "locked" ∷ codes "two-lock" ∷ codes "array" ∷ codes "seg" ∷ codes "lifo" ∷ codes "doubling"
    ∷ codes "inventing" ∷ codes "shy"
    ∷ codes "losing" ∷ []
