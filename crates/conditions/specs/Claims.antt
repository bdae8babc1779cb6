-- Claims about a history under a weaker condition, and when they are true.
use Rattle.std.specs.Prelude.{◌≡◌, List, [], ◌∷◌, ◌++◌, flat_map, map}
use Rattle.history_merge.specs.declared.operation.Operation.{Operation}
use Rattle.history_merge.specs.Initial.{Contents}
use Rattle.history_merge.specs.Legal.{IsLegalOrder}
use Rattle.claims.specs.declared.verdict.Verdict.{Verdict}
use Rattle.claims.specs.declared.verdict.Verdict.TheVariants as verdict
use Rattle.claims.specs.declared.claimed.Claimed.{Claimed}
use Rattle.claims.specs.declared.claimed.Claimed.TheVariants.{Yes, No}
use Rattle.claims.specs.Claims.{IsTrueClaim}
use Rattle.conditions.specs.declared.local.LocalVerdict.{LocalVerdict}
use Rattle.conditions.specs.declared.local.LocalVerdict.TheVariants as local
use Rattle.conditions.specs.declared.producer.Emptiness.{Emptiness}
use Rattle.conditions.specs.declared.producer.Producer.{Producer}
use Rattle.conditions.specs.Conditions.{producers_of, selection_of, without_empties}

-- the claim is evidence in these contents
abbrev pub IsTrueOf : Contents → Claimed → Type 0
IsTrueOf contents claimed = IsTrueClaim contents.initial contents.operations claimed

-- the claim is evidence in the history without its empty dequeues
abbrev pub IsTrueWeakClaim : Contents → Claimed → Type 0
IsTrueWeakClaim whole claimed = IsTrueOf (without_empties whole) claimed

-- the lines are linearizations of these contents, one after another
abbrev pub AreOrdersInTurn : List Contents → List Operation → Type 0
AreOrdersInTurn [] lines = lines ≡ []
AreOrdersInTurn (first ∷ rest) lines = (order : List Operation) × (after : List Operation) × (lines ≡ order ++ after)
    × IsLegalOrder first.initial first.operations order × AreOrdersInTurn rest after

-- the selections of a history's producers, in the order of the producers
abbrev pub selections_of : Emptiness → Contents → List Contents
selections_of emptiness whole = map (λ p. selection_of emptiness p whole) (producers_of whole)

-- a `YES` lists linearizations of the producers' selections, one after another; a `NO` shows a violation in one of
-- them
abbrev pub IsTrueLocalClaim : Emptiness → Contents → Claimed → Type 0
IsTrueLocalClaim emptiness whole (Yes lines) = AreOrdersInTurn (selections_of emptiness whole) lines
IsTrueLocalClaim emptiness whole (No kind lines) = (p : Producer)
    × IsTrueOf (selection_of emptiness p whole) (No kind lines)

-- a `YES` with the linearizations one after another, or the `NO`
abbrev pub verdict_of : LocalVerdict → Verdict
verdict_of (local.Yes orders) = verdict.Yes (flat_map (λ x. x.order) orders)
verdict_of (local.No p violation) = verdict.No violation
