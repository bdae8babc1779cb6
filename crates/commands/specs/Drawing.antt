-- The answers of `draw` to a history, to one with a claim, and to one whose calls may be pending.
use Rattle.std.specs.Prelude.{◌⊎◌, ◌≡◌, ◌≤◌, ℕ, Bool, false, true, List, length, Option, Some, None, ⊤}
use Rattle.command_words.specs.declared.options.Condition.{Condition}
use Rattle.command_words.specs.declared.options.DrawOptions.{DrawOptions}
use Rattle.command_words.specs.declared.options.PictureForm.{PictureForm}
use Rattle.command_words.specs.declared.options.PictureForm.TheVariants.{Html, Svg, Terminal}
use Rattle.completions.specs.Completed.{next_ticket}
use Rattle.drawing.specs.Claim.{count_of_lines}
use Rattle.drawing.specs.Drawn.{drawn_operations}
use Rattle.drawing.specs.Scene.{SceneView, scene_of}
use Rattle.drawing.specs.Terminal.{terminal_picture}
use Rattle.drawing.specs.declared.columns.TheConstants.{MOST_DRAWN}
use Rattle.history_merge.specs.Initial.{HistoryView}
use Rattle.history_merge.specs.declared.operation.Operation.{Operation}
use Rattle.history_text.specs.Versions.{HistoryText, said_in}
use Rattle.history_text.specs.declared.pending_text.PendingText.{PendingText}
use Rattle.history_text.specs.declared.version.Version.TheVariants.{Two}
use Rattle.svg_picture.specs.Html.{html_picture}
use Rattle.svg_picture.specs.Picture.{svg_picture}
use Rattle.conditions.specs.Conditions.{without_empties}
use Rattle.verdicts.specs.Selection.{ArePartOf, contents_of}
use Rattle.claims.specs.declared.claimed.Claimed.{Claimed}
use Rattle.claims.specs.declared.claimed.Claimed.TheVariants.{No, Yes}
use Rattle.commands.specs.Answers.{Reply, drawn, refused_orders, refused_size, verified}
use Rattle.commands.specs.Completing.{FaultOrCompletion, completion_in}
use Rattle.commands.specs.Inputs.{ClaimOnText, Drawable, alone, claim_on, history_in, of_yes, with_claim}
use Rattle.commands.specs.Operations.{IsHistoryOfOperations}
use Rattle.commands.specs.Judging.{FaultOr, IsEvident, IsSound, IsVerdictClaim, Whether, said_by}

-- ---- sizes

-- the claim has few enough lines to be drawn, and few enough operations are drawn with it
pub record IsSmall (options : DrawOptions) (claim : ClaimOnText) : Type 0 where
  pub few_lines : count_of_lines claim.claimed ≤ MOST_DRAWN
  pub few_operations : length (drawn_operations (said_by claim.text) claim.claimed options.around) ≤ MOST_DRAWN

-- ---- pictures. For a completion, `added` is the ticket of the first return that it added

-- the picture of a history's scene, in this form
abbrev pub picture_in : PictureForm → HistoryView → SceneView → List ℕ
picture_in Svg history scene = svg_picture scene
picture_in Html history scene = html_picture history scene
picture_in Terminal history scene = terminal_picture scene

-- the picture of a history with a claim, in the form and with the operations that are asked for
abbrev pub picture_of : DrawOptions → Option ℕ → HistoryView → Claimed → List ℕ
picture_of options added history claimed =
    picture_in options.form history (scene_of history claimed (drawn_operations history claimed options.around) added)

-- ---- under a condition

-- the condition, but with empty dequeues that promise something
abbrev pub strict : Condition → Condition
strict condition = record { is_local = condition.is_local; is_weakly_empty = false }

-- the claim is a violation or a single linearization, not those of several producers
abbrev pub IsOneOrder : Bool → Claimed → Type 0
IsOneOrder true (Yes lines) = ⊥
IsOneOrder true (No kind lines) = ⊤
IsOneOrder false claimed = ⊤

-- the answer is that to the text of a history without its empty dequeues
pub record IsDrawnWithout (text : HistoryText) (OfText : HistoryText → Reply → Type 0) (answer : Reply) : Type 0 where
  pub part : HistoryView
  pub selected : contents_of part ≡ without_empties (contents_of (said_by text))
  pub events : ArePartOf text.events part.events
  pub complete : IsSound part
  pub answered : OfText (said_in text.version part) answer

abbrev pub DrawsPart : Bool → HistoryText → (HistoryText → Reply → Type 0) → Reply → Type 0
DrawsPart false text OfText answer = OfText text answer
DrawsPart true text OfText answer = IsDrawnWithout text OfText answer

-- ---- complete histories

-- the picture with the claim, if both are small enough and the claim is evidence. The linearizations of several
-- producers have no picture
abbrev pub DrawsSound : DrawOptions → Option ℕ → ClaimOnText → Reply → Type 0
DrawsSound options added claim answer = Whether (IsSmall options claim)
    (Whether (IsEvident (strict options.condition) claim)
    (Whether (IsOneOrder options.condition.is_local claim.claimed)
    (answer ≡ drawn (picture_of options added (said_by claim.text) claim.claimed))
    (answer ≡ refused_orders))
    (answer ≡ verified false))
    (answer ≡ refused_size)

-- the picture of a complete history with the claim of its verdict, which is evidence, if both are small enough
pub record DrawsDecided (options : DrawOptions) (added : Option ℕ) (text : HistoryText) (answer : Reply) : Type 0 where
  pub claimed : Claimed
  pub right : IsVerdictClaim (strict options.condition) (said_by text) claimed
  pub evident : IsEvident (strict options.condition) (claim_on text claimed)
  pub answered : DrawsSound options added (claim_on text claimed) answer

-- ---- of the lines of a `YES` alone

-- the picture of the history of these operations, with their lines as the claim; or there is no such history
abbrev pub DrawsHistoryOf : DrawOptions → List Operation → Reply → Type 0
DrawsHistoryOf options lines answer =
    ((history : HistoryView) × IsHistoryOfOperations lines history
    × DrawsPart options.condition.is_weakly_empty (said_in Two history)
    (λ text a. DrawsSound options None (claim_on text (Yes lines)) a) answer)
    ⊎ (((history : HistoryView) → ¬ IsHistoryOfOperations lines history) × (answer ≡ verified false))

-- the same if the lines are one linearization and are few
abbrev pub DrawsYes : DrawOptions → List Operation → Reply → Type 0
DrawsYes options lines answer = Whether (IsOneOrder options.condition.is_local (Yes lines))
    (Whether (length lines ≤ MOST_DRAWN) (DrawsHistoryOf options lines answer) (answer ≡ refused_size))
    (answer ≡ refused_orders)

-- ---- `draw`

-- the first fault of the history; or the picture with the claim, if both are small enough and the claim is evidence
abbrev pub DrawsClaim : DrawOptions → ClaimOnText → Reply → Type 0
DrawsClaim options claim answer = FaultOr (said_by claim.text)
    (DrawsPart options.condition.is_weakly_empty claim.text
    (λ text a. DrawsSound options None (claim_on text claim.claimed) a)) answer

-- the first fault of the history, or the picture with the claim of its verdict
abbrev pub DrawsHistory : DrawOptions → HistoryText → Reply → Type 0
DrawsHistory options text answer =
    FaultOr (said_by text) (DrawsPart options.condition.is_weakly_empty text (DrawsDecided options None)) answer

-- the reason why there is no completion; or its picture with the claim of its verdict, in which the calls that the
-- completion answers are open
abbrev pub DrawsPending : DrawOptions → PendingText → Reply → Type 0
DrawsPending options text answer = FaultOrCompletion text
    (DrawsPart options.condition.is_weakly_empty (completion_in text)
    (DrawsDecided options (Some (next_ticket text.events)))) answer

-- a text that counts its pending calls is drawn as its completion, and the text of a history as itself
abbrev pub DrawsAlone : DrawOptions → PendingText → Option ℕ → Reply → Type 0
DrawsAlone options text (Some calls) answer = DrawsPending options text answer
DrawsAlone options text None answer = DrawsHistory options (history_in text) answer

-- the answer to a history with a claim, to a text on its own, or to a `YES` alone
abbrev pub Draws : DrawOptions → Drawable → Reply → Type 0
Draws options (alone text) answer = DrawsAlone options text text.open_calls answer
Draws options (with_claim claim) answer = DrawsClaim options claim answer
Draws options (of_yes operations) answer = DrawsYes options operations answer
