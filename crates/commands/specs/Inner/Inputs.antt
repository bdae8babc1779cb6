-- The input of `draw`, as it is read.
use Rattle.std.specs.Prelude.{◌≡◌, Bool}
use Rattle.history_text.specs.Claims.{operation_format}
use Rattle.history_text.specs.Histories.{HasHistoryText}
use Rattle.history_text.specs.Items.{HaveLines}
use Rattle.history_text.specs.Reading.{Left, MayBeLeft}
use Rattle.history_text.specs.Versions.{HaveValueLines}
use Rattle.text_lines.specs.Input.{Ahead}
use Rattle.commands.specs.declared.input.DrawableInput.{DrawableInput}
use Rattle.commands.specs.declared.input.DrawableInput.TheVariants.{Text, Yes}
use Rattle.commands.specs.Inputs.{Drawable, begins_as_yes, drawable, of_yes}

-- what was read
abbrev pub drawable_in : DrawableInput → Drawable
drawable_in (Text text claimed) = drawable text claimed
drawable_in (Yes operations) = of_yes operations

-- the initial values and the events of a text have lines, and so have the operations of a `YES`
abbrev pub HasLines : DrawableInput → Type 0
HasLines (Text text claimed) = HaveValueLines text.version text.initial × HasHistoryText text.events
HasLines (Yes operations) = HaveLines operation_format operations

-- whether the input that is left begins as a `YES`
abbrev pub BeginsAsYes : Left → Bool → Type 0
BeginsAsYes left is_yes = (a : Ahead) → MayBeLeft left a → begins_as_yes a.bytes ≡ is_yes
