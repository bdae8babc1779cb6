use Rattle.commands.proofs.Common.{Draws, IsDrawableOf, IsFaultOfDrawableInput}
use Rattle.commands.proofs.OneAnswer.{of_value}
use Rattle.commands.specs.Inputs.{drawable, of_yes}
use Rattle.commands.proofs.draw.draw.Goals as goal

pub returns-in-Text-clause-found : goal.returns-in-Text-clause-found
returns-in-Text-clause-found g c = of_value IsDrawableOf IsFaultOfDrawableInput (Draws c.args.options) (g.S.TextSource.ahead c.args.reader)
    (drawable c.in-Text.text c.in-Text.claimed) _ (rw c.in-Text.is at c.in_ok-read.ensures.drawable) c.draw_read.ensures.found

pub returns-in-Yes-clause-found : goal.returns-in-Yes-clause-found
returns-in-Yes-clause-found g c = of_value IsDrawableOf IsFaultOfDrawableInput (Draws c.args.options) (g.S.TextSource.ahead c.args.reader)
    (of_yes c.in-Yes.lines) _ (rw c.in-Yes.is at c.in_ok-read.ensures.drawable) c.draw_yes.ensures.found
