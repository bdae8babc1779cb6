use Rattle.commands.proofs.Common.{⊎_map, said_in}
use Rattle.commands.proofs.Drawings.{drawn_part}
use Rattle.commands.specs.Drawing.{DrawsDecided}
use Rattle.commands.proofs.draw.draw_whole.Goals as goal

pub returns-clause-found : goal.returns-clause-found
returns-clause-found c = λ version.
    let part = c.in_ok-history.ensures in
    let options = c.args.options in
    ⊎_map (drawn_part options.condition.is_weakly_empty (said_in version c.args.whole) c.in_ok-history.history (DrawsDecided options c.args.added_from) _ part.whole
    part.selected part.events part.complete) (λ memory. memory) (c.draw_decided.ensures.found version)
