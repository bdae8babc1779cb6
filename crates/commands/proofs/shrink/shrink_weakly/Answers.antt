use Rattle.commands.proofs.Common.{⊎_map, inr, said_in}
use Rattle.commands.proofs.Shrinking.{weak_part}
use Rattle.commands.proofs.shrink.shrink_weakly.Goals as goal

pub returns-in_ok-part-in-No-clause-found : goal.returns-in_ok-part-in-No-clause-found
returns-in_ok-part-in-No-clause-found c =
    let decided = rw c.in-No.is at c.in_ok-order.ensures in
    let part = c.in_ok-part-in-No.ensures in
    ⊎_map (λ shrunk. inr (
      c.requires.complete,
      inr (
        decided.exact,
        weak_part (said_in c.args.version c.args.history) c.in_ok-part-in-No.part _ c.requires.few part.complete part.events shrunk part.selected,
      ),
    ))
    (λ memory. memory) c.shrink_part.ensures.found
