use Rattle.commands.proofs.Common.{⊎_map, inr}
use Rattle.commands.proofs.shrink.shrink_history.Goals as goal

pub returns-in-No-clause-found : goal.returns-in-No-clause-found
returns-in-No-clause-found c =
    let decided = rw c.in-No.is at c.in_ok-order.ensures in
    ⊎_map (λ shrunk. inr (c.requires.complete, inr (decided.exact, shrunk))) (λ memory. memory) c.shrink_violation.ensures.found
