use Rattle.history_merge.proofs.Common.{arith}
use Rattle.history_merge.proofs.Formed.{all_formed, run_of_complete}
use Rattle.history_merge.proofs.TheirEvents.{told_of_run}
use Rattle.history_merge.proofs.complete.History.events.Goals as goal

pub new-requires : goal.new-requires
new-requires c =
    let run = run_of_complete c.args.self.now.events c.operations.ensures.complete in
    grind (arith, all_formed)

pub returns-clause-events : goal.returns-clause-events
returns-clause-events c =
    let run = run_of_complete c.args.self.now.events c.operations.ensures.complete in
    grind (arith, all_formed, told_of_run)
