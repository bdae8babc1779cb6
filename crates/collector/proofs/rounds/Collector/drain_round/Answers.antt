use Rattle.std.proofs.Common.{ap, ◌∙◌}
use Rattle.collector.specs.Ends.{rings_of}
use Rattle.collector.proofs.Rings.{rings_kept}
use Rattle.collector.proofs.rounds.Collector.drain_round.Goals as goal

pub returns-clause-rings : goal.returns-clause-rings
returns-clause-rings c = rings_kept c.args.max _ _ c.drain_each-drained.ensures.drains ∙ ap (λ v. rings_of v.rings) c.self.view_is
