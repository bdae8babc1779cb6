use Rattle.commands.proofs.Common.{inl, refl}
use Rattle.commands.proofs.stress.stress_unshelved.Goals as goal

pub returns-clause-found : goal.returns-clause-found
returns-clause-found g c = inl (
  c.in-Some.queue,
  c.in-Some.ensures.named,
  inl (c.if-not-suits_roles.ensures.0 refl, (c.stress_proved.ensures.found, c.stress_proved.ensures.linearizable)),
)
