use Rattle.commands.proofs.Common.{inl, inr}
use Rattle.commands.proofs.OneAnswer.{by_validity}
use Rattle.commands.proofs.histories.verify_claim.Goals as goal

pub returns-clause-found : goal.returns-clause-found
returns-clause-found c = λ version. inl (inr (c.requires.complete, by_validity c.in_ok-valid.valid c.in_ok-valid.ensures.exact))
