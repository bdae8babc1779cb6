use Rattle.commands.proofs.Common.{⊎_map, carries, inl}
use Rattle.commands.proofs.complete.completion_of.Goals as goal

pub returns-in_err-version-clause-found : goal.returns-in_err-version-clause-found
returns-in_err-version-clause-found c = rw (carries c.from_residual.result _ c.from_residual.ensures.1)
    (⊎_map inl (λ memory. memory) c.in_err-version.ensures.fault)
