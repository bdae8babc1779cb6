use Rattle.commands.proofs.Common.{carries, inl, inr, IsFaultOfHistoryInput, IsHistoryOf, judged, Judges}
use Rattle.commands.proofs.Common.{refl, said_by}
use Rattle.commands.proofs.OneAnswer.{faults_answered, of_value}
use Rattle.commands.specs.Judging.{IsOfVerdictUnder}
use Rattle.commands.proofs.histories.check.Goals as goal

pub returns-in_err-_version-clause-found : goal.returns-in_err-_version-clause-found
returns-in_err-_version-clause-found g c = rw (carries c.from_residual.result _ c.from_residual.ensures.1)
    (faults_answered (λ text. IsOfVerdictUnder c.args.condition (said_by text) judged) (g.S.TextSource.ahead c.args.reader) _ c.in_err-_version.ensures.fault)

pub returns-clause-found : goal.returns-clause-found
returns-clause-found g c =
    of_value IsHistoryOf IsFaultOfHistoryInput (Judges c.args.condition) (g.S.TextSource.ahead c.args.reader) _ _ c.in_ok-_version.ensures.history
    (inl (inr (c.in_ok-_version.ensures.complete, record { verdict = c.in_ok-verdict.verdict; decided = c.in_ok-verdict.ensures.decided; is = refl })))
