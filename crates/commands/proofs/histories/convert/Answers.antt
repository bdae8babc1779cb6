use Rattle.commands.proofs.Common.{carries, converted, in_version_2, ◌≡◌}
use Rattle.commands.proofs.OneAnswer.{faults_answered}
use Rattle.commands.proofs.histories.convert.Goals as goal

pub returns-in_err-_version-clause-found : goal.returns-in_err-_version-clause-found
returns-in_err-_version-clause-found g c = rw (carries c.from_residual.result _ c.from_residual.ensures.1)
    (faults_answered (λ text a. a ≡ converted (in_version_2 text)) (g.S.TextSource.ahead c.args.reader) _
    c.in_err-_version.ensures.fault)
