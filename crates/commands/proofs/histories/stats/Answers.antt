use Rattle.commands.proofs.Common.{answer_of, carries, Counts, IsCountedAs, IsFaultOfHistoryInput, IsHistoryOf, said_by}
use Rattle.std.proofs.Common.{sym, subst, true, false}
use Rattle.commands.proofs.OneAnswer.{faults_answered, of_value}
use Rattle.commands.proofs.histories.stats.Goals as goal

pub returns-in_err-_version-clause-found : goal.returns-in_err-_version-clause-found
returns-in_err-_version-clause-found g c = rw (carries c.from_residual.result _ c.from_residual.ensures.1)
    (faults_answered (λ text. IsCountedAs c.args.overtakes (said_by text)) (g.S.TextSource.ahead c.args.reader) _ c.in_err-_version.ensures.fault)

pub returns-then-overtakes-clause-found : goal.returns-then-overtakes-clause-found
returns-then-overtakes-clause-found g c = rw c.if-overtakes.true
    (of_value IsHistoryOf IsFaultOfHistoryInput (Counts true) (g.S.TextSource.ahead c.args.reader) _ (answer_of c.list_overtakings.result)
    c.in_ok-_version.ensures.history (c.list_overtakings.ensures.found c.in_ok-_version._version))

pub returns-clause-found : goal.returns-clause-found
returns-clause-found g c = rw c.if-overtakes.false
    (of_value IsHistoryOf IsFaultOfHistoryInput (Counts false) (g.S.TextSource.ahead c.args.reader) _ (answer_of c.count.result)
    c.in_ok-_version.ensures.history (c.count.ensures.found c.in_ok-_version._version))
