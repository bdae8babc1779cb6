use Rattle.commands.proofs.Common.{carries, said_by}
use Rattle.commands.proofs.Common.{answer_of, AnswersOrNoMemory, claim_on, IsClaimOf, IsFaultOfClaimInput}
use Rattle.commands.proofs.Common.{subst, Verifies}
use Rattle.commands.proofs.OneAnswer.{faulty_or, of_value}
use Rattle.commands.proofs.histories.verify.Goals as goal

pub returns-clause-found : goal.returns-clause-found
returns-clause-found g c =
    let read = c.in_ok-gathered.ensures.claim in
    of_value IsClaimOf IsFaultOfClaimInput (Verifies c.args.condition) (g.S.TextSource.ahead c.args.reader) _ _ read.3
    (subst (λ t. AnswersOrNoMemory (Verifies c.args.condition) (claim_on t c.in_ok-gathered.claimed) (answer_of c.verify_claim.result))
    (c.in_ok-_version.ensures.history read.0 read.1 read.2) (c.verify_claim.ensures.found c.in_ok-_version._version))

pub returns-in_err-_version-clause-found : goal.returns-in_err-_version-clause-found
returns-in_err-_version-clause-found g c =
    let read = c.in_ok-gathered.ensures.claim in
    rw (carries c.from_residual-in_err-_version.result _ c.from_residual-in_err-_version.ensures.1)
    (of_value IsClaimOf IsFaultOfClaimInput (Verifies c.args.condition) (g.S.TextSource.ahead c.args.reader) _ _ read.3
    (faulty_or (said_by read.0) _ (c.in_err-_version.ensures.fault read.0 read.1 read.2)))
