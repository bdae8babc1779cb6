use Rattle.commands.proofs.Common.{carries}
use Rattle.commands.proofs.OneAnswer.{fault_found, faulty_or}
use Rattle.commands.proofs.texts.judge_gathered.Goals as goal

pub returns-in_err-history-clause-found : goal.returns-in_err-history-clause-found
returns-in_err-history-clause-found c = λ history is. rw (carries c.from_residual.result _ c.from_residual.ensures.1)
    (faulty_or history _ (fault_found history _ (c.in_err-history.ensures.outcome history.initial history.events is)))
