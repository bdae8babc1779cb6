use Rattle.commands.proofs.Common.{⊎_map, answer_of, AnswersOrNoMemory, carries, inr, said_by, subst}
use Rattle.commands.proofs.OneAnswer.{faulty_or}
use Rattle.commands.specs.Drawing.{DrawsHistory}
use Rattle.commands.specs.Inputs.{history_in}
use Rattle.commands.proofs.draw.draw_alone.Goals as goal

pub returns-in_err-whole-in-None-clause-found : goal.returns-in_err-whole-in-None-clause-found
returns-in_err-whole-in-None-clause-found c = rw (carries c.from_residual.result _ c.from_residual.ensures.1, c.in-None.is)
    (faulty_or (said_by (history_in c.args.text)) _ c.in_err-whole-in-None.ensures.fault)

pub returns-in_ok-whole-in-None-clause-found : goal.returns-in_ok-whole-in-None-clause-found
returns-in_ok-whole-in-None-clause-found c = rw c.in-None.is
    (subst (λ t. AnswersOrNoMemory (DrawsHistory c.args.options) t (answer_of c.draw_whole.result)) c.in_ok-whole-in-None.ensures.history
    (⊎_map (λ drawn. inr (c.recall_complete.ensures.sound, drawn)) (λ memory. memory) (c.draw_whole.ensures.found c.args.text.version)))
