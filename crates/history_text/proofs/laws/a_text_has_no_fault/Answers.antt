use Rattle.history_text.proofs.FirstFaults.{text_has_no_fault}
use Rattle.history_text.proofs.OneHistory as history
use Rattle.history_text.proofs.OneSchedule as schedule
use Rattle.history_text.proofs.OneVerdict as verdict
use Rattle.history_text.proofs.laws.a_text_has_no_fault.Goals as goal

pub returns : goal.returns
returns c = record {
  history = λ lines end t r fault has. text_has_no_fault history.judged lines end t r fault has tt;
  schedule = λ lines end t r fault has. text_has_no_fault schedule.judged lines end t r fault has tt;
  verdict = verdict.text_has_no_fault;
}
