use Rattle.history_text.proofs.FirstFaults.{one_first_fault}
use Rattle.history_text.proofs.OneHistory as history
use Rattle.history_text.proofs.OneSchedule as schedule
use Rattle.history_text.proofs.OneVerdict as verdict
use Rattle.history_text.proofs.laws.one_first_fault.Goals as goal

pub returns : goal.returns
returns c = assumption (one_first_fault history.judged, one_first_fault schedule.judged, one_first_fault verdict.judged)
