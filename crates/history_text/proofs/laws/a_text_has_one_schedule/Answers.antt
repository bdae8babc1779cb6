use Rattle.history_text.proofs.Common.{[], ◌++◌, ap, EndOfInput}
use Rattle.history_text.proofs.FirstFaults.{texts_agree}
use Rattle.history_text.proofs.OneSchedule.{judged}
use Rattle.history_text.proofs.laws.a_text_has_one_schedule.Goals as goal

pub returns : goal.returns
returns c = λ first second text_1 text_2 same. (texts_agree judged EndOfInput first second [] [] text_1 text_2 tt tt (ap (λ t. t ++ []) same)).0
