use Rattle.history_text.proofs.Common.{[], ◌∙◌, append-nil, EndOfInput, sym, schedule_text}
use Rattle.history_text.proofs.FirstFaults.{texts_agree}
use Rattle.history_text.proofs.OneSchedule.{judged}
use Rattle.history_text.proofs.laws.no_schedule_text_begins_another.Goals as goal

pub returns : goal.returns
returns c = λ first second more text_1 text_2 same.
    (texts_agree judged EndOfInput first second more [] text_1 text_2 tt tt (same ∙ sym (append-nil (schedule_text second)))).1
