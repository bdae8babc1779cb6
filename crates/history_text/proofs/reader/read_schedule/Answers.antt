use Rattle.history_text.proofs.Common.{◌≡◌, NoRoomForSchedule, refl, schedule_text}
use Rattle.history_text.proofs.OneSchedule.{judged}
use Rattle.history_text.proofs.FirstFaults.{reads_what_is_there, stands}
use Rattle.history_text.proofs.reader.read_schedule.Goals as goal

pub returns-clause-whole : goal.returns-clause-whole
returns-clause-whole g c = λ schedule has begins.
    reads_what_is_there judged NoRoomForSchedule _ (λ s t. s ≡ t) c.args.reader.now.lines _ _ c.schedule-result.result
    c.schedule-result.ensures.schedule c.schedule-result.ensures.fault (λ s is. (s, is.0, is.1, λ b e. tt, refl)) schedule has (stands _ (schedule_text schedule) begins)
