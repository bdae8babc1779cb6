use Rattle.recorder_core.specs.Laws.{collected_lists}
use Rattle.recorder_core.proofs.Collecting.{collected_is_fit}
use Rattle.recorder_core.proofs.Fitting.{merged_is_complete, merged_is_complete_from, merged_is_few}
use Rattle.recorder_core.proofs.laws.done_schedules_are_complete.Goals as goal

pub returns-clause-complete : goal.returns-clause-complete
returns-clause-complete c = λ setting schedule merged few done is. merged_is_complete (collected_lists setting schedule) merged
    (collected_is_fit setting schedule few done) is

pub returns-clause-from_initial : goal.returns-clause-from_initial
returns-clause-from_initial c = λ setting schedule merged few names done is. merged_is_complete_from (collected_lists setting schedule) merged
    (collected_is_fit setting schedule few done) is setting.initial names

pub returns-clause-few : goal.returns-clause-few
returns-clause-few c = λ setting schedule merged few done is. merged_is_few (collected_lists setting schedule) merged
    (collected_is_fit setting schedule few done) is
