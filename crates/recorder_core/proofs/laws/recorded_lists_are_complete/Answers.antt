use Rattle.recorder_core.proofs.Fitting.{merged_is_complete, merged_is_complete_from, merged_is_few, recorded_is_fit}
use Rattle.recorder_core.proofs.laws.recorded_lists_are_complete.Goals as goal

pub returns-clause-complete : goal.returns-clause-complete
returns-clause-complete c = λ lists merged recorded is. merged_is_complete lists merged (recorded_is_fit lists recorded) is

pub returns-clause-from_initial : goal.returns-clause-from_initial
returns-clause-from_initial c = λ lists merged initial recorded is names. merged_is_complete_from lists merged (recorded_is_fit lists recorded) is
    initial names

pub returns-clause-few : goal.returns-clause-few
returns-clause-few c = λ lists merged recorded is. merged_is_few lists merged (recorded_is_fit lists recorded) is
