use Rattle.commands.proofs.Completions.{complete_has_one}
use Rattle.commands.proofs.Drawings.{draw_has_one}
use Rattle.commands.proofs.OneAnswer.{check_has_one, convert_has_one, shrink_has_one, sim_has_one}
use Rattle.commands.proofs.OneAnswer.{stats_has_one, verify_has_one}
use Rattle.commands.proofs.laws.one_answer.Goals as goal

pub returns : goal.returns
returns c = assumption (check_has_one, shrink_has_one, verify_has_one, draw_has_one, convert_has_one, complete_has_one, stats_has_one, sim_has_one)
