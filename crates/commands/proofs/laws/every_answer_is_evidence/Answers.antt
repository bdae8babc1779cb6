use Rattle.commands.proofs.Drawings.{drawn_as_checked}
use Rattle.commands.proofs.OneAnswer.{checked_is_valid, checked_is_valid_under, refuted_is_valid, shrunk_is_checked, shrunk_is_valid}
use Rattle.commands.proofs.OneAnswer.{simulated_is_checked, simulated_is_valid, stressed_is_checked, stressed_is_valid, stressed_is_valid_under}
use Rattle.commands.proofs.laws.every_answer_is_evidence.Goals as goal

pub returns : goal.returns
returns c = assumption (
  checked_is_valid,
  checked_is_valid_under,
  refuted_is_valid,
  shrunk_is_valid,
  shrunk_is_checked,
  drawn_as_checked,
  stressed_is_checked,
  stressed_is_valid,
  stressed_is_valid_under,
  simulated_is_checked,
  simulated_is_valid,
)
