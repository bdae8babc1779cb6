use Rattle.commands.proofs.OneAnswer.{converted_is_checked, converted_is_counted, converted_is_kept}
use Rattle.commands.proofs.OneAnswer.{converted_is_same_history, converted_is_verified}
use Rattle.commands.proofs.laws.conversion_keeps_answers.Goals as goal

pub returns : goal.returns
returns c = assumption (converted_is_same_history, converted_is_kept, converted_is_checked, converted_is_counted, converted_is_verified)
