use Rattle.commands.proofs.Completions.{completed_is_decided, completed_is_history, completed_is_kept}
use Rattle.commands.proofs.laws.completion_decides.Goals as goal

pub returns : goal.returns
returns c = assumption (completed_is_history, completed_is_decided, completed_is_kept)
