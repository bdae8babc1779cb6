use Rattle.recorder_core.proofs.Closing.{all_collected}
use Rattle.recorder_core.proofs.laws.done_collects_all.Goals as goal

pub returns : goal.returns
returns c = all_collected
