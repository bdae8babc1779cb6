use Rattle.std.proofs.Common.{arith}
use Rattle.recorder_core.proofs.Fitting.{recorded_is_fit}
use Rattle.recorder_core.proofs.Replayed.{lists_replay}
use Rattle.recorder_core.proofs.laws.recorded_lists_replay.Goals as goal

pub returns : goal.returns
returns c = λ lists ring initial recorded low high. lists_replay lists (recorded_is_fit lists recorded) ring initial (omega arith)
