use Rattle.drawing.proofs.Rows.{effects_are_in_bars, effects_rise}
use Rattle.drawing.proofs.laws.effects_rise_within_bars.Goals as goal

pub returns : goal.returns
returns c = record { within = effects_are_in_bars; rise = effects_rise }
