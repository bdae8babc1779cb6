use Rattle.history_text.proofs.OnePending.{has_same, same_text}
use Rattle.history_text.proofs.laws.a_history_text_is_read_as_itself.Goals as goal

pub returns : goal.returns
returns c = λ text has. (has_same text has, same_text text)
