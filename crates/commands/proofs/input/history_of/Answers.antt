use Rattle.commands.proofs.Common.{said_by}
use Rattle.commands.proofs.OneAnswer.{fault_found}
use Rattle.commands.proofs.input.history_of.Goals as goal

pub returns-in-Err-clause-fault : goal.returns-in-Err-clause-fault
returns-in-Err-clause-fault c = λ text has read.
    rw c.incomplete.ensures.fault (fault_found (said_by text) c.in-Err.fault (c.in-Err.ensures.outcome text.initial text.events read.gathered))

pub returns-in-Err-clause-clash : goal.returns-in-Err-clause-clash
returns-in-Err-clause-clash c = λ text has read.
    c.incomplete.ensures.clash text.initial text.events (c.clash-clash.ensures.clash text.initial text.events read.gathered)
