use Rattle.history_text.proofs.Common.{fields_of, sym}
use Rattle.history_text.proofs.FormLines.{event_spells, said_spelled}
use Rattle.history_text.proofs.event_line.EventItem.from_line.Goals as goal

pub event_of-requires : goal.event_of-requires
event_of-requires c =
    (said_spelled event_spells c.args.line (fields_of c.args.bytes.now) (c.in_ok-what.what, c.in_ok-what.numbers) (sym c.in_ok-what.ensures.value)).line.thread

pub returns-clause-spelled : goal.returns-clause-spelled
returns-clause-spelled c = rw c.event_of.ensures (said_spelled event_spells _ _ _ (sym c.in_ok-what.ensures.value))
