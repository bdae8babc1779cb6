use Rattle.history_text.proofs.Common.{fields_of, sym}
use Rattle.history_text.proofs.FormLines.{operation_spells, said_spelled}
use Rattle.history_text.proofs.operation_line.read_operation.Goals as goal

pub operation_of-requires : goal.operation_of-requires
operation_of-requires c =
    (said_spelled operation_spells c.args.line (fields_of c.args.bytes.now) (c.in_ok-kind.kind, c.in_ok-kind.numbers) (sym c.in_ok-kind.ensures.value)).line.thread

pub returns-clause-spelled : goal.returns-clause-spelled
returns-clause-spelled c = rw c.operation_of.ensures (said_spelled operation_spells _ _ _ (sym c.in_ok-kind.ensures.value))
