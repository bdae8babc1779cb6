use Rattle.history_text.proofs.Common.{arith}
use Rattle.history_text.proofs.FirstFaults.{carries}
use Rattle.history_text.proofs.PendingFaults.{history_values_first, lines_before_taken, version_fault}
use Rattle.history_text.proofs.reader.TextReader.before_events.Goals as goal

pub returns-in_err-initial-clause-fault : goal.returns-in_err-initial-clause-fault
returns-in_err-initial-clause-fault g c =
    rw (carries c.from_residual-in_err-initial.result _ c.from_residual-in_err-initial.ensures.1)
    (history_values_first c.in_ok-version.version c.args.self.now.lines _ _ _ _ (omega (arith, c.in_ok-version.ensures.lines))
    c.in_ok-version.ensures.ok c.in_err-initial.ensures.fault)

pub returns-in_err-version-clause-fault : goal.returns-in_err-version-clause-fault
returns-in_err-version-clause-fault g c = rw (carries c.from_residual.result _ c.from_residual.ensures.1)
    (version_fault c.args.self.now.lines _ _ c.in_err-version.ensures.of_input c.in_err-version.ensures.fault)

pub returns-clause-values : goal.returns-clause-values
returns-clause-values g c =
    let values = c.in_ok-initial.ensures.values in
    (values.0, lines_before_taken c.in_ok-version.version c.in_ok-initial.initial.items _ _ _ c.in_ok-version.ensures.ok values.1)
