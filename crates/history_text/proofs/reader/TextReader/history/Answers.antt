use Rattle.history_text.proofs.Common.{arith, err_from_is_err_and, refl}
use Rattle.history_text.proofs.FirstFaults.{event_is_first}
use Rattle.history_text.proofs.reader.TextReader.history.Goals as goal
use Rattle.history_text.proofs.Consuming.{Takes-append}

pub returns-in_err-collect_items-clause-fault : goal.returns-in_err-collect_items-clause-fault
returns-in_err-collect_items-clause-fault g c = grind (arith, err_from_is_err_and, event_is_first)

pub returns-clause-text : goal.returns-clause-text
returns-clause-text g c =
    let first = c.in_ok-version in
    let got = c.in_ok-collect_items.ensures.collected in (
      record { version = first.version; initial = first.initial.items; events = got.0 },
      record { initial = first.ensures.values.0; events = got.1 },
      Takes-append _ _ _ _ _ first.ensures.values.1 (Takes-append _ _ _ _ _ got.2.1 got.2.2),
      (omega (arith, first.ensures.lines, got.3), record { same_version = refl; gathered = got.4 first.initial.items c.new-builder.ensures }),
    )
