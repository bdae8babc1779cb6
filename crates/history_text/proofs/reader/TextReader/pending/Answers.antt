use Rattle.history_text.proofs.Common.{arith, refl}
use Rattle.history_text.proofs.FirstFaults.{carries}
use Rattle.history_text.proofs.PendingFaults.{cut_read, events_first, values_first, whole_read}
use Rattle.history_text.specs.declared.pending_text.PendingText.{PendingText}
use Rattle.history_text.proofs.reader.TextReader.pending.Goals as goal
use Rattle.history_text.proofs.reader.TextReader.pending.Goals.{in-Err+else-not-is_allowed, in-Ok}
use Rattle.history_text.proofs.Consuming.{Takes-append}

pub returns-in_err-initial-clause-fault : goal.returns-in_err-initial-clause-fault
returns-in_err-initial-clause-fault g c =
    rw (carries c.from_residual-in_err-initial.result _ c.from_residual-in_err-initial.ensures.1)
    (values_first c.args.takes_cut c.in_ok-is_pending.is_pending c.in_ok-is_pending.version c.args.self.now.lines _ _ _ _
    (omega (arith, c.in_ok-is_pending.ensures.lines)) c.in_ok-is_pending.ensures.ok c.in_err-initial.ensures.fault)

pub returns-then-not-is_allowed-clause-fault : goal.returns-then-not-is_allowed-clause-fault
returns-then-not-is_allowed-clause-fault g c =
    let first = c.in_ok-is_pending in
    let initial = c.in_ok-initial in
    events_first c.args.takes_cut first.is_pending first.version c.args.self.now.lines _ _ _ _ initial.initial.items
    c.events_to_end.new.into.items c.events_to_end.new.open_calls (omega (arith, first.ensures.lines, initial.ensures.lines)) initial.ensures.values.0
    (Takes-append _ _ _ _ _ first.ensures.ok initial.ensures.values.1) (c.is_allowed.ensures.no (grind arith)) c.in-Err.ensures.fault

pub returns-clause-text : goal.returns-clause-text
returns-clause-text g c =
    let first = c.in_ok-is_pending in
    let initial = c.in_ok-initial in
    let text : PendingText = record {
      version = first.version;
      initial = initial.initial.items;
      events = c.events_to_end.new.into.items;
      open_calls = c.events_to_end.new.open_calls;
    } in
    rw (c.from_vec.ensures, c.from_vec-2.ensures)
    (elim c.match-events_to_end.branch [
      | in-Ok w ↦ rw w.is_whole-is (whole_read text first.is_pending _ _ _ _ first.ensures.ok initial.ensures.values.0 initial.ensures.values.1
          w.in-Ok.ensures.events w.in-Ok.ensures.stop w.in-Ok.ensures.taken)
      | in-Err+else-not-is_allowed w ↦
          let allowed = w.is_allowed.ensures.yes (grind arith) in
          rw w.is_whole-is (
            allowed.0,
            cut_read c.args.takes_cut first.is_pending first.version c.args.self.now.lines _ _ _ _ text refl
                (omega (arith, first.ensures.lines, initial.ensures.lines)) initial.ensures.values.0
                (Takes-append _ _ _ _ _ first.ensures.ok initial.ensures.values.1) allowed.1 w.in-Err.ensures.fault,
          )
    ])
