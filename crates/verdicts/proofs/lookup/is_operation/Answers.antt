use Rattle.verdicts.proofs.Common.{arith, few_initial, later_by, operation_within, operations_of, ORIGIN, refl}
use Rattle.value_match.proofs.HistoryPlaces.{called_late}
use Rattle.verdicts.proofs.ClaimedLines.{through}
use Rattle.verdicts.proofs.lookup.is_operation.Goals as goal

pub returns-then-operation-gt-MAX_TICKET : goal.returns-then-operation-gt-MAX_TICKET
returns-then-operation-gt-MAX_TICKET c = (
  λ f. cc,
  λ among.
      let within = operation_within c.args.history.now.events c.args.operation c.by_time-by_time.ensures.from.complete among in
      absurd (grind (arith, within, c.then-operation-gt-MAX_TICKET.either)),
)

pub returns : goal.returns
returns c =
    let history = c.args.history.now in
    let operations = operations_of history.events in
    let by_time = c.by_time-by_time.ensures in
    let few = few_initial history.initial operations (rw by_time.by_time at by_time.complete) in
    let there = called_late history.initial operations (later_by ORIGIN c.args.operation) c.args.operation few (omega arith) refl in
    through (rw (by_time.by_time, c.timed.ensures) at c.has_operation.ensures) (there.1, there.0)
