use Rattle.linearizer.proofs.Common.{AreCalledInTime, arith, IsInOrder, IsPassedOver, IsSweepOf, ordered_lives, refl}
use Rattle.linearizer.proofs.Common.{subst}
use Rattle.linearizer.proofs.Choosing.{places_in_order}
use Rattle.linearizer.proofs.Choosing.{each_has_times, few_values, is_first_overtaker, no_order_violation, passed_over}
use Rattle.linearizer.proofs.Elements.{lives_are}
use Rattle.linearizer.proofs.ordered_values.order_values.Goals as goal

pub put_in_order-requires-clause-entries : goal.put_in_order-requires-clause-entries
put_in_order-requires-clause-entries c k d within =
    omega (arith, (each_has_times c.args.matching.now c.values.result c.values.ensures.clear c.values.ensures.values k d within).enqueue_is_past)

pub put_in_order-requires-clause-dequeues : goal.put_in_order-requires-clause-dequeues
put_in_order-requires-clause-dequeues c k d within =
    (each_has_times c.args.matching.now c.values.result c.values.ensures.clear c.values.ensures.values k d within).returns_by_never

pub put_in_order-requires-clause-takes_time : goal.put_in_order-requires-clause-takes_time
put_in_order-requires-clause-takes_time c k d within =
    omega (arith, (each_has_times c.args.matching.now c.values.result c.values.ensures.clear c.values.ensures.values k d within).dequeue_takes_time)

pub put_in_order-requires-clause-in_time : goal.put_in_order-requires-clause-in_time
put_in_order-requires-clause-in_time c k d within =
    (each_has_times c.args.matching.now c.values.result c.values.ensures.clear c.values.ensures.values k d within).enters_after_call

pub put_in_order-requires-clause-few : goal.put_in_order-requires-clause-few
put_in_order-requires-clause-few c = few_values c.args.matching.now c.values.result c.values.ensures.clear c.values.ensures.values c.operations-operations.ensures.few

pub invariant_of-result : goal.invariant_of-result
invariant_of-result c =
    let in_order : IsInOrder c.values.result c.in-InOrder.order.items = subst (IsSweepOf c.values.result) c.in-InOrder.is c.in_ok-order.ensures in
    rw (c.initial-initial.ensures.initial, c.operations-operations.ensures.operations)
    (c.values.ensures.clear, places_in_order c.args.matching.now c.values.result c.in-InOrder.order.items c.values.ensures.values in_order)

pub returns-in-InOrder : goal.returns-in-InOrder
returns-in-InOrder c =
    let history = c.args.matching.now in
    let in_order : IsInOrder c.values.result c.in-InOrder.order.items = subst (IsSweepOf c.values.result) c.in-InOrder.is c.in_ok-order.ensures in
    let order = places_in_order history c.values.result c.in-InOrder.order.items c.values.ensures.values in_order in (
      rw (c.initial-initial.ensures.initial, c.operations-operations.ensures.operations) refl,
      no_order_violation history (ordered_lives history c.in-InOrder.order.items) c.values.ensures.clear order.in_order
          (subst AreCalledInTime (lives_are history c.values.result c.in-InOrder.order.items c.values.ensures.values) in_order.in_time),
    )

pub returns-in-PassedOver : goal.returns-in-PassedOver
returns-in-PassedOver c =
    let passed : IsPassedOver c.values.result c.in-PassedOver.value = subst (IsSweepOf c.values.result) c.in-PassedOver.is c.in_ok-order.ensures in (
      passed_over c.args.matching.now c.values.result c.values.ensures.clear c.values.ensures.values c.in-PassedOver.value passed,
      is_first_overtaker c.args.matching.now c.values.result c.values.ensures.clear c.values.ensures.values c.in-PassedOver.value passed,
    )
