use Rattle.history_text.proofs.Common.{◌+◌, ◌∙◌, ◌∷◌, ◌++◌, ◌<◌, ◌≡◌, [], arith, common_steps, length, length-append}
use Rattle.history_text.proofs.Common.{line_of, MAX_EVENTS, rules, Takes}
use Rattle.history_text.proofs.Consuming.{taken_through}
use Rattle.history_text.proofs.FirstFaults.{carries, HaveLines-push, item_fault, no_room, takes_item}
use Rattle.history_text.proofs.reader.TextReader.collect_items.Goals as goal
use Rattle.history_text.proofs.reader.TextReader.collect_items.Goals.{in-Some}
use Rattle.history_text.proofs.reader.TextReader.collect_items.Goals.{in-None-2+in_ok-item-in-None-2+in-Some-2}

pub loop-item-preserved-in-None : goal.loop-item-preserved-in-None
loop-item-preserved-in-None g c =
    let known = c.loop-item.invariant in record {
      items = known.items;
      right = known.right;
      taken = taken_through _ _ _ _ known.taken (rw c.in-None.ensures.none at c.complete_line.ensures.left);
      held = known.held;
      count = known.count;
      lines = (rw c.in-None.ensures.none at c.complete_line.ensures.lines) ∙ known.lines;
    }

pub returns-in_err-item-in-None-2-clause-fault : goal.returns-in_err-item-in-None-2-clause-fault
returns-in_err-item-in-None-2-clause-fault g c =
    let known = c.loop-item.invariant in
    let failed = c.in_err-item-in-None-2.ensures in
    rw (carries c.from_residual.result _ c.from_residual.ensures.1)
    (item_fault g.T.Item.format known.items (c.args.self.now.lines + 1) _ c.loop-item.count _ _ _ known.right known.count (omega (arith, known.lines))
    failed.of_input known.taken (rw c.in-None.ensures.none at failed.fault))

pub returns-then-is_err-clause-fault : goal.returns-then-is_err-clause-fault
returns-then-is_err-clause-fault g c =
    let known = c.loop-item.invariant in
    elim c.match-item_in_buffer.branch [
      | in-Some w ↦
          let taken = w.in-Some.ensures.item in
          no_room g.T.Item.format known.items w.in-Some.item _ _ _ known.right known.taken (rw known.count at taken.2) taken.1 taken.0
      | in-None-2+in_ok-item-in-None-2+in-Some-2 w ↦
          let taken = rw w.in-Some-2.is at w.in_ok-item-in-None-2.ensures.ok in
          no_room g.T.Item.format known.items w.in-Some-2.item _ _ _ known.right (rw (← w.in-None.ensures.none) at known.taken)
          (rw known.count at taken.2) taken.1 taken.0
    ]

pub loop-item-preserved : goal.loop-item-preserved
loop-item-preserved g c =
    let known = c.loop-item.invariant in
    let format = g.T.Item.format in
    let item = c.match-item_in_buffer.item in
    let took : Takes c.loop-item.self.left c.match-item_in_buffer.self.left (line_of format item) × format.HasLine item
    × (c.loop-item.count < format.most) × (c.match-item_in_buffer.self.lines ≡ c.loop-item.self.lines + 1) =
    elim c.match-item_in_buffer.branch [
      | in-Some w ↦
          let taken = w.in-Some.ensures.item in rw (w.self-is, w.item-is) (taken.0, taken.1, taken.2, w.in-Some.ensures.lines)
      | in-None-2+in_ok-item-in-None-2+in-Some-2 w ↦
          let taken = rw (w.in-Some-2.is, w.in-None.ensures.none) at w.in_ok-item-in-None-2.ensures.ok in
          rw (w.self-is, w.item-is) (taken.0, taken.1, taken.2, rw w.in-None.ensures.none at w.in_ok-item-in-None-2.ensures.lines)
    ] in
    let few : length known.items < MAX_EVENTS = search (rules, known.count, took.2) in
    let added = c.add.ensures c.args.into.now known.items known.held few in record {
      items = known.items ++ item ∷ [];
      right = HaveLines-push format known.items item known.right took.1 (rw known.count at took.2);
      taken = takes_item format known.items item _ _ _ known.taken took.0;
      held = grind (arith, common_steps);
      count = rw length-append (omega (arith, known.count));
      lines = omega (arith, known.lines, took.3);
    }
