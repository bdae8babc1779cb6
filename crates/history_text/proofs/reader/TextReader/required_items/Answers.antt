use Rattle.history_text.proofs.Common.{◌+◌, ◌++◌, ◌∷◌, ◌≡◌, [], arith, common_steps, length-append}
use Rattle.history_text.proofs.FirstFaults.{among_fault, carries, HaveLines-push, no_room_among, takes_item}
use Rattle.history_text.proofs.reader.TextReader.required_items.Goals as goal

pub returns-then-is_err-clause-fault : goal.returns-then-is_err-clause-fault
returns-then-is_err-clause-fault g c =
    let known = c.loop-self.invariant in
    no_room_among g.T.Item.format c.args.count c.loop-self.items.items c.in_ok-item.item _ _ _ known.right known.taken
    (omega (arith, c.loop-self-test.true)) c.requires.few c.in_ok-item.ensures.ok.1 c.in_ok-item.ensures.ok.0

pub returns-in_err-item-clause-fault : goal.returns-in_err-item-clause-fault
returns-in_err-item-clause-fault g c =
    let known = c.loop-self.invariant in
    let failed = c.in_err-item.ensures in
    rw (carries c.from_residual.result _ c.from_residual.ensures.1)
    (among_fault g.T.Item.format c.args.count c.loop-self.items.items (c.args.self.now.lines + 1) _ _ _ _ known.right.each
    (omega (arith, c.loop-self-test.true)) (omega (arith, known.lines)) failed.of_input known.taken failed.fault)

pub loop-self-preserved : goal.loop-self-preserved
loop-self-preserved g c =
    let known = c.loop-self.invariant in
    let item = c.in_ok-item.ensures in
    let few = c.requires.few in
    let more = c.loop-self-test.true in
    let pushed : c.push.new.self.items ≡ c.loop-self.items.items ++ c.in_ok-item.item ∷ [] = grind (arith, common_steps) in record {
      right = rw pushed (HaveLines-push g.T.Item.format c.loop-self.items.items c.in_ok-item.item known.right item.ok.1
          (omega (arith, few, more)));
      taken = rw pushed (takes_item g.T.Item.format c.loop-self.items.items c.in_ok-item.item _ _ _ known.taken item.ok.0);
      few = rw (pushed, length-append) (omega (arith, more));
      lines = rw (pushed, length-append) (omega (arith, item.lines, known.lines));
    }
