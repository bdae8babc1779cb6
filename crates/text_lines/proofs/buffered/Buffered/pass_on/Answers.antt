use Rattle.text_lines.proofs.Common.{ℕ, arith, rules, length-drop, drop-drop}
use Rattle.std.proofs.Common.{length-take}
use Rattle.text_lines.proofs.Appending.{no_refusal, some_passed_on}
use Rattle.text_lines.proofs.Asking.{took, written_more}
use Rattle.text_lines.proofs.buffered.Buffered.pass_on.Goals as goal

pub loop-self-preserved : goal.loop-self-preserved
loop-self-preserved g c =
    let bound = rw c.as_slice.ensures at c.in_ok-count.ensures.bound in
    let bytes = rw c.as_slice.ensures at c.in_ok-count.ensures.bytes in
    record {
      within = omega (arith, bound, c.loop-self.invariant.within, length-take {A = ℕ}, length-drop {A = ℕ});
      few = c.loop-self.invariant.few;
      bytes = some_passed_on _ _ _ _ c.loop-self.self-inside.kept c.loop-self.self-inside.at c.loop-self.invariant.bytes c.in_ok-count.count
          (drop-drop c.in_ok-count.count c.loop-self.self-inside.at c.loop-self.self-inside.kept) bytes;
      asked = written_more g.S.TextSink.transition _ _ _ c.loop-self.invariant.asked
          (took g.S.TextSink.transition c.in_ok-count.count _ _ _ (search rules) c.in_ok-count.ensures.asked);
      same = no_refusal _ _ _ c.in_ok-count.count _ c.in_ok-count.ensures.refused (search rules) c.loop-self.invariant.same;
    }
