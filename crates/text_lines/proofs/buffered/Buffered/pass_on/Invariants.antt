use Rattle.text_lines.proofs.Common.{◌≡◌, ◌-◌, ◌≤◌, length, drop, Keeps, append_known, IsWritten}
use Rattle.text_lines.proofs.buffered.Buffered.pass_on.Given as goal

abbrev pub invariant-loop-self : goal.invariant-loop-self
invariant-loop-self g l = record {
  within : l.self-inside.at ≤ length l.self-inside.kept;
  few : length l.self-inside.kept ≤ 4096;
  bytes : Keeps (append_known (g.S.TextSink.contents l.fn.self.inner) l.fn.self.kept)
      (append_known (g.S.TextSink.contents l.self-inside.inner) (drop l.self-inside.at l.self-inside.kept));
  asked : IsWritten g.S.TextSink.transition l.fn.self.inner l.self-inside.inner;
  same : g.S.TextSink.has_refused l.self-inside.inner ≡ g.S.TextSink.has_refused l.fn.self.inner;
}

abbrev pub decreases-loop-self : goal.decreases-loop-self
decreases-loop-self g l = length l.self-inside.kept - l.self-inside.at
