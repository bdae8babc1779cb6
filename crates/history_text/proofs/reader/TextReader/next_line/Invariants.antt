use Rattle.history_text.proofs.Common.{◌+◌, ◌-◌, ◌≡◌, length, IsPartOfLine, Takes}
use Rattle.history_text.proofs.reader.TextReader.next_line.Given as goal

abbrev pub invariant-loop-line : goal.invariant-loop-line
invariant-loop-line g l = record {
  taken : Takes l.fn.self.left l.self.left l.line;
  part : IsPartOfLine l.line;
  lines : l.self.lines ≡ l.fn.self.lines + 1;
}

abbrev pub decreases-loop-line : goal.decreases-loop-line
decreases-loop-line g l = 81 - length l.line
