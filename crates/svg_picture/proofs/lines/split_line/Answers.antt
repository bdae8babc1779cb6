use Rattle.svg_picture.proofs.Common.{rules}
use Rattle.text_lines.proofs.Fields.{is_one_part, cut_at_first}
use Rattle.svg_picture.proofs.lines.split_line.Goals as goal

pub returns-then-b-eq10-clause-parts : goal.returns-then-b-eq10-clause-parts
returns-then-b-eq10-clause-parts c = cut_at_first 10 c.args.bytes.now c.loop-i.i c.loop-i-test.true c.loop-i.invariant c.if-b-eq10.true

pub returns-clause-parts : goal.returns-clause-parts
returns-clause-parts c = is_one_part 10 c.args.bytes.now (search rules)
