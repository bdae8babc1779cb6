use Rattle.text_lines.proofs.Common.{rules}
use Rattle.text_lines.proofs.Fields.{is_one_part, cut_at_first}
use Rattle.text_lines.proofs.field.split_field.Goals as goal

pub returns-then-b-eq32 : goal.returns-then-b-eq32
returns-then-b-eq32 c = cut_at_first 32 c.args.bytes.now c.loop-i.i c.loop-i-test.true c.loop-i.invariant c.if-b-eq32.true

pub returns : goal.returns
returns c = is_one_part 32 c.args.bytes.now (search rules)
