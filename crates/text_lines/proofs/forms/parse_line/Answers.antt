use Rattle.text_lines.proofs.Tables.{form_is_short}
use Rattle.text_lines.proofs.forms.parse_line.Goals as goal

pub numbers_in-requires : goal.numbers_in-requires
numbers_in-requires g c = form_is_short c.args.table.now c.loop-row.row-index _ c.loop-row-test.true c.requires c.row-item.is
