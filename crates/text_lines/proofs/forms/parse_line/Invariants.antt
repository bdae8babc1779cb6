use Rattle.text_lines.proofs.Common.{◌≡◌, map, drop, row_of, parse_line, fields_of}
use Rattle.text_lines.proofs.forms.parse_line.Given as goal

abbrev pub invariant-loop-row : goal.invariant-loop-row
invariant-loop-row g l = parse_line l.line (map row_of l.table) (fields_of l.bytes) ≡ parse_line l.line (map row_of (drop l.row-index l.table)) (fields_of l.bytes)
