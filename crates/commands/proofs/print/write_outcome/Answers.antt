use Rattle.commands.proofs.Common.{codes, line, longer_front, refused_text, writes_then}
use Rattle.commands.proofs.print.write_outcome.Goals as goal

pub returns-in_err-write_rejections-in-Ok-LeftOpen : goal.returns-in_err-write_rejections-in-Ok-LeftOpen
returns-in_err-write_rejections-in-Ok-LeftOpen g c = rw (c.in-Ok-LeftOpen.is, (rw c.in-Ok-LeftOpen.is at c.in-Ok-LeftOpen.field-0-is))
    (refused_text _ _ _ _ c.from_residual.result _ _ _ c.from_residual.ensures.1
    (longer_front _ _ _ _ (line (codes "OPEN")) _ _ (rw c.as_slice.ensures at c.in_err-write_rejections-in-Ok-LeftOpen.ensures)))

pub returns-in-Ok-LeftOpen : goal.returns-in-Ok-LeftOpen
returns-in-Ok-LeftOpen g c = rw (c.in-Ok-LeftOpen.is, (rw c.in-Ok-LeftOpen.is at c.in-Ok-LeftOpen.field-0-is))
    (writes_then _ _ _ c.write_piece.result _ (line (codes "OPEN")) _ _ _
    (rw c.as_slice.ensures at c.in_ok-write_rejections-in-Ok-LeftOpen.ensures) c.write_piece.ensures)

pub returns-in_err-write_rejections-in-Ok-Played : goal.returns-in_err-write_rejections-in-Ok-Played
returns-in_err-write_rejections-in-Ok-Played g c = rw (c.in-Ok-Played.is, (rw c.in-Ok-Played.is at c.in-Ok-Played.field-0-is))
    (refused_text _ _ _ _ c.from_residual-in_err-write_rejections-in-Ok-Played.result _ _ _
    c.from_residual-in_err-write_rejections-in-Ok-Played.ensures.1
    (longer_front _ _ _ _ _ _ _ (rw c.as_slice-in-Ok-Played.ensures at c.in_err-write_rejections-in-Ok-Played.ensures)))

pub returns-in-Ok-Played : goal.returns-in-Ok-Played
returns-in-Ok-Played g c = rw (c.in-Ok-Played.is, (rw c.in-Ok-Played.is at c.in-Ok-Played.field-0-is))
    (writes_then _ _ _ c.write_shown-in-Ok-Played.result _ _ _ _ _
    (rw c.as_slice-in-Ok-Played.ensures at c.in_ok-write_rejections-in-Ok-Played.ensures) c.write_shown-in-Ok-Played.ensures)

pub returns-in-Ok-Converted : goal.returns-in-Ok-Converted
returns-in-Ok-Converted g c = rw (c.in-Ok-Converted.is, (rw c.in-Ok-Converted.is at c.in-Ok-Converted.field-0-is))
    c.write_history.ensures.text
