use Rattle.history_text.proofs.Common.{[], append_assoc, end_line, some_kept, stops_before}
use Rattle.history_text.proofs.history_writer.put_end.Goals as goal

pub returns-in_err-make_room : goal.returns-in_err-make_room
returns-in_err-make_room g c = stops_before _ _ _ _ c.from_residual.result _ _ [] (end_line c.args.count) _ _ c.from_residual.ensures.1
    c.in_err-make_room.ensures.text

pub returns : goal.returns
returns g c = some_kept _ _ _ _ _ _ [] (end_line c.args.count) _ _
    (rw (c.push-2.ensures.bytes, c.push_number.ensures.digits, c.push.ensures.bytes) (simp append_assoc)) c.in_ok-make_room.ensures.text
