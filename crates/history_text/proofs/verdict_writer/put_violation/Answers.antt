use Rattle.history_text.proofs.Common.{[], ◌∷◌, flat_map, line_text, places_of_step}
use Rattle.claims.specs.declared.shown.LinePlace.TheVariants as place
use Rattle.history_text.proofs.WrittenClaims.{first_stops, lines_for_each, others_then}
use Rattle.history_text.proofs.verdict_writer.put_violation.Goals as goal

pub returns-in_err-put_each-in-Witness : goal.returns-in_err-put_each-in-Witness
returns-in_err-put_each-in-Witness g c = rw c.in-Witness.is (first_stops _ _ _ (line_text c.args.lines.now.initial.now c.args.lines.now.operations.now) _
    c.from_residual.result (place.Op c.in-Witness.empty ∷ []) (flat_map places_of_step c.in-Witness.cover) _ _ _ _ c.from_residual.ensures.1
    c.in_err-put_each-in-Witness.ensures.text)

pub returns-in_ok-put_each-in-Witness : goal.returns-in_ok-put_each-in-Witness
returns-in_ok-put_each-in-Witness g c = rw c.in-Witness.is (others_then _ _ _ (line_text c.args.lines.now.initial.now c.args.lines.now.operations.now) c.put_cover.result
    (place.Op c.in-Witness.empty ∷ []) (flat_map places_of_step c.in-Witness.cover) _ _ _ _ _ _ c.in_ok-put_each-in-Witness.ensures.text
    (rw (c.as_slice.ensures, lines_for_each (line_text c.args.lines.now.initial.now c.args.lines.now.operations.now) places_of_step c.in-Witness.cover)
    at c.put_cover.ensures))
