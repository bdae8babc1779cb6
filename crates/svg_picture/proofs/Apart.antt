-- Rows and lanes are apart, by the laws of the scene.
use Rattle.svg_picture.proofs.Common.{◌*◌, ◌+◌, ◌<◌, ◌↔◌, arith, inl, inr, mul-le-mul_left, page_of, thread_x}
use Rattle.std.proofs.lemmas.Bool.{cases_lt, cond_both}
use Rattle.std.proofs.lemmas.List.Sums.{count_by-le-length}
use Rattle.history_merge.specs.Operations.{Precedes}
use Rattle.drawing.proofs.Nearness.{seen_before_added}
use Rattle.drawing.proofs.Below.{more_before}
use Rattle.drawing.proofs.Rows.{rows_rise, rows_tell_precedence}
use Rattle.drawing.specs.declared.scene.Row.TheVariants.{Ticket}
use Rattle.drawing.specs.Pending.{is_pending}
use Rattle.drawing.specs.Scene.{scene_of, rows_of, row_number, stands_above}
use Rattle.svg_picture.specs.Layout.{bottom, call_y, ret_y}
use Rattle.svg_picture.specs.Laws.{RowsAreApart, BarsOverlapInTime, LanesAreApart}

-- rows are apart
pub rows_are_apart : RowsAreApart
rows_are_apart page other row among above = let rises = rows_rise page.scene.rows other row among above in omega arith

-- bars share a height if and only if their operations overlap
pub bars_overlap_in_time : BarsOverlapInTime
unfolding scene_of row_number bottom
bars_overlap_in_time history claimed drawn added_from x y in_x drawn_too seen =
    let tells = rows_tell_precedence history claimed drawn x y in_x drawn_too in
    let page = page_of (scene_of history claimed drawn added_from) in
    let rows = rows_of history claimed drawn in
    cond_both (is_pending added_from x) (bottom page.measures) (ret_y page x.ret) (λ end. Precedes x y ↔ (end < call_y page y.call))
    (λ pending.
    let no_earlier = seen_before_added added_from y.call x.ret seen pending in
    let within = count_by-le-length (λ other. stands_above other (Ticket y.call)) rows in (
      λ less. absurd (omega arith),
      λ above. absurd (omega arith),
    ))
    (λ returned. (
      λ less. let rises = tells.0 less in omega arith,
      λ above. elim (cases_lt (row_number rows (Ticket x.ret)) (row_number rows (Ticket y.call))) [
        | inl rises ↦ tells.1 rises
        | inr falls ↦ absurd (omega arith)
      ],
    ))

-- lanes of different threads are apart
pub lanes_are_apart : LanesAreApart
unfolding thread_x
lanes_are_apart page thread higher among less =
    let more = more_before page.scene.threads thread higher among less in
    let wide = mul-le-mul_left (28 + 7 * (page.measures.label + page.measures.number) + 6) more in
    omega arith
