-- The names that most proofs of this crate cite, passed on from one place. Declares nothing.
pub use Rattle.std.proofs.Common.{add-one, ap, append-nil, append_assoc, ap₂, arith, Bool, cond, Contains, count_by}
pub use Rattle.std.proofs.Common.{decimal, drop, eq-eqb, eqb-true, false, filter, find, flat_map, fold, get_or, inl}
pub use Rattle.std.proofs.Common.{inr, length, length-take-le, List, lt-ltb, map, map-id, max, mul-le-mul_left, nat_eq}
pub use Rattle.std.proofs.Common.{nat_lt, None, Option, position, refl, rules, slice_get, Some, subst, suc, sum_by}
pub use Rattle.std.proofs.Common.{sym, take, take_all, true, zero, zero-add, [], ℕ, ◌*◌, ◌++◌, ◌+◌, ◌-◌, ◌<◌, ◌==◌}
pub use Rattle.std.proofs.Common.{◌^◌, ◌||◌, ◌∙◌, ◌∷◌, ◌≡◌, ◌≤◌, ◌⊎◌}
pub use Rattle.std.proofs.lemmas.Bool.{cases_lt, cond_both}
pub use Rattle.std.proofs.lemmas.Bool.Decides.{nat_tests}
pub use Rattle.std.proofs.lemmas.List.Elements.{All-weaker, Contains-append_left, Contains-append_right}
pub use Rattle.std.proofs.lemmas.List.Sorted.{Contains-permutation, IsPartitionedBy-ltb, IsPartitionPoint-from_clause}
pub use Rattle.std.proofs.lemmas.List.Sorted.{IsPermutation-sym}
pub use Rattle.std.proofs.lemmas.List.Sums.{AllPass-from_list_all, fold-append, fold_more, sum_by-append, sum_by-cons}
pub use Rattle.std.proofs.lemmas.Option.{get_or_from_slice_get, slice_get-get_or, slice_get_within}
pub use Rattle.std.specs.List.{All, enumerate_from, list_all, list_any, position_or_len, range_with_len, slice_split}
pub use Rattle.event_records.specs.declared.event.Event.{Event}
pub use Rattle.history_merge.specs.Complete.{AreComplete, IsCompleteHistory}
pub use Rattle.history_merge.specs.Initial.{HistoryView}
pub use Rattle.history_merge.specs.Operations.{operations_of, Precedes}
pub use Rattle.history_merge.specs.declared.operation.Operation.{Operation}
pub use Rattle.history_merge.proofs.Distinct.{contains_at, contains_cons, found_first, IsTraced, not_in_none, one_at}
pub use Rattle.history_merge.proofs.Distinct.{operation_within, operations_are_complete, pairs_at, returns_at_no_call}
pub use Rattle.history_merge.proofs.Distinct.{same_call, traced}
pub use Rattle.value_match.proofs.Lists.{one_deeper, passed_filter, passes_filter}
pub use Rattle.claims.specs.declared.claimed.ClaimLine.{ClaimLine}
pub use Rattle.claims.specs.declared.claimed.ClaimLine.TheVariants.{Op}
pub use Rattle.claims.specs.declared.claimed.Claimed.{Claimed}
pub use Rattle.claims.specs.declared.claimed.Claimed.TheVariants.{No, Yes}
pub use Rattle.drawing.specs.Drawn.{drawn_operations, events_before, is_near_any, operation_in, operations_in}
pub use Rattle.drawing.specs.Drawn.{stand_near, standing_of}
pub use Rattle.drawing.specs.Layout.{greatest_call, has_operations, is_under_way, point, stands_in, under_way}
pub use Rattle.drawing.specs.Scene.{effect_if, event_rows, has_row, initial_row, initial_rows, lanes_before}
pub use Rattle.drawing.specs.Scene.{left_out_rows, rows_after, scene_on, stands_above, values_left_out}
unfoldable pub use Rattle.drawing.specs.Scene.{effect_rows, row_number, rows_of}
pub use Rattle.drawing.specs.Terminal.{band_words, head_line, lane_column, lane_names, lane_place, lane_sign}
pub use Rattle.drawing.specs.Terminal.{numbered_row, sign_line, strokes}
pub use Rattle.drawing.specs.Words.{with_words}
pub use Rattle.drawing.specs.declared.scene.Row.{Row}
pub use Rattle.std.proofs.lemmas.List.FromFn.{get_or-enumerate_from, length-enumerate_from, map-range_with_len_more}
pub use Rattle.drawing.specs.Laws.{BarsAreOfOperations, events_in, EventsAreCounted, InitialLinesHaveNumbers}
pub use Rattle.drawing.specs.Laws.{InitialNumbersAreOfLines, InitialRowsAreFirst, InitialValuesHaveRows}
pub use Rattle.drawing.specs.Laws.{InitialValuesHaveTheirNames, LanesAreApart, LinesAreDrawn, OperationsHaveRows}
pub use Rattle.drawing.specs.Laws.{OverlappingAreDrawn, RowsRise, RowsTellPrecedence, ValuesHaveTheirNames}
pub use Rattle.std.proofs.lemmas.Grind.{common_steps}
