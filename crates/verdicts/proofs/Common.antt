-- The names that most proofs of this crate cite, passed on from one place. Declares nothing.
pub use Rattle.std.proofs.Common.{[], add-one, All, AllPairs, ap, append-nil, append_assoc, ap₂, arith, Bool, BTreeSet}
pub use Rattle.std.proofs.Common.{cond, Contains, Decides, drop, drop-cons, eq-eqb, eqb-true, Err, false, filter}
pub use Rattle.std.proofs.Common.{filter_map, find, flat_map, get_or, HoldsAt, IfOk, inl, inr, is_eq, IsPermutation}
pub use Rattle.std.proofs.Common.{IsSome, IsTrue, le-leb, le-ltb, length, length-append, length-drop, List, lt-ltb}
pub use Rattle.std.proofs.Common.{ltb-false, ltb-true, map, MatchBool, MatchOption, MatchResult, max, nat_cmp, nat_eq}
pub use Rattle.std.proofs.Common.{nat_lt, ne_eqb, None, not, Ok, Option, option_and_then, option_map, option_to_list}
pub use Rattle.std.proofs.Common.{position, refl, Result, rules, slice_get, Some, subst, suc, sym, take, take_all}
pub use Rattle.std.proofs.Common.{tests, true, zero, ℕ, ◌*◌, ◌++◌, ◌+◌, ◌-◌, ◌<◌, ◌||◌, ◌↔◌, ◌∙◌, ◌∷◌, ◌≡◌, ◌≢◌, ◌≤◌}
pub use Rattle.std.proofs.Common.{◌⊎◌}
pub use Rattle.std.specs.Prelude.{⊤}
pub use Rattle.std.proofs.lemmas.Bool.{cases_lt, cases_order, false≢true, not-true}
pub use Rattle.std.proofs.lemmas.Bool.Decides.{Decides-at, nat_tests}
pub use Rattle.std.proofs.lemmas.Iterator.{cases_from_all, items_from_collect, YieldsList-from_slice}
pub use Rattle.std.proofs.lemmas.Iterator.Adapters.{fact_from_collect}
pub use Rattle.std.proofs.lemmas.Iterator.Consumers.{YieldsList-from_copied, YieldsList-from_filter}
pub use Rattle.std.proofs.lemmas.Iterator.Consumers.{YieldsList-from_filter_map}
pub use Rattle.std.proofs.lemmas.List.{append_cancel_left, flat_map_more, get_or_append_left, get_or_default}
pub use Rattle.std.proofs.lemmas.List.{length-map, map-append, take_more, take_rest}
pub use Rattle.std.proofs.lemmas.List.Elements.{All-cons, All-contains, All-filter, All-from_recursion, All-map}
pub use Rattle.std.proofs.lemmas.List.Elements.{All-nil, Contains-append_cases, Contains-append_left}
pub use Rattle.std.proofs.lemmas.List.Elements.{Contains-append_right, Contains-get_or, filter_agree}
pub use Rattle.std.proofs.lemmas.List.Elements.{filter_map-append}
pub use Rattle.std.proofs.lemmas.List.Folds.{Any-from_list_any, list_any-append, list_any-from_Any, map_fixed}
pub use Rattle.std.proofs.lemmas.List.Kept.{AllPairs-cons, AllPairs-filter}
pub use Rattle.std.proofs.lemmas.List.Sorted.{answers_always, Contains-permutation, IsNonDecreasingBy-from_sort_by_key}
pub use Rattle.std.proofs.lemmas.List.Sorted.{IsPermutation-map, IsPermutation-sym, IsPermutation-trans}
pub use Rattle.std.proofs.lemmas.List.Sorted.{length_permutation}
pub use Rattle.std.proofs.lemmas.Option.{get_or_from_slice_get, slice_get-get_or, slice_get-map, slice_get_read}
pub use Rattle.std.proofs.lemmas.Option.{slice_get_within}
pub use Rattle.std.proofs.lemmas.Result.{IfOk-weaker}
pub use Rattle.std.specs.BTreeSet.{contains, IsFromIterResult}
pub use Rattle.std.specs.List.{AllByRecursion, AllWithin, AllZip, cons_option, list_any, prefix_len}
pub use Rattle.std.specs.List.Sorted.{IsBinarySearchResult, IsNonDecreasingBy, IsSearchInRange}
pub use Rattle.std.specs.Option.{option_map_or}
pub use Rattle.event_records.specs.Projection.{projection}
pub use Rattle.event_records.specs.Turns.{answers, is_call, TakesTurns}
pub use Rattle.event_records.specs.declared.event.Event.{Event}
pub use Rattle.event_records.specs.declared.event.What.{What}
pub use Rattle.event_records.specs.declared.event.What.TheVariants.{CallDeq, CallEnq, RetDeq, RetEmpty, RetEnq, RetNot}
pub use Rattle.event_records.specs.declared.limits.TheConstants.{MAX_INITIAL, MAX_OPERATIONS, MAX_THREAD, MAX_TICKET}
pub use Rattle.event_records.specs.declared.limits.TheConstants.{MAX_TIME, ORIGIN}
pub use Rattle.history_merge.specs.Complete.{AreComplete, AreDistinct, called_value, called_values, IsCompleteHistory}
pub use Rattle.history_merge.specs.Initial.{Contents, enqueue_at, enqueues_from, HistoryView, initial_enqueues}
pub use Rattle.history_merge.specs.Initial.{IsCompleteFrom, later_by}
pub use Rattle.history_merge.specs.Inner.Timeline.{timeline}
pub use Rattle.history_merge.specs.Legal.{ArePlacesOf, IsLegalOrder, IsLinearizable}
pub use Rattle.history_merge.specs.Operations.{Did, IsAt, NoneDid, operation_of, operations_of, Precedes}
pub use Rattle.history_merge.specs.Queue.{accept, accept_all, IsAccepted}
pub use Rattle.history_merge.specs.declared.operation.OpKind.{OpKind}
pub use Rattle.history_merge.specs.declared.operation.OpKind.TheVariants.{Dequeue, DequeueEmpty, Enqueue}
pub use Rattle.history_merge.specs.declared.operation.OpKind.TheVariants.{EnqueueFailed}
pub use Rattle.history_merge.specs.declared.operation.Operation.{Operation}
pub use Rattle.history_merge.proofs.Distinct.{call_before_return, call_by_return, calls_rise, CallsFor, contains_at}
pub use Rattle.history_merge.proofs.Distinct.{contains_cons, no_enqueue, not_in_none, one_at, operation_within}
pub use Rattle.history_merge.proofs.Distinct.{operations_are_complete, pairs_at, place_of, return_differs_from_call}
pub use Rattle.history_merge.proofs.Distinct.{return_in_range, returns_at_call, returns_at_no_call, same_call}
pub use Rattle.history_merge.proofs.Distinct.{same_enqueue, same_event, same_return, same_value_call}
pub use Rattle.history_merge.proofs.Distinct.{traced}
pub use Rattle.history_merge.proofs.Lists.{AllPairs-tail}
pub use Rattle.history_merge.proofs.Timelines.{later_injective, linearizable_from_exactly, map_map}
pub use Rattle.history_merge.proofs.Timelines.{timeline_is_complete}
pub use Rattle.value_match.specs.Choice.{IsChosenCover, IsChosenCoverFrom, IsChosenFresh, IsChosenFullViolation}
pub use Rattle.value_match.specs.Choice.{IsChosenOrderViolation, IsChosenRepeat, IsChosenWitness, IsNextOfCover}
pub use Rattle.value_match.specs.Choice.{StaysAtLeast}
pub use Rattle.value_match.specs.Times.{initial_enqueue, initial_time, time_of}
pub use Rattle.value_match.specs.Inner.HistoryPlaces.{behind}
pub use Rattle.value_match.specs.Lives.{AreLeastFreeGaps, call_or_never, Course, course, course_of, Covers}
pub use Rattle.value_match.specs.Lives.{dequeue_call, dequeue_of, dequeue_return, enqueue_call, enqueue_of}
pub use Rattle.value_match.specs.Lives.{enqueue_return, is_empty_answer, IsCovered, IsLeastFreeGap, IsLife, IsMaybeAt}
pub use Rattle.value_match.specs.Lives.{IsOfHistory, leaves_from, lives_of, operations_of_life, return_or_never, timed}
pub use Rattle.value_match.specs.declared.life.TheConstants.{NEVER}
pub use Rattle.order_violation.proofs.Chosen.{did_dequeue}
pub use Rattle.value_match.specs.Outcome.{IsChosenViolation, IsMatched, IsMaybeOperation, IsNamed, IsOperation}
pub use Rattle.value_match.specs.Outcome.{IsSource, Names, NamesCover}
pub use Rattle.value_match.specs.Inner.Courses.{on}
pub use Rattle.value_match.specs.Violations.{CoversFrom, fresh, FullViolation, IsClear, IsEnqueuedTooLate}
pub use Rattle.value_match.specs.Violations.{IsFreshViolation, IsNeverEnqueued, IsOrderViolation, IsRepeatViolation}
pub use Rattle.value_match.specs.Violations.{IsViolationOf, IsWitnessViolation, lines_of, NoFreshViolation}
pub use Rattle.value_match.specs.Violations.{NoOrderViolation, NoRepeatViolation, NoWitnessViolation, order, repeat}
pub use Rattle.value_match.specs.Violations.{witness}
pub use Rattle.value_match.specs.declared.life.Life.{Life}
pub use Rattle.value_match.specs.declared.violation.CoverStep.{CoverStep}
pub use Rattle.value_match.specs.declared.life.Source.{Source}
pub use Rattle.value_match.specs.declared.violation.Violation.{Violation}
pub use Rattle.value_match.proofs.HistoryPlaces.{AreLives, course_on, covers_are_lives, dequeues, enqueue_place}
pub use Rattle.value_match.proofs.HistoryPlaces.{enqueue_stands, few_initial, mapped_option, operation_on}
pub use Rattle.value_match.proofs.HistoryPlaces.{same_operation}
pub use Rattle.value_match.proofs.HistoryPlaces.{source_on, timeline_at, timeline_of_history}
pub use Rattle.value_match.proofs.Lists.{keeps, kept, mapped_from, mapped_to, one_deeper, passed_filter, passes_filter}
pub use Rattle.value_match.proofs.Lives.{dequeued_if_called, one_life_of_enqueue}
pub use Rattle.order_violation.specs.declared.pair.OrderPair.{OrderPair}
pub use Rattle.empty_witness.specs.Answers.{IsGapAnswer, IsWitnessAnswer}
pub use Rattle.empty_witness.proofs.Covers.{chosen_cover, chosen_cover_is_shortest, chosen_cover_violates}
pub use Rattle.empty_witness.proofs.Covers.{violation_covers}
pub use Rattle.linearizer.proofs.Elements.{one_place}
pub use Rattle.linearizer.proofs.OneOrder.{chosen_order_exists, operations_rise}
pub use Rattle.claims.specs.Claiming.{is_operation, IsPlaceWithin, line_at, lines_at, lines_of_history}
pub use Rattle.claims.specs.Claiming.{operations_at, operations_named, verdict_places, violation_kind, violation_lines}
pub use Rattle.verdicts.specs.Decided.{IsDecided}
pub use Rattle.verdicts.specs.Inner.Claims.{CallsRise, dequeued_by, enqueued_by, value_dequeued, value_enqueued}
pub use Rattle.claims.specs.Showing.{EnqueuedBefore, LeavesAfter, LineDid, LinePrecedes, LinesCover, NoLineDid}
pub use Rattle.claims.specs.Showing.{ReturnsFirst, Shows}
pub use Rattle.verdicts.specs.Inner.Selecting.{call_in, holds_ticket, SelectsNamed, value_in}
pub use Rattle.verdicts.specs.Selection.{AreLinearizable, ArePartOf, contents_of, IsMinimal, IsShortestCover}
pub use Rattle.verdicts.specs.Selection.{KeepsViolation, select, selects, StaysChosen, value_of}
pub use Rattle.claims.specs.Shown.{maybe_place, place_of_source, places_of_step, violation_places}
pub use Rattle.verdicts.specs.Verdicts.{IsVerdict}
pub use Rattle.claims.specs.declared.shown.LinePlace.{LinePlace}
pub use Rattle.claims.specs.declared.verdict.Verdict.TheVariants.{No, Yes}
pub use Rattle.claims.specs.declared.claimed.ClaimLine.{ClaimLine}
pub use Rattle.claims.specs.declared.claimed.ViolationKind.{ViolationKind}
pub use Rattle.claims.specs.declared.claimed.ViolationKind.TheVariants.{VFresh, VOrd, VRepeat, VWit}
pub use Rattle.history_merge.proofs.Formed.{all_formed}
pub use Rattle.std.proofs.lemmas.Slice.Zip.{AllZip-long}
pub use Rattle.value_match.proofs.Agreeing.{chosen_of}
pub use Rattle.claims.specs.Claims.{kind_of}
unfoldable pub use Rattle.std.specs.List.{IsDistinct}
