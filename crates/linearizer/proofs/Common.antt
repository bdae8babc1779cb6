-- The names that most proofs of this crate cite, passed on from one place. Declares nothing.
pub use Rattle.event_records.specs.declared.limits.TheConstants.{MAX_INITIAL, MAX_TIME, ORIGIN}
pub use Rattle.history_merge.proofs.Distinct.{call_before_return, call_by_return, contains_at, contains_cons}
pub use Rattle.history_merge.proofs.Distinct.{no_enqueue, not_in_none, one_at, pairs_at, place_of, return_in_range}
pub use Rattle.history_merge.proofs.Distinct.{returns_at_call, same_call, same_return}
pub use Rattle.history_merge.specs.Complete.{AreComplete, IsTimed}
pub use Rattle.history_merge.specs.Initial.{Contents, later_by}
pub use Rattle.history_merge.specs.Inner.Timeline.{timeline}
pub use Rattle.history_merge.specs.Legal.{ArePlacesOf, IsLegalOrder}
pub use Rattle.history_merge.specs.Operations.{Did, IsAt, IsInWindow, NoneDid, Precedes}
pub use Rattle.history_merge.specs.Queue.{IsAccepted}
pub use Rattle.history_merge.specs.declared.operation.OpKind.{OpKind}
pub use Rattle.history_merge.specs.declared.operation.OpKind.TheVariants.{Dequeue, DequeueEmpty, Enqueue}
pub use Rattle.history_merge.specs.declared.operation.OpKind.TheVariants.{EnqueueFailed}
pub use Rattle.history_merge.specs.declared.operation.Operation.{Operation}
pub use Rattle.linearizer.specs.Inner.Merging.{IsAhead, IsDequeueFrom, IsEnqueueFrom, IsMerge, IsMergedUpTo}
pub use Rattle.linearizer.specs.Inner.Merging.{IsNoopFrom, IsValueFrom, NoneBelow}
pub use Rattle.linearizer.specs.Inner.Placement.{Adds, AreCalledInTime, AreEnqueueGaps, dequeues_of, elements_at}
pub use Rattle.linearizer.specs.Inner.Placement.{enqueues_of, gaps_in, HoldsNoops, HoldsUpTo, IsCalledInRange}
pub use Rattle.linearizer.specs.Inner.Placement.{IsNoopAt, IsOrderOf, IsPlaced, IsAtHistoryPlace, lives_in, NeverFall}
pub use Rattle.linearizer.specs.Inner.Placement.{noop_at}
pub use Rattle.linearizer.specs.Inner.Placement.{noops_in, ordered_lives, place_of as told_of, Placed, placed_in}
pub use Rattle.linearizer.specs.Inner.Placement.{places_in, PlacesValues, position_of}
pub use Rattle.linearizer.specs.Inner.Sweep.{AreByTime, IsDequeuedAt, IsFirstLeft, IsInOrder, IsLeft, IsTaken}
pub use Rattle.linearizer.specs.Inner.Sweep.{IsTimeOf, TakesOneOf}
pub use Rattle.linearizer.specs.Inner.Swept.{IsPassedOver, IsSweepOf}
pub use Rattle.linearizer.specs.Order.{AreChosenAndLegal, dequeue_position, earlier_dequeues, enqueue_position}
pub use Rattle.linearizer.specs.Order.{enqueues, IsChosenOrder, IsPositionFor, IsPositionOf, noop_answers}
pub use Rattle.linearizer.specs.Order.{noop_position, other_dequeues, Position, StandsBefore}
pub use Rattle.linearizer.specs.Values.{dequeue_gap, EachIsChoice, enqueue_gap, greatest_leaves_from, IsChoice}
pub use Rattle.linearizer.specs.Values.{IsLeastBy, IsValueOrder, least_entered_by}
pub use Rattle.linearizer.specs.declared.timed.PackedTimed.{PackedTimed}
pub use Rattle.linearizer.specs.declared.timed.TheConstants.{PLACES}
pub use Rattle.linearizer.specs.declared.timed.Timed.{Timed}
pub use Rattle.order_violation.proofs.Chosen.{did_dequeue, none_overtakes}
pub use Rattle.order_violation.specs.Pairs.{IsFirstOvertaker}
pub use Rattle.std.proofs.Common.{[], ap, ap₂, arith, Bool, cond, drop, false, filter_map, get_or, get_or-set_other}
pub use Rattle.std.proofs.Common.{inl, inr, length, length-take-le, List, map, max, min, None, Option, refl, replicate}
pub use Rattle.std.proofs.Common.{rules, set, Some, subst, suc, swap, sym, take, true, vec_len, zero, ℕ, ◌*◌, ◌++◌}
pub use Rattle.std.proofs.Common.{◌+◌, ◌-◌, ◌<◌, ◌∙◌, ◌∷◌, ◌≡◌, ◌≢◌, ◌≤◌, ◌⊎◌}
pub use Rattle.std.proofs.lemmas.Bool.{cases_Bool, cases_eq, cases_lt, cases_order, eq-eqb, leb-true}
pub use Rattle.std.proofs.lemmas.Bool.Decides.{nat_tests}
pub use Rattle.std.proofs.lemmas.List.{append-nil, append_assoc, get_or-map, get_or_append_left, get_or_push}
pub use Rattle.std.proofs.lemmas.List.{get_or_read, length-append, length-map, length-replicate, length-take}
pub use Rattle.std.proofs.lemmas.List.{length_push, map-append, nil_from_length, take_all}
pub use Rattle.std.proofs.lemmas.List.Edits.{get_or-insert_below, length-insert, length-swap, Swapped}
pub use Rattle.std.proofs.lemmas.List.Edits.{swapped_from_swap}
pub use Rattle.std.proofs.lemmas.List.Elements.{All-cons, All-contains, All-filter, All-get_or, All-head, All-map}
pub use Rattle.std.proofs.lemmas.List.Elements.{All-more, All-nil, All-push, All-tail, All-weaker}
pub use Rattle.std.proofs.lemmas.List.Elements.{Contains-append_cases, Contains-append_left, Contains-append_right}
pub use Rattle.std.proofs.lemmas.List.Elements.{Contains-get_or, Contains-push, Contains-push_cases, filter_map-append}
pub use Rattle.std.proofs.lemmas.List.Kept.{AllPairs-cons}
pub use Rattle.std.proofs.lemmas.List.Sorted.{All-permutation, Contains-permutation}
pub use Rattle.std.proofs.lemmas.List.Sorted.{IsNonDecreasingBy-from_sort_by_key, IsNonDecreasingBy-insert}
pub use Rattle.std.proofs.lemmas.List.Sorted.{IsNonDecreasingBy-push, IsPermutation-append_left}
pub use Rattle.std.proofs.lemmas.List.Sorted.{IsPermutation-append_right, IsPermutation-cons, IsPermutation-insert}
pub use Rattle.std.proofs.lemmas.List.Sorted.{IsPermutation-keeps, IsPermutation-map, IsPermutation-middle}
pub use Rattle.std.proofs.lemmas.List.Sorted.{IsPermutation-pop_more, IsPermutation-refl, IsPermutation-remove}
pub use Rattle.std.proofs.lemmas.List.Sorted.{IsPermutation-sym, IsPermutation-to_front, IsPermutation-trans}
pub use Rattle.std.proofs.lemmas.List.Sorted.{length_permutation}
pub use Rattle.std.proofs.lemmas.Option.{get_or_from_slice_get, MatchOption-at_some, none-some, same_Some}
pub use Rattle.std.proofs.lemmas.Option.{slice_get-get_or, slice_get-map, slice_get_read, slice_get_within}
pub use Rattle.std.proofs.lemmas.Result.{IfOk-weaker}
pub use Rattle.std.proofs.lemmas.Slice.Zip.{all_zipped_more, AllZip-left, AllZip-long, AllZip-right, zip_end, zip_turn}
pub use Rattle.std.specs.List.{AllZip, cons_option, insert}
pub use Rattle.std.specs.List.Sorted.{IsNonDecreasingBy}
pub use Rattle.std.specs.Option.{option_map}
pub use Rattle.std.specs.Prelude.{All, AllPairs, Contains, filter, find, flat_map, fold, if◌then◌else◌, IsPermutation}
pub use Rattle.std.specs.Prelude.{IsSomeAnd, IsTrue, MatchOption, nat_lt, option_to_list, remove, slice_get, ⊤, ◌↔◌}
pub use Rattle.value_match.proofs.Lists.{kept, mapped_from, mapped_to, one_deeper, one_more, passed_filter}
pub use Rattle.value_match.proofs.Lists.{passes_filter}
pub use Rattle.value_match.proofs.Lives.{dequeued_if_called, found_dequeue, life_is_contained, life_of_contained}
pub use Rattle.value_match.proofs.Lives.{one_life_of_dequeue, one_life_of_enqueue, places_of_value, same_dequeue}
pub use Rattle.value_match.proofs.Lives.{value_is_life}
pub use Rattle.value_match.specs.Inner.Accepted.{operation_at}
pub use Rattle.value_match.specs.Lives.{AreLeastFreeGaps, call_or_never, Course, course, course_of, dequeue_call}
pub use Rattle.value_match.specs.Lives.{dequeue_of, dequeue_return, enqueue_call, enqueue_of, enqueue_return}
pub use Rattle.value_match.specs.Lives.{entered_by, HoldsPlaces, is_dequeue_of, is_empty_answer, is_empty_kind}
pub use Rattle.value_match.specs.Lives.{is_failed, is_failed_kind, IsFreeGap, IsLeastFreeGap, IsLife, IsMaybeAt}
pub use Rattle.value_match.specs.Lives.{leaves_from, life_from, lives_of, operations_of_life, return_or_never, timed}
pub use Rattle.value_match.specs.Times.{time_of}
pub use Rattle.value_match.specs.Inner.HistoryPlaces.{timeline_of}
pub use Rattle.value_match.specs.Inner.Courses.{on}
pub use Rattle.value_match.specs.Outcome.{HoldsValues, IsMaybeOperation, IsNamed, IsOperation, IsSource}
pub use Rattle.value_match.proofs.HistoryPlaces.{clear_course, clear_life, clear_on, life_value, mapped_option}
pub use Rattle.value_match.proofs.HistoryPlaces.{operation_on, same_lives, value_lives}
pub use Rattle.value_match.proofs.Agreeing.{Agree, agree_back, Carries, least_of, no_order_of}
pub use Rattle.value_match.specs.Violations.{IsClear, NoOrderViolation, Overtakes}
pub use Rattle.value_match.specs.declared.life.Life.{Life}
pub use Rattle.value_match.specs.declared.life.MatchedValue.{MatchedValue}
pub use Rattle.value_match.specs.declared.life.TheConstants.{NEVER}
pub use Rattle.value_match.specs.declared.matching.TheConstants.{MAX_MATCHED}
