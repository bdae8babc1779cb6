-- The names that most proofs of this crate cite, passed on from one place. Declares nothing.
pub use Rattle.std.proofs.Common.{[], ap, ap₂, arith, below_more, Bool, cond, drop, false, get_or, get_or-set_other}
pub use Rattle.std.proofs.Common.{get_or-set_same, inl, inr, IsTrue, length, length-append, length-set, List, map}
pub use Rattle.std.proofs.Common.{nat_lt, None, not, Option, refl, replicate, rules, set, Some, subst, suc, sym, take}
pub use Rattle.std.proofs.Common.{true, unwrap_or, zero, ℕ, ◌*◌, ◌++◌, ◌+◌, ◌-◌, ◌<◌, ◌||◌, ◌↔◌, ◌∙◌, ◌∷◌, ◌≡◌, ◌≢◌}
pub use Rattle.std.proofs.Common.{◌≤◌, ◌⊎◌}
pub use Rattle.std.proofs.Math.Seq.{get_or-append_seam}
pub use Rattle.std.proofs.lemmas.Bool.{cases_Bool, cases_eq, cases_lt, cases_order, eq-eqb, eqb-true, false≢true}
pub use Rattle.std.proofs.lemmas.Bool.{le-ltb, lt-ltb, ltb-false, ltb-true}
pub use Rattle.std.proofs.lemmas.List.{append-nil, drop-map, drop_all, get_or-map, get_or-take, get_or_append_left}
pub use Rattle.std.proofs.lemmas.List.{get_or_default, get_or_read, length-map, length-replicate, length-take-le}
pub use Rattle.std.proofs.lemmas.List.{map-append, take-map, take_all, take_more, with_items_is}
pub use Rattle.std.proofs.lemmas.List.Elements.{All-contains, All-drop, All-from_get_or, All-get_or, All-head, All-nil}
pub use Rattle.std.proofs.lemmas.List.Elements.{All-pop, All-push, All-take, All-weaker, Contains-append_cases}
pub use Rattle.std.proofs.lemmas.List.Elements.{Contains-append_left, Contains-append_right, Contains-push}
pub use Rattle.std.proofs.lemmas.List.Elements.{filter-append, filter_map-append}
pub use Rattle.std.proofs.lemmas.List.Sorted.{All-permutation, Contains-permutation}
pub use Rattle.std.proofs.lemmas.List.Sorted.{IsNonDecreasingBy-from_sort_by_key, IsPartitionedBy-ltb}
pub use Rattle.std.proofs.lemmas.List.Sorted.{IsPartitionPoint-from_clause, IsPermutation-map, IsPermutation-refl}
pub use Rattle.std.proofs.lemmas.List.Sorted.{IsPermutation-sym, IsPermutation-trans, length_permutation}
pub use Rattle.std.proofs.lemmas.Option.{get_or_from_slice_get, slice_get-get_or, slice_get-map, slice_get_read}
pub use Rattle.std.proofs.lemmas.Option.{slice_get_within}
pub use Rattle.std.specs.BTreeSet.{btree_set_len, BTreeSet, contains, keys}
pub use Rattle.std.specs.List.{AllZip, cons_option, list_any}
pub use Rattle.std.specs.List.Sorted.{IsNonDecreasingBy, IsPartitionPoint}
pub use Rattle.std.specs.Ordering.{is_eq, nat_cmp}
pub use Rattle.std.specs.Prelude.{All, AllPairs, Contains, filter, filter_map, find, IfSome, is_some, IsPermutation}
pub use Rattle.std.specs.Prelude.{MatchOption, option_map, slice_get, ⊤}
pub use lib.Dec.{ltb}
pub use lib.Seq.{take-nil}
pub use Rattle.history_merge.proofs.Distinct.{CallsFor, contains_at, contains_cons, each_more, found_first}
pub use Rattle.history_merge.proofs.Distinct.{not_in_none, one_at, pairs_at, place_of, same_enqueue, same_return}
pub use Rattle.history_merge.proofs.Distinct.{same_value_call}
pub use Rattle.history_merge.proofs.KnownValues.{is_eq-nat_cmp, none_by_key}
pub use Rattle.history_merge.proofs.Timelines.{length_enqueues}
pub use Rattle.history_merge.specs.Complete.{AreComplete, IsTimed}
pub use Rattle.event_records.specs.declared.limits.TheConstants.{MAX_INITIAL, ORIGIN}
pub use Rattle.history_merge.specs.Initial.{enqueue_at, enqueues_from, initial_enqueues, later_by}
pub use Rattle.history_merge.specs.Inner.Timeline.{timeline}
pub use Rattle.history_merge.specs.Legal.{ArePlacesOf}
pub use Rattle.history_merge.specs.Operations.{Did, enqueued_value, IsAt, NoneDid, operations_of}
pub use Rattle.history_merge.specs.declared.operation.OpKind.{OpKind}
pub use Rattle.history_merge.specs.declared.operation.OpKind.TheVariants.{Dequeue, DequeueEmpty, Enqueue}
pub use Rattle.history_merge.specs.declared.operation.OpKind.TheVariants.{EnqueueFailed}
pub use Rattle.history_merge.specs.declared.operation.Operation.{Operation}
pub use Rattle.value_match.specs.Inner.Accepted.{HasPlaces, HoldsLives, maybe_operation_at, operation_at, PlacedLife}
pub use Rattle.value_match.specs.Inner.Accepted.{history_value, value_at}
pub use Rattle.value_match.specs.Choice.{StaysAtLeast}
pub use Rattle.value_match.specs.Fronts.{Any, AreEntriesOf, EntersBefore, FindsLongest, HasFronts, IsEntryOf}
pub use Rattle.value_match.specs.Fronts.{IsFrontAt, IsLongerOf, IsLongestOf, IsTableOf, NonePasses, values_at}
pub use Rattle.value_match.specs.Inner.MatchOutcome.{AreChosenFresh, AreChosenRepeat, AreTakers, IsMatchOutcomeOf}
pub use Rattle.value_match.specs.Inner.Others.{CallsNoneOf, HoldsNear, HoldsOthers, IsCall, IsNearSource, NoneOf}
pub use Rattle.value_match.specs.Inner.Sources.{IsMatchedPrefix, HasTakersTo, HoldsDequeues, HoldsSources, IsCallPlace}
pub use Rattle.value_match.specs.Inner.Sources.{IsDequeuePlace, IsFreshFrom, IsSourceOf, NoneFresh, return_at}
pub use Rattle.value_match.specs.Inner.Sources.{TakesFrom}
pub use Rattle.value_match.specs.Lives.{call_or_never, Course, course, course_of, dequeue_call, dequeue_of}
pub use Rattle.value_match.specs.Lives.{dequeues_kind, enqueue_of, enqueue_return, HoldsPlaces, is_dequeue_of}
pub use Rattle.value_match.specs.Lives.{is_empty_answer, is_failed, IsLife, IsMaybeAt, life_from, lives_of, timed}
pub use Rattle.value_match.specs.Inner.Courses.{on}
pub use Rattle.value_match.specs.Outcome.{HoldsValues, IsMaybeOperation, IsNamed, IsOperation, IsSource}
pub use Rattle.value_match.specs.Outcome.{NamesChosenFresh, NamesChosenRepeat}
pub use Rattle.value_match.specs.Times.{initial_enqueue, initial_time}
pub use Rattle.value_match.specs.Inner.HistoryPlaces.{behind, timeline_of, history_place, history_source}
pub use Rattle.value_match.specs.Violations.{CoversFrom, fresh, IsClear, IsEnqueuedTooLate, IsFreshViolation}
pub use Rattle.value_match.specs.Violations.{NoFreshViolation, repeat}
pub use Rattle.value_match.specs.declared.accepted.Pair.{Pair}
pub use Rattle.value_match.specs.declared.fresh.FreshPlaces.{FreshPlaces}
pub use Rattle.value_match.specs.declared.life.Life.{Life}
pub use Rattle.value_match.specs.declared.life.MatchedValue.{MatchedValue}
pub use Rattle.value_match.specs.declared.life.TheConstants.{NEVER}
pub use Rattle.value_match.specs.declared.others.Call.{Call}
pub use Rattle.value_match.specs.declared.table.Front.{Front}
pub use Rattle.value_match.specs.declared.takers.RepeatPlaces.{RepeatPlaces}
