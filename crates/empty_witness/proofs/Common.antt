-- The names that most proofs of this crate cite, passed on from one place. Declares nothing.
pub use Rattle.empty_witness.specs.Answers.{AreAllWindows, AreGapsAt, IsEmptyAnswerAt, IsFirstCovered, IsSoonerOf}
pub use Rattle.empty_witness.specs.Inner.Spans.{IsFirstOutside, IsOfBoth, IsWithSpan, NamesChosenCover}
pub use Rattle.empty_witness.specs.Spans.{AreApart, AreSpansOf, Holds, LiesIn, stay_of}
pub use Rattle.empty_witness.specs.declared.spans.Span.{Span}
pub use Rattle.history_merge.proofs.Distinct.{call_before_return, contains_cons, no_enqueue, not_in_none, one_at}
pub use Rattle.history_merge.proofs.Distinct.{place_of, return_differs_from_call, return_in_range}
pub use Rattle.event_records.specs.declared.limits.TheConstants.{ORIGIN}
pub use Rattle.history_merge.specs.Initial.{Contents, initial_enqueues, later_by}
pub use Rattle.history_merge.specs.Inner.Timeline.{timeline}
pub use Rattle.history_merge.specs.Operations.{Did, IsAt, IsInWindow, NoneDid, Precedes}
pub use Rattle.history_merge.specs.declared.operation.OpKind.TheVariants.{Dequeue, DequeueEmpty, Enqueue}
pub use Rattle.history_merge.specs.declared.operation.OpKind.TheVariants.{EnqueueFailed}
pub use Rattle.history_merge.specs.declared.operation.Operation.{Operation}
pub use Rattle.std.proofs.Common.{[], ap, ap₂, arith, drop, false, get_or, inl, inr, leb, length, length-append}
pub use Rattle.std.proofs.Common.{length-take-le, List, ltb, map, max, None, Option, refl, rules, set, Some, subst}
pub use Rattle.std.proofs.Common.{suc, sym, take, true, zero, ℕ, ◌*◌, ◌++◌, ◌+◌, ◌-◌, ◌<◌, ◌∙◌, ◌∷◌, ◌≡◌, ◌≢◌, ◌≤◌}
pub use Rattle.std.proofs.Common.{◌⊎◌}
pub use Rattle.std.proofs.lemmas.Bool.{cases_lt, cases_order, le-ltb, leb-false, leb-true, lt-ltb, MatchBool-at_false}
pub use Rattle.std.proofs.lemmas.Bool.{MatchBool-at_true}
pub use Rattle.std.proofs.lemmas.List.{append-nil, get_or_append_left, get_or_default, get_or_push, get_or_read}
pub use Rattle.std.proofs.lemmas.List.{nil_from_length, set_at, take-append-drop, take_all}
pub use Rattle.std.proofs.lemmas.List.Elements.{All-append, All-contains, All-drop, All-from_get_or, All-get_or}
pub use Rattle.std.proofs.lemmas.List.Elements.{All-nil, All-pop, All-push, All-weaker, AllZip-get_or}
pub use Rattle.std.proofs.lemmas.List.Elements.{Contains-append_cases, Contains-append_left, Contains-append_right}
pub use Rattle.std.proofs.lemmas.List.Elements.{Contains-get_or, Contains-push, Contains-push_cases}
pub use Rattle.std.proofs.lemmas.Option.{MatchOption-at_some, slice_get-map, slice_get_within}
pub use Rattle.std.specs.List.{AllZip}
pub use Rattle.std.specs.Prelude.{All, AllPairs, Contains, filter, is_none, IsSome, MatchOption, option_map, slice_get}
pub use Rattle.std.specs.Prelude.{⊤}
pub use Rattle.value_match.proofs.Lists.{one_deeper, one_more, one_more_zipped, passed_filter, passes_filter}
pub use Rattle.value_match.proofs.Lives.{dequeued_if_called, life_is_contained, life_of_contained}
pub use Rattle.value_match.specs.Choice.{IsChosenCover, IsChosenCoverFrom, IsChosenWitness, IsNextOfCover}
pub use Rattle.value_match.specs.Choice.{StaysAtLeast}
pub use Rattle.value_match.specs.Lives.{AreLeastFreeGaps, call_or_never, Course, course, course_of, Covers}
pub use Rattle.value_match.specs.Lives.{dequeue_call, dequeue_of, enqueue_of, enqueue_return, HoldsPlaces}
pub use Rattle.value_match.specs.Lives.{is_empty_answer, is_empty_kind, IsCovered, IsFreeGap, IsLeastFreeGap, IsLife}
pub use Rattle.value_match.specs.Lives.{lives_of, timed}
pub use Rattle.value_match.specs.Fronts.{EntersBefore, FindsLongest, IsLongestOf}
pub use Rattle.value_match.specs.Inner.Courses.{on}
pub use Rattle.value_match.specs.Times.{time_of}
pub use Rattle.value_match.specs.Violations.{CoversFrom, IsClear, IsWitnessViolation}
pub use Rattle.value_match.specs.declared.life.Life.{Life}
pub use Rattle.value_match.specs.declared.life.MatchedValue.{MatchedValue}
pub use Rattle.value_match.proofs.HistoryPlaces.{clear_on, life_value, value_lives}
pub use Rattle.value_match.specs.Outcome.{HoldsValues}
pub use Rattle.value_match.specs.declared.life.TheConstants.{NEVER}
