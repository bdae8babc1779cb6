-- The names that most proofs of this crate cite, passed on from one place. Declares nothing.
pub use Rattle.std.proofs.Common.{All, ap, append-nil, append_assoc, ap₂, arith, Bool, bytes_eq, codes, Contains}
pub use Rattle.std.proofs.Common.{decimal, drop, drop-drop, Err, false, filter_map, flat_map, get_or, IfErr, IfOk}
pub use Rattle.std.proofs.Common.{IfSome, if◌then◌else◌, inl, inr, IsErrAnd, length, length-append, length-drop}
pub use Rattle.std.proofs.Common.{length-take-le, List, map, MatchOption, MatchResult, nat_lt, None, not, Ok, Option}
pub use Rattle.std.proofs.Common.{option_map, option_to_list, refl, rules, slice_get, Some, subst, suc, sym, take}
pub use Rattle.std.proofs.Common.{take-add, take-append-drop, take_all, true, zero, [], ℕ, ◌%◌, ◌&&◌, ◌*◌, ◌++◌, ◌+◌}
pub use Rattle.std.proofs.Common.{◌-◌, ◌<◌, ◌==◌, ◌^◌, ◌∙◌, ◌∷◌, ◌≡◌, ◌≤◌}
pub use Rattle.std.proofs.lemmas.Bool.Decides.{nat_tests}
pub use Rattle.std.proofs.lemmas.Fmt.{decimal_digit, decimal_nonempty, decimal_step, length-decimal-le}
pub use Rattle.std.proofs.lemmas.Grind.{common_steps, flat_map-append}
pub use Rattle.std.proofs.lemmas.List.{drop_more, length-map, take_rest}
pub use Rattle.std.proofs.lemmas.List.Splits.{join_with_byte-slice_split}
pub use Rattle.std.proofs.lemmas.Bool.{and_right, false_from_ne_true}
pub use Rattle.std.proofs.lemmas.Result.{err_from_is_err_and}
pub use Rattle.std.specs.List.{AllByRecursion, cons_option, list_all}
pub use Rattle.std.specs.declared.result.Result.{Result}
pub use Rattle.event_records.specs.declared.event.Event.{Event}
pub use Rattle.event_records.specs.declared.limits.TheConstants.{MAX_CLAIM_LINES, MAX_EVENTS, MAX_INITIAL, MAX_THREAD}
pub use Rattle.event_records.specs.declared.limits.TheConstants.{MAX_TICKET}
pub use Rattle.text_lines.specs.Forms.{AreOfForm, FieldForm, Number, numbers_in, parse_line, spelled, Table, Word}
pub use Rattle.text_lines.specs.Inner.Lines.{has_no_line_feed, IsPartOfLine}
pub use Rattle.text_lines.specs.Input.{after, Ahead, Ending, EndOfInput, Exactly, Failure, Gives, Known, over}
pub use Rattle.text_lines.specs.Lines.{begins_as_end, end_in, end_line, fault_at, fields_of, Front, front_of}
pub use Rattle.text_lines.specs.Lines.{greatest_value, header_fault, is_line_feed, line, longest_line, Nothing, spaced}
pub use Rattle.text_lines.specs.Lines.{TooLong, Unfinished, Whole, ◌>>=◌}
pub use Rattle.text_lines.specs.Writing.{Asked, PutsText, TakesFront, TakesSome}
pub use Rattle.text_lines.specs.declared.fault.TextFault.{TextFault}
pub use Rattle.text_lines.specs.declared.fault.TextFault.TheVariants.{Cut, Header, Line, Memory, Read}
pub use Rattle.text_lines.proofs.Consuming.{some_input}
pub use Rattle.text_lines.proofs.Fronts.{front_too_long, front_unfinished, whole}
pub use Rattle.text_lines.proofs.Numbers.{end_ok, text_is}
pub use Rattle.text_lines.proofs.Putting.{one_more_put, puts_after, puts_then, some_kept, some_then, stops_at_next}
pub use Rattle.text_lines.proofs.Putting.{stops_before, stops_inside}
pub use Rattle.text_lines.proofs.Tables.{has_bits, is_line_form, numbers_back, parse_line_says, spelled_is_line}
pub use Rattle.text_lines.proofs.WrittenLines.{all_digits, end_read, field_is_clean, IsLineOf, number_is_field}
pub use Rattle.history_merge.specs.declared.operation.OpKind.{OpKind}
pub use Rattle.history_merge.specs.declared.operation.OpKind.TheVariants.{Dequeue, DequeueEmpty, Enqueue}
pub use Rattle.history_merge.specs.declared.operation.OpKind.TheVariants.{EnqueueFailed}
pub use Rattle.history_merge.specs.declared.operation.Operation.{Operation}
pub use Rattle.recorder_core.specs.declared.step.Step.{Step}
pub use Rattle.claims.specs.Claiming.{line_at}
pub use Rattle.claims.specs.declared.claimed.ClaimLine.{ClaimLine}
pub use Rattle.claims.specs.declared.claimed.ClaimLine.TheVariants.{Initial, Op}
pub use Rattle.claims.specs.declared.claimed.ViolationKind.{ViolationKind}
pub use Rattle.history_text.specs.Claims.{claim_line_format, claim_line_in, ClaimFault, empty_operation, first_line}
pub use Rattle.history_text.specs.Claims.{FirstLineFault, HasClaimLine, HasOperationLine, HasVerdictText, initial_form}
pub use Rattle.history_text.specs.Claims.{initial_forms, initial_of, is_initial, IsKindInRange, IsVerdictTextFault}
pub use Rattle.history_text.specs.Claims.{NoRoomForVerdict, operation_format, operation_forms, operation_of}
pub use Rattle.history_text.specs.Claims.{valued_operation}
pub use Rattle.history_text.specs.Histories.{event_format, event_forms, event_in, event_line, event_of, HasEventLine}
pub use Rattle.history_text.specs.Histories.{HasHistoryText, HasValueInRange, lines_to_end, plain_event, valued_event}
pub use Rattle.history_text.specs.Histories.{what_fields}
pub use Rattle.history_text.specs.Inner.Taking.{behind, BrokenLineFault, count_format, FaultAtFront, HasItemsFault}
pub use Rattle.history_text.specs.Inner.Taking.{IsItemLine}
pub use Rattle.history_text.specs.Inner.Taking.{IsOfInput, IsSpelled, NoLineFault, setting_format}
pub use Rattle.history_text.specs.Inner.Verdicts.{line_text, lines_text}
pub use Rattle.history_text.specs.Items.{a_value, FaultAmong, Format, HaveLines, item_at_front, item_in, ItemFault}
pub use Rattle.history_text.specs.Items.{line_at_front, line_of, LineFault, lines_of, NoRoom, NoRoomAmong, read_by}
pub use Rattle.history_text.specs.Reading.{BeginsWith, Fails, HasFirstFault, HasMore, HasTextFault, Input, IsAll}
pub use Rattle.history_text.specs.Reading.{IsOver}
pub use Rattle.history_text.specs.Reading.{IsNext, Left, MayBeLeft, OfLeft, Takes}
pub use Rattle.history_text.specs.Schedules.{draining, HasScheduleText, HasStepLine, IsAnswerInRange}
pub use Rattle.history_text.specs.Schedules.{IsScheduleTextFault, IsSetting, lines_before_steps, NoRoomForSchedule}
pub use Rattle.history_text.specs.Schedules.{plain_saying, plain_step, schedule_header, schedule_text, setting_fields}
pub use Rattle.history_text.specs.Schedules.{setting_form, setting_forms, setting_in, setting_of, step_fields}
pub use Rattle.history_text.specs.Schedules.{step_format, step_forms, step_in, step_of, step_with, valued_saying}
pub use Rattle.history_text.specs.Verdicts.{claim_line, claim_line_fields, claim_of, kind_fields, maybe_place}
pub use Rattle.history_text.specs.Verdicts.{operation_fields, operation_line, places_of_step, verdict_places}
pub use Rattle.history_text.specs.Verdicts.{verdict_text, violation_places}
pub use Rattle.history_text.specs.Versions.{count_before_events, count_fields, count_forms, count_in, FaultAfterHeader}
pub use Rattle.history_text.specs.Versions.{HasText, HaveValueLines, header_of, HistoryText, is_blank, IsReadAs}
pub use Rattle.history_text.specs.Versions.{IsTextFault, lines_before_events, lines_of_initial, NoRoomForText}
pub use Rattle.history_text.specs.Versions.{NoVersionFault, number_of, text_by, text_of, value_fields, value_format}
pub use Rattle.history_text.specs.Versions.{value_forms, value_in}
pub use Rattle.history_text.specs.declared.version.Version.{Version}
pub use Rattle.history_text.specs.declared.version.Version.TheVariants.{One, Two}
pub use Rattle.std.proofs.lemmas.List.Elements.{All-contains, All-from_recursion, All-more, All-push}
pub use Rattle.std.proofs.lemmas.List.Elements.{recursion_from_All}
