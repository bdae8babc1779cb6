-- The names that most proofs of this crate cite, passed on from one place. Declares nothing.
pub use Rattle.command_words.specs.Commands.{stress}
pub use Rattle.command_words.specs.Options.{IsWithinRanges, Settings, settings_of}
pub use Rattle.commands.specs.Answers.{answer_of_text_fault, converted, judged, left_open, memory_fault, played}
pub use Rattle.commands.specs.Answers.{rejection_line, rejection_lines, Reply, shown, verified}
pub use Rattle.commands.specs.Evidence.{CheckedIsValid, ConvertedIsChecked, ConvertedIsCounted, ConvertedIsKept}
pub use Rattle.commands.specs.Evidence.{ConvertedIsSameHistory, ConvertedIsVerified, DrawnAsChecked, HasOneAnswer}
pub use Rattle.commands.specs.Evidence.{input_of, IsValidOrNoMemory, SameOrNoMemory, ShrunkIsChecked, ShrunkIsValid}
pub use Rattle.commands.specs.Inputs.{alone, claim_on, ClaimOnText, Drawable, IsClaimOf, IsDrawableOf}
pub use Rattle.commands.specs.Inputs.{IsFaultOfClaimInput, IsFaultOfDrawableInput, IsFaultOfHistoryInput, IsHistoryOf}
pub use Rattle.commands.specs.Inputs.{with_claim}
pub use Rattle.commands.specs.Drawing.{Draws, IsSmall}
pub use Rattle.commands.specs.Judging.{AnswersFor, AnswersOrNoMemory, Converts, Counts, in_version_2, IsCounted, IsCountedAs}
pub use Rattle.commands.specs.Judging.{IsOfVerdict, IsSound, Judges, said_by, ShrinksSound, Verifies}
pub use Rattle.commands.specs.Outcomes.{answer_of}
pub use Rattle.commands.specs.Running.{AnswersOf, PrintsAnswer, PrintsOneOf}
pub use Rattle.event_records.specs.declared.event.Event.{Event}
pub use Rattle.event_records.specs.declared.limits.TheConstants.{LEAST_INITIAL_NAME, MAX_EVENTS, MAX_INITIAL}
pub use Rattle.event_records.specs.declared.limits.TheConstants.{MAX_STRESS_INITIAL, MAX_THREADS}
pub use Rattle.history_merge.specs.Complete.{IsCompleteHistory}
pub use Rattle.history_merge.specs.Initial.{Contents, HistoryView, IsCompleteFrom}
pub use Rattle.history_merge.specs.Legal.{IsLinearizable}
pub use Rattle.history_merge.specs.Merge.{IsMerged}
pub use Rattle.history_merge.specs.Operations.{operations_of}
pub use Rattle.history_text.specs.Claims.{HasVerdictText, IsVerdictTextFault, NoRoomForVerdict}
pub use Rattle.history_text.specs.Schedules.{HasScheduleText, IsScheduleTextFault, NoRoomForSchedule, schedule_text}
pub use Rattle.history_text.specs.Verdicts.{verdict_text}
pub use Rattle.history_text.specs.Versions.{HasText, HaveValueLines, HistoryText, IsTextFault, line_count}
pub use Rattle.history_text.specs.Versions.{NoRoomForText, said_in, text_of, value_format}
pub use Rattle.history_text.specs.declared.version.Version.{Version}
pub use Rattle.history_text.specs.declared.version.Version.TheVariants.{One, Two}
pub use Rattle.recorder_core.specs.Laws.{collected_lists, IsDone}
pub use Rattle.recorder_core.specs.Schedule.{accepted, Attempt}
pub use Rattle.recorder_core.specs.Setting.{Setting}
pub use Rattle.simulation.specs.Simulations.{rejections}
pub use Rattle.std.proofs.Common.{All, ap, append-nil, arith, Bool, codes, false, filter, flat_map, IfSome, inl, inr}
pub use Rattle.std.proofs.Common.{length, List, None, Option, refl, Some, subst, sym, take, true, [], ℕ, ◌++◌, ◌+◌}
pub use Rattle.std.proofs.Common.{◌<◌, ◌∙◌, ◌∷◌, ◌≡◌, ◌≢◌, ◌≤◌, ◌⊎◌}
pub use Rattle.std.proofs.Math.Logic.{⊎_map}
pub use Rattle.text_lines.proofs.Putting.{longer_front, one_more_written, refused_text, stops_in_next, writes_then}
pub use Rattle.history_text.specs.Reading.{Takes}
pub use Rattle.text_lines.specs.Input.{Ahead, Ending, EndOfInput, Known, OfInput}
pub use Rattle.text_lines.specs.declared.fault.TextFault.{TextFault}
pub use Rattle.claims.specs.Claiming.{claim_of, operations_at}
pub use Rattle.verdicts.specs.Decided.{IsDecided}
pub use Rattle.verdicts.specs.Verdicts.{IsExact}
pub use Rattle.claims.specs.declared.verdict.Verdict.{Verdict}
pub use Rattle.claims.specs.declared.verdict.Verdict.TheVariants.{No, Yes}
pub use Rattle.claims.specs.declared.claimed.Claimed.{Claimed}
pub use Rattle.std.specs.Cmp.Lexicographic.{pointwise}
pub use Rattle.text_lines.specs.Lines.{line}
pub use Rattle.history_text.proofs.FirstFaults.{carries}
