-- Names that most proofs of this crate cite, exported from one place. Declares nothing.
pub use Rattle.std.proofs.Common.{[], ◌++◌, ◌+◌, ◌<◌, ◌∙◌, ◌∷◌, ◌≡◌, ◌⊎◌, add-one, ap, arith, drop, false, get_or, inl}
pub use Rattle.std.proofs.Common.{inr}
pub use Rattle.std.proofs.Common.{length, length-take-le, List, map, None, Option, refl, slice_get, Some, subst, suc}
pub use Rattle.std.proofs.Common.{sym, take, take-suc, zero, ℕ}
pub use Rattle.event_records.specs.declared.event.Event.{Event}
pub use Rattle.command_words.specs.Commands.{check, complete, draw, shrink, stats, verify}
pub use Rattle.command_words.specs.Options.{drawing_as, linearizability}
pub use Rattle.commands.specs.Evidence.{input_of}
pub use Rattle.commands.specs.Judging.{AnswersOrNoMemory, from_none, JudgesHistory}
pub use Rattle.commands.specs.Running.{AnswersOf}
pub use Rattle.fifobench_c.specs.Recorded.{AreEvents, event_of, IsFirstUnknown}
