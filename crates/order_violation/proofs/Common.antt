-- The names that most proofs of this crate cite, passed on from one place. Declares nothing.
pub use Rattle.std.proofs.Common.{[], All, ap, arith, Contains, false, get_or, inl, inr, is_some, length, List}
pub use Rattle.std.proofs.Common.{MatchOption, None, Option, option_map, refl, rules, Some, subst, sym, take, true, ℕ}
pub use Rattle.std.proofs.Common.{◌++◌, ◌+◌, ◌<◌, ◌∙◌, ◌∷◌, ◌≡◌, ◌≤◌}
pub use Rattle.std.proofs.lemmas.List.Elements.{All-append, All-contains, All-nil, All-push, All-weaker}
pub use Rattle.std.proofs.lemmas.List.Elements.{Contains-append_left, Contains-append_right, Contains-push}
pub use Rattle.value_match.specs.Choice.{StaysAtLeast}
pub use Rattle.value_match.specs.Lives.{call_or_never, dequeue_call, dequeue_of, dequeue_return, enqueue_call}
pub use Rattle.value_match.specs.Lives.{enqueue_of, IsLife, IsMaybeAt, return_or_never}
pub use Rattle.value_match.specs.Fronts.{EntersBefore, FindsLongest, IsLongestOf, NonePasses}
pub use Rattle.value_match.specs.declared.life.Life.{Life}
pub use Rattle.value_match.specs.declared.life.MatchedValue.{MatchedValue}
pub use Rattle.order_violation.specs.Pairs.{FindsFirst, IsFirstFound, IsFirstOvertaking, IsOrderAnswer}
pub use Rattle.value_match.specs.Violations.{Overtakes}
pub use Rattle.value_match.specs.Outcome.{IsMaybeOperation, IsNamed}
