-- The names that most proofs of this crate cite, passed on from one place. Declares nothing.
pub use Rattle.std.proofs.Common.{[], All, ap, append-nil, arith, Bool, Bor, drop, false, get_or, is_le, IsPermutation}
pub use Rattle.std.proofs.Common.{length, List, nat_cmp, rules, Some, subst, suc, sym, take, take-append-drop}
pub use Rattle.std.proofs.Common.{take_all, true, zero, ℕ, ◌*◌, ◌++◌, ◌+◌, ◌<◌, ◌∙◌, ◌∷◌, ◌≡◌, ◌≤◌}
pub use Rattle.std.proofs.lemmas.Fn.{always_returns_same}
pub use Rattle.std.specs.List.Sorted.{IsNonDecreasingBy}
pub use Rattle.order_violation.specs.Pairs.{FindsFirst}
pub use Rattle.empty_witness.specs.Answers.{AreWindowsAt}
pub use Rattle.value_match.specs.Lives.{course_of}
