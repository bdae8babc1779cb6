-- The names that most proofs of this crate cite, passed on from one place. Declares nothing.
pub use Rattle.std.proofs.Common.{Bool, Err, List, None, Ok, Option, Some, [], ap, append-nil, append_assoc, ap₂}
pub use Rattle.std.proofs.Common.{arith, cond, drop, false, get_or, inl, inr, length, length-append, length-drop, map}
pub use Rattle.std.proofs.Common.{nat_eq, nat_le, nat_lt, not, refl, rules, subst, suc, sym, take, true, zero, ℕ}
pub use Rattle.std.proofs.Common.{◌&&◌, ◌*◌, ◌++◌, ◌+◌, ◌-◌, ◌/◌, ◌<◌, ◌^◌, ◌||◌, ◌∙◌, ◌∷◌, ◌≡◌, ◌≤◌, ◌⊎◌}
pub use Rattle.std.proofs.KnownBytes.{Appends-trans}
pub use Rattle.std.proofs.Math.Bool.{or-false, or-true}
pub use Rattle.std.proofs.Math.Seq.{take-add, take-append_seam}
pub use Rattle.std.proofs.lemmas.Bool.{cases_lt}
pub use Rattle.std.proofs.lemmas.Bool.Decides.{eqb_tells, nat_tests}
pub use Rattle.std.proofs.lemmas.Fmt.{decimal_digit, decimal_nonempty, length-decimal-le}
pub use Rattle.std.proofs.lemmas.List.{drop-drop, get_or-take, length-take-le, take-append-drop, take_all, take_rest}
pub use Rattle.std.proofs.lemmas.List.Elements.{All-from_get_or}
pub use Rattle.std.proofs.lemmas.List.Folds.{list_all-append}
pub use Rattle.std.proofs.lemmas.List.Splits.{slice_split_at, slice_split_none}
pub use Rattle.std.proofs.lemmas.List.Sums.{prefix_len-le-length}
pub use Rattle.std.proofs.lemmas.Str.Parse.{numerals_by_value}
pub use Rattle.std.specs.Char.{is_ascii_digit}
pub use Rattle.std.specs.Int.{from_le_bytes, w64}
pub use Rattle.std.specs.Io.KnownBytes.{Appends, Keeps, append_known}
pub use Rattle.std.specs.List.{AllByRecursion, flat_map, list_all}
pub use Rattle.std.specs.Prelude.{OnOk, decimal, if◌then◌else◌, ◌==◌}
pub use Rattle.std.specs.Str.{bytes_eq}
pub use Rattle.std.specs.Str.Parse.{digits_value}
pub use Rattle.std.specs.declared.result.Result.{Result}
pub use Rattle.text_lines.specs.Forms.{fields_left, fits, form_of, numbers_in, parse_line, row_of}
pub use Rattle.text_lines.specs.Inner.Digits.{IsDigitsSoFar}
pub use Rattle.text_lines.specs.Inner.Lines.{IsPartOfLine, has_no_line_feed}
pub use Rattle.text_lines.specs.Lines.{begins_as_end, end_in, fields_of, is_line_feed, is_number, number_between}
pub use Rattle.text_lines.specs.Lines.{number_in, spaced, ◌>>=◌}
pub use Rattle.text_lines.specs.Writing.{AppendsFront, Asked, IsRefused, IsWritten, TakesAll}
pub use Rattle.text_lines.specs.declared.fault.TextFault.{TextFault}
