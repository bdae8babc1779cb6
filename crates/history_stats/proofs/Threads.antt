-- The threads that have an event, and their number.
use Rattle.std.proofs.Common.{◌≡◌, ℕ, zero, suc, ◌+◌, ◌<◌, List, [], ◌∷◌, length, get_or, Bool, false, cond, refl, sym}
use Rattle.std.proofs.Common.{◌∙◌, ap, arith}
use Rattle.std.specs.Prelude.{count_by}
use Rattle.std.specs.List.{range_with_len}
use Rattle.std.proofs.lemmas.List.Sums.{sum_by-cons}

-- the number of set marks is that of the numbers that pass, if each mark shows whether its number passes
pub marks_count : (passes : ℕ → Bool) (marks : List Bool) (from : ℕ)
    → ((k : ℕ) → k < length marks → get_or marks k false ≡ passes (from + k))
    → count_by (λ mark. mark) marks ≡ count_by passes (range_with_len from (length marks))
marks_count passes [] from same = refl
marks_count passes (mark ∷ marks) from same =
    let here : mark ≡ passes from = same zero (omega arith) ∙ ap passes (omega arith) in
    let more = marks_count passes marks (from + 1) (λ k below. same (suc k) (omega arith) ∙ ap passes (omega arith)) in
    sum_by-cons (λ (m : Bool). cond m 1 0) mark marks ∙ (λ i. cond (here i) 1 0 + more i)
    ∙ sym (sum_by-cons (λ n. cond (passes n) 1 0) from (range_with_len (from + 1) (length marks)))
