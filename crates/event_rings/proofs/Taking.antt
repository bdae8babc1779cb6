-- Lists whose places beyond the first ones were written over.
use Rattle.std.proofs.Common.{◌≡◌, ◌≤◌, ℕ, ◌+◌, List, ◌++◌, length, take, ap, sym, ◌∙◌, append_assoc, length-append}
use Rattle.std.proofs.Math.Seq.{take-append_seam}
use Rattle.std.proofs.lemmas.List.{take-append-le, take_all}

module _ {X : Type 0} where
  -- the shorter of two prefixes of one list is a prefix of the longer
  pub front_of : (front rest known more : List X) → known ++ more ≡ front ++ rest → length front ≤ length known
      → front ≡ take (length front) known
  front_of front rest known more e h = sym (take-append_seam front rest) ∙ ap (take (length front)) (sym e) ∙ take-append-le (length front) known more h

  -- a list to which blanks were added, after these are written over
  pub written_over : (old blanks whole front post tail : List X) (start more n : ℕ) → whole ≡ take more old ++ blanks
      → length old ≤ more
      → start ≡ length old → n ≡ start + length front
      → take n (take start whole ++ (front ++ post) ++ tail) ≡ old ++ front
  written_over old blanks whole front post tail start more n e m s h =
      let kept : take start whole ≡ old = ap (λ l. take start l) (e ∙ ap (λ l. l ++ blanks) (take_all more old m))
      ∙ ap (λ k. take k (old ++ blanks)) s ∙ take-append_seam old blanks in
      let many : n ≡ length (old ++ front) = h ∙ ap (λ k. k + length front) s ∙ sym (length-append old front) in
      ap (λ l. take n (l ++ (front ++ post) ++ tail)) kept
      ∙ ap (λ l. take n (l ++ tail)) (sym (append_assoc old front post))
      ∙ ap (λ l. take n l) (append_assoc (old ++ front) post tail)
      ∙ ap (λ k. take k (old ++ front ++ (post ++ tail))) many
      ∙ take-append_seam (old ++ front) (post ++ tail)
