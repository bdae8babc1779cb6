-- The number of elements that pass a test, if another test lets more of them pass; so lanes of different threads are
-- apart.
use Rattle.drawing.proofs.Common.{arith, Bool, cond, Contains, contains_cons, count_by, false}
use Rattle.drawing.proofs.Common.{lane_place, lanes_before, LanesAreApart, List, mul-le-mul_left, nat_lt, nat_tests}
use Rattle.drawing.proofs.Common.{not_in_none, sum_by-cons, true, [], ℕ, ◌+◌, ◌<◌, ◌∷◌, ◌≡◌, ◌≤◌, common_steps}

module _ {X : Type 0} (p q : X → Bool) (more : (x : X) → p x ≡ true → q x ≡ true) where
  abbrev one : (X → Bool) → X → ℕ
  one r x = cond (r x) 1 0

  -- no more elements pass the first test than the second
  pub fewer : (xs : List X) → count_by p xs ≤ count_by q xs
  fewer [] = omega arith
  fewer (x ∷ xs) = grind (arith, sum_by-cons (one p) x xs, sum_by-cons (one q) x xs, more x, fewer xs)

  -- fewer pass the first test, if some element passes only the second
  pub one_fewer : (xs : List X) (x : X) → Contains xs x → p x ≡ false → q x ≡ true → count_by p xs + 1 ≤ count_by q xs
  one_fewer [] x among fails passes = absurd (not_in_none x among)
  one_fewer (y ∷ ys) x among fails passes =
      grind (arith, nat_tests, common_steps, contains_cons, sum_by-cons, fewer, one_fewer ys x)

-- ---- lanes

-- a higher thread has more lanes before it
pub more_before : (threads : List ℕ) (thread higher : ℕ) → Contains threads thread → thread < higher
    → lanes_before threads thread + 1 ≤ lanes_before threads higher
more_before threads thread higher among less =
    one_fewer (λ t. nat_lt t thread) (λ t. nat_lt t higher) (λ x lower. grind (arith, nat_tests)) threads thread among
    (grind (arith, nat_tests)) (grind (arith, nat_tests))

-- a lane ends before those with more lanes to their left begin
place_rises : (lane m n : ℕ) → m + 1 ≤ n → lane_place lane m + lane ≤ lane_place lane n
place_rises lane m n more = let far = mul-le-mul_left lane more in grind (arith, nat_tests)

-- lanes of different threads are apart
pub lanes_are_apart : LanesAreApart
lanes_are_apart threads columns thread higher among less =
    let far = place_rises columns.lane _ _ (more_before threads thread higher among less) in
    omega arith
