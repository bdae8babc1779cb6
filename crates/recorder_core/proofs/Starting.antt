-- A machine before its first step.
use Rattle.std.proofs.Common.{◌≡◌, ℕ, zero, suc, ◌+◌, ◌<◌, List, [], ◌∷◌, ◌++◌, length, Some, None, false, refl, ap}
use Rattle.std.proofs.Common.{◌∙◌, inl, inr, arith}
use Rattle.std.proofs.lemmas.Bool.{cases_lt}
use Rattle.recorder_core.proofs.Threads.{slice_get_at}
use Rattle.std.specs.List.{slice_get}
use Rattle.recorder_core.specs.Setting.{Setting}
use Rattle.recorder_core.specs.View.{ThreadView}
use Rattle.recorder_core.specs.After.{IsLeftBy}

-- a thread before its first step
abbrev pub untouched : ThreadView
untouched = record { closed = false; asked = 0; pending = None; held = None; ring = []; collected = [] }

-- a machine of such threads is one before its first step
pub starts : (setting : Setting) (threads : List ThreadView) → length threads ≡ setting.threads
    → ((k : ℕ) → k < setting.threads → slice_get threads k ≡ Some untouched)
    → IsLeftBy setting
    (record { capacity = setting.ring; threads = threads; asked = 0; next_ticket = 0; queue = setting.initial }) []
starts setting threads many each = record { threads = many; capacity = refl; each = each; asked = refl; next_ticket = refl; queue_is = refl }

-- the elements at the front stay
pub slice_get_front : {X : Type 0} (xs : List X) (x : X) (k : ℕ) → k < length xs
    → slice_get (xs ++ x ∷ []) k ≡ slice_get xs k
slice_get_front [] x k h = absurd (omega arith)
slice_get_front (y ∷ xs) x zero h = refl
slice_get_front (y ∷ xs) x (suc k) h = slice_get_front xs x k (omega arith)

-- one more thread before its first step
pub one_more_untouched : (xs ys : List ThreadView) (x : ThreadView) (n : ℕ) → ys ≡ xs ++ x ∷ [] → x ≡ untouched
    → length xs ≡ n
    → ((k : ℕ) → k < n → slice_get xs k ≡ Some untouched) → (k : ℕ) → k < n + 1 → slice_get ys k ≡ Some untouched
one_more_untouched xs ys x n is new long each k h = elim (cases_lt k n) [
  | inl below ↦ ap (λ (l : List ThreadView). slice_get l k) is ∙ slice_get_front xs x k (omega (arith, long, below)) ∙ each k below
  | inr above ↦ ap (λ (l : List ThreadView). slice_get l k) is ∙ slice_get_at xs x k (omega (arith, long, above, h)) ∙ ap Some new
]
