-- The state while the selections of producers are judged one after another.
use Rattle.std.specs.Prelude.{◌≡◌, ℕ, ◌<◌, List, All, filter, map, take}
use Rattle.history_merge.specs.Initial.{Contents}
use Rattle.verdicts.specs.Selection.{AreLinearizable}
use Rattle.claims.specs.declared.verdict.Verdict.TheVariants.{Yes}
use Rattle.conditions.specs.declared.local.LocalOrder.{LocalOrder}
use Rattle.conditions.specs.declared.producer.Emptiness.{Emptiness}
use Rattle.conditions.specs.Conditions.{all_producers, has_values, selection_of}
use Rattle.conditions.specs.Decided.{IsDecidedOf}
use Rattle.conditions.specs.Inner.Sharing.{ranked}

-- the selections of the producers below this rank are linearizable, and the orders show it for those that the history
-- has
pub record AreJudged (emptiness : Emptiness) (whole : Contents) (rank : ℕ) (orders : List LocalOrder) : Type 0 where
  pub linearizable : (k : ℕ) → k < rank → AreLinearizable (selection_of emptiness (ranked k) whole)
  pub producers : map (λ x. x.producer) orders ≡ filter (has_values whole) (take rank all_producers)
  pub decided : All (λ x. IsDecidedOf whole (selection_of emptiness x.producer whole) (Yes x.order)) orders
