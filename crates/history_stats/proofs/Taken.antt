-- The calls of enqueues kept for values.
use Rattle.std.proofs.Common.{◌≡◌, ℕ, ◌+◌, ◌<◌, ◌≤◌, List, [], ◌∷◌, length, get_or, cond, refl, sym, ◌∙◌, ap, Bool}
use Rattle.std.proofs.Common.{true, false, take, Option, Some, None}
use Rattle.std.specs.Prelude.{find, option_map}
use Rattle.std.specs.Option.{option_or}
use Rattle.std.specs.Ordering.{nat_cmp}
use Rattle.std.specs.BTreeMap.{BTreeMap, get}
use Rattle.std.proofs.lemmas.List.{take_all, take_more}
use Rattle.std.proofs.lemmas.List.Folds.{find-append}
use Rattle.history_merge.specs.declared.operation.Operation.{Operation}
use Rattle.history_stats.specs.Overtaking.{put}
use Rattle.history_stats.specs.Inner.Overtaking.{AreEnqueueCalls, enqueue_call}

-- one more operation
pub calls_more : (operations : List Operation) (i : ℕ) (o : Operation) (old new : BTreeMap ℕ ℕ) → i < length operations
    → o ≡ get_or operations i o
    → ((v : ℕ) → get nat_cmp new v ≡ option_or (get nat_cmp old v) (cond (put v o.kind) (Some o.call) None))
    → AreEnqueueCalls (take i operations) old → AreEnqueueCalls (take (i + 1) operations) new
calls_more operations i o old new within at keeps was v =
    keeps v ∙ ap (λ x. option_or x (cond (put v o.kind) (Some o.call) None)) (was v)
    ∙ joined (find (λ x. put v x.kind) (take i operations)) (put v o.kind)
    ∙ sym (ap (option_map (λ e. e.call)) found)
  where
    joined : (before : Option Operation) (b : Bool)
        → option_or (option_map (λ e. e.call) before) (cond b (Some o.call) None)
        ≡ option_map (λ e. e.call) (option_or before (cond b (Some o) None))
    joined (Some e) b = refl
    joined None true = refl
    joined None false = refl

    found : find (λ x. put v x.kind) (take (i + 1) operations)
        ≡ option_or (find (λ x. put v x.kind) (take i operations)) (cond (put v o.kind) (Some o) None)
    found = ap (find (λ x. put v x.kind)) (take_more operations i o within) ∙ find-append (λ x. put v x.kind) (take i operations) (get_or operations i o ∷ [])
        ∙ ap (λ x. option_or (find (λ y. put v y.kind) (take i operations)) (cond (put v x.kind) (Some x) None)) (sym at)

-- all operations
pub calls_of_all : (operations : List Operation) (i : ℕ) (calls : BTreeMap ℕ ℕ) → length operations ≤ i
    → AreEnqueueCalls (take i operations) calls
    → AreEnqueueCalls operations calls
calls_of_all operations i calls all was v = was v ∙ ap (λ os. enqueue_call os v) (take_all i operations all)
