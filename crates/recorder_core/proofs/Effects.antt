-- The sequential specification accepts the effects in order.
use Rattle.std.proofs.Common.{◌≡◌, ℕ, List, [], ◌∷◌, ◌++◌, Option, Some, None, refl, ap, ◌∙◌}
use Rattle.std.specs.Option.{option_map, option_map_or, option_and_then}
use Rattle.history_merge.specs.declared.OpKind.{OpKind}
use Rattle.history_merge.specs.Queue.{accept, accept_all}
use Rattle.recorder_core.specs.declared.step.Step.{Step}
use Rattle.recorder_core.specs.declared.step.Step.TheVariants.{Effect}
use Rattle.event_records.specs.declared.kind.Answer.TheVariants.{Empty as NoValue}
use Rattle.recorder_core.specs.declared.pending.Request.{Request}
use Rattle.recorder_core.specs.declared.pending.Request.TheVariants.{Enqueue, Dequeue}
use Rattle.recorder_core.specs.Setting.{Setting}
use Rattle.recorder_core.specs.Schedule.{request, queue, queue_after, queue_answer, with_last}
use Rattle.recorder_core.specs.Replay.{kind_told, effect_kinds}
use Rattle.recorder_core.proofs.Runs.{same_number}

-- one more operation is accepted
pub accept_more : (start : List ℕ) (kinds : List OpKind) (kind : OpKind) (middle after : List ℕ)
    → accept_all start kinds ≡ Some middle
    → accept middle kind ≡ Some after → accept_all start (kinds ++ kind ∷ []) ≡ Some after
accept_more start [] kind middle after h g =
    rw (ap (λ (o : Option (List ℕ)). option_and_then (λ (q : List ℕ). accept q kind) o) h ∙ g) refl
accept_more start (first ∷ kinds) kind middle after h g = onwards (accept start first) (λ next. accept_more next kinds kind middle after) h
  where
    onwards : (o : Option (List ℕ))
        → ((next : List ℕ) → accept_all next kinds ≡ Some middle → accept middle kind ≡ Some after
        → accept_all next (kinds ++ kind ∷ []) ≡ Some after)
        → option_and_then (λ (next : List ℕ). accept_all next kinds) o ≡ Some middle
        → option_and_then (λ (next : List ℕ). accept_all next (kinds ++ kind ∷ [])) o ≡ Some after
    onwards None ih i = cc
    onwards (Some next) ih i = ih next i g

-- the sequential specification accepts the queue's own answer
accept_answer : (asked : Request) (items : List ℕ)
    → accept items (kind_told asked (queue_answer asked items)) ≡ Some (queue_after asked items)
accept_answer (Enqueue value) items = refl
accept_answer Dequeue [] = refl
accept_answer Dequeue (first ∷ rest) = rw (same_number first) refl

one_effect : (setting : Setting) (o : Option Request) (steps : List Step)
    → accept_all setting.initial (effect_kinds setting steps) ≡ Some (queue setting steps)
    → accept_all setting.initial (with_last (effect_kinds setting steps) (option_map
    (λ (asked : Request). kind_told asked (option_map_or (λ (a : Request). queue_answer a (queue setting steps)) o NoValue)) o)) ≡ Some
    (option_map_or (λ (asked : Request). queue_after asked (queue setting steps)) o (queue setting steps))
one_effect setting None steps h = h
one_effect setting (Some asked) steps h = accept_more setting.initial (effect_kinds setting steps) _ (queue setting steps)
    (queue_after asked (queue setting steps)) h (accept_answer asked (queue setting steps))

-- the effects are accepted from the initial values on, and end with the queue of the schedule
pub effects_accepted : (setting : Setting) (steps : List Step)
    → accept_all setting.initial (effect_kinds setting steps) ≡ Some (queue setting steps)
effects_accepted setting [] = refl
effects_accepted setting (Effect t ∷ before) = one_effect setting (request t before) before (effects_accepted setting before)
effects_accepted setting (_ ∷ before) = effects_accepted setting before
