-- Induction over the accepted steps of a schedule, and the consequences of not being refused.
use Rattle.std.proofs.Common.{◌≡◌, ℕ, ◌+◌, ◌<◌, ◌≤◌, Bool, true, false, cond, List, [], ◌∷◌, Option, None, Some, refl}
use Rattle.std.proofs.Common.{eqb}
use Rattle.std.proofs.lemmas.Bool.{ltb-false, leb-false, eq-eqb, or_parts}
use Rattle.std.specs.Option.{is_none}
use Rattle.event_records.specs.declared.limits.TheConstants.{MAX_THREAD_OPERATIONS, MAX_OPERATIONS}
use Rattle.recorder_core.specs.declared.step.Step.{Step}
use Rattle.recorder_core.specs.declared.step.Step.TheVariants.{AskEnq, Push, Effect, Say, Ret, Close}
use Rattle.event_records.specs.declared.kind.Answer.{Answer}
use Rattle.recorder_core.specs.declared.step.StepRefused.{StepRefused}
use Rattle.recorder_core.specs.Setting.{Setting}
use Rattle.recorder_core.specs.Schedule.{Attempt, refusal, accepted, asks, all_asks, answers, returns, pushes, in_ring}
use Rattle.recorder_core.specs.Schedule.{request, is_closed, is_wrong}

-- a number compares as equal to itself
pub same_number : (n : ℕ) → eqb n n ≡ true
same_number n = eq-eqb n n refl

-- if no refusal of a list is met, the first isn't, and none of the rest is
pub passed : {X : Type 0} (b : Bool) (x : X) (rest : Option X) → cond b (Some x) rest ≡ None
    → (b ≡ false) × (rest ≡ None)
passed true x rest h = cc
passed false x rest h = (refl, h)

-- if no refusal of a list is met, the first four aren't, and none of the rest is
four_passed : {X : Type 0} (a b c d : Bool) (w x y z : X) (rest : Option X)
    → cond a (Some w) (cond b (Some x) (cond c (Some y) (cond d (Some z) rest))) ≡ None
    → (a ≡ false) × (b ≡ false) × (c ≡ false) × (d ≡ false) × (rest ≡ None)
four_passed false false false false w x y z rest h = (refl, refl, refl, refl, h)
four_passed _ _ _ _ w x y z rest h = cc

-- the step isn't refused after these steps
abbrev pub IsLetPass : Setting → List Step → Step → Bool → Type 0
IsLetPass setting before step starved = refusal setting before (record { step = step; starved = starved }) ≡ None

-- a property that holds of no steps, and stays with each step that isn't refused, holds of the accepted steps
module _ (setting : Setting) (P : List Step → Type 0) (start : P [])
    (goes_on : (before : List Step) (attempt : Attempt) → P before → refusal setting before attempt ≡ None → P (attempt.step ∷ before)) where
  one_more : (before : List Step) (attempt : Attempt) (r : Option StepRefused) → refusal setting before attempt ≡ r
      → P before
      → P (cond (is_none r) (attempt.step ∷ before) before)
  one_more before attempt None is h = goes_on before attempt h is
  one_more before attempt (Some refused) is h = h

  -- the property holds of the accepted steps of a schedule
  pub after_each : (schedule : List Attempt) → P (accepted setting schedule)
  after_each [] = start
  after_each (attempt ∷ before) = one_more (accepted setting before) attempt (refusal setting (accepted setting before) attempt) refl (after_each before)

-- a thread may ask
pub record MayAsk (setting : Setting) (u : ℕ) (before : List Step) : Type 0 where
  pub known : u < setting.threads
  pub open_still : is_closed u before ≡ false
  pub none_held : asks u before + returns u before ≤ pushes u before
  pub none_pending : asks u before ≤ returns u before
  pub thread_may : asks u before < MAX_THREAD_OPERATIONS
  pub machine_may : all_asks before < MAX_OPERATIONS

-- an ask that isn't refused may come; an ask of a dequeue can meet the same refusals
pub may_ask : (setting : Setting) (before : List Step) (u : ℕ) (starved : Bool)
    → IsLetPass setting before (AskEnq u) starved → MayAsk setting u before
may_ask setting before u starved none =
    let p = four_passed _ _ _ _ _ _ _ _ _ none in let e = passed _ _ _ p.4 in
    let f = or_parts _ _ e.0 in
    record {
      known = leb-false _ _ p.0;
      open_still = p.1;
      none_held = ltb-false _ _ p.2;
      none_pending = ltb-false _ _ p.3;
      thread_may = leb-false _ _ f.0;
      machine_may = leb-false _ _ f.1;
    }

-- a thread may push
pub record MayPush (setting : Setting) (u : ℕ) (before : List Step) : Type 0 where
  pub known : u < setting.threads
  pub open_still : is_closed u before ≡ false
  pub one_held : pushes u before < asks u before + returns u before
  pub has_room : in_ring u before < setting.ring

-- a push that isn't refused may come
pub may_push : (setting : Setting) (before : List Step) (u : ℕ) (starved : Bool)
    → IsLetPass setting before (Push u) starved → MayPush setting u before
may_push setting before u starved none = let p = four_passed _ _ _ _ _ _ _ _ _ none in
    record { known = leb-false _ _ p.0; open_still = p.1; one_held = leb-false _ _ p.2; has_room = leb-false _ _ p.3 }

-- an answer to a thread may come
pub record MayAnswer (setting : Setting) (u : ℕ) (before : List Step) : Type 0 where
  pub known : u < setting.threads
  pub open_still : is_closed u before ≡ false
  pub one_pending : returns u before < asks u before
  pub no_answer : answers u before ≤ returns u before

-- an effect that isn't refused may come
pub may_effect : (setting : Setting) (before : List Step) (u : ℕ) (starved : Bool)
    → IsLetPass setting before (Effect u) starved → MayAnswer setting u before
may_effect setting before u starved none = let p = four_passed _ _ _ _ _ _ _ _ _ none in
    record { known = leb-false _ _ p.0; open_still = p.1; one_pending = leb-false _ _ p.2; no_answer = ltb-false _ _ p.3 }

-- an answer that isn't refused may come
pub may_say : (setting : Setting) (before : List Step) (u : ℕ) (answer : Answer) (starved : Bool)
    → IsLetPass setting before (Say u answer) starved
    → MayAnswer setting u before × (is_wrong answer (request u before) ≡ false)
may_say setting before u answer starved none =
    let p = four_passed _ _ _ _ _ _ _ _ _ none in let e = passed _ _ _ p.4 in
    (record { known = leb-false _ _ p.0; open_still = p.1; one_pending = leb-false _ _ p.2; no_answer = ltb-false _ _ p.3 }, e.0)

-- a thread may return
pub record MayReturn (setting : Setting) (u : ℕ) (before : List Step) : Type 0 where
  pub known : u < setting.threads
  pub open_still : is_closed u before ≡ false
  pub none_held : asks u before + returns u before ≤ pushes u before
  pub one_pending : returns u before < asks u before
  pub has_answer : returns u before < answers u before

-- a return that isn't refused may come
pub may_return : (setting : Setting) (before : List Step) (u : ℕ) (starved : Bool)
    → IsLetPass setting before (Ret u) starved → MayReturn setting u before
may_return setting before u starved none =
    let p = four_passed _ _ _ _ _ _ _ _ _ none in let e = passed _ _ _ p.4 in
    record { known = leb-false _ _ p.0; open_still = p.1; none_held = ltb-false _ _ p.2; one_pending = leb-false _ _ p.3; has_answer = leb-false _ _ e.0 }

-- a thread may close
pub record MayClose (setting : Setting) (u : ℕ) (before : List Step) : Type 0 where
  pub known : u < setting.threads
  pub open_still : is_closed u before ≡ false
  pub none_pending : asks u before ≤ returns u before
  pub none_held : asks u before + returns u before ≤ pushes u before

-- a close that isn't refused may come
pub may_close : (setting : Setting) (before : List Step) (u : ℕ) (starved : Bool)
    → IsLetPass setting before (Close u) starved → MayClose setting u before
may_close setting before u starved none = let p = four_passed _ _ _ _ _ _ _ _ _ none in
    record { known = leb-false _ _ p.0; open_still = p.1; none_held = ltb-false _ _ p.2; none_pending = ltb-false _ _ p.3 }
