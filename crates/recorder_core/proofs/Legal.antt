-- The order of the effects of an honest schedule that is done is a linearization.
use Rattle.std.proofs.Common.{◌≡◌, ℕ, suc, ◌+◌, ◌*◌, ◌<◌, ◌≤◌, Bool, true, List, [], ◌∷◌, ◌++◌, length, get_or}
use Rattle.std.proofs.Common.{map, Option, Some, None, refl, sym}
use Rattle.std.proofs.Common.{◌∙◌, ap, arith}
use Rattle.std.specs.Prelude.{AllPairs, Contains, filter_map, slice_get, IsPermutation}
use Rattle.std.specs.List.{range_with_len, cons_option}
use Rattle.std.proofs.lemmas.Bool.{ne_eqb}
use Rattle.std.proofs.lemmas.List.{map_push}
use Rattle.std.proofs.lemmas.List.FromFn.{length-map-range_with_len, get_or-map-range_with_len}
use Rattle.std.proofs.lemmas.List.Elements.{filter_map-append, All-contains}
use Rattle.std.proofs.lemmas.List.Sorted.{IsPermutation-sym, IsPermutation-trans, IsPermutation-append_left}
use Rattle.std.proofs.lemmas.Option.{slice_get_within, slice_get_read, slice_get-get_or, same_Some}
use Rattle.event_records.specs.declared.event.Event.{Event}
use Rattle.event_records.specs.Projection.{projection}
use Rattle.history_merge.specs.declared.operation.Operation.{Operation}
use Rattle.history_merge.specs.declared.operation.OpKind.{OpKind}
use Rattle.history_merge.specs.Legal.{IsLegalOrder}
use Rattle.history_merge.specs.Merge.{IsMerged}
use Rattle.history_merge.specs.Operations.{Precedes, operations_of, operation_of, kind_of}
use Rattle.history_merge.specs.Queue.{IsAccepted}
use Rattle.event_records.specs.declared.limits.TheConstants.{MAX_THREADS}
use Rattle.recorder_core.specs.declared.step.Step.{Step}
use Rattle.recorder_core.specs.declared.step.Step.TheVariants.{AskEnq, AskDeq, Push, Effect, Say, Ret, Drain, Close}
use Rattle.recorder_core.specs.Setting.{Setting}
use Rattle.recorder_core.specs.Schedule.{Attempt, refusal, accepted, asks, answers, events}
use Rattle.recorder_core.specs.Laws.{IsDone, collected_in, collected_lists}
use Rattle.recorder_core.specs.Replay.{effected, effects_order, effect_kinds, operation_at, operation_in}
use Rattle.recorder_core.proofs.Runs.{same_number, after_each, may_effect}
use Rattle.recorder_core.proofs.Members.{pairs_filter_map}
use Rattle.recorder_core.proofs.Blocks.{blocks, blocks_same, blocks_grow, no_blocks, range_more, same_permutation}
use Rattle.recorder_core.proofs.Closing.{all_collected}
use Rattle.recorder_core.proofs.Effects.{effects_accepted}
use Rattle.recorder_core.proofs.Events.{recorded}
use Rattle.recorder_core.proofs.Fitting.{owned, projection_is}
use Rattle.recorder_core.proofs.Collecting.{all_returned, collected_is_fit}
use Rattle.recorder_core.proofs.Operating.{operations_by_thread, operations_in_turn}
use Rattle.recorder_core.proofs.Honest.{TakenEffect, IsTakenAt, taken, without_says, honestly_taken, effected_are}
use Rattle.history_merge.proofs.Lists.{contains_head, one_deeper}

-- ---- the effects by thread

filter_map-map : {X Y Z : Type 0} (g : Y → Option Z) (f : X → Y) (xs : List X)
    → filter_map g (map f xs) ≡ filter_map (λ x. g (f x)) xs
filter_map-map g f [] = refl
filter_map-map g f (x ∷ xs) = ap (cons_option (g (f x))) (filter_map-map g f xs)

-- the operations of t with the first k numbers, by a function
abbrev own : (ℕ × ℕ → Option Operation) → ℕ → ℕ → List Operation
own g t k = filter_map g (map (λ n. (t, n)) (range_with_len 0 k))

own_more : (g : ℕ × ℕ → Option Operation) (t k : ℕ) → own g t (suc k) ≡ own g t k ++ filter_map g ((t, k) ∷ [])
own_more g t k =
    ap (λ (l : List ℕ). filter_map g (map (λ n. (t, n)) l)) (range_more k)
    ∙ ap (filter_map g) (map_push (λ (n : ℕ). (t, n)) (range_with_len 0 k) k)
    ∙ filter_map-append g (map (λ n. (t, n)) (range_with_len 0 k)) ((t, k) ∷ [])

abbrev ByThread : Setting → (ℕ × ℕ → Option Operation) → List Step → Type 0
ByThread setting g steps = without_says steps ≡ true → IsPermutation (filter_map g (effected steps)) (blocks (λ t. own g t (answers t steps)) setting.threads)

by_thread_on : (setting : Setting) (g : ℕ × ℕ → Option Operation) (step : Step) (starved : Bool) (before : List Step)
    → ByThread setting g before
    → refusal setting before (record { step = step; starved = starved }) ≡ None → ByThread setting g (step ∷ before)
by_thread_on setting g (Effect u) starved before k none honest =
    let more = filter_map g ((u, answers u before) ∷ []) in
    let here : own g u (answers u (Effect u ∷ before)) ≡ own g u (answers u before) ++ more = rw (same_number u) (own_more g u (answers u before)) in
    let a = same_permutation _ _ (filter_map-append g (effected before) ((u, answers u before) ∷ [])) in
    let b = IsPermutation-append_left more _ _ (k honest) in
    let c = blocks_grow (λ t. own g t (answers t before)) (λ t. own g t (answers t (Effect u ∷ before))) u setting.threads more
    (may_effect setting before u starved none).known here (λ t other. rw (ne_eqb u t other) refl) in
    IsPermutation-trans _ _ _ a (IsPermutation-trans _ _ _ b c)
by_thread_on setting g (Say u answer) starved before k none honest = cc
by_thread_on setting g (AskEnq u) starved before k none honest = k honest
by_thread_on setting g (AskDeq u) starved before k none honest = k honest
by_thread_on setting g (Push u) starved before k none honest = k honest
by_thread_on setting g (Ret u) starved before k none honest = k honest
by_thread_on setting g (Drain u n) starved before k none honest = k honest
by_thread_on setting g (Close u) starved before k none honest = k honest

effects_by_thread : (setting : Setting) (g : ℕ × ℕ → Option Operation) (schedule : List Attempt)
    → ByThread setting g (accepted setting schedule)
effects_by_thread setting g schedule = after_each setting (ByThread setting g) (λ honest. same_permutation _ _ (no_blocks setting.threads))
    (λ before attempt k none. by_thread_on setting g attempt.step attempt.starved before k none) schedule

-- ---- the operations of the effects

kinds_kept : (h : TakenEffect → Option Operation) (xs : List TakenEffect)
    → ((x : TakenEffect) → Contains xs x → (o : Operation) × (h x ≡ Some o) × (o.kind ≡ x.kind))
    → map (λ (o : Operation). o.kind) (filter_map h xs) ≡ map (λ (x : TakenEffect). x.kind) xs
kinds_kept h [] each = refl
kinds_kept h (x ∷ xs) each =
    let first = each x (contains_head x xs) in
    let more = kinds_kept h xs (λ y among. each y (one_deeper x xs y among)) in
    ap (λ (o : Option Operation). map (λ (p : Operation). p.kind) (cons_option o (filter_map h xs))) first.1
    ∙ ap (λ (l : List OpKind). first.0.kind ∷ l) more ∙ ap (λ (k : OpKind). k ∷ map (λ (y : TakenEffect). y.kind) xs) first.2

-- the operation of a call and a return at their places
made_of : (list : List Event) (n : ℕ) (call ret : Event) (kind : OpKind) → slice_get list (2 * n) ≡ Some call
    → slice_get list (2 * n + 1) ≡ Some ret
    → kind_of call.what ret.what ≡ Some kind →
    operation_in list n ≡ Some (record { call = call.ticket; ret = ret.ticket; thread = call.thread; kind = kind })
made_of list n call ret kind at_call at_ret is =
    ap (λ (o : Option Event). found o (slice_get list (2 * n + 1))) at_call
    ∙ ap (operation_of call) at_ret
    ∙ ap (λ (k : Option OpKind). as_kind call ret k) is
  where
    found : Option Event → Option Event → Option Operation
    found o answer = elim o [ None ↦ None | Some c ↦ operation_of c answer ]

    as_kind : Event → Event → Option OpKind → Option Operation
    as_kind c r k = elim k [ None ↦ None | Some x ↦ Some (record { call = c.ticket; ret = r.ticket; thread = c.thread; kind = x }) ]

at_number : {X : Type 0} (f : ℕ → X) (n t : ℕ) → t < n → slice_get (map f (range_with_len 0 n)) t ≡ Some (f t)
at_number f n t within =
    slice_get_read (map f (range_with_len 0 n)) n t (f t) (sym (length-map-range_with_len f 0 n)) within
    (sym (get_or-map-range_with_len f 0 n t t (f t) within (omega arith)))

-- ---- the order of the effects

module _ (setting : Setting) (schedule : List Attempt) (merged : List Event) (few : setting.threads ≤ MAX_THREADS)
    (honest : without_says (accepted setting schedule) ≡ true) (done : IsDone setting schedule) (is : IsMerged (collected_lists setting schedule) merged) where
  abbrev steps : List Step
  steps = accepted setting schedule

  -- the operation of an effect
  abbrev did : TakenEffect → Option Operation
  did x = operation_at setting steps (x.thread, x.number)

  all_answered : (t : ℕ) → t < setting.threads
      → (answers t steps ≡ asks t steps) × (length (events setting t steps) ≡ 2 * asks t steps)
  all_answered t within =
      let c = (recorded setting t schedule).0 in
      let same = all_returned setting schedule few done t within in
      (omega (arith, c.returned_below, c.answered_below, same), omega (arith, c.events_are, same))

  -- each effect has an operation, which is called before it and doesn't return before it
  pub effect_did : (x : TakenEffect) → Contains (taken setting steps) x
      → (o : Operation) × (did x ≡ Some o) × (o.kind ≡ x.kind) × (o.call < x.time) × (x.time ≤ o.ret)
  effect_did x among =
      let all = honestly_taken setting schedule honest in
      let k = All-contains (λ (y : TakenEffect). IsTakenAt setting steps y) (taken setting steps) x all.each among in
      let a = all_answered x.thread k.0 in
      let list = events setting x.thread steps in
      let within : 2 * x.number + 1 < length list = omega (arith, a.0, a.1, k.1.was_answered) in
      let ret = get_or list (2 * x.number + 1) k.1.call in
      let at = slice_get-get_or list (2 * x.number + 1) k.1.call within in
      let r = k.1.returned ret at in (
        record { call = k.1.call.ticket; ret = ret.ticket; thread = k.1.call.thread; kind = x.kind },
        made_of list x.number k.1.call ret x.kind k.1.called at r.1,
        refl,
        k.1.called_before,
        r.0,
      )

  order_is : effects_order setting steps ≡ filter_map did (taken setting steps)
  order_is = ap (filter_map (operation_at setting steps)) (sym (effected_are setting steps))
      ∙ filter_map-map (operation_at setting steps) (λ (x : TakenEffect). (x.thread, x.number)) (taken setting steps)

  in_precedence : AllPairs (λ earlier later. ¬ (Precedes later earlier)) (effects_order setting steps)
  in_precedence =
      rw order_is (pairs_filter_map (λ x y. x.time ≤ y.time) (λ earlier later. ¬ (Precedes later earlier)) did (taken setting steps)
      (λ x y a b in_x in_y up is_a is_b before.
      let e = effect_did x in_x in
      let f = effect_did y in_y in
      let first : a.call ≡ e.0.call = ap (λ (o : Operation). o.call) (same_Some a e.0 (sym is_a ∙ e.1)) in
      let last : b.ret ≡ f.0.ret = ap (λ (o : Operation). o.ret) (same_Some b f.0 (sym is_b ∙ f.1)) in
      omega (arith, before, up, first, last, e.3, f.4))
      (honestly_taken setting schedule honest).in_order)

  kinds : map (λ o. o.kind) (effects_order setting steps) ≡ effect_kinds setting steps
  kinds =
      ap (map (λ (o : Operation). o.kind)) order_is
      ∙ kinds_kept did (taken setting steps) (λ x among. let e = effect_did x among in (e.0, e.1, e.2))
      ∙ (honestly_taken setting schedule honest).kinds_are

  accepted_in_turn : IsAccepted setting.initial (map (λ o. o.kind) (effects_order setting steps))
  accepted_in_turn = rw (kinds, effects_accepted setting steps) refl

  -- the operations of each thread are those of its effects
  thread_operations : (t : ℕ) → t < setting.threads
      → operations_of (projection t merged) ≡ own (operation_at setting steps) t (answers t steps)
  thread_operations t within =
      let at = at_number (λ v. collected_in setting schedule v) setting.threads t within
      ∙ ap (λ (l : List Event). Some l) (all_collected setting schedule done t within) in
      let a = all_answered t within in
      let k = (recorded setting t schedule).1 in
      ap operations_of (projection_is (collected_lists setting schedule) merged (collected_is_fit setting schedule few done) is t (events setting t steps) at)
      ∙ operations_in_turn t (events setting t steps) (asks t steps) (k.idle (all_returned setting schedule few done t within)) k.own a.1
      ∙ ap (λ (n : ℕ). filter_map (operation_in (events setting t steps)) (range_with_len 0 n)) (sym a.0)
      ∙ sym (filter_map-map (operation_at setting steps) (λ (n : ℕ). (t, n)) (range_with_len 0 (answers t steps)))

  each_once : IsPermutation (operations_of merged) (effects_order setting steps)
  each_once =
      let low : (e : Event) → Contains merged e → e.thread < setting.threads = λ e among.
      let o = owned (collected_lists setting schedule) merged (collected_is_fit setting schedule few done) is e among in
      omega (
        arith,
        slice_get_within (collected_lists setting schedule) e.thread o.0 o.1,
        length-map-range_with_len
            (λ t. collected_in setting schedule t) 0 setting.threads,
      ) in
      let a = operations_by_thread merged setting.threads low in
      let b = same_permutation _ _ (blocks_same (λ t. operations_of (projection t merged))
      (λ t. own (operation_at setting steps) t (answers t steps)) setting.threads thread_operations) in
      let c = IsPermutation-sym _ _ (effects_by_thread setting (operation_at setting steps) schedule honest) in
      IsPermutation-trans _ _ _ a (IsPermutation-trans _ _ _ b c)

  -- the order of the effects is a linearization of the collected history
  pub effects_order_is_legal : IsLegalOrder setting.initial (operations_of merged) (effects_order setting steps)
  effects_order_is_legal = record { holds_each_once = each_once; extends_precedence = in_precedence; is_accepted = accepted_in_turn }
