use Rattle.std.proofs.Common.{◌≡◌, Result, Ok, Err, IfErr, ℕ, ap, sym, subst, ◌∙◌, ◌∷◌, ◌++◌, [], map, rules, arith}
use Rattle.std.proofs.lemmas.List.{map-append}
use Rattle.std.specs.Vec.Iter.{into_iter_items}
use Rattle.collector.specs.Ends.{IsFirstForeign}
use Rattle.collector.proofs.Sealing.{IsSealing, seals_next, stops, own_so_far, all_certified, certified_at_end}
use Rattle.collector.proofs.rounds.seal_each.Goals as goal
use Rattle.collector.proofs.rounds.seal_each.Goals.{in-None, in-Some+in_default}

pub returns-in-Err-clause-uncertified : goal.returns-in-Err-clause-uncertified
returns-in-Err-clause-uncertified c thread e =
    let at = c.in-Err.ensures.uncertified thread e in
    subst (λ (t : ℕ). IsFirstForeign c.args.tokens.items t) (sym at.0)
    (stops _ _ _ _ _ _ _ _ c.loop-ring.invariant.2 c.in-Some.ensures.steps.0 c.in-Some-next.ensures.cases.0 at.1)

pub returns-in-Err-clause-memory : goal.returns-in-Err-clause-memory
returns-in-Err-clause-memory c e =
    own_so_far _ _ _ _ _ _ _ _ c.loop-ring.invariant.2 c.in-Some.ensures.steps.0 c.in-Some-next.ensures.cases.0 (c.in-Err.ensures.memory e)

each_fault : {T E : Type 0} (r : Result T E) (P : E → Type 0) (A : Type 0) → A → IfErr r (λ fault. P fault → A)
each_fault (Ok x) P A a = tt
each_fault (Err e) P A a = λ _. a

pub returns-in_err-map_err-clause-memory : goal.returns-in_err-map_err-clause-memory
returns-in_err-map_err-clause-memory c =
    each_fault _ _ _ (own_so_far _ _ _ _ _ _ _ _ c.loop-ring.invariant.2 c.in-Some.ensures.steps.0 c.in-Some-next.ensures.cases.0 c.in-Ok.ensures.certified)

pub loop-ring-preserved : goal.loop-ring-preserved
loop-ring-preserved c =
    let s = c.in-Ok.ensures in
    let p = seals_next _ _ _ _ _ _ _ _ c.loop-ring.invariant.2 c.in-Some.ensures.steps.0 c.in-Some-next.ensures.cases.0 c.in-Ok.events.items s.sealed
    s.certified in
    let pushed : c.push.new.self.items ≡ c.loop-ring.lists.items ++ c.in-Ok.events ∷ [] = search rules in
    let more = ap (map (λ list. list.items)) pushed ∙ map-append (λ list. list.items) c.loop-ring.lists.items (c.in-Ok.events ∷ []) in
    (tt, tt, subst (λ lists. IsSealing c.args.tokens.items (into_iter_items c.next.new.self) (into_iter_items c.next-in-loop-ring.new.self) lists) (sym more) p)

pub returns-clause-certified : goal.returns-clause-certified
returns-clause-certified c =
    elim c.match-next.branch [
      | in-None w ↦ certified_at_end _ _ _ _ _ c.requires.fits c.requires.order c.loop-ring.invariant.2
          (omega (arith, w.in-None.ensures.steps.0, c.loop-ring.ring-iterator.rest.ok))
      | in-Some+in_default w ↦ all_certified _ _ _ _ _ c.requires.fits c.requires.order c.loop-ring.invariant.2 (search rules)
    ]
