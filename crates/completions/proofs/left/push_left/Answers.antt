use Rattle.std.proofs.Common.{Bool, ◌∙◌, ◌++◌, ◌∷◌, [], ap, append_assoc, sym, not, get_or, take, List, ℕ, Vec, Global}
use Rattle.std.specs.Prelude.{filter}
use Rattle.completions.specs.Completed.{is_given}
use Rattle.completions.proofs.Walks.{filter_more, filter_not, filter_one}
use Rattle.completions.proofs.left.push_left.Goals.{then-not-is_given_near+in_ok-push, else-not-is_given_near}
use Rattle.completions.proofs.left.push_left.Goals as goal

pub loop-value-preserved : goal.loop-value-preserved
loop-value-preserved c = λ events are.
    let x = get_or c.args.values.now c.loop-value.value-index 0 in
    let i = c.loop-value.value-index in
    let stays : ℕ → Bool = λ v. not (is_given events v) in
    let is = ap not (sym (c.is_given_near.ensures events are)) in
    let before = c.loop-value.invariant events are in
    let more = sym (filter_more stays c.args.values.now i 0 c.loop-value-test.true) in
    elim c.if-not-is_given_near.branch [
      | then-not-is_given_near+in_ok-push w ↦
          ap (λ (v : Vec ℕ Global). v.items) w.left-is ∙ w.in_ok-push.ensures.items
          ∙ ap (λ (l : List ℕ). l ++ x ∷ []) before
          ∙ append_assoc c.args.left.now.items (filter stays (take i c.args.values.now)) (x ∷ [])
          ∙ ap (λ (l : List ℕ). c.args.left.now.items ++ (filter stays (take i c.args.values.now) ++ l))
          (sym (filter_one stays x (is ∙ ap not w.if-not-is_given_near.true)))
          ∙ ap (λ (l : List ℕ). c.args.left.now.items ++ l) more
      | else-not-is_given_near w ↦
          ap (λ (v : Vec ℕ Global). v.items) w.left-is ∙ before
          ∙ ap (λ (l : List ℕ). c.args.left.now.items ++ l)
          (sym (filter_not stays x (filter stays (take i c.args.values.now)) (is ∙ ap not w.if-not-is_given_near.false)) ∙ more)
    ]
