use Rattle.std.proofs.Common.{◌≡◌, ◌∙◌, ◌++◌, ap, append-nil, subst, sym, List, ℕ, Option}
use Rattle.std.specs.Prelude.{option_to_list}
use Rattle.event_records.specs.declared.event.What.TheVariants.{RetDeq, RetEnq}
use Rattle.completions.specs.Completed.{given_value}
use Rattle.completions.specs.Inner.Walk.{AreLast}
use Rattle.completions.specs.declared.walk.Walk.{Walk}
use Rattle.completions.proofs.Walks.{not_given, not_taken, walked_on}
use Rattle.completions.proofs.walk.Walk.note.Goals.{in-RetDeq+in_ok-push-in-RetDeq}
use Rattle.completions.proofs.walk.Walk.note.Goals.{in-RetEnq+in-Some+in_ok-push-in-Some, in-RetEnq+in-None}
use Rattle.completions.proofs.walk.Walk.note.Goals.{in_default}
use Rattle.completions.proofs.walk.Walk.note.Goals as goal

pub returns : goal.returns
returns c = λ events inside walked.
    let e = c.args.event in
    let given : List ℕ = c.args.self.now.given.items in
    let taken : List ℕ = c.args.self.now.taken.items in
    elim c.match-event.branch [
      | in-RetDeq+in_ok-push-in-RetDeq w ↦ walked_on events e c.args.self.now _ walked
          (c.note.ensures events (subst (AreLast events) (sym (ap (λ (k : Walk). k.last) w.self-is)) walked.last))
          (ap (λ (k : Walk). k.given.items) w.self-is ∙ w.in_ok-push-in-RetDeq.ensures.items
          ∙ ap (λ (o : Option ℕ). given ++ option_to_list o) (sym (ap given_value w.in-RetDeq.is)))
          (ap (λ (k : Walk). k.taken.items) w.self-is ∙ sym (append-nil taken)
          ∙ ap (λ (o : Option ℕ). taken ++ option_to_list o)
          (sym (not_taken events e (λ is. let clash : RetDeq w.in-RetDeq.value ≡ RetEnq = sym w.in-RetDeq.is ∙ is in cc))))
      | in-RetEnq+in-Some+in_ok-push-in-Some w ↦ walked_on events e c.args.self.now _ walked
          (c.note.ensures events (subst (AreLast events) (sym (ap (λ (k : Walk). k.last) w.self-is)) walked.last))
          (ap (λ (k : Walk). k.given.items) w.self-is ∙ sym (append-nil given)
          ∙ ap (λ (o : Option ℕ). given ++ option_to_list o) (sym (ap given_value w.in-RetEnq.is)))
          (ap (λ (k : Walk). k.taken.items) w.self-is ∙ w.in_ok-push-in-Some.ensures.items
          ∙ ap (λ (o : Option ℕ). taken ++ option_to_list o) (sym w.in-Some.is ∙ w.taken_value.ensures events walked.last))
      | in-RetEnq+in-None w ↦ walked_on events e c.args.self.now _ walked
          (c.note.ensures events (subst (AreLast events) (sym (ap (λ (k : Walk). k.last) w.self-is)) walked.last))
          (ap (λ (k : Walk). k.given.items) w.self-is ∙ sym (append-nil given)
          ∙ ap (λ (o : Option ℕ). given ++ option_to_list o) (sym (ap given_value w.in-RetEnq.is)))
          (ap (λ (k : Walk). k.taken.items) w.self-is ∙ sym (append-nil taken)
          ∙ ap (λ (o : Option ℕ). taken ++ option_to_list o) (sym w.in-None.is ∙ w.taken_value.ensures events walked.last))
      | in_default w ↦ walked_on events e c.args.self.now _ walked
          (c.note.ensures events (subst (AreLast events) (sym (ap (λ (k : Walk). k.last) w.self-is)) walked.last))
          (ap (λ (k : Walk). k.given.items) w.self-is ∙ sym (append-nil given)
          ∙ ap (λ (o : Option ℕ). given ++ option_to_list o) (sym (not_given e.what w.in_default.not-RetDeq)))
          (ap (λ (k : Walk). k.taken.items) w.self-is ∙ sym (append-nil taken)
          ∙ ap (λ (o : Option ℕ). taken ++ option_to_list o) (sym (not_taken events e w.in_default.not-RetEnq)))
    ]
