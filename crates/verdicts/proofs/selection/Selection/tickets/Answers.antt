use Rattle.verdicts.proofs.Common.{[], ap, append_assoc, contains, List, nat_cmp, Operation, selects, sym, ◌++◌, ◌∙◌}
use Rattle.verdicts.proofs.Common.{◌∷◌, ◌≡◌}
use Rattle.verdicts.proofs.Collected.{held_more, held_same}
use Rattle.verdicts.proofs.selection.Selection.tickets.Goals as goal

-- the operations seen, and one more
gone_over : (seen left rest all : List Operation) (o : Operation) → left ≡ o ∷ rest → seen ++ left ≡ all
    → (seen ++ o ∷ []) ++ rest ≡ all
gone_over seen left rest all o first is = append_assoc seen (o ∷ []) rest ∙ ap (λ os. seen ++ os) (sym first) ∙ is

pub loop-operation-preserved : goal.loop-operation-preserved
loop-operation-preserved c =
    let old = c.loop-operation.invariant in
    let o = c.in-Some.operation in (
      old.0 ++ o ∷ [],
      record {
        all = gone_over old.0 _ c.next.new.self _ o c.in-Some.ensures.steps old.1.all;
        held = λ t. held_same (selects (contains nat_cmp c.args.self.now.values) (contains nat_cmp c.args.self.now.calls)) old.0 o t _
            (sym c.selects.ensures ∙ c.if-selects.false) (old.1.held t);
      },
    )

pub loop-operation-preserved-in_ok-insert-2 : goal.loop-operation-preserved-in_ok-insert-2
loop-operation-preserved-in_ok-insert-2 c =
    let old = c.loop-operation.invariant in
    let o = c.in-Some.operation in (
      old.0 ++ o ∷ [],
      record {
        all = gone_over old.0 _ c.next.new.self _ o c.in-Some.ensures.steps old.1.all;
        held = λ t. held_more (selects (contains nat_cmp c.args.self.now.values) (contains nat_cmp c.args.self.now.calls)) old.0 o t _ _ _
            (sym c.selects.ensures ∙ c.if-selects.true) (old.1.held t) (c.in_ok-insert.ensures.updates.0 t) (c.in_ok-insert-2.ensures.updates.0 t);
      },
    )
