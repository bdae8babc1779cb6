use Rattle.value_match.proofs.Common.{ap, IsCallPlace, IsSourceOf, refl, slice_get_read, Some, subst, sym, ◌∙◌}
use Rattle.value_match.proofs.CallPlaces.{call_within}
use Rattle.value_match.proofs.FreshDequeues.{fresh_at_none, fresh_at_some}
use Rattle.value_match.proofs.fresh.is_fresh.Goals.{In-Dequeue}
use Rattle.value_match.proofs.fresh.is_fresh.Goals as goal

-- the call is to enqueue the value of the dequeue
call : (c : In-Dequeue) → IsCallPlace c.args.operations.now c.in-Dequeue.field-0 c.args.source
call c = let here = slice_get_read _ _ _ _ refl c.requires.place c.index-operations-place.is ∙ ap Some (sym c.unpack-operation.ensures.operation) in
    subst (λ kind. IsSourceOf c.args.operations.now kind c.args.source) c.in-Dequeue.is (c.requires.source _ here)

pub returns-in_default-get : goal.returns-in_default-get
returns-in_default-get c =
    let here = slice_get_read _ _ _ _ refl c.requires.place c.index-operations-place.is ∙ ap Some (sym c.unpack-operation.ensures.operation) in
    let none = sym c.get.ensures ∙ c.in_default-get.is in
    let no_call = subst (IsCallPlace _ _) none (call (goal.at.returns-in_default-get c).In-Dequeue) in
    λ o there. rw none (fresh_at_none _ _ _ o _ here c.in-Dequeue.is no_call there)

pub comes_too_soon-requires : goal.comes_too_soon-requires
comes_too_soon-requires c =
    call_within _ _ _ (subst (IsCallPlace _ _) (sym c.get.ensures ∙ c.in-Some.is) (call (goal.at.comes_too_soon-requires c).In-Dequeue))

pub returns : goal.returns
returns c =
    let here = slice_get_read _ _ _ _ refl c.requires.place c.index-operations-place.is ∙ ap Some (sym c.unpack-operation.ensures.operation) in
    let some = sym c.get.ensures ∙ c.in-Some.is in
    let at_call = subst (IsCallPlace _ _) some (call (goal.at.returns c).In-Dequeue) in
    λ o there. rw some (fresh_at_some _ _ _ _ o _ _ here c.in-Dequeue.is at_call c.comes_too_soon.ensures there)
