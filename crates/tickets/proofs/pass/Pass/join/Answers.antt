use Rattle.std.proofs.Common.{rules, arith, ◌≡◌, ◌+◌, ◌++◌, List, ℕ, IsPermutation, ap, ◌∙◌, subst, sym}
use Rattle.tickets.specs.declared.account.Holding.{Holding}
use Rattle.tickets.specs.Views.{share_of}
use Rattle.tickets.specs.Account.{whole_of}
use Rattle.tickets.specs.Inner.Account.{holding, put_together}
use Rattle.tickets.proofs.Rising.{IsPermutation-merged}
use Rattle.tickets.proofs.Steps.{joins, looks, whole_of-put_together}
use Rattle.tickets.proofs.pass.Pass.join.Goals as goal
use Rattle.tickets.proofs.pass.Pass.join.Goals.{After-load}

pub join_seat-requires : goal.join_seat-requires
join_seat-requires c = (
  search rules,
  search rules,
  search rules,
  search rules,
  joins c.tickets.inside.table.shared.key _ _ _ _ (ap (λ m. m.0.log) c.into_parts-seat.ensures.seat)
      (ap (λ m. m.0.log) c.into_parts-other_seat.ensures.seat)
      (ap (λ m. m.0.tail) c.into_parts-seat.ensures.seat, ap (λ m. m.0.head) c.into_parts-seat.ensures.seat)
      (ap (λ m. m.0.tail) c.into_parts-other_seat.ensures.seat, ap (λ m. m.0.head) c.into_parts-other_seat.ensures.seat),
)

pub load-requires : goal.load-requires
load-requires c = (search rules, search rules, looks c.tickets.inside.table.shared.key _ _ _)

-- the view of the joined seat
joined : (c : After-load) → c.load.new.seat.me.0 ≡ put_together (holding c.args.self.left c.args.self.drawn c.args.self.noted)
    (holding c.args.other.left c.args.other.drawn c.args.other.noted)
joined c = ap (λ m. m.0) (c.load.ensures.2.1 ∙ c.join_seat.ensures.2)
    ∙ (λ i. put_together (c.into_parts-seat.ensures.seat i).0 (c.into_parts-other_seat.ensures.seat i).0)

-- the share of the joined seat
whole : (c : After-load) → whole_of c.load.new.seat.me.0 ≡ share_of c.args.self + share_of c.args.other
whole c = ap whole_of (joined c) ∙ whole_of-put_together (holding c.args.self.left c.args.self.drawn c.args.self.noted)
    (holding c.args.other.left c.args.other.drawn c.args.other.noted)

pub overflow_add-result : goal.overflow_add-result
overflow_add-result c =
    let limit = c.load.ensures.2.0.0 in
    let same = ap (λ m. whole_of m.0) c.load.ensures.2.1 in
    let all = whole c in
    omega arith

pub invariant_of-result : goal.invariant_of-result
invariant_of-result c =
    let left = ap (λ (h : Holding). h.left) (joined c) in
    let all = whole c in (
      omega arith,
      omega arith,
      ap (λ m. m.1) (c.load.ensures.2.1 ∙ c.join_seat.ensures.2
          ∙ ap (λ m. (put_together m.0 c.into_parts-other_seat.result.0.me.0, m.1)) c.into_parts-seat.ensures.seat),
      ap (λ (h : Holding). h.log) (joined c),
      ap (λ (h : Holding). h.tail) (joined c),
      ap (λ (h : Holding). h.head) (joined c),
      ap (λ (h : Holding). h.walk) (joined c),
    )

pub returns-clause-drawn : goal.returns-clause-drawn
returns-clause-drawn c = subst (λ (l : List ℕ). IsPermutation (c.args.self.drawn ++ c.args.other.drawn) l)
    (sym (ap (λ (h : Holding). h.drawn) (joined c))) (IsPermutation-merged c.args.self.drawn c.args.other.drawn)
