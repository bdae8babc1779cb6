-- Courses in which the same values come in and the same operations happen have the same lives, violations and free
-- gaps.
use Rattle.value_match.proofs.Common.{[], Course, CoversFrom, Dequeue, dequeue_call, dequeue_of, Did, DequeueEmpty}
use Rattle.value_match.proofs.Common.{Enqueue}
use Rattle.value_match.proofs.Common.{fresh, inl, inr, IsFreshViolation, IsLife, Life, List, MatchOption}
use Rattle.value_match.proofs.Common.{NoFreshViolation, None, NoneDid, EnqueueFailed, Operation, OpKind, Option}
use Rattle.value_match.proofs.Common.{repeat, Some, ℕ}
use Rattle.value_match.proofs.Common.{◌∷◌, ◌≢◌}
use Rattle.std.specs.Prelude.{Bool, false, MatchBool, nat_lt, true}
use Rattle.value_match.specs.Choice.{IsChosenCoverFrom, IsChosenFullViolation}
use Rattle.value_match.specs.Choice.{IsChosenOrderViolation, IsChosenWitness, IsNextOfCover}
use Rattle.value_match.specs.Lives.{IsCovered, IsFreeGap, IsLeastFreeGap}
use Rattle.value_match.specs.Violations.{FullViolation, IsOrderViolation, IsRepeatViolation, IsWitnessViolation}
use Rattle.value_match.specs.Violations.{NoOrderViolation, NoRepeatViolation, order, witness}

-- each fact about the first course that definitions use holds of the second
pub record Carries (c d : Course) : Type 0 where
  pub enters : (enq : Operation) (v : ℕ) → c.Enters enq v → d.Enters enq v
  pub did : (o : Operation) (kind : OpKind) → ((v : ℕ) → kind ≢ Enqueue v) → Did c.operations o kind
      → Did d.operations o kind

-- each course carries over to the other
pub record Agree (c d : Course) : Type 0 where
  pub there : Carries c d
  pub back : Carries d c

pub agree_back : (c d : Course) → Agree c d → Agree d c
agree_back c d agree = record { there = agree.back; back = agree.there }

none_did : (c d : Course) (kind : OpKind) → Carries d c → ((v : ℕ) → kind ≢ Enqueue v) → NoneDid c.operations kind
    → NoneDid d.operations kind
none_did c d kind back other none o among is = let did = back.did o kind other (among, is) in none o did.0 did.1

or_else : (A B C : Type 0) (test : Bool) → (B → C) → MatchBool test A B → MatchBool test A C
or_else A B C true f a = a
or_else A B C false f b = f b

module _ (c d : Course) (agree : Agree c d) where
  ended : (v : ℕ) (dequeue : Option Operation)
      → MatchOption dequeue (NoneDid c.operations (Dequeue v)) (λ o. Did c.operations o (Dequeue v))
      → MatchOption dequeue (NoneDid d.operations (Dequeue v)) (λ o. Did d.operations o (Dequeue v))
  ended v None none = none_did c d (Dequeue v) agree.back (λ w is. cc) none
  ended v (Some o) did = agree.there.did o (Dequeue v) (λ w is. cc) did

  pub life_of : (life : Life) → IsLife c life → IsLife d life
  life_of life is = (is.0, agree.there.enters _ is.0 is.1, ended is.0 (dequeue_of life) is.2)

  pub fresh_of : (deq : Operation) (enq : Option Operation) → IsFreshViolation c deq enq → IsFreshViolation d deq enq
  fresh_of deq None is = record {
    value = is.value;
    dequeues = agree.there.did deq (Dequeue is.value) (λ w same. cc) is.dequeues;
    not_accepted = λ enq enters. is.not_accepted enq (agree.back.enters enq is.value enters);
    not_failed = none_did c d (EnqueueFailed is.value) agree.back (λ w same. cc) is.not_failed;
  }
  fresh_of deq (Some enq) is = record {
    value = is.value;
    dequeues = agree.there.did deq (Dequeue is.value) (λ w same. cc) is.dequeues;
    enqueues = elim is.enqueues [
      | inl failed ↦ inl (agree.there.did enq (EnqueueFailed is.value) (λ w same. cc) failed)
      | inr late ↦ inr (agree.there.enters enq is.value late.0, late.1)
    ];
  }

  pub repeat_of : (enq first second : Operation) → IsRepeatViolation c enq first second
      → IsRepeatViolation d enq first second
  repeat_of enq first second is = record {
    value = is.value;
    enqueues = agree.there.enters enq is.value is.enqueues;
    dequeues = agree.there.did first (Dequeue is.value) (λ w same. cc) is.dequeues;
    dequeues_again = agree.there.did second (Dequeue is.value) (λ w same. cc) is.dequeues_again;
    in_order = is.in_order;
  }

  pub order_of : (a b : Life) → IsOrderViolation c a b → IsOrderViolation d a b
  order_of a b is = record { is_a = life_of a is.is_a; is_b = life_of b is.is_b; is_dequeued = is.is_dequeued; overtakes = is.overtakes }

  pub covers_of : (empty : Operation) (frontier : ℕ) (cover : List Life) → CoversFrom c empty frontier cover
      → CoversFrom d empty frontier cover
  covers_of empty frontier [] covers = covers
  covers_of empty frontier (life ∷ []) covers = (life_of life covers.0, covers.1, covers.2)
  covers_of empty frontier (life ∷ next ∷ rest) covers =
      (life_of life covers.0, covers.1, covers.2, covers_of empty (dequeue_call life) (next ∷ rest) covers.3)

  pub witness_of : (empty : Operation) (cover : List Life) → IsWitnessViolation c empty cover
      → IsWitnessViolation d empty cover
  witness_of empty cover is = record {
    answers_empty = agree.there.did empty DequeueEmpty (λ w same. cc) is.answers_empty;
    covers = covers_of empty empty.call cover is.covers;
  }

-- ---- without a life or a violation in the one, there is none in the other

module _ (c d : Course) (agree : Agree c d) where
  abbrev back : Agree d c
  back = agree_back c d agree

  pub no_fresh_of : NoFreshViolation c → NoFreshViolation d
  no_fresh_of none deq enq is = none deq enq (fresh_of d c back deq enq is)

  pub no_repeat_of : NoRepeatViolation c → NoRepeatViolation d
  no_repeat_of none enq first second is = none enq first second (repeat_of d c back enq first second is)

  pub no_order_of : NoOrderViolation c → NoOrderViolation d
  no_order_of none a b is = none a b (order_of d c back a b is)

  pub free_of : (gap : ℕ) → IsFreeGap c gap → IsFreeGap d gap
  free_of gap free life is = free life (life_of d c back life is)

  pub least_of : (o : Operation) (gap : ℕ) → IsLeastFreeGap c o gap → IsLeastFreeGap d o gap
  least_of o gap is = record {
    in_window = is.in_window;
    is_free = free_of gap is.is_free;
    least = λ other within free. is.least other within (λ life is_life. free life (life_of c d agree life is_life));
  }

  pub covered_of : (o : Operation) → IsCovered c o → IsCovered d o
  covered_of o covered gap within = let stays = covered gap within in (stays.0, life_of c d agree stays.0 stays.1, stays.2)

  -- ---- what is chosen in the one is chosen in the other

  pub chosen_order_of : (a b : Life) → IsChosenOrderViolation c a b → IsChosenOrderViolation d a b
  chosen_order_of a b is = record {
    violates = order_of c d agree a b is.violates;
    first = λ a' b' violation. is.first a' b' (order_of d c back a' b' violation);
    longest = λ a' violation. is.longest a' (order_of d c back a' b violation);
  }

  next_of : (frontier : ℕ) (life : Life) → IsNextOfCover c frontier life → IsNextOfCover d frontier life
  next_of frontier life is = record {
    is_life = life_of c d agree life is.is_life;
    before_frontier = is.before_frontier;
    longest = λ other is_life. is.longest other (life_of d c back other is_life);
  }

  pub cover_of : (empty : Operation) (frontier : ℕ) (cover : List Life) → IsChosenCoverFrom c empty frontier cover
      → IsChosenCoverFrom d empty frontier cover
  cover_of empty frontier [] is = is
  cover_of empty frontier (life ∷ rest) is =
      (next_of frontier life is.0, or_else _ _ _ (nat_lt empty.ret (dequeue_call life)) (cover_of empty (dequeue_call life) rest) is.1)

  pub chosen_witness_of : (empty : Operation) (cover : List Life) → IsChosenWitness c empty cover
      → IsChosenWitness d empty cover
  chosen_witness_of empty cover is = record {
    answers_empty = agree.there.did empty DequeueEmpty (λ w same. cc) is.answers_empty;
    is_covered = covered_of empty is.is_covered;
    first = λ other did covered. is.first other (agree.back.did other DequeueEmpty (λ w same. cc) did)
        (λ gap within. let stays = covered gap within in (stays.0, life_of d c back stays.0 stays.1, stays.2));
    cover_is_chosen = cover_of empty empty.call cover is.cover_is_chosen;
  }

  pub chosen_of : (full : FullViolation) → IsChosenFullViolation c full → IsChosenFullViolation d full
  chosen_of (fresh deq enq) is = record {
    violates = fresh_of c d agree deq enq is.violates;
    first = λ deq' enq' violation. is.first deq' enq' (fresh_of d c back deq' enq' violation);
  }
  chosen_of (repeat enq first second) (no_fresh, is) = (
    no_fresh_of no_fresh,
    record {
      violates = repeat_of c d agree enq first second is.violates;
      soonest = λ enq' first' second' violation. is.soonest enq' first' second' (repeat_of d c back enq' first' second' violation);
    },
  )
  chosen_of (order a b) is = (no_fresh_of is.0, no_repeat_of is.1, chosen_order_of a b is.2)
  chosen_of (witness empty cover) is =
      (no_fresh_of is.0, no_repeat_of is.1, no_order_of is.2, chosen_witness_of empty cover is.3)
