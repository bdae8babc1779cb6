-- Each step keeps the ring.
use Rattle.std.proofs.Common.{◌≡◌, ◌≢◌, ℕ, zero, suc, ◌+◌, ◌<◌, ◌≤◌, Bool, List, [], ◌∷◌, ◌++◌, length, set, get_or, All, sum_by}
use Rattle.std.proofs.Common.{refl, sym, ap, ◌∙◌, subst, arith, length-set, get_or-set_same, get_or-set_other}
use Rattle.std.specs.Prelude.{Option, Some, None, nat_eq, nat_lt, option_and_then, if◌then◌else◌, false, true}
use mathlib.Core.Option.{some, some-injective, some-ne-none}
use mathlib.Core.Logic.{◌⊎◌, inl, inr}
use lib.ListN.{get_elem?}
use Rattle.std.proofs.lemmas.Bool.{eq-eqb, lt-ltb, cases_lt}
use Rattle.std.proofs.lemmas.List.{length_push, get_or_append_left, get_or_push}
use Rattle.std.proofs.lemmas.List.Elements.{All-nil, All-cons, All-set, All-push, All-weaker}
use Rattle.std.proofs.lemmas.List.Sums.{sum_by-cons, sum_by_push, sum_by-set, get_or-le-sum_by}
use Rattle.std.proofs.lemmas.Option.{same_Some}
use Rattle.tickets.specs.declared.account.Holding.{Holding}
use Rattle.tickets.specs.declared.account.TailRight.{TailRight}
use Rattle.tickets.specs.declared.account.HeadRight.{HeadRight}
use Rattle.tickets.specs.declared.account.Next.{Next}
use Rattle.tickets.specs.declared.account.Next.TheVariants.{Unknown, There, Holds}
use Rattle.tickets.specs.declared.note.Effect.{Effect}
use Rattle.tickets.specs.declared.note.Effect.TheVariants as effect
use Rattle.tickets.specs.declared.note.Note.{Note}
use Rattle.tickets.specs.Log.{knowers, note_at}
use Rattle.tickets.specs.Queue.{after_each, bounded_after, bounded_after_one, queue_after, queue_after_one}
use Rattle.tickets.specs.Inner.Ring.{holders, position, cell, FitsStaged, FitsTail, FitsNext, FitsHead, IsLaid, AreNodes}
use Rattle.tickets.proofs.Apart.{place_in}
use Rattle.tickets.proofs.Logged.{at_place}
use Rattle.tickets.proofs.Turns.{same_position, position_within}

abbrev pub knowers_of : Holding → ℕ
knowers_of h = knowers h.log

abbrev pub tails_of : Holding → ℕ
tails_of h = holders h.tail

abbrev pub heads_of : Holding → ℕ
heads_of h = holders h.head

-- ---- rights

pub counts-set : (f : Holding → ℕ) (views : List Holding) (i : ℕ) (v w : Holding) → get_elem? views i ≡ some v
    → sum_by f (set views i w) + f v ≡ sum_by f views + f w
counts-set f views i v w at = let p = place_in views i v at in
    subst (λ (h : Holding). sum_by f (set views i w) + f h ≡ sum_by f views + f w) (p.1 v) (sum_by-set f views i w v p.0)

-- what holds of each pass without a right holds of all, if the sum of the rights is 0
all_without : (f : Holding → ℕ) (P : Holding → Type 0) → ((h : Holding) → f h ≡ 0 → P h) → (views : List Holding) → sum_by f views ≡ 0 → All P views
all_without f P none [] e = All-nil P
all_without f P none (x ∷ xs) e =
    let split = sum_by-cons f x xs in All-cons P x xs (none x (omega arith)) (all_without f P none xs (omega arith))

-- if one pass at most has the right, it is enough that it holds of that one
only_one : (f : Holding → ℕ) (P : Holding → Type 0) → ((h : Holding) → f h ≡ 0 → P h) → (views : List Holding) (i : ℕ) (v w : Holding)
    → sum_by f views ≤ 1 → get_elem? views i ≡ some v → f v ≡ 1 → P w → All P (set views i w)
only_one f P none [] i v w one at has fits = absurd (some-ne-none v (sym at))
only_one f P none (x ∷ xs) zero v w one at has fits =
    let split = sum_by-cons f x xs in
    let is = ap f (some-injective x v at) in
    All-cons P w xs fits (all_without f P none xs (omega arith))
only_one f P none (x ∷ xs) (suc i) v w one at has fits =
    let split = sum_by-cons f x xs in
    let p = place_in xs i v at in
    let within = get_or-le-sum_by f xs i v p.0 in
    let is = ap f (p.1 v) in
    All-cons P x (set xs i w) (none x (omega arith)) (only_one f P none xs i v w (omega arith) at has fits)

no_tail_fits : (room put taken : ℕ) (row : List ℕ) (h : Holding) → tails_of h ≡ 0 → FitsTail room put taken row h.tail
no_tail_fits room put taken row h none = by_tail h.tail none
  where
    by_tail : (k : Option TailRight) → holders k ≡ 0 → FitsTail room put taken row k
    by_tail None e = tt
    by_tail (Some t) e = absurd (omega arith)

no_head_fits : (room put taken : ℕ) (row : List ℕ) (h : Holding) → heads_of h ≡ 0 → FitsHead room put taken row h.head
no_head_fits room put taken row h none = by_head h.head none
  where
    by_head : (k : Option HeadRight) → holders k ≡ 0 → FitsHead room put taken row k
    by_head None e = tt
    by_head (Some t) e = absurd (omega arith)

-- ---- the queue after one more note

pub more_after : (one : List ℕ → Effect → Option (List ℕ)) (queue : List ℕ) (log : List Note) (n : Note) (s t : List ℕ)
    → after_each one queue log ≡ Some s → one s n.effect ≡ Some t → after_each one queue (log ++ n ∷ []) ≡ Some t
more_after one queue [] n s t e f = ap (λ (q : List ℕ). option_and_then (λ next. after_each one next []) (one q n.effect)) (same_Some queue s e)
    ∙ ap (option_and_then (λ next. after_each one next [])) f
more_after one queue (m ∷ log) n s t e f = by_first (λ q g. more_after one q log n s t g f) (one queue m.effect) e
  where
    by_first : ((q : List ℕ) → after_each one q log ≡ Some s → after_each one q (log ++ n ∷ []) ≡ Some t) → (o : Option (List ℕ)) →
        option_and_then (λ next. after_each one next log) o ≡ Some s
        → option_and_then (λ next. after_each one next (log ++ n ∷ [])) o ≡ Some t
    by_first later None g = cc
    by_first later (Some q) g = later q g

pub queue_more : (queue : List ℕ) (log : List Note) (n : Note) (s t : List ℕ) → queue_after queue log ≡ Some s → queue_after_one s n.effect ≡ Some t
    → queue_after queue (log ++ n ∷ []) ≡ Some t
queue_more queue log n s t = more_after queue_after_one queue log n s t

-- what a bounded queue accepts any queue accepts
pub bounded_is_queue : (room : ℕ) (queue : List ℕ) (log : List Note) (t : List ℕ) → bounded_after room queue log ≡ Some t → queue_after queue log ≡ Some t
bounded_is_queue room queue [] t e = e
bounded_is_queue room queue (m ∷ log) t e = by_effect (λ q. bounded_is_queue room q log t) m.effect e
  where
    by_room : (b : Bool) (q : List ℕ) → option_and_then (λ next. bounded_after room next log) (if b then Some q else None) ≡ Some t
        → bounded_after room q log ≡ Some t
    by_room true q g = g
    by_room false q g = cc

    by_one : ((q : List ℕ) → bounded_after room q log ≡ Some t → queue_after q log ≡ Some t) → (o : Option (List ℕ))
        → option_and_then (λ next. bounded_after room next log) o ≡ Some t → option_and_then (λ next. queue_after next log) o ≡ Some t
    by_one rest None g = cc
    by_one rest (Some q) g = rest q g

    by_effect : ((q : List ℕ) → bounded_after room q log ≡ Some t → queue_after q log ≡ Some t) → (kind : Effect)
        → option_and_then (λ next. bounded_after room next log) (bounded_after_one room queue kind) ≡ Some t
        → option_and_then (λ next. queue_after next log) (queue_after_one queue kind) ≡ Some t
    by_effect rest (effect.Enq v) g = rest (queue ++ v ∷ []) (by_room (nat_lt (length queue) room) (queue ++ v ∷ []) g)
    by_effect rest (effect.Not v) g = rest queue (by_room (nat_eq (length queue) room) queue g)
    by_effect rest (effect.Deq v) g = by_one rest (queue_after_one queue (effect.Deq v)) g
    by_effect rest effect.Empty g = by_one rest (queue_after_one queue effect.Empty) g

-- ---- what the ring holds

module _ (initial : List ℕ) (room : ℕ) (row : List ℕ) (log : List Note) (put taken : ℕ) (laid : IsLaid initial room row log put taken) where
  -- the cell of a number that is not the position of another one
  apart : (a b : ℕ) → a < b → b ≤ a + room → cell room a ≢ cell room b
  apart a b low high e = let same = same_position room a b (omega arith) high (omega arith) in absurd (omega arith)

  -- a value is written into the cell after all enqueued ones
  pub laid_staged : (x : ℕ) → put < taken + room → IsLaid initial room (set row (cell room put) x) log put taken
  laid_staged x free = record {
    queue = laid.queue;
    legal = laid.legal;
    count = laid.count;
    within = laid.within;
    wide = length-set row (cell room put) x ∙ laid.wide;
    ins = get_or-set_other row (cell room put) 0 x 0 (λ e. absurd (omega arith)) ∙ laid.ins;
    outs = get_or-set_other row (cell room put) 1 x 0 (λ e. absurd (omega arith)) ∙ laid.outs;
    lies = λ i h. get_or-set_other row (cell room put) (cell room (taken + i)) x 0
        (apart (taken + i) put (let count = laid.count in omega arith) (omega arith)) ∙ laid.lies i h;
  }

  -- the staged value is enqueued
  pub laid_pushed : (x call look : ℕ) → put < taken + room → get_or row (cell room put) 0 ≡ x
      → IsLaid initial room (set row 0 (position room (put + 1))) (log ++ note_at call (effect.Enq x) look ∷ []) (put + 1) taken
  laid_pushed x call look free staged =
      let count = laid.count in
      let wide = laid.wide in
      let pushed = length_push laid.queue x in
      let more = set row 0 (position room (put + 1)) in
      record {
        queue = laid.queue ++ x ∷ [];
        legal = more_after (bounded_after_one room) initial log (note_at call (effect.Enq x) look) laid.queue (laid.queue ++ x ∷ []) laid.legal
            (ap (λ (b : Bool). if b then Some (laid.queue ++ x ∷ []) else None) (is_less (length laid.queue) (omega arith)));
        count = omega arith;
        within = omega arith;
        wide = length-set row 0 (position room (put + 1)) ∙ laid.wide;
        ins = get_or-set_same row 0 (position room (put + 1)) 0 (omega arith);
        outs = get_or-set_other row 0 1 (position room (put + 1)) 0 (λ e. absurd (omega arith)) ∙ laid.outs;
        lies = λ i h. get_or-set_other row 0 (cell room (taken + i)) (position room (put + 1)) 0 (λ e. absurd (omega arith))
            ∙ by_place i h (cases_lt i (length laid.queue));
      }
    where
      is_less : (k : ℕ) → k < room → nat_lt k room ≡ true
      is_less k less = lt-ltb k room less

      by_place : (i : ℕ) → i < length (laid.queue ++ x ∷ []) → (i < length laid.queue) ⊎ (length laid.queue ≤ i)
          → get_or row (cell room (taken + i)) 0 ≡ get_or (laid.queue ++ x ∷ []) i 0
      by_place i h (inl before) = laid.lies i before ∙ sym (get_or_append_left laid.queue (x ∷ []) 0 i before)
      by_place i h (inr behind) =
          let pushed = length_push laid.queue x in
          let count = laid.count in
          let last : length laid.queue ≡ i = omega arith in
          let place : taken + i ≡ put = omega arith in
          ap (λ (k : ℕ). get_or row (cell room k) 0) place ∙ staged ∙ sym (get_or_push laid.queue x 0 i last)

  -- a note of an operation that leaves the queue as it is
  laid_noted : (n : Note) → bounded_after_one room laid.queue n.effect ≡ Some laid.queue → IsLaid initial room row (log ++ n ∷ []) put taken
  laid_noted n same = record {
    queue = laid.queue;
    legal = more_after (bounded_after_one room) initial log n laid.queue laid.queue laid.legal same;
    count = laid.count;
    within = laid.within;
    wide = laid.wide;
    ins = laid.ins;
    outs = laid.outs;
    lies = laid.lies;
  }

  -- an enqueue finds the queue full
  pub laid_full : (x call look : ℕ) → put ≡ taken + room → IsLaid initial room row (log ++ note_at call (effect.Not x) look ∷ []) put taken
  laid_full x call look full = laid_noted (note_at call (effect.Not x) look)
      (ap (λ (b : Bool). if b then Some laid.queue else None) (eq-eqb (length laid.queue) room (let count = laid.count in omega arith)))

  -- a dequeue finds the queue empty
  pub laid_empty : (call look : ℕ) → put ≡ taken → IsLaid initial room row (log ++ note_at call effect.Empty look ∷ []) put taken
  laid_empty call look none = laid_noted (note_at call effect.Empty look) (found_empty laid.queue laid.count)
    where
      found_empty : (queue : List ℕ) → put ≡ taken + length queue → queue_after_one queue effect.Empty ≡ Some queue
      found_empty [] count = refl
      found_empty (x ∷ xs) count = absurd (omega arith)

  -- the first value is dequeued
  pub laid_taken : (x call look : ℕ) → taken < put → get_or row (cell room taken) 0 ≡ x
      → IsLaid initial room (set row 1 (position room (taken + 1))) (log ++ note_at call (effect.Deq x) look ∷ []) put (taken + 1)
  laid_taken x call look some_left holds = by_queue laid.queue laid.legal laid.count laid.within laid.lies
    where
      other : (k : ℕ) → get_or (set row 1 (position room (taken + 1))) (cell room k) 0 ≡ get_or row (cell room k) 0
      other k = get_or-set_other row 1 (cell room k) (position room (taken + 1)) 0 (λ e. absurd (omega arith))

      by_queue : (queue : List ℕ) → bounded_after room initial log ≡ Some queue → put ≡ taken + length queue → length queue ≤ room
          → ((i : ℕ) → i < length queue → get_or row (cell room (taken + i)) 0 ≡ get_or queue i 0)
          → IsLaid initial room (set row 1 (position room (taken + 1))) (log ++ note_at call (effect.Deq x) look ∷ []) put (taken + 1)
      by_queue [] legal count within lies = absurd (omega arith)
      by_queue (y ∷ rest) legal count within lies =
          let wide = laid.wide in
          let here : taken ≡ taken + 0 = omega arith in
          let is : y ≡ x = sym (ap (λ (k : ℕ). get_or row (cell room k) 0) here ∙ lies 0 (omega arith)) ∙ holds in
          record {
            queue = rest;
            legal = more_after (bounded_after_one room) initial log (note_at call (effect.Deq x) look) (y ∷ rest) rest legal
                (ap (λ (b : Bool). if b then Some rest else None) (eq-eqb y x is));
            count = omega arith;
            within = omega arith;
            wide = length-set row 1 (position room (taken + 1)) ∙ laid.wide;
            ins = get_or-set_other row 1 0 (position room (taken + 1)) 0 (λ e. absurd (omega arith)) ∙ laid.ins;
            outs = get_or-set_same row 1 (position room (taken + 1)) 0 (omega arith);
            lies = λ i h.
                let next : taken + 1 + i ≡ taken + suc i = omega arith in
                other (taken + 1 + i) ∙ ap (λ (k : ℕ). get_or row (cell room k) 0) next ∙ lies (suc i) (omega arith);
          }

-- ---- what the ends know stays true

-- the head goes on
pub tail_later : (room put taken later : ℕ) (row more : List ℕ) → taken ≤ later → ((k : ℕ) → get_or more (cell room k) 0 ≡ get_or row (cell room k) 0)
    → (k : Option TailRight) → FitsTail room put taken row k → FitsTail room put later more k
tail_later room put taken later row more low same None fits = tt
tail_later room put taken later row more low same (Some t) fits =
    (fits.0, fits.1, (let seen = fits.2 in omega arith), fits.3, by_staged t.staged fits.4)
  where
    by_staged : (staged : Option ℕ) → FitsStaged row t staged → FitsStaged more t staged
    by_staged None known = tt
    by_staged (Some x) known = (
      known.0,
      ap (λ (r : ℕ). get_or more (cell r t.at) 0) fits.1 ∙ same t.at ∙ ap (λ (r : ℕ). get_or row (cell r t.at) 0) (sym fits.1) ∙ known.1,
    )

-- the tail goes on, and no value that is enqueued and not dequeued changes
pub head_later : (room put taken later : ℕ) (row more : List ℕ) → put ≤ later
    → (taken < put → get_or more (cell room taken) 0 ≡ get_or row (cell room taken) 0)
    → (k : Option HeadRight) → FitsHead room put taken row k → FitsHead room later taken more k
head_later room put taken later row more low same None fits = tt
head_later room put taken later row more low same (Some h) fits = (fits.0, fits.1, by_next h.next fits.2)
  where
    by_next : (next : Next) → FitsNext room put taken row next → FitsNext room later taken more next
    by_next Unknown known = tt
    by_next There known = omega arith
    by_next (Holds x) known = ((let less = known.0 in omega arith), same known.0 ∙ known.1)

-- ---- the steps

module _ (initial : List ℕ) (room : ℕ) (row : List ℕ) (log : List Note) (views : List Holding) (n : AreNodes initial room row log views) where
  abbrev Tails : Holding → Type 0
  Tails h = FitsTail room n.put n.taken row h.tail

  abbrev Heads : Holding → Type 0
  Heads h = FitsHead room n.put n.taken row h.head

  -- other views with as many rights
  same_rights : (after : List Holding) → sum_by knowers_of after ≡ sum_by knowers_of views → sum_by tails_of after ≡ sum_by tails_of views
      → sum_by heads_of after ≡ sum_by heads_of views → All Tails after → All Heads after → AreNodes initial room row log after
  same_rights after knows tails heads fit_tails fit_heads = record {
    put = n.put;
    taken = n.taken;
    unknown = knows ∙ n.unknown;
    one_tail = subst (λ (k : ℕ). k ≤ 1) (sym tails) n.one_tail;
    one_head = subst (λ (k : ℕ). k ≤ 1) (sym heads) n.one_head;
    tails = fit_tails;
    heads = fit_heads;
    laid = n.laid;
  }

  -- a pass with the same rights
  pub nodes_same : (i : ℕ) (v w : Holding) → get_elem? views i ≡ some v → w.log ≡ v.log → w.tail ≡ v.tail → w.head ≡ v.head
      → AreNodes initial room row log (set views i w)
  nodes_same i v w at log_same tail head =
      let a = counts-set knowers_of views i v w at in
      let b = counts-set tails_of views i v w at in
      let c = counts-set heads_of views i v w at in
      let x = ap knowers log_same in
      let y = ap holders tail in
      let z = ap holders head in
      same_rights (set views i w) (omega arith) (omega arith) (omega arith)
      (All-set Tails views i w (subst (FitsTail room n.put n.taken row) (sym tail) (at_place Tails views i v at n.tails)) n.tails)
      (All-set Heads views i w (subst (FitsHead room n.put n.taken row) (sym head) (at_place Heads views i v at n.heads)) n.heads)

  -- a pass whose rights are cut in two
  pub nodes_split : (i : ℕ) (v left right : Holding) → get_elem? views i ≡ some v → knowers left.log + knowers right.log ≡ knowers v.log
      → holders left.tail + holders right.tail ≡ holders v.tail → holders left.head + holders right.head ≡ holders v.head
      → (Tails v → Tails left × Tails right) → (Heads v → Heads left × Heads right)
      → AreNodes initial room row log (set views i left ++ right ∷ [])
  nodes_split i v left right at knows tail head fit_tail fit_head =
      let first = set views i left in
      let a = counts-set knowers_of views i v left at in
      let a' = sum_by_push knowers_of first right in
      let b = counts-set tails_of views i v left at in
      let b' = sum_by_push tails_of first right in
      let c = counts-set heads_of views i v left at in
      let c' = sum_by_push heads_of first right in
      let tails = fit_tail (at_place Tails views i v at n.tails) in
      let heads = fit_head (at_place Heads views i v at n.heads) in
      same_rights (first ++ right ∷ []) (omega arith) (omega arith) (omega arith)
      (All-push Tails first right (All-set Tails views i left tails.0 n.tails) tails.1)
      (All-push Heads first right (All-set Heads views i left heads.0 n.heads) heads.1)

  -- a pass takes the rights of another, which is left with none
  pub nodes_join : (i j : ℕ) (v w m s : Holding) → get_elem? views i ≡ some v → get_elem? (set views i m) j ≡ some w → get_elem? views j ≡ some w
      → knowers m.log + knowers s.log ≡ knowers v.log + knowers w.log → holders m.tail + holders s.tail ≡ holders v.tail + holders w.tail
      → holders m.head + holders s.head ≡ holders v.head + holders w.head
      → (Tails v → Tails w → Tails m × Tails s) → (Heads v → Heads w → Heads m × Heads s)
      → AreNodes initial room row log (set (set views i m) j s)
  nodes_join i j v w m s at there here knows tail head fit_tail fit_head =
      let first = set views i m in
      let a = counts-set knowers_of views i v m at in
      let a' = counts-set knowers_of first j w s there in
      let b = counts-set tails_of views i v m at in
      let b' = counts-set tails_of first j w s there in
      let c = counts-set heads_of views i v m at in
      let c' = counts-set heads_of first j w s there in
      let tails = fit_tail (at_place Tails views i v at n.tails) (at_place Tails views j w here n.tails) in
      let heads = fit_head (at_place Heads views i v at n.heads) (at_place Heads views j w here n.heads) in
      same_rights (set first j s) (omega arith) (omega arith) (omega arith)
      (All-set Tails first j s tails.1 (All-set Tails views i m tails.0 n.tails))
      (All-set Heads first j s heads.1 (All-set Heads views i m heads.0 n.heads))

  -- a step at the tail
  pub nodes_at_tail : (i : ℕ) (v w : Holding) (more : List ℕ) (log' : List Note) (later : ℕ) → get_elem? views i ≡ some v → holders v.tail ≡ 1
      → holders w.tail ≡ 1 → w.log ≡ v.log → w.head ≡ v.head → n.put ≤ later
      → (n.taken < n.put → get_or more (cell room n.taken) 0 ≡ get_or row (cell room n.taken) 0)
      → FitsTail room later n.taken more w.tail → IsLaid initial room more log' later n.taken → AreNodes initial room more log' (set views i w)
  nodes_at_tail i v w more log' later at has has' log_same head grows same fits laid =
      let a = counts-set knowers_of views i v w at in
      let b = counts-set tails_of views i v w at in
      let c = counts-set heads_of views i v w at in
      let x = ap knowers log_same in
      let z = ap holders head in
      let none = n.unknown in
      let one = n.one_tail in
      let one' = n.one_head in
      let P : Holding → Type 0 = λ h. FitsTail room later n.taken more h.tail in
      let Q : Holding → Type 0 = λ h. FitsHead room later n.taken more h.head in
      let heads = All-weaker Heads Q (λ (h : Holding). head_later room n.put n.taken later row more grows same h.head) views n.heads in
      record {
        put = later;
        taken = n.taken;
        unknown = omega arith;
        one_tail = omega arith;
        one_head = omega arith;
        tails = only_one tails_of P (no_tail_fits room later n.taken more) views i v w n.one_tail at has fits;
        heads = All-set Q views i w (subst (FitsHead room later n.taken more) (sym head) (at_place Q views i v at heads)) heads;
        laid = laid;
      }

  -- a step at the head
  pub nodes_at_head : (i : ℕ) (v w : Holding) (more : List ℕ) (log' : List Note) (later : ℕ) → get_elem? views i ≡ some v → holders v.head ≡ 1
      → holders w.head ≡ 1 → w.log ≡ v.log → w.tail ≡ v.tail → n.taken ≤ later
      → ((k : ℕ) → get_or more (cell room k) 0 ≡ get_or row (cell room k) 0)
      → FitsHead room n.put later more w.head → IsLaid initial room more log' n.put later → AreNodes initial room more log' (set views i w)
  nodes_at_head i v w more log' later at has has' log_same tail grows same fits laid =
      let a = counts-set knowers_of views i v w at in
      let b = counts-set tails_of views i v w at in
      let c = counts-set heads_of views i v w at in
      let x = ap knowers log_same in
      let z = ap holders tail in
      let none = n.unknown in
      let one = n.one_tail in
      let one' = n.one_head in
      let P : Holding → Type 0 = λ h. FitsTail room n.put later more h.tail in
      let Q : Holding → Type 0 = λ h. FitsHead room n.put later more h.head in
      let tails = All-weaker Tails P (λ (h : Holding). tail_later room n.put n.taken later row more grows same h.tail) views n.tails in
      record {
        put = n.put;
        taken = later;
        unknown = omega arith;
        one_tail = omega arith;
        one_head = omega arith;
        tails = All-set P views i w (subst (FitsTail room n.put later more) (sym tail) (at_place P views i v at tails)) tails;
        heads = only_one heads_of Q (no_head_fits room n.put later more) views i v w n.one_head at has fits;
        laid = laid;
      }
