-- Each step keeps the nodes that all passes share, and the words after the ticket word in either form.
use Rattle.std.proofs.Common.{◌≡◌, ◌≢◌, ℕ, suc, ◌+◌, ◌<◌, ◌≤◌, Bool, true, false, List, [], ◌∷◌, ◌++◌, length, set, get_or, All, sum_by}
use Rattle.std.proofs.Common.{refl, sym, ap, ◌∙◌, subst, arith, length-set, get_or-set_same, get_or-set_other}
use Rattle.std.specs.Prelude.{Option, Some, None, if◌then◌else◌}
use mathlib.Core.Option.{some}
use mathlib.Core.Logic.{◌⊎◌, inl, inr}
use lib.ListN.{get_elem?}
use Rattle.std.proofs.lemmas.Bool.{eq-eqb, cases_lt, cases_eq, false≢true}
use Rattle.std.proofs.lemmas.List.{length_push, get_or_append_left, get_or_push}
use Rattle.std.proofs.lemmas.List.Elements.{All-set, All-push, All-weaker}
use Rattle.std.proofs.lemmas.List.Sums.{sum_by-cons, sum_by_push, get_or-le-sum_by}
use Rattle.tickets.specs.declared.TheConstants.{NO_VALUE}
use Rattle.tickets.specs.declared.account.Holding.{Holding}
use Rattle.tickets.specs.declared.account.Setup.{Setup}
use Rattle.tickets.specs.declared.account.Walk.{Walk}
use Rattle.tickets.specs.declared.account.Aim.{Aim}
use Rattle.tickets.specs.declared.account.Aim.TheVariants.{Put, Find, Read}
use Rattle.tickets.specs.declared.note.Effect.TheVariants as effect
use Rattle.tickets.specs.declared.note.Note.{Note}
use Rattle.tickets.specs.Log.{knowers, note_at}
use Rattle.tickets.specs.Queue.{queue_after, queue_after_one}
use Rattle.tickets.specs.Inner.Account.{AreBeside, AreOwned, initial_of, room_of}
use Rattle.tickets.specs.Inner.Ring.{ends_of, holders, FitsTail, FitsHead, AreNodes}
use Rattle.tickets.specs.Inner.Shared.{AreFullBefore, FitsAim, FitsWalk, AreFilled, rights, AreShared}
use Rattle.tickets.proofs.Apart.{place_in}
use Rattle.tickets.proofs.Logged.{at_place}
use Rattle.tickets.proofs.Rows.{counts-set, knowers_of, queue_more, nodes_same, nodes_split, nodes_join}

-- ---- the row

module _ (initial row : List ℕ) (log : List Note) (f : AreFilled initial row log) where
  -- the number of nodes that hold values
  abbrev pub filled_count : ℕ
  filled_count = get_or row 1 0 + length f.queue

  -- a node before which all hold values is at most the first empty one
  pub full_within : (at : ℕ) → AreFullBefore row at → filled_count + 2 < length row → at ≤ filled_count
  full_within at before inside = by_order (cases_lt filled_count at)
    where
      by_order : (filled_count < at) ⊎ (at ≤ filled_count) → at ≤ filled_count
      by_order (inl less) = absurd (before filled_count less (f.empty filled_count (omega arith) inside))
      by_order (inr more) = more

  -- an empty node is not before the first empty one
  pub empty_behind : (at : ℕ) → get_or row (at + 2) 0 ≡ NO_VALUE → filled_count ≤ at
  empty_behind at empty = by_order (cases_lt at filled_count)
    where
      by_order : (at < filled_count) ⊎ (filled_count ≤ at) → filled_count ≤ at
      by_order (inl less) = absurd (f.full at less empty)
      by_order (inr more) = more

  pub room_left : filled_count + 2 < length row
  room_left = let within = f.within in omega arith

  -- the value is enqueued in the first empty node
  pub filled_pushed : (x call look at : ℕ) → AreFullBefore row at → get_or row (at + 2) 0 ≡ NO_VALUE → x ≢ NO_VALUE → at + 3 < length row
      → AreFilled initial (set row (at + 2) x) (log ++ note_at call (effect.Enq x) look ∷ [])
  filled_pushed x call look at before empty value room = record {
    queue = f.queue ++ x ∷ [];
    legal = queue_more initial log (note_at call (effect.Enq x) look) f.queue (f.queue ++ x ∷ []) f.legal refl;
    hint = (let low = f.hint in omega (arith, first, second, pushed));
    within = omega (arith, second, pushed, long, here, room);
    lies = λ i h. ap (λ (k : ℕ). get_or more (k + i + 2) 0) second ∙ by_place i (omega (arith, h, pushed)) (cases_lt i (length f.queue));
    full = λ k h bad. by_node k (omega (arith, h, second, pushed, here)) bad (cases_eq k at);
    empty = λ k behind inside.
        get_or-set_other row (at + 2) (k + 2) x 0 (λ e. absurd (omega (arith, e, behind, second, pushed, here)))
        ∙ f.empty k (omega (arith, behind, second, pushed)) (omega (arith, inside, long));
  }
    where
      more : List ℕ
      more = set row (at + 2) x

      here : filled_count ≡ at
      here = let low = full_within at before room_left in let high = empty_behind at empty in omega arith

      first : get_or more 0 0 ≡ get_or row 0 0
      first = get_or-set_other row (at + 2) 0 x 0 (λ e. absurd (omega arith))

      second : get_or more 1 0 ≡ get_or row 1 0
      second = get_or-set_other row (at + 2) 1 x 0 (λ e. absurd (omega arith))

      pushed : length (f.queue ++ x ∷ []) ≡ length f.queue + 1
      pushed = (let p = length_push f.queue x in omega arith)

      long : length more ≡ length row
      long = length-set row (at + 2) x

      by_place : (i : ℕ) → i < length f.queue + 1 → (i < length f.queue) ⊎ (length f.queue ≤ i)
          → get_or more (get_or row 1 0 + i + 2) 0 ≡ get_or (f.queue ++ x ∷ []) i 0
      by_place i h (inl less) = get_or-set_other row (at + 2) (get_or row 1 0 + i + 2) x 0 (λ e. absurd (omega (arith, e, less, here)))
          ∙ f.lies i less ∙ sym (get_or_append_left f.queue (x ∷ []) 0 i less)
      by_place i h (inr last) =
          let is : length f.queue ≡ i = omega arith in
          let place : get_or row 1 0 + i + 2 ≡ at + 2 = omega (arith, here) in
          ap (λ (k : ℕ). get_or more k 0) place ∙ get_or-set_same row (at + 2) x 0 (omega (arith, room)) ∙ sym (get_or_push f.queue x 0 i is)

      below_other : (j n : ℕ) → j ≤ n → j ≢ n → j < n
      below_other j n le ne = by_order (cases_lt j n)
        where
          by_order : (j < n) ⊎ (n ≤ j) → j < n
          by_order (inl less) = less
          by_order (inr more) = absurd (ne (omega arith))

      by_node : (k : ℕ) → k ≤ at → get_or more (k + 2) 0 ≡ NO_VALUE → (k ≡ at) ⊎ (k ≢ at) → ⊥
      by_node k h bad (inl same) =
          value (sym (get_or-set_same row (at + 2) x 0 (omega (arith, room))) ∙ ap (λ (j : ℕ). get_or more (j + 2) 0) (sym same) ∙ bad)
      by_node k h bad (inr other) =
          f.full k (let apart = below_other k at h other in omega (arith, here))
          (sym (get_or-set_other row (at + 2) (k + 2) x 0 (λ e. other (omega arith))) ∙ bad)

  -- the count at which enqueues begin is raised
  pub filled_hinted : (to : ℕ) → to ≤ filled_count → AreFilled initial (set row 0 to) log
  filled_hinted to low = record {
    queue = f.queue;
    legal = f.legal;
    hint = (let within = f.within in let same = get_or-set_same row 0 to 0 (omega arith) in omega (arith, second, same, low));
    within = (let within = f.within in omega (arith, second, long));
    lies = λ i h. ap (λ (k : ℕ). get_or (set row 0 to) (k + i + 2) 0) second ∙ other (get_or row 1 0 + i) ∙ f.lies i h;
    full = λ k h bad. f.full k (omega (arith, h, second)) (sym (other k) ∙ bad);
    empty = λ k behind inside. other k ∙ f.empty k (omega (arith, behind, second)) (omega (arith, inside, long));
  }
    where
      second : get_or (set row 0 to) 1 0 ≡ get_or row 1 0
      second = get_or-set_other row 0 1 to 0 (λ e. absurd (omega arith))

      long : length (set row 0 to) ≡ length row
      long = length-set row 0 to

      other : (k : ℕ) → get_or (set row 0 to) (k + 2) 0 ≡ get_or row (k + 2) 0
      other k = get_or-set_other row 0 (k + 2) to 0 (λ e. absurd (omega arith))

  -- an enqueue fails
  pub filled_declined : (x call look : ℕ) → AreFilled initial row (log ++ note_at call (effect.Not x) look ∷ [])
  filled_declined x call look = record {
    queue = f.queue;
    legal = queue_more initial log (note_at call (effect.Not x) look) f.queue f.queue f.legal refl;
    hint = f.hint;
    within = f.within;
    lies = f.lies;
    full = f.full;
    empty = f.empty;
  }

  -- the first node whose value was not dequeued is empty, so the queue is found empty
  pub filled_empty : (call look at : ℕ) → at ≤ get_or row 1 0 → get_or row (at + 2) 0 ≡ NO_VALUE
      → AreFilled initial row (log ++ note_at call effect.Empty look ∷ [])
  filled_empty call look at taken empty = record {
    queue = f.queue;
    legal = queue_more initial log (note_at call effect.Empty look) f.queue f.queue f.legal
        (found_empty f.queue (let high = empty_behind at empty in omega arith));
    hint = f.hint;
    within = f.within;
    lies = f.lies;
    full = f.full;
    empty = f.empty;
  }
    where
      found_empty : (queue : List ℕ) → length queue ≡ 0 → queue_after_one queue effect.Empty ≡ Some queue
      found_empty [] none = refl
      found_empty (x ∷ xs) none = absurd (omega arith)

  -- the first value is dequeued
  pub filled_taken : (call look x at : ℕ) → at ≡ get_or row 1 0 → get_or row (at + 2) 0 ≡ x → x ≢ NO_VALUE
      → AreFilled initial (set row 1 (at + 1)) (log ++ note_at call (effect.Deq x) look ∷ [])
  filled_taken call look x at here holds value = by_queue f.queue f.legal f.hint f.within f.lies f.full f.empty
    where
      more : List ℕ
      more = set row 1 (at + 1)

      other : (k : ℕ) → get_or more (k + 2) 0 ≡ get_or row (k + 2) 0
      other k = get_or-set_other row 1 (k + 2) (at + 1) 0 (λ e. absurd (omega arith))

      first : get_or more 0 0 ≡ get_or row 0 0
      first = get_or-set_other row 1 0 (at + 1) 0 (λ e. absurd (omega arith))

      second : get_or more 1 0 ≡ at + 1
      second = get_or-set_same row 1 (at + 1) 0 (let within = f.within in omega arith)

      long : length more ≡ length row
      long = length-set row 1 (at + 1)

      by_queue : (queue : List ℕ) → queue_after initial log ≡ Some queue → get_or row 0 0 ≤ get_or row 1 0 + length queue
          → get_or row 1 0 + length queue + 3 ≤ length row
          → ((i : ℕ) → i < length queue → get_or row (get_or row 1 0 + i + 2) 0 ≡ get_or queue i 0)
          → AreFullBefore row (get_or row 1 0 + length queue)
          → ((k : ℕ) → get_or row 1 0 + length queue ≤ k → k + 2 < length row → get_or row (k + 2) 0 ≡ NO_VALUE)
          → AreFilled initial more (log ++ note_at call (effect.Deq x) look ∷ [])
      by_queue [] legal hint within lies full empty =
          absurd (value (sym holds ∙ empty at (omega arith) (omega arith)))
      by_queue (y ∷ rest) legal hint within lies full empty =
          let place : get_or row 1 0 + 0 + 2 ≡ at + 2 = omega arith in
          let is : y ≡ x = sym (lies 0 (omega arith)) ∙ ap (λ (k : ℕ). get_or row k 0) place ∙ holds in
          record {
            queue = rest;
            legal = queue_more initial log (note_at call (effect.Deq x) look) (y ∷ rest) rest legal
                (ap (λ (b : Bool). if b then Some rest else None) (eq-eqb y x is));
            hint = omega (arith, hint, first, second);
            within = omega (arith, within, second, long);
            lies = λ i h.
                let next : at + 1 + i ≡ get_or row 1 0 + suc i = omega arith in
                ap (λ (k : ℕ). get_or more (k + i + 2) 0) second ∙ other (at + 1 + i) ∙ ap (λ (k : ℕ). get_or row (k + 2) 0) next
                ∙ lies (suc i) (omega arith);
            full = λ k h bad. full k (omega (arith, h, second)) (sym (other k) ∙ bad);
            empty = λ k behind inside. other k ∙ empty k (omega (arith, behind, second)) (omega (arith, inside, long));
          }

-- ---- what passes know

-- what a call knows stays true when a value is enqueued
pub walk_pushed : (row : List ℕ) (x at : ℕ) → get_or row (at + 2) 0 ≡ NO_VALUE → x ≢ NO_VALUE → at + 2 < length row
    → (k : Option Walk) → FitsWalk row k → FitsWalk (set row (at + 2) x) k
walk_pushed row x at empty value inside None fits = tt
walk_pushed row x at empty value inside (Some w) fits = (length-set row (at + 2) x ∙ fits.0, by_aim w.at w.aim fits.1)
  where
    second : get_or (set row (at + 2) x) 1 0 ≡ get_or row 1 0
    second = get_or-set_other row (at + 2) 1 x 0 (λ e. absurd (omega arith))

    by_node : (k : ℕ) → get_or row (k + 2) 0 ≢ NO_VALUE → (k ≡ at) ⊎ (k ≢ at) → get_or (set row (at + 2) x) (k + 2) 0 ≡ get_or row (k + 2) 0
    by_node k full (inl same) = absurd (full (ap (λ (j : ℕ). get_or row (j + 2) 0) same ∙ empty))
    by_node k full (inr other) = get_or-set_other row (at + 2) (k + 2) x 0 (λ e. other (omega arith))

    by_aim : (j : ℕ) (aim : Aim) → FitsAim row j aim → FitsAim (set row (at + 2) x) j aim
    by_aim j (Put y) fits = λ k h bad. fits k h (sym (by_node k (fits k h) (cases_eq k at)) ∙ bad)
    by_aim j Find fits = omega (arith, fits, second)
    by_aim j (Read y) fits = (
      omega (arith, fits.0, second),
      by_node j (λ bad. fits.2 (sym fits.1 ∙ bad)) (cases_eq j at) ∙ fits.1,
      fits.2,
    )

-- if all nodes before this one hold values, and this one does, then all nodes before the next one do
pub full_more : (row : List ℕ) (at : ℕ) → AreFullBefore row at → get_or row (at + 2) 0 ≢ NO_VALUE → AreFullBefore row (at + 1)
full_more row at before full k less bad = by_node (cases_lt k at)
  where
    by_node : (k < at) ⊎ (at ≤ k) → ⊥
    by_node (inl below) = before k below bad
    by_node (inr last) = let same : at ≡ k = omega arith in full (ap (λ (j : ℕ). get_or row (j + 2) 0) same ∙ bad)

-- what a call knows stays true when a value is counted as dequeued
pub walk_taken : (row : List ℕ) (at : ℕ) → at ≡ get_or row 1 0 → 1 < length row → (k : Option Walk) → FitsWalk row k → FitsWalk (set row 1 (at + 1)) k
walk_taken row at here wide None fits = tt
walk_taken row at here wide (Some w) fits = (length-set row 1 (at + 1) ∙ fits.0, by_aim w.at w.aim fits.1)
  where
    second : get_or (set row 1 (at + 1)) 1 0 ≡ at + 1
    second = get_or-set_same row 1 (at + 1) 0 wide

    other : (k : ℕ) → get_or (set row 1 (at + 1)) (k + 2) 0 ≡ get_or row (k + 2) 0
    other k = get_or-set_other row 1 (k + 2) (at + 1) 0 (λ e. absurd (omega arith))

    by_aim : (j : ℕ) (aim : Aim) → FitsAim row j aim → FitsAim (set row 1 (at + 1)) j aim
    by_aim j (Put y) fits = λ k h bad. fits k h (sym (other k) ∙ bad)
    by_aim j Find fits = omega (arith, fits, second, here)
    by_aim j (Read y) fits = (omega (arith, fits.0, second, here), other j ∙ fits.1, fits.2)

-- what a call knows stays true when the count at which enqueues begin changes
pub walk_hinted : (row : List ℕ) (to : ℕ) (k : Option Walk) → FitsWalk row k → FitsWalk (set row 0 to) k
walk_hinted row to None fits = tt
walk_hinted row to (Some w) fits = (length-set row 0 to ∙ fits.0, by_aim w.at w.aim fits.1)
  where
    second : get_or (set row 0 to) 1 0 ≡ get_or row 1 0
    second = get_or-set_other row 0 1 to 0 (λ e. absurd (omega arith))

    other : (k : ℕ) → get_or (set row 0 to) (k + 2) 0 ≡ get_or row (k + 2) 0
    other k = get_or-set_other row 0 (k + 2) to 0 (λ e. absurd (omega arith))

    by_aim : (j : ℕ) (aim : Aim) → FitsAim row j aim → FitsAim (set row 0 to) j aim
    by_aim j (Put y) fits = λ k h bad. fits k h (sym (other k) ∙ bad)
    by_aim j Find fits = omega (arith, fits, second)
    by_aim j (Read y) fits = (omega (arith, fits.0, second), other j ∙ fits.1, fits.2)

-- ---- the passes

-- if no pass has a right, no pass knows the log
none_knows : (hs : List Holding) → sum_by rights hs ≡ 0 → sum_by knowers_of hs ≡ 0
none_knows [] e = e
none_knows (h ∷ hs) e =
    let split = sum_by-cons rights h hs in
    let knows = sum_by-cons knowers_of h hs in
    let rest = none_knows hs (omega arith) in
    omega arith

-- if no pass has a right, the pass at i has none
no_right : (views : List Holding) (i : ℕ) (v : Holding) → sum_by rights views ≡ 0 → get_elem? views i ≡ some v → rights v ≡ 0
no_right views i v none at =
    let p = place_in views i v at in
    let within = get_or-le-sum_by rights views i v p.0 in
    let is = ap rights (p.1 v) in
    omega arith

module _ (initial : List ℕ) (room : ℕ) (row : List ℕ) (log : List Note) (views : List Holding) (n : AreShared initial room row log views) where
  pub shared_unknown : sum_by knowers_of views ≡ 0
  shared_unknown = none_knows views n.none

  -- a step of a pass that keeps its rights
  pub shared_step : (i : ℕ) (v w : Holding) (more : List ℕ) (log' : List Note) → get_elem? views i ≡ some v → w.log ≡ v.log → w.tail ≡ v.tail → w.head ≡ v.head
      → ((k : Option Walk) → FitsWalk row k → FitsWalk more k) → FitsWalk more w.walk → length more ≡ length row → AreFilled initial more log'
      → AreShared initial room more log' (set views i w)
  shared_step i v w more log' at same_log same_tail same_head later fits long filled =
      let a = counts-set rights views i v w at in
      let x = ap knowers same_log in
      let y = ap holders same_tail in
      let z = ap holders same_head in
      let none = n.none in
      let P : Holding → Type 0 = λ h. FitsWalk more h.walk in
      record {
        none = omega arith;
        wide = long ∙ n.wide;
        walks = All-set P views i w fits (All-weaker (λ (h : Holding). FitsWalk row h.walk) P (λ h. later h.walk) views n.walks);
        filled = filled;
      }

  -- the passes change, none of them has a right, and what each knows is true
  shared_again : (after : List Holding) → sum_by rights after ≡ 0 → All (λ h. FitsWalk row h.walk) after → AreShared initial room row log after
  shared_again after none walks = record { none = none; wide = n.wide; walks = walks; filled = n.filled }

-- ---- the words after the ticket word

-- a pass with as many ends takes the place of another, and none has an end
no_end_after : (views : List Holding) (i : ℕ) (v w : Holding) → sum_by ends_of views ≡ 0 → get_elem? views i ≡ some v → w.tail ≡ v.tail → w.head ≡ v.head
    → sum_by ends_of (set views i w) ≡ 0
no_end_after views i v w none at tail head =
    let a = counts-set ends_of views i v w at in
    let y = ap holders tail in
    let z = ap holders head in
    omega arith

-- a pass among those of which none has an end
no_end : (views : List Holding) (i : ℕ) (v : Holding) → sum_by ends_of views ≡ 0 → get_elem? views i ≡ some v → ends_of v ≡ 0
no_end views i v none at =
    let p = place_in views i v at in
    let within = get_or-le-sum_by ends_of views i v p.0 in
    let is = ap ends_of (p.1 v) in
    omega arith

module _ (setup : Setup) (row : List ℕ) (log : List Note) (views : List Holding) where
  -- a pass with the same rights, at the same node
  pub beside_same : AreBeside setup row log views → (i : ℕ) (v w : Holding) → get_elem? views i ≡ some v → w.log ≡ v.log → w.tail ≡ v.tail → w.head ≡ v.head
      → w.walk ≡ v.walk → AreBeside setup row log (set views i w)
  beside_same (inl n) i v w at same_log tail head walk = inl (n.0, by_form n.1)
    where
      by_form : AreOwned setup row log views → AreOwned setup row log (set views i w)
      by_form (inl p) = inl (p.0, no_end_after views i v w p.1 at tail head)
      by_form (inr r) = inr (r.0, nodes_same _ _ _ _ views r.1 i v w at same_log tail head)
  beside_same (inr n) i v w at same_log tail head walk =
      inr (
        n.0,
        shared_step _ _ _ _ views n.1 i v w row log at same_log tail head (λ _ fits. fits)
            (subst (FitsWalk row) (sym walk) (at_place (λ h. FitsWalk row h.walk) views i v at n.1.walks)) refl n.1.filled,
      )

  -- a pass whose rights are cut in two
  pub beside_split : AreBeside setup row log views → (i : ℕ) (v left right : Holding) → get_elem? views i ≡ some v
      → knowers left.log + knowers right.log ≡ knowers v.log
      → holders left.tail + holders right.tail ≡ holders v.tail → holders left.head + holders right.head ≡ holders v.head
      → ((room put taken : ℕ) → FitsTail room put taken row v.tail → FitsTail room put taken row left.tail × FitsTail room put taken row right.tail)
      → ((room put taken : ℕ) → FitsHead room put taken row v.head → FitsHead room put taken row left.head × FitsHead room put taken row right.head)
      → left.walk ≡ v.walk → right.walk ≡ None → AreBeside setup row log (set views i left ++ right ∷ [])
  beside_split (inl n) i v left right at knows tail head fit_tail fit_head walk rest = inl (n.0, by_form n.1)
    where
      by_form : AreOwned setup row log views → AreOwned setup row log (set views i left ++ right ∷ [])
      by_form (inl p) =
          let a = counts-set ends_of views i v left at in
          let a' = sum_by_push ends_of (set views i left) right in
          let none = p.1 in
          inl (p.0, omega arith)
      by_form (inr r) = inr (r.0, nodes_split _ _ _ _ views r.1 i v left right at knows tail head (fit_tail _ _ _) (fit_head _ _ _))
  beside_split (inr n) i v left right at knows tail head fit_tail fit_head walk rest =
      let a = counts-set rights views i v left at in
      let a' = sum_by_push rights (set views i left) right in
      let none = n.1.none in
      let P : Holding → Type 0 = λ h. FitsWalk row h.walk in
      inr (
        n.0,
        shared_again _ _ _ _ views n.1 (set views i left ++ right ∷ []) (omega arith)
            (All-push P (set views i left) right (All-set P views i left (subst (FitsWalk row) (sym walk) (at_place P views i v at n.1.walks)) n.1.walks)
            (subst (FitsWalk row) (sym rest) tt)),
      )

  -- a pass takes the rights of another, which is left with none
  pub beside_join : AreBeside setup row log views → (i j : ℕ) (v w m s : Holding) → get_elem? views i ≡ some v → get_elem? (set views i m) j ≡ some w
      → get_elem? views j ≡ some w
      → knowers m.log + knowers s.log ≡ knowers v.log + knowers w.log → holders m.tail + holders s.tail ≡ holders v.tail + holders w.tail
      → holders m.head + holders s.head ≡ holders v.head + holders w.head
      → ((room put taken : ℕ) → FitsTail room put taken row v.tail → FitsTail room put taken row w.tail
      → FitsTail room put taken row m.tail × FitsTail room put taken row s.tail)
      → ((room put taken : ℕ) → FitsHead room put taken row v.head → FitsHead room put taken row w.head
      → FitsHead room put taken row m.head × FitsHead room put taken row s.head)
      → (FitsWalk row v.walk → FitsWalk row m.walk) → s.walk ≡ None → AreBeside setup row log (set (set views i m) j s)
  beside_join (inl n) i j v w m s at there here knows tail head fit_tail fit_head fit_walk rest = inl (n.0, by_form n.1)
    where
      by_form : AreOwned setup row log views → AreOwned setup row log (set (set views i m) j s)
      by_form (inl p) =
          let a = counts-set ends_of views i v m at in
          let a' = counts-set ends_of (set views i m) j w s there in
          let none = p.1 in
          inl (p.0, omega arith)
      by_form (inr r) = inr (r.0, nodes_join _ _ _ _ views r.1 i j v w m s at there here knows tail head (fit_tail _ _ _) (fit_head _ _ _))
  beside_join (inr n) i j v w m s at there here knows tail head fit_tail fit_head fit_walk rest =
      let a = counts-set rights views i v m at in
      let a' = counts-set rights (set views i m) j w s there in
      let none = n.1.none in
      let P : Holding → Type 0 = λ h. FitsWalk row h.walk in
      inr (
        n.0,
        shared_again _ _ _ _ views n.1 (set (set views i m) j s) (omega arith)
            (All-set P (set views i m) j s (subst (FitsWalk row) (sym rest) tt)
            (All-set P views i m (fit_walk (at_place P views i v at n.1.walks)) n.1.walks)),
      )

  -- a note of who knows the log
  pub beside_known : AreBeside setup row log views → (i : ℕ) (v w : Holding) (log' : List Note) → get_elem? views i ≡ some v → knowers v.log ≡ 1
      → w.tail ≡ v.tail → w.head ≡ v.head → AreBeside setup row log' (set views i w)
  beside_known (inl n) i v w log' at knows tail head = inl (n.0, by_form n.1)
    where
      by_form : AreOwned setup row log views → AreOwned setup row log' (set views i w)
      by_form (inl p) = inl (p.0, no_end_after views i v w p.1 at tail head)
      by_form (inr r) =
          let p = place_in views i v at in
          let within = get_or-le-sum_by knowers_of views i v p.0 in
          let is = ap knowers_of (p.1 v) in
          let none = r.1.unknown in
          absurd (omega arith)
  beside_known (inr n) i v w log' at knows tail head = let none = no_right views i v n.1.none at in absurd (omega arith)

  -- there is a ring if a pass has an end
  pub ends_beside : AreBeside setup row log views → (i : ℕ) (v : Holding) → get_elem? views i ≡ some v → 0 < ends_of v
      → (setup.is_shared ≡ false) × (setup.has_ring ≡ true) × AreNodes (initial_of setup) (room_of setup) row log views
  ends_beside (inl n) i v at has = (let r = by_form n.1 in (n.0, r.0, r.1))
    where
      by_form : AreOwned setup row log views → (setup.has_ring ≡ true) × AreNodes (initial_of setup) (room_of setup) row log views
      by_form (inl p) = let none = no_end views i v p.1 at in absurd (omega arith)
      by_form (inr r) = r
  ends_beside (inr n) i v at has = let none = no_right views i v n.1.none at in absurd (omega arith)

  -- the ring
  pub ring_beside : AreBeside setup row log views → setup.has_ring ≡ true → setup.is_shared ≡ false
      → AreNodes (initial_of setup) (room_of setup) row log views
  ring_beside (inl n) ring unshared = by_form n.1
    where
      by_form : AreOwned setup row log views → AreNodes (initial_of setup) (room_of setup) row log views
      by_form (inl p) = absurd (false≢true (sym p.0 ∙ ring))
      by_form (inr r) = r.1
  ring_beside (inr n) ring unshared = absurd (false≢true (sym unshared ∙ n.0))

  -- nodes that passes share
  pub shared_beside : AreBeside setup row log views → setup.is_shared ≡ true → AreShared (initial_of setup) (room_of setup) row log views
  shared_beside (inl n) shared = absurd (false≢true (sym n.0 ∙ shared))
  shared_beside (inr n) shared = n.1
