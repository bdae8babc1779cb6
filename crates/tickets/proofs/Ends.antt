-- Each step at an end of the ring keeps the account.
use Rattle.std.proofs.Common.{◌≡◌, ◌≢◌, ℕ, suc, ◌+◌, ◌<◌, ◌≤◌, Bool, true, false, List, [], ◌∷◌, ◌++◌, length, set}
use Rattle.std.proofs.Common.{get_or, sum_by, replicate, ◌-◌}
use Rattle.std.proofs.Common.{IsPermutation, refl, sym, ap, ◌∙◌, subst, arith, length-set, get_or-set_same}
use Rattle.std.proofs.Common.{get_or-set_other, get_or-drop, length-append}
use Rattle.std.specs.Prelude.{Option, Some, None, Contains, drop, IsSome, take, if◌then◌else◌}
use mathlib.Core.Option.{some}
use mathlib.Core.Logic.{◌⊎◌, inl, inr}
use lib.ListN.{get_elem?}
use Rattle.std.proofs.lemmas.Bool.{cases_eq, cases_lt}
use Rattle.atomic_table.specs.Table.{Act, Valid, carried_after, Me, keeps, stepped, Allows, Splits, Joins, Seen}
use Rattle.atomic_table.specs.Table.{Final, opening}
use Rattle.atomic_table.proofs.Lists.{set_else}
use Rattle.tickets.specs.declared.account.Holding.{Holding}
use Rattle.tickets.specs.declared.account.Setup.{Setup}
use Rattle.tickets.specs.declared.account.TailRight.{TailRight}
use Rattle.tickets.specs.declared.account.HeadRight.{HeadRight}
use Rattle.tickets.specs.declared.account.Next.{Next}
use Rattle.tickets.specs.declared.account.Next.TheVariants.{Unknown, There, Holds}
use Rattle.tickets.specs.declared.note.Effect.TheVariants as effect
use Rattle.tickets.specs.declared.note.Note.{Note}
use Rattle.tickets.specs.declared.TheConstants.{NO_VALUE}
use Rattle.tickets.specs.Account.{whole_of, IsAccount}
use Rattle.tickets.specs.Log.{IsLogged, LooksRise, Knows, note_at, knowers}
use Rattle.std.proofs.lemmas.List.{length-replicate, get_or_append_left}
use Rattle.std.proofs.lemmas.List.Elements.{All-nil, All-cons}
use Rattle.std.proofs.lemmas.List.Sums.{sum_by-cons}
use Rattle.std.proofs.lemmas.List.Sorted.{IsPermutation-refl}
use Rattle.std.specs.List.Sorted.{IsStrictlyIncreasing}
use Rattle.std.proofs.Math.Nat.{mod-eq_of_lt}
use Rattle.tickets.specs.declared.TheConstants.{TICKET_LIMIT}
use Rattle.tickets.specs.Queue.{bounded_after, effect_of_put, queue_after}
use Rattle.tickets.specs.Inner.Account.{AreBooked, AreBeside, KeepsAccount, holding, initial_of, room_of, first_of}
use Rattle.tickets.specs.Inner.Account.{with_both, with_known}
use Rattle.tickets.specs.Inner.Ring.{tail_at, head_at, ends, without_ends, with_ends, holders, ends_of, position}
use Rattle.tickets.specs.Inner.Ring.{cell, FitsStaged, FitsTail, FitsNext, FitsHead}
use Rattle.tickets.specs.Inner.Ring.{IsLaid, AreNodes, IsTailAt, IsHeadAt, told, seen_tail, staged_tail, pushed_tail}
use Rattle.tickets.specs.Inner.Ring.{known_head, freed_head, stages, reads}
use Rattle.tickets.specs.Inner.Ring.{Glances, HasRoom, Publishes, PutsOne, FindsOne, Frees, TakesOne}
use Rattle.tickets.specs.Inner.Shared.{row_words}
use Rattle.tickets.proofs.Logged.{logged_same, logged_push, logged_more, logged_all, at_place}
use Rattle.tickets.proofs.Beside.{beside_split, beside_join, ends_beside, ring_beside}
use Rattle.tickets.proofs.Rows.{nodes_at_tail, nodes_at_head, knowers_of, tails_of, heads_of, bounded_is_queue}
use Rattle.tickets.proofs.Rows.{laid_staged, laid_pushed, laid_full, laid_empty, laid_taken}
use Rattle.tickets.proofs.Turns.{same_position, next_position, position_within, full_ring, free_ring}
use Rattle.tickets.proofs.Steps.{ticket_of, row_of, kept, kept_else, kept_seen, account_same, account_push, contains_some, drawn_below}
use Rattle.tickets.proofs.Steps.{HasNoEnd, first_word, others_idle, none_rise, first_plain}

-- the tail end, of which this is known
tail_of : (at seen room : ℕ) (staged : Option ℕ) (k : Option TailRight) → IsTailAt at seen room staged k
    → (t : TailRight) × (k ≡ Some t) × (at ≡ position room t.at) × (seen ≡ position room t.seen) × (t.room ≡ room) × (t.staged ≡ staged)
tail_of at seen room staged None is = absurd is
tail_of at seen room staged (Some t) is = (t, refl, is.0, is.1, is.2, is.3)

-- the head end, of which this is known
head_of : (at room : ℕ) (next : Next) (k : Option HeadRight) → IsHeadAt at room next k
    → (h : HeadRight) × (k ≡ Some h) × (at ≡ position room h.at) × (h.room ≡ room) × (h.next ≡ next)
head_of at room next None is = absurd is
head_of at room next (Some h) is = (h, refl, is.0, is.1, is.2)

-- the position after the one that is known
step_on : (at room n : ℕ) → at ≡ position room n → position room (at + 1) ≡ position room (n + 1)
step_on at room n is = ap (λ (k : ℕ). position room (k + 1)) is ∙ next_position room n

-- ---- what a call knows after a step

pub glanced_full : (call x next room : ℕ) (before : Holding) (found : ℕ) (after : Holding) → Glances call x next room before found after → found ≡ next
    → (look : ℕ) × (after ≡ told call (effect.Not x) look before)
glanced_full call x next room before found after (inl full) e = (full.1, full.2)
glanced_full call x next room before found after (inr free) e = absurd (free.0 e)

pub glanced_free : (call x next room : ℕ) (before : Holding) (found : ℕ) (after : Holding) → Glances call x next room before found after → found ≢ next
    → (seen : ℕ) × (found ≡ position room seen) × (after ≡ record before { tail = seen_tail seen before.tail })
glanced_free call x next room before found after (inl full) ne = absurd (ne full.0)
glanced_free call x next room before found after (inr free) ne = (free.1, free.2, free.3)

pub found_none : (call at : ℕ) (before : Holding) (found : ℕ) (after : Holding) → FindsOne call at before found after → found ≡ at
    → (look : ℕ) × (after ≡ told call effect.Empty look before)
found_none call at before found after (inl none) e = (none.1, none.2)
found_none call at before found after (inr holds) e = absurd (holds.0 e)

pub found_some : (call at : ℕ) (before : Holding) (found : ℕ) (after : Holding) → FindsOne call at before found after → found ≢ at
    → after ≡ record before { head = known_head There before.head }
found_some call at before found after (inl none) ne = absurd (ne none.0)
found_some call at before found after (inr holds) ne = holds.1

pub seen_at : (at seen room to : ℕ) (k : Option TailRight) → IsTailAt at seen room None k → IsTailAt at (position room to) room None (seen_tail to k)
seen_at at seen room to None is = is
seen_at at seen room to (Some t) is = (is.0, refl, is.2, is.3)

pub staged_at : (at seen room x : ℕ) (k : Option TailRight) → IsTailAt at seen room None k → IsTailAt at seen room (Some x) (staged_tail x k)
staged_at at seen room x None is = is
staged_at at seen room x (Some t) is = (is.0, is.1, is.2, refl)

pub pushed_at : (at seen room x : ℕ) (k : Option TailRight) → IsTailAt at seen room (Some x) k
    → IsTailAt (position room (at + 1)) seen room None (pushed_tail k)
pushed_at at seen room x None is = is
pushed_at at seen room x (Some t) is = (step_on at room t.at is.0, is.1, is.2, refl)

pub known_at : (at room : ℕ) (next to : Next) (k : Option HeadRight) → IsHeadAt at room next k → IsHeadAt at room to (known_head to k)
known_at at room next to None is = is
known_at at room next to (Some h) is = (is.0, is.1, refl)

pub freed_at : (at room : ℕ) (next : Next) (k : Option HeadRight) → IsHeadAt at room next k → IsHeadAt (position room (at + 1)) room Unknown (freed_head k)
freed_at at room next None is = is
freed_at at room next (Some h) is = (step_on at room h.at is.0, is.1, refl)

-- a value went through all steps at the tail
pub puts_one : (call x at seen room : ℕ) (m0 m1 m2 m3 : Me (Unit {0}) Holding) → HasRoom at seen room m0 m1 → m2 ≡ (stages x m1.0, m1.1)
    → Publishes call x m2.0 m3.0 → m3.1 ≡ m2.1 → (to : ℕ) → to ≡ position room (at + 1) → PutsOne call x to seen room true m0 m3
puts_one call x at seen room m0 m1 m2 m3 has stage publish carried to to_is = record {
  look = publish.0;
  is = λ i. (whole i, rest i);
  tail = subst (λ (k : ℕ). IsTailAt k seen room None m3.0.tail) (sym to_is) (subst (IsTailAt (position room (at + 1)) seen room None) (sym tail)
      (pushed_at at seen room x (staged_tail x m1.0.tail) (staged_at at seen room x m1.0.tail has.tail)));
}
  where
    through : m3.0 ≡ record (told call (effect.Enq x) publish.0 m0.0) { tail = pushed_tail (staged_tail x m1.0.tail) }
    through = publish.1 ∙ ap (λ (m : Me (Unit {0}) Holding). record (told call (effect.Enq x) publish.0 m.0) { tail = pushed_tail m.0.tail }) stage
        ∙ ap (λ (m : Me (Unit {0}) Holding). record (told call (effect.Enq x) publish.0 (stages x m.0)) { tail = pushed_tail (staged_tail x m1.0.tail) }) has.is

    tail : m3.0.tail ≡ pushed_tail (staged_tail x m1.0.tail)
    tail = ap (λ (h : Holding). h.tail) through

    whole : m3.0 ≡ record (told call (effect_of_put x true) publish.0 m0.0) { tail = m3.0.tail }
    whole = through ∙ ap (λ (k : Option TailRight). record (told call (effect.Enq x) publish.0 m0.0) { tail = k }) (sym tail)

    rest : m3.1 ≡ m0.1
    rest = carried ∙ ap (λ (m : Me (Unit {0}) Holding). m.1) stage ∙ ap (λ (m : Me (Unit {0}) Holding). m.1) has.is

-- a value went through all steps at the head
pub takes_one : (call x at room : ℕ) (m0 m1 m2 m3 : Me (Unit {0}) Holding) → IsHeadAt at room Unknown m0.0.head
    → m1.0 ≡ record m0.0 { head = known_head There m0.0.head } → m1.1 ≡ m0.1 → m2 ≡ (reads x m1.0, m1.1)
    → Frees call x m2.0 m3.0 → m3.1 ≡ m2.1 → (to : ℕ) → to ≡ position room (at + 1) → TakesOne call to room (Some x) m0 m3
takes_one call x at room m0 m1 m2 m3 asks found carried read free carried' to to_is = record {
  look = free.0;
  is = λ i. (whole i, rest i);
  head = subst (λ (k : ℕ). IsHeadAt k room Unknown m3.0.head) (sym to_is)
      (subst (IsHeadAt (position room (at + 1)) room Unknown) (sym head) (freed_at at room (Holds x) (last m0.0.head)
      (known_at at room There (Holds x) (known_head There m0.0.head) (known_at at room Unknown There m0.0.head asks))));
}
  where
    last : Option HeadRight → Option HeadRight
    last k = known_head (Holds x) (known_head There k)

    through : m3.0 ≡ record (told call (effect.Deq x) free.0 m0.0) { head = freed_head (last m0.0.head) }
    through = free.1 ∙ ap (λ (m : Me (Unit {0}) Holding). record (told call (effect.Deq x) free.0 m.0) { head = freed_head m.0.head }) read
        ∙ ap (λ (h : Holding). record (told call (effect.Deq x) free.0 h) { head = freed_head (known_head (Holds x) h.head) }) found

    head : m3.0.head ≡ freed_head (last m0.0.head)
    head = ap (λ (h : Holding). h.head) through

    whole : m3.0 ≡ record (told call (effect.Deq x) free.0 m0.0) { head = m3.0.head }
    whole = through ∙ ap (λ (k : Option HeadRight). record (told call (effect.Deq x) free.0 m0.0) { head = k }) (sym head)

    rest : m3.1 ≡ m0.1
    rest = carried' ∙ ap (λ (m : Me (Unit {0}) Holding). m.1) read ∙ carried

-- ---- the steps

-- values are left if the counts differ
some_left : (put taken queue : ℕ) → put ≡ taken + queue → put ≢ taken → taken < put
some_left put taken queue count other = by_order (cases_lt taken put)
  where
    by_order : (taken < put) ⊎ (put ≤ taken) → taken < put
    by_order (inl less) = less
    by_order (inr more) = absurd (other (omega arith))

module _ (setup : Setup) where
  pub booked : (n : ℕ) (words : List ℕ) (log : List Note) (views : List Holding) → IsLogged n log views → AreBeside setup (drop 1 words) log views
      → AreBooked setup n words views
  booked n words log views l nodes = record { log = log; logged = l; nodes = nodes }

  -- a pass changes, and notes nothing
  pub booked_same : (n : ℕ) (words : List ℕ) (log : List Note) (views : List Holding) (i : ℕ) (v w : Holding) → IsLogged n log views
      → get_elem? views i ≡ some v → w.noted ≡ v.noted → w.log ≡ v.log → (w.drawn ≡ [] → v.drawn ≡ [])
      → AreBeside setup (drop 1 words) log (set views i w) → AreBooked setup n words (set views i w)
  booked_same n words log views i v w l at noted knows drawn nodes =
      booked n words log (set views i w) (logged_same n n log views i v w (omega arith) l at noted knows drawn) nodes

  -- ---- the ends go from seat to seat

  -- a split gives both ends a seat of their own
  pub parts : (id : ℕ) (v : Holding) → Splits (KeepsAccount setup) id v (without_ends v) (ends v.tail v.head)
  parts id v s r at =
      let n : ℕ = get_or s.words 0 0 in
      let w = without_ends v in
      let new = ends v.tail v.head in (
        (r.0.0, account_push setup n (set s.views id w) new refl refl (account_same setup n s.views id v w r.0.1 at refl refl)),
        record {
          log = r.1.log;
          logged = logged_push n r.1.log (set s.views id w) new (logged_same n n r.1.log s.views id v w (omega arith) r.1.logged at refl refl (λ e. e)) refl refl;
          nodes = beside_split setup _ _ s.views r.1.nodes id v w new at (omega arith) (omega arith) (omega arith)
              (λ _ _ _ fits. (tt, fits)) (λ _ _ _ fits. (tt, fits)) refl refl;
        },
      )

  -- a split gives the head end a seat of its own
  pub parts_head : (id : ℕ) (v : Holding) → Splits (KeepsAccount setup) id v (record v { head = None }) (ends None v.head)
  parts_head id v s r at =
      let n : ℕ = get_or s.words 0 0 in
      let w = record v { head = None } in
      let new = ends None v.head in (
        (r.0.0, account_push setup n (set s.views id w) new refl refl (account_same setup n s.views id v w r.0.1 at refl refl)),
        record {
          log = r.1.log;
          logged = logged_push n r.1.log (set s.views id w) new (logged_same n n r.1.log s.views id v w (omega arith) r.1.logged at refl refl (λ e. e)) refl refl;
          nodes = beside_split setup _ _ s.views r.1.nodes id v w new at (omega arith) (omega arith) (omega arith)
              (λ _ _ _ fits. (fits, tt)) (λ _ _ _ fits. (tt, fits)) refl refl;
        },
      )

  -- a pass takes the ends
  pub takes_ends : (id : ℕ) (v : Holding) (other : ℕ) (tail : Option TailRight) (head : Option HeadRight) → HasNoEnd v
      → Joins (KeepsAccount setup) id v other (ends tail head) (with_ends v (ends tail head)) (holding 0 [] [])
  takes_ends id v other tail head no_end s r at apart there =
      let n : ℕ = get_or s.words 0 0 in
      let w = ends tail head in
      let m = with_ends v w in
      let spent = holding 0 [] [] in
      let here = sym (set_else s.views id other m apart) ∙ there in
      let a = ap holders no_end.0 in
      let b = ap holders no_end.1 in (
        (r.0.0, account_same setup n (set s.views id m) other w spent (account_same setup n s.views id v m r.0.1 at refl refl) there refl refl),
        record {
          log = r.1.log;
          logged = logged_same n n r.1.log (set s.views id m) other w spent (omega arith)
              (logged_same n n r.1.log s.views id v m (omega arith) r.1.logged at refl refl (λ e. e)) there refl refl (λ _. refl);
          nodes = beside_join setup _ _ s.views r.1.nodes id other v w m spent at there here (omega arith) (omega arith) (omega arith)
              (λ _ _ _ _ fits. (fits, tt)) (λ _ _ _ _ fits. (fits, tt)) (λ fits. fits) refl;
        },
      )

  -- ---- at the tail

  module _ (slots id : ℕ) (me : Me (Unit {0}) Holding) (call at seen room : ℕ) (staged : Option ℕ) (is : IsTailAt at seen room staged me.0.tail) where
    abbrev t : TailRight
    t = (tail_of at seen room staged me.0.tail is).0

    abbrev has : me.0.tail ≡ Some t
    has = (tail_of at seen room staged me.0.tail is).1

    -- the tail end looks where the head is
    pub glances : (x : ℕ) → staged ≡ None → Contains me.0.drawn call
        → Allows (KeepsAccount setup) slots id me 2 (λ n. n) (λ found after. Glances call x (position room (at + 1)) room me.0 found after.0 × (after.1 ≡ me.1))
    glances x unstaged drew s r _ here _ = by_found (cases_eq (get_or s.words 2 0) (position room (at + 1)))
      where
        own : (setup.is_shared ≡ false) × (setup.has_ring ≡ true) × AreNodes (initial_of setup) (room_of setup) (row_of s) r.1.log s.views
        own = ends_beside setup _ _ s.views r.1.nodes id me.0 here (let one = ap holders has in omega arith)

        fits : FitsTail (room_of setup) own.2.put own.2.taken (row_of s) (Some t)
        fits = subst (FitsTail (room_of setup) own.2.put own.2.taken (row_of s)) has
            (at_place (λ h. FitsTail (room_of setup) own.2.put own.2.taken (row_of s) h.tail) s.views id me.0 here own.2.tails)

        same_room : room ≡ room_of setup
        same_room = sym (tail_of at seen room staged me.0.tail is).4 ∙ fits.1

        -- the position that is found, and the one after the tail's
        found_is : get_or s.words 2 0 ≡ position (room_of setup) own.2.taken
        found_is = sym (get_or-drop 1 s.words 1 0) ∙ own.2.laid.outs

        next_is : position room (at + 1) ≡ position (room_of setup) (own.2.put + 1)
        next_is = step_on at room t.at (tail_of at seen room staged me.0.tail is).2
            ∙ ap (λ (k : ℕ). position k (t.at + 1)) same_room ∙ ap (λ (k : ℕ). position (room_of setup) (k + 1)) fits.0

        by_found : (get_or s.words 2 0 ≡ position room (at + 1)) ⊎ (get_or s.words 2 0 ≢ position room (at + 1))
            → (w : Holding) × (a : Act (Unit {0})) × Valid s.homes me.1 a × KeepsAccount setup (stepped s 2 (get_or s.words 2 0) id me.1 w a)
            × (Glances call x (position room (at + 1)) room me.0 (get_or s.words 2 0) w × (carried_after me.1 a ≡ me.1))
        by_found (inl same) =
            let v = me.0 in
            let w = told call (effect.Not x) (ticket_of s) v in
            let b = r.1 in
            let log' = b.log ++ note_at call (effect.Not x) (ticket_of s) ∷ [] in
            let count = own.2.laid.count in
            let within = own.2.laid.within in
            let full = full_ring (room_of setup) own.2.put own.2.taken (omega arith) (omega arith) (sym found_is ∙ same ∙ next_is) in
            let nodes = nodes_at_tail _ _ (row_of s) b.log s.views own.2 id v w (row_of s) log' own.2.put here (ap holders has) (ap holders has) refl refl (omega arith)
            (λ _. refl) (subst (FitsTail (room_of setup) own.2.put own.2.taken (row_of s)) (sym has) fits)
            (laid_full _ _ (row_of s) b.log own.2.put own.2.taken own.2.laid x call (ticket_of s) full) in (
              w,
              keeps,
              tt,
              kept_seen setup s.words 2 (set s.views id w) r.0.0 (account_same setup (ticket_of s) s.views id v w r.0.1 here refl refl)
                  (booked (ticket_of s) s.words log' (set s.views id w)
                  (logged_more (ticket_of s) b.log s.views id v w call (effect.Not x) b.logged here own.2.unknown refl refl refl
                  (contains_some v.drawn call drew) (drawn_below setup (ticket_of s) s.views id v call r.0.1 here drew)) (inl (own.0, inr (own.1, nodes)))),
              (inl (same, ticket_of s, refl), refl),
            )
        by_found (inr other) =
            let v = me.0 in
            let w = record v { tail = seen_tail own.2.taken v.tail } in
            let b = r.1 in
            let now : w.tail ≡ Some (tail_at t.at own.2.taken t.room t.staged) = ap (seen_tail own.2.taken) has in
            let count = own.2.laid.count in
            let within = own.2.laid.within in
            let unstaged_here = (tail_of at seen room staged me.0.tail is).5 ∙ unstaged in
            let nodes = nodes_at_tail _ _ (row_of s) b.log s.views own.2 id v w (row_of s) b.log own.2.put here (ap holders has) (ap holders now) refl refl (omega arith)
            (λ _. refl) (subst (FitsTail (room_of setup) own.2.put own.2.taken (row_of s)) (sym now) (
              fits.0,
              fits.1,
              omega arith,
              omega arith,
              subst (FitsStaged (row_of s) (tail_at t.at own.2.taken t.room t.staged)) (sym unstaged_here) tt,
            )) own.2.laid in (
              w,
              keeps,
              tt,
              kept_seen setup s.words 2 (set s.views id w) r.0.0 (account_same setup (ticket_of s) s.views id v w r.0.1 here refl refl)
                  (booked_same (ticket_of s) s.words b.log s.views id v w b.logged here refl refl (λ e. e) (inl (own.0, inr (own.1, nodes)))),
              (inr (other, own.2.taken, found_is ∙ ap (λ (k : ℕ). position k own.2.taken) (sym same_room), refl), refl),
            )

    -- a value is written into the next cell
    pub writes : (x : ℕ) → position room (at + 1) ≢ seen
        → Allows (KeepsAccount setup) slots id me (at + 3) (λ _. x) (λ _ after. after ≡ (stages x me.0, me.1))
    writes x free s r _ here _ =
        let v = me.0 in
        let w = stages x v in
        let n : ℕ = get_or s.words 0 0 in
        let row = drop 1 s.words in
        let b = r.1 in
        let known = tail_of at seen room staged v.tail is in
        let o = ends_beside setup _ _ s.views b.nodes id v here (let one = ap holders has in omega arith) in
        let fits : FitsTail (room_of setup) o.2.put o.2.taken row (Some t) = subst (FitsTail (room_of setup) o.2.put o.2.taken row) has
        (at_place (λ h. FitsTail (room_of setup) o.2.put o.2.taken row h.tail) s.views id v here o.2.tails) in
        let same_room : room ≡ room_of setup = sym known.4 ∙ fits.1 in
        let at_is : at ≡ position (room_of setup) o.2.put =
        known.2 ∙ ap (λ (k : ℕ). position k t.at) same_room ∙ ap (position (room_of setup)) fits.0 in
        let seen_is : seen ≡ position (room_of setup) t.seen = known.3 ∙ ap (λ (k : ℕ). position k t.seen) same_room in
        let next_is : position room (at + 1) ≡ position (room_of setup) (o.2.put + 1) =
        step_on at room t.at known.2 ∙ ap (λ (k : ℕ). position k (t.at + 1)) same_room ∙ ap (λ (k : ℕ). position (room_of setup) (k + 1)) fits.0 in
        let room_left : o.2.put < t.seen + room_of setup = free_ring (room_of setup) o.2.put t.seen fits.3 (λ e. free (next_is ∙ sym e ∙ sym seen_is)) in
        let seen_low = fits.2 in
        let j = cell (room_of setup) o.2.put in
        let more = set row j x in
        let now : w.tail ≡ Some (tail_at t.at t.seen t.room (Some x)) = ap (staged_tail x) has in
        let laid = o.2.laid in
        let wide = laid.wide in
        let within = position_within (room_of setup) o.2.put in
        let count = laid.count in
        let nodes = nodes_at_tail _ _ row b.log s.views o.2 id v w more b.log o.2.put here (ap holders has) (ap holders now) refl refl (omega arith)
        (λ some_left. get_or-set_other row j (cell (room_of setup) o.2.taken) x 0
        (λ e. absurd (let same = same_position (room_of setup) o.2.taken o.2.put (omega arith) (omega arith) (omega arith) in omega arith)))
        (subst (FitsTail (room_of setup) o.2.put o.2.taken more) (sym now) (
          fits.0,
          fits.1,
          fits.2,
          fits.3,
          (
            (let r = fits.1 in let p = fits.0 in omega arith),
            ap (λ (k : ℕ). get_or more (position k t.at + 2) 0) fits.1 ∙ ap (λ (k : ℕ). get_or more (cell (room_of setup) k) 0) fits.0
                ∙ get_or-set_same row j x 0 (omega arith),
          ),
        ))
        (laid_staged _ _ row b.log o.2.put o.2.taken laid x (omega arith)) in (
          w,
          keeps,
          tt,
          kept_else setup s.words (at + 3) j x b.log (set s.views id w) (omega arith) r.0.0 (account_same setup n s.views id v w r.0.1 here refl refl)
              (logged_same n n b.log s.views id v w (omega arith) b.logged here refl refl (λ e. e)) (inl (o.0, inr (o.1, nodes))),
          refl,
        )

    -- the staged value is enqueued
    pub publishes : (x y : ℕ) → staged ≡ Some x → y ≡ position room (at + 1) → Contains me.0.drawn call
        → Allows (KeepsAccount setup) slots id me 1 (λ _. y) (λ _ after. Publishes call x me.0 after.0 × (after.1 ≡ me.1))
    publishes x y is_staged y_is drew s r _ here _ =
        let v = me.0 in
        let n : ℕ = get_or s.words 0 0 in
        let w = record (told call (effect.Enq x) n v) { tail = pushed_tail v.tail } in
        let row = drop 1 s.words in
        let b = r.1 in
        let known = tail_of at seen room staged v.tail is in
        let o = ends_beside setup _ _ s.views b.nodes id v here (let one = ap holders has in omega arith) in
        let log' = b.log ++ note_at call (effect.Enq x) n ∷ [] in
        let fits : FitsTail (room_of setup) o.2.put o.2.taken row (Some t) = subst (FitsTail (room_of setup) o.2.put o.2.taken row) has
        (at_place (λ h. FitsTail (room_of setup) o.2.put o.2.taken row h.tail) s.views id v here o.2.tails) in
        let same_room : room ≡ room_of setup = sym known.4 ∙ fits.1 in
        let next_is : y ≡ position (room_of setup) (o.2.put + 1) = y_is ∙ step_on at room t.at known.2
        ∙ ap (λ (k : ℕ). position k (t.at + 1)) same_room ∙ ap (λ (k : ℕ). position (room_of setup) (k + 1)) fits.0 in
        let in_cell : FitsStaged row t (Some x) = subst (FitsStaged row t) (known.5 ∙ is_staged) fits.4 in
        let room_left : o.2.put < t.seen + room_of setup = (let a = in_cell.0 in let p = fits.0 in let q = fits.1 in omega arith) in
        let seen_low = fits.2 in
        let held : get_or row (cell (room_of setup) o.2.put) 0 ≡ x = ap (λ (k : ℕ). get_or row (cell (room_of setup) k) 0) (sym fits.0)
        ∙ ap (λ (k : ℕ). get_or row (cell k t.at) 0) (sym fits.1) ∙ in_cell.1 in
        let now : w.tail ≡ Some (tail_at (t.at + 1) t.seen t.room None) = ap pushed_tail has in
        let laid = o.2.laid in
        let more = set row 0 (position (room_of setup) (o.2.put + 1)) in
        let nodes = nodes_at_tail _ _ row b.log s.views o.2 id v w more log' (o.2.put + 1) here (ap holders has) (ap holders now) refl refl (omega arith)
        (λ some_left. get_or-set_other row 0 (cell (room_of setup) o.2.taken) (position (room_of setup) (o.2.put + 1)) 0 (λ e. absurd (omega arith)))
        (subst (FitsTail (room_of setup) (o.2.put + 1) o.2.taken more) (sym now) (ap (λ (k : ℕ). k + 1) fits.0, fits.1, fits.2, omega arith, tt))
        (laid_pushed _ _ row b.log o.2.put o.2.taken laid x call n (omega arith) held) in (
          w,
          keeps,
          tt,
          kept_else setup s.words 1 0 y log' (set s.views id w) refl r.0.0 (account_same setup n s.views id v w r.0.1 here refl refl)
              (logged_more n b.log s.views id v w call (effect.Enq x) b.logged here o.2.unknown refl refl refl
              (contains_some v.drawn call drew) (drawn_below setup n s.views id v call r.0.1 here drew))
              (subst (λ (k : ℕ). AreBeside setup (set row 0 k) log' (set s.views id w)) (sym next_is) (inl (o.0, inr (o.1, nodes)))),
          ((n, refl), refl),
        )

  -- ---- at the head

  module _ (slots id : ℕ) (me : Me (Unit {0}) Holding) (call at room : ℕ) (next : Next) (is : IsHeadAt at room next me.0.head) where
    abbrev h : HeadRight
    h = (head_of at room next me.0.head is).0

    abbrev held : me.0.head ≡ Some h
    held = (head_of at room next me.0.head is).1

    -- the head end looks where the tail is
    pub finds : next ≡ Unknown → Contains me.0.drawn call
        → Allows (KeepsAccount setup) slots id me 1 (λ n. n) (λ found after. FindsOne call at me.0 found after.0 × (after.1 ≡ me.1))
    finds unknown drew s r _ here _ = by_found (cases_eq (get_or s.words 1 0) at)
      where
        own : (setup.is_shared ≡ false) × (setup.has_ring ≡ true) × AreNodes (initial_of setup) (room_of setup) (row_of s) r.1.log s.views
        own = ends_beside setup _ _ s.views r.1.nodes id me.0 here (let one = ap holders held in omega arith)

        fits : FitsHead (room_of setup) own.2.put own.2.taken (row_of s) (Some h)
        fits = subst (FitsHead (room_of setup) own.2.put own.2.taken (row_of s)) held
            (at_place (λ k. FitsHead (room_of setup) own.2.put own.2.taken (row_of s) k.head) s.views id me.0 here own.2.heads)

        found_is : get_or s.words 1 0 ≡ position (room_of setup) own.2.put
        found_is = sym (get_or-drop 1 s.words 0 0) ∙ own.2.laid.ins

        at_is : at ≡ position (room_of setup) own.2.taken
        at_is = (head_of at room next me.0.head is).2 ∙ ap (λ (k : ℕ). position k h.at) (sym (head_of at room next me.0.head is).3 ∙ fits.1)
            ∙ ap (position (room_of setup)) fits.0

        by_found : (get_or s.words 1 0 ≡ at) ⊎ (get_or s.words 1 0 ≢ at)
            → (w : Holding) × (a : Act (Unit {0})) × Valid s.homes me.1 a × KeepsAccount setup (stepped s 1 (get_or s.words 1 0) id me.1 w a)
            × (FindsOne call at me.0 (get_or s.words 1 0) w × (carried_after me.1 a ≡ me.1))
        by_found (inl same) =
            let v = me.0 in
            let w = told call effect.Empty (ticket_of s) v in
            let b = r.1 in
            let log' = b.log ++ note_at call effect.Empty (ticket_of s) ∷ [] in
            let count = own.2.laid.count in
            let within = own.2.laid.within in
            let none = same_position (room_of setup) own.2.taken own.2.put (omega arith) (omega arith) (sym at_is ∙ sym same ∙ found_is) in
            let nodes = nodes_at_head _ _ (row_of s) b.log s.views own.2 id v w (row_of s) log' own.2.taken here (ap holders held) (ap holders held) refl refl (omega arith)
            (λ _. refl) (subst (FitsHead (room_of setup) own.2.put own.2.taken (row_of s)) (sym held) fits)
            (laid_empty _ _ (row_of s) b.log own.2.put own.2.taken own.2.laid call (ticket_of s) (sym none)) in (
              w,
              keeps,
              tt,
              kept_seen setup s.words 1 (set s.views id w) r.0.0 (account_same setup (ticket_of s) s.views id v w r.0.1 here refl refl)
                  (booked (ticket_of s) s.words log' (set s.views id w)
                  (logged_more (ticket_of s) b.log s.views id v w call effect.Empty b.logged here own.2.unknown refl refl refl
                  (contains_some v.drawn call drew) (drawn_below setup (ticket_of s) s.views id v call r.0.1 here drew)) (inl (own.0, inr (own.1, nodes)))),
              (inl (same, ticket_of s, refl), refl),
            )
        by_found (inr other) =
            let v = me.0 in
            let w = record v { head = known_head There v.head } in
            let b = r.1 in
            let now : w.head ≡ Some (head_at h.at h.room There) = ap (known_head There) held in
            let count = own.2.laid.count in
            let below : own.2.taken < own.2.put = some_left own.2.put own.2.taken (length own.2.laid.queue) count
            (λ e. other (found_is ∙ ap (position (room_of setup)) e ∙ sym at_is)) in
            let nodes = nodes_at_head _ _ (row_of s) b.log s.views own.2 id v w (row_of s) b.log own.2.taken here (ap holders held) (ap holders now) refl refl (omega arith)
            (λ _. refl) (subst (FitsHead (room_of setup) own.2.put own.2.taken (row_of s)) (sym now) (fits.0, fits.1, below)) own.2.laid in (
              w,
              keeps,
              tt,
              kept_seen setup s.words 1 (set s.views id w) r.0.0 (account_same setup (ticket_of s) s.views id v w r.0.1 here refl refl)
                  (booked_same (ticket_of s) s.words b.log s.views id v w b.logged here refl refl (λ e. e) (inl (own.0, inr (own.1, nodes)))),
              (inr (other, refl), refl),
            )

    -- the value of the next cell is read
    pub reads_cell : next ≡ There → Allows (KeepsAccount setup) slots id me (at + 3) (λ n. n) (λ found after. after ≡ (reads found me.0, me.1))
    reads_cell there s r _ here _ =
        let v = me.0 in
        let n : ℕ = get_or s.words 0 0 in
        let x : ℕ = get_or s.words (at + 3) 0 in
        let w = reads x v in
        let row = drop 1 s.words in
        let b = r.1 in
        let known = head_of at room next v.head is in
        let o = ends_beside setup _ _ s.views b.nodes id v here (let one = ap holders held in omega arith) in
        let fits : FitsHead (room_of setup) o.2.put o.2.taken row (Some h) = subst (FitsHead (room_of setup) o.2.put o.2.taken row) held
        (at_place (λ k. FitsHead (room_of setup) o.2.put o.2.taken row k.head) s.views id v here o.2.heads) in
        let at_is : at ≡ position (room_of setup) o.2.taken =
        known.2 ∙ ap (λ (k : ℕ). position k h.at) (sym known.3 ∙ fits.1) ∙ ap (position (room_of setup)) fits.0 in
        let some_here : FitsNext (room_of setup) o.2.put o.2.taken row There =
        subst (FitsNext (room_of setup) o.2.put o.2.taken row) (known.4 ∙ there) fits.2 in
        let place : 1 + cell (room_of setup) o.2.taken ≡ at + 3 = omega arith in
        let holds : get_or row (cell (room_of setup) o.2.taken) 0 ≡ x =
        get_or-drop 1 s.words (cell (room_of setup) o.2.taken) 0 ∙ ap (λ (k : ℕ). get_or s.words k 0) place in
        let now : w.head ≡ Some (head_at h.at h.room (Holds x)) = ap (known_head (Holds x)) held in
        let nodes = nodes_at_head _ _ row b.log s.views o.2 id v w row b.log o.2.taken here (ap holders held) (ap holders now) refl refl (omega arith)
        (λ _. refl) (subst (FitsHead (room_of setup) o.2.put o.2.taken row) (sym now) (fits.0, fits.1, (some_here, holds))) o.2.laid in (
          w,
          keeps,
          tt,
          kept_seen setup s.words (at + 3) (set s.views id w) r.0.0 (account_same setup n s.views id v w r.0.1 here refl refl)
              (booked_same n s.words b.log s.views id v w b.logged here refl refl (λ e. e) (inl (o.0, inr (o.1, nodes)))),
          refl,
        )

    -- the value that was read is dequeued
    pub frees : (x y : ℕ) → next ≡ Holds x → y ≡ position room (at + 1) → Contains me.0.drawn call
        → Allows (KeepsAccount setup) slots id me 2 (λ _. y) (λ _ after. Frees call x me.0 after.0 × (after.1 ≡ me.1))
    frees x y holds y_is drew s r _ here _ =
        let v = me.0 in
        let n : ℕ = get_or s.words 0 0 in
        let w = record (told call (effect.Deq x) n v) { head = freed_head v.head } in
        let row = drop 1 s.words in
        let b = r.1 in
        let known = head_of at room next v.head is in
        let o = ends_beside setup _ _ s.views b.nodes id v here (let one = ap holders held in omega arith) in
        let log' = b.log ++ note_at call (effect.Deq x) n ∷ [] in
        let fits : FitsHead (room_of setup) o.2.put o.2.taken row (Some h) = subst (FitsHead (room_of setup) o.2.put o.2.taken row) held
        (at_place (λ k. FitsHead (room_of setup) o.2.put o.2.taken row k.head) s.views id v here o.2.heads) in
        let same_room : room ≡ room_of setup = sym known.3 ∙ fits.1 in
        let next_is : y ≡ position (room_of setup) (o.2.taken + 1) = y_is ∙ step_on at room h.at known.2
        ∙ ap (λ (k : ℕ). position k (h.at + 1)) same_room ∙ ap (λ (k : ℕ). position (room_of setup) (k + 1)) fits.0 in
        let read : FitsNext (room_of setup) o.2.put o.2.taken row (Holds x) =
        subst (FitsNext (room_of setup) o.2.put o.2.taken row) (known.4 ∙ holds) fits.2 in
        let now : w.head ≡ Some (head_at (h.at + 1) h.room Unknown) = ap freed_head held in
        let more = set row 1 (position (room_of setup) (o.2.taken + 1)) in
        let nodes = nodes_at_head _ _ row b.log s.views o.2 id v w more log' (o.2.taken + 1) here (ap holders held) (ap holders now) refl refl (omega arith)
        (λ k. get_or-set_other row 1 (cell (room_of setup) k) (position (room_of setup) (o.2.taken + 1)) 0 (λ e. absurd (omega arith)))
        (subst (FitsHead (room_of setup) o.2.put (o.2.taken + 1) more) (sym now) (ap (λ (k : ℕ). k + 1) fits.0, fits.1, tt))
        (laid_taken _ _ row b.log o.2.put o.2.taken o.2.laid x call n read.0 read.1) in (
          w,
          keeps,
          tt,
          kept_else setup s.words 2 1 y log' (set s.views id w) refl r.0.0 (account_same setup n s.views id v w r.0.1 here refl refl)
              (logged_more n b.log s.views id v w call (effect.Deq x) b.logged here o.2.unknown refl refl refl
              (contains_some v.drawn call drew) (drawn_below setup n s.views id v call r.0.1 here drew))
              (subst (λ (k : ℕ). AreBeside setup (set row 1 k) log' (set s.views id w)) (sym next_is) (inl (o.0, inr (o.1, nodes)))),
          ((n, refl), refl),
        )

  -- ---- the end

  -- a pass with the whole budget has noted the whole log, which a bounded queue accepts
  pub settles_ring : (id : ℕ) (v : Holding) (words : List ℕ) (slots : List (Unit {0})) (next : ℕ) → setup.has_ring ≡ true → setup.is_shared ≡ false
      → whole_of v ≡ setup.budget → Final (Seen (KeepsAccount setup) id v) words slots → get_elem? words 0 ≡ some next
      → (log : List Note) × IsPermutation v.noted log × LooksRise 0 log next × IsSome (queue_after (initial_of setup) log)
      × IsSome (bounded_after (room_of setup) (initial_of setup) log)
  settles_ring id v words slots next ring unshared whole f found =
      let s = f.0 in
      let here = f.1.1 in
      let n : ℕ = get_or s.words 0 0 in
      let b = f.1.0.1 in
      let o = ring_beside setup _ _ s.views b.nodes ring unshared in
      let last : n ≡ next = ap (λ (l : List ℕ). get_or l 0 0) f.2 ∙ first_word words next found in (
        b.log,
        logged_all n b.log s.views id v b.logged here (others_idle setup n s.views id v f.1.0.0.1 here whole),
        subst (LooksRise 0 b.log) last b.logged.rise,
        subst IsSome (sym (bounded_is_queue (room_of setup) (initial_of setup) b.log o.laid.queue o.laid.legal)) refl,
        subst IsSome (sym o.laid.legal) refl,
      )

  -- ---- the beginning

  pub opens_account : (v : Holding) → v.left ≡ setup.budget → v.drawn ≡ [] → setup.budget ≤ TICKET_LIMIT → IsAccount setup.budget 0 (v ∷ [])
  opens_account v left drawn limit =
      let all = sum_by-cons whole_of v [] in
      let none = ap length drawn in
      record {
        limited = limit;
        shared_out = omega arith;
        rising = All-cons (λ (h : Holding). IsStrictlyIncreasing h.drawn) v [] (subst IsStrictlyIncreasing (sym drawn) none_rise)
            (All-nil (λ (h : Holding). IsStrictlyIncreasing h.drawn));
        complete = subst (λ (l : List ℕ). IsPermutation (l ++ []) []) (sym drawn) (IsPermutation-refl []);
      }

  pub opens_log : (v : Holding) → v.noted ≡ [] → Knows [] v.log → IsLogged 0 [] (v ∷ [])
  opens_log v noted knows = record {
    once = subst (λ (l : List Note). IsPermutation (l ++ []) []) (sym noted) (IsPermutation-refl []);
    known = All-cons (λ (h : Holding). Knows [] h.log) v [] knows (All-nil (λ (h : Holding). Knows [] h.log));
    one = (let all = sum_by-cons knowers_of v [] in let few = few_know v.log in omega arith);
    idle = All-cons (λ (h : Holding). h.drawn ≡ [] → h.noted ≡ []) v [] (λ _. noted) (All-nil (λ (h : Holding). h.drawn ≡ [] → h.noted ≡ []));
    rise = omega arith;
  }
    where
      few_know : (k : Option (List Note)) → knowers k ≤ 1
      few_know None = omega arith
      few_know (Some log) = omega arith

  -- a table without a ring or shared nodes, whose first pass knows the log
  pub opens : setup.has_ring ≡ false → setup.is_shared ≡ false → setup.budget ≤ TICKET_LIMIT → KeepsAccount setup (opening (0 ∷ []) [] (first_of setup))
  opens none unshared limit = subst (λ (w : Holding). KeepsAccount setup (opening (0 ∷ []) [] w)) (sym (first_plain setup none unshared))
      (let v = with_known setup in (
        (omega arith, opens_account v refl refl limit),
        booked 0 (0 ∷ []) [] (v ∷ []) (opens_log v refl refl) (inl (unshared, inl (none, omega (arith, sum_by-cons ends_of v [])))),
      ))

  -- a table with a ring, whose first pass has both ends
  pub opens_ring : (words initial : List ℕ) (room : ℕ) → setup.has_ring ≡ true → setup.is_shared ≡ false → setup.filled ≡ length initial
      → initial_of setup ≡ initial → room_of setup ≡ room → words ≡ row_words initial room → length initial ≤ room → setup.budget ≤ TICKET_LIMIT
      → KeepsAccount setup (opening words [] (first_of setup))
  opens_ring words initial room ring unshared filled held has_room are fits limit =
      subst (λ (l : List ℕ). KeepsAccount setup (opening l [] (first_of setup))) (sym are)
      (subst (λ (b : Bool). KeepsAccount setup (opening (row_words initial room) []
      (if b then with_both setup else (if setup.is_shared then holding setup.budget [] [] else with_known setup)))) (sym ring) (
        (omega arith, opens_account v refl refl limit),
        booked 0 (row_words initial room) [] (v ∷ []) (opens_log v refl tt) (inl (
          unshared,
          inr (
            ring,
            record {
              put = setup.filled;
              taken = 0;
              unknown = omega (arith, sum_by-cons knowers_of v []);
              one_tail = omega (arith, sum_by-cons tails_of v []);
              one_head = omega (arith, sum_by-cons heads_of v []);
              tails = All-cons (λ (g : Holding). FitsTail (room_of setup) setup.filled 0 row g.tail) v []
                  (refl, refl, omega arith, omega (arith, filled, has_room, fits), tt) (All-nil (λ (g : Holding). FitsTail (room_of setup) setup.filled 0 row g.tail));
              heads = All-cons (λ (g : Holding). FitsHead (room_of setup) setup.filled 0 row g.head) v [] (refl, refl, tt)
                  (All-nil (λ (g : Holding). FitsHead (room_of setup) setup.filled 0 row g.head));
              laid = subst (λ (k : ℕ). IsLaid (initial_of setup) k row [] setup.filled 0) (sym has_room)
                  (subst (λ (l : List ℕ). IsLaid l room row [] setup.filled 0) (sym held)
                  (subst (λ (k : ℕ). IsLaid initial room row [] k 0) (sym filled) first_laid));
            },
          ),
        )),
      ))
    where
      v : Holding
      v = with_both setup

      row : List ℕ
      row = drop 1 (row_words initial room)

      rest : List ℕ
      rest = replicate (room + 1 - length initial) NO_VALUE

      node : (j k : ℕ) → j ≡ k + 2 → get_or (length initial ∷ 0 ∷ (initial ++ rest)) j 0 ≡ get_or (initial ++ rest) k 0
      node j k e = (let is : j ≡ suc (suc k) = omega arith in ap (λ (i : ℕ). get_or (length initial ∷ 0 ∷ (initial ++ rest)) i 0) is)

      first_laid : IsLaid initial room row [] (length initial) 0
      first_laid = record {
        queue = initial;
        legal = refl;
        count = omega arith;
        within = fits;
        wide = (let long = length-append initial rest in let more = length-replicate (room + 1 - length initial) NO_VALUE in omega arith);
        ins = sym (mod-eq_of_lt (omega arith));
        outs = sym (mod-eq_of_lt (omega arith));
        lies = λ i h.
            let first : position room (0 + i) ≡ 0 + i = mod-eq_of_lt (omega arith) in
            let place : cell room (0 + i) ≡ i + 2 = omega arith in
            node (cell room (0 + i)) i place ∙ get_or_append_left initial rest 0 i h;
      }
