-- Each step of a call on nodes that all passes share keeps the account.
use Rattle.std.proofs.Common.{◌≡◌, ◌≢◌, ℕ, suc, ◌+◌, ◌-◌, ◌<◌, ◌≤◌, Bool, true, false, List, [], ◌∷◌, ◌++◌, length, set, get_or, All}
use Rattle.std.proofs.Common.{IsPermutation, eqb, refl, sym, ap, ◌∙◌, subst, arith, length-set, get_or-set_same, get_or-drop, length-append}
use Rattle.std.specs.Prelude.{Option, Some, Contains, drop, IsSome, take, replicate, if◌then◌else◌}
use mathlib.Core.Option.{some}
use mathlib.Core.Logic.{◌⊎◌, inl, inr}
use lib.ListN.{get_elem?}
use prog.Atomic.{either}
use Rattle.std.proofs.lemmas.List.{length-replicate, get_or-replicate, get_or_append_left, get_or-append-add, take_at}
use Rattle.std.proofs.lemmas.List.Elements.{All-nil, All-cons, All-get_or}
use Rattle.std.proofs.lemmas.List.Sums.{sum_by-cons}
use Rattle.std.proofs.lemmas.Bool.{cases_lt, cases_eq}
use Rattle.std.proofs.lemmas.Option.{same_Some}
use Rattle.atomic_table.specs.Table.{Act, Valid, carried_after, Me, keeps, stepped, Allows, Seen, Final, opening}
use Rattle.atomic_table.proofs.Lists.{exchanged}
use Rattle.tickets.specs.declared.TheConstants.{NO_VALUE, TICKET_LIMIT}
use Rattle.tickets.specs.declared.account.Holding.{Holding}
use Rattle.tickets.specs.declared.account.Setup.{Setup}
use Rattle.tickets.specs.declared.account.Walk.{Walk}
use Rattle.tickets.specs.declared.account.Aim.TheVariants.{Put, Find, Read}
use Rattle.tickets.specs.declared.note.Effect.TheVariants as effect
use Rattle.tickets.specs.declared.note.Note.{Note}
use Rattle.tickets.specs.Account.{whole_of}
use Rattle.tickets.specs.Log.{LooksRise, note_at}
use Rattle.tickets.specs.Queue.{queue_after}
use Rattle.tickets.specs.Inner.Account.{KeepsAccount, holding, first_of, with_both, with_known, initial_of, room_of}
use Rattle.tickets.specs.Inner.Ring.{told}
use Rattle.tickets.specs.Inner.Shared.{walk_at, walking, at_rest, value_of, FitsWalk, AreFilled, rights, AreShared, row_words}
use Rattle.tickets.specs.Inner.Shared.{BeginsToPut, BeginsToTake, LinksAt, DeclinesAt, PeeksAt, ClaimsAt}
use Rattle.tickets.proofs.Logged.{logged_same, logged_more, logged_all, at_place}
use Rattle.tickets.proofs.Steps.{ticket_of, row_of, kept, kept_else, kept_seen, account_same, contains_some, drawn_below, first_word, others_idle}
use Rattle.tickets.proofs.Beside.{full_within, room_left, filled_pushed, filled_hinted, filled_declined, filled_empty, filled_taken}
use Rattle.tickets.proofs.Beside.{walk_pushed, walk_taken, walk_hinted, full_more, shared_unknown, shared_step, shared_beside}
use Rattle.tickets.proofs.Ends.{booked, booked_same, opens_account, opens_log}

-- what holds of the call of a pass holds of each call that is equal to it
any_walk : (P : Walk → Type 0) (k : Option Walk) (w : Walk) → k ≡ Some w → P w → (w' : Walk) → k ≡ Some w' → P w'
any_walk P k w is p w' is' = subst P (same_Some w w' (sym is ∙ is')) p

-- a number that is at most another and differs from it is less
less_than : (a b : ℕ) → a ≤ b → b ≢ a → a < b
less_than a b low other = by_order (cases_lt a b)
  where
    by_order : (a < b) ⊎ (b ≤ a) → a < b
    by_order (inl less) = less
    by_order (inr more) = absurd (other (omega arith))

module _ (setup : Setup) (shared : setup.is_shared ≡ true) (slots id : ℕ) (me : Me (Unit {0}) Holding) where
  -- ---- a call begins

  pub begins_to_put : (call x room : ℕ) → room_of setup ≡ room
      → Allows (KeepsAccount setup) slots id me 1 (λ n. n) (λ found after. BeginsToPut call x room me.0 found after.0 × (after.1 ≡ me.1))
  begins_to_put call x room is s r _ here _ =
      let v = me.0 in
      let n : ℕ = get_or s.words 0 0 in
      let found : ℕ = get_or s.words 1 0 in
      let u = walking (walk_at call room found (Put x)) v in
      let row = drop 1 s.words in
      let b = r.1 in
      let o = shared_beside setup _ _ s.views b.nodes shared in
      let first : get_or row 0 0 ≡ found = get_or-drop 1 s.words 0 0 in
      let wide = o.wide in
      let within = o.filled.within in
      let hint = o.filled.hint in
      let fits : FitsWalk row u.walk = (omega (arith, wide, is), λ k less. o.filled.full k (omega (arith, less, hint, first))) in
      let nodes = shared_step _ _ row b.log s.views o id v u row b.log here refl refl refl (λ _ f. f) fits refl o.filled in (
        u,
        keeps,
        tt,
        kept_seen setup s.words 1 (set s.views id u) r.0.0 (account_same setup n s.views id v u r.0.1 here refl refl)
            (booked_same setup n s.words b.log s.views id v u b.logged here refl refl (λ e. e) (inr (shared, nodes))),
        ((omega (arith, wide, is, within, hint, first), refl), refl),
      )

  pub begins_to_take : (call room : ℕ) → room_of setup ≡ room
      → Allows (KeepsAccount setup) slots id me 2 (λ n. n) (λ found after. BeginsToTake call room me.0 found after.0 × (after.1 ≡ me.1))
  begins_to_take call room is s r _ here _ =
      let v = me.0 in
      let n : ℕ = get_or s.words 0 0 in
      let found : ℕ = get_or s.words 2 0 in
      let u = walking (walk_at call room found Find) v in
      let row = drop 1 s.words in
      let b = r.1 in
      let o = shared_beside setup _ _ s.views b.nodes shared in
      let second : get_or row 1 0 ≡ found = get_or-drop 1 s.words 1 0 in
      let wide = o.wide in
      let within = o.filled.within in
      let fits : FitsWalk row u.walk = (omega (arith, wide, is), omega (arith, second)) in
      let nodes = shared_step _ _ row b.log s.views o id v u row b.log here refl refl refl (λ _ f. f) fits refl o.filled in (
        u,
        keeps,
        tt,
        kept_seen setup s.words 2 (set s.views id u) r.0.0 (account_same setup n s.views id v u r.0.1 here refl refl)
            (booked_same setup n s.words b.log s.views id v u b.logged here refl refl (λ e. e) (inr (shared, nodes))),
        ((omega (arith, wide, is, within, second), refl), refl),
      )

  -- ---- an enqueue

  -- the value is enqueued in the empty node, or the node holds a value
  pub links_at : (call room at x : ℕ) → me.0.walk ≡ Some (walk_at call room at (Put x)) → at < room → x ≢ NO_VALUE → Contains me.0.drawn call
      → Allows (KeepsAccount setup) slots id me (at + 3) (λ n. either (eqb n NO_VALUE) x n)
      (λ found after. ((w : Walk) → me.0.walk ≡ Some w → LinksAt w x me.0 found after.0) × (after.1 ≡ me.1))
  links_at call room at x has inside value drew s r _ here _ = exchanged found NO_VALUE x F hit miss
    where
      v : Holding
      v = me.0

      found : ℕ
      found = get_or s.words (at + 3) 0

      F : ℕ → Type 0
      F y = (u : Holding) × (a : Act (Unit {0})) × Valid s.homes me.1 a × KeepsAccount setup (stepped s (at + 3) y id me.1 u a)
          × (((w : Walk) → me.0.walk ≡ Some w → LinksAt w x me.0 found u) × (carried_after me.1 a ≡ me.1))

      o : AreShared (initial_of setup) (room_of setup) (row_of s) r.1.log s.views
      o = shared_beside setup _ _ s.views r.1.nodes shared

      fits : FitsWalk (row_of s) (Some (walk_at call room at (Put x)))
      fits = subst (FitsWalk (row_of s)) has (at_place (λ h. FitsWalk (row_of s) h.walk) s.views id v here o.walks)

      same : get_or (row_of s) (at + 2) 0 ≡ found
      same = get_or-drop 1 s.words (at + 2) 0 ∙ (let place : 1 + (at + 2) ≡ at + 3 = omega arith in ap (λ (k : ℕ). get_or s.words k 0) place)

      left : at + 3 < length (row_of s)
      left = omega (arith, fits.0, inside)

      hit : found ≡ NO_VALUE → F x
      hit e =
          let u = walking (walk_at call room (at + 1) (Put x)) (told call (effect.Enq x) (ticket_of s) v) in
          let more = set (row_of s) (at + 2) x in
          let log' = r.1.log ++ note_at call (effect.Enq x) (ticket_of s) ∷ [] in
          let empty : get_or (row_of s) (at + 2) 0 ≡ NO_VALUE = same ∙ e in
          let long = length-set (row_of s) (at + 2) x in
          let later = walk_pushed (row_of s) x at empty value (omega (arith, left)) in
          let full : get_or more (at + 2) 0 ≢ NO_VALUE = λ bad. value (sym (get_or-set_same (row_of s) (at + 2) x 0 (omega (arith, left))) ∙ bad) in
          let nodes = shared_step _ _ (row_of s) r.1.log s.views o id v u more log' here refl refl refl later
          (long ∙ fits.0, full_more more at (later (Some (walk_at call room at (Put x))) fits).1 full) long
          (filled_pushed _ (row_of s) r.1.log o.filled x call (ticket_of s) at fits.1 empty value left) in (
            u,
            keeps,
            tt,
            kept_else setup s.words (at + 3) (at + 2) x log' (set s.views id u) (omega arith) r.0.0 (account_same setup (ticket_of s) s.views id v u r.0.1 here refl refl)
                (logged_more (ticket_of s) r.1.log s.views id v u call (effect.Enq x) r.1.logged here (shared_unknown _ _ (row_of s) r.1.log s.views o) refl refl refl
                (contains_some v.drawn call drew) (drawn_below setup (ticket_of s) s.views id v call r.0.1 here drew)) (inr (shared, nodes)),
            (any_walk (λ k. LinksAt k x v found u) v.walk (walk_at call room at (Put x)) has (inl (e, ticket_of s, refl)), refl),
          )

      miss : found ≢ NO_VALUE → F found
      miss ne =
          let u = walking (walk_at call room (at + 1) (Put x)) v in
          let nodes = shared_step _ _ (row_of s) r.1.log s.views o id v u (row_of s) r.1.log here refl refl refl (λ _ f. f)
          (fits.0, full_more (row_of s) at fits.1 (λ bad. ne (sym same ∙ bad))) refl o.filled in (
            u,
            keeps,
            tt,
            kept_seen setup s.words (at + 3) (set s.views id u) r.0.0 (account_same setup (ticket_of s) s.views id v u r.0.1 here refl refl)
                (booked_same setup (ticket_of s) s.words r.1.log s.views id v u r.1.logged here refl refl (λ e. e) (inr (shared, nodes))),
            (any_walk (λ k. LinksAt k x v found u) v.walk (walk_at call room at (Put x)) has (inr (ne, refl)), refl),
          )

  -- the count at which enqueues begin is raised by one; the call stays at its node, or ends
  pub helps_at : (call room at x : ℕ) (k : Option Walk) → me.0.walk ≡ Some (walk_at call room (at + 1) (Put x))
      → ((row : List ℕ) → FitsWalk row me.0.walk → FitsWalk row k)
      → Allows (KeepsAccount setup) slots id me 1 (λ n. either (eqb n at) (at + 1) n) (λ _ after. after ≡ (record me.0 { walk = k }, me.1))
  helps_at call room at x k has keeps_fit s r _ here _ = exchanged found at (at + 1) F hit miss
    where
      v : Holding
      v = me.0

      u : Holding
      u = record v { walk = k }

      n : ℕ
      n = get_or s.words 0 0

      found : ℕ
      found = get_or s.words 1 0

      row : List ℕ
      row = drop 1 s.words

      F : ℕ → Type 0
      F y = (w : Holding) × (a : Act (Unit {0})) × Valid s.homes me.1 a × KeepsAccount setup (stepped s 1 y id me.1 w a)
          × (◌≡◌ {A = Me (Unit {0}) Holding} (w, carried_after me.1 a) (record me.0 { walk = k }, me.1))

      o : AreShared (initial_of setup) (room_of setup) row r.1.log s.views
      o = shared_beside setup _ _ s.views r.1.nodes shared

      all_fit : FitsWalk row v.walk
      all_fit = at_place (λ h. FitsWalk row h.walk) s.views id v here o.walks

      fits : FitsWalk row (Some (walk_at call room (at + 1) (Put x)))
      fits = subst (FitsWalk row) has all_fit

      hit : found ≡ at → F (at + 1)
      hit e =
          let nodes = shared_step _ _ row r.1.log s.views o id v u (set row 0 (at + 1)) r.1.log here refl refl refl (walk_hinted row (at + 1))
          (walk_hinted row (at + 1) k (keeps_fit row all_fit)) (length-set row 0 (at + 1))
          (filled_hinted _ row r.1.log o.filled (at + 1) (full_within _ row r.1.log o.filled (at + 1) fits.1 (room_left _ row r.1.log o.filled))) in (
            u,
            keeps,
            tt,
            kept_else setup s.words 1 0 (at + 1) r.1.log (set s.views id u) refl r.0.0 (account_same setup n s.views id v u r.0.1 here refl refl)
                (logged_same n n r.1.log s.views id v u (omega arith) r.1.logged here refl refl (λ e. e)) (inr (shared, nodes)),
            refl,
          )

      miss : found ≢ at → F found
      miss ne =
          let nodes = shared_step _ _ row r.1.log s.views o id v u row r.1.log here refl refl refl (λ _ f. f) (keeps_fit row all_fit) refl o.filled in (
            u,
            keeps,
            tt,
            kept_seen setup s.words 1 (set s.views id u) r.0.0 (account_same setup n s.views id v u r.0.1 here refl refl)
                (booked_same setup n s.words r.1.log s.views id v u r.1.logged here refl refl (λ e. e) (inr (shared, nodes))),
            refl,
          )

  -- the enqueue fails
  pub declines_at : (w : Walk) → me.0.walk ≡ Some w → Contains me.0.drawn w.call
      → Allows (KeepsAccount setup) slots id me 0 (λ n. n) (λ _ after. ((w : Walk) → me.0.walk ≡ Some w → DeclinesAt w me.0 after.0) × (after.1 ≡ me.1))
  declines_at w has drew s r _ here _ =
      let v = me.0 in
      let n : ℕ = get_or s.words 0 0 in
      let did = effect.Not (value_of w.aim) in
      let u = at_rest (told w.call did n v) in
      let row = drop 1 s.words in
      let b = r.1 in
      let o = shared_beside setup _ _ s.views b.nodes shared in
      let log' = b.log ++ note_at w.call did n ∷ [] in
      let nodes = shared_step _ _ row b.log s.views o id v u row log' here refl refl refl (λ _ f. f) tt refl
      (filled_declined _ row b.log o.filled (value_of w.aim) w.call n) in (
        u,
        keeps,
        tt,
        kept setup s.words n (set s.views id u) r.0.0 (account_same setup n s.views id v u r.0.1 here refl refl)
            (booked setup n s.words log' (set s.views id u) (logged_more n b.log s.views id v u w.call did b.logged here (shared_unknown _ _ row b.log s.views o) refl refl refl
            (contains_some v.drawn w.call drew) (drawn_below setup n s.views id v w.call r.0.1 here drew)) (inr (shared, nodes))),
        (any_walk (λ k. DeclinesAt k v u) v.walk w has (n, refl), refl),
      )

  -- ---- a dequeue

  -- the queue is found empty, or the node holds a value
  pub peeks_at : (call room at : ℕ) → me.0.walk ≡ Some (walk_at call room at Find) → Contains me.0.drawn call
      → Allows (KeepsAccount setup) slots id me (at + 3) (λ n. n)
      (λ found after. ((w : Walk) → me.0.walk ≡ Some w → PeeksAt w me.0 found after.0) × (after.1 ≡ me.1))
  peeks_at call room at has drew s r _ here _ = by_value (cases_eq (get_or s.words (at + 3) 0) NO_VALUE)
    where
      v : Holding
      v = me.0

      found : ℕ
      found = get_or s.words (at + 3) 0

      o : AreShared (initial_of setup) (room_of setup) (row_of s) r.1.log s.views
      o = shared_beside setup _ _ s.views r.1.nodes shared

      fits : FitsWalk (row_of s) (Some (walk_at call room at Find))
      fits = subst (FitsWalk (row_of s)) has (at_place (λ h. FitsWalk (row_of s) h.walk) s.views id v here o.walks)

      same : get_or (row_of s) (at + 2) 0 ≡ found
      same = get_or-drop 1 s.words (at + 2) 0 ∙ (let place : 1 + (at + 2) ≡ at + 3 = omega arith in ap (λ (k : ℕ). get_or s.words k 0) place)

      by_value : (found ≡ NO_VALUE) ⊎ (found ≢ NO_VALUE)
          → (u : Holding) × (a : Act (Unit {0})) × Valid s.homes me.1 a × KeepsAccount setup (stepped s (at + 3) found id me.1 u a)
          × (((w : Walk) → me.0.walk ≡ Some w → PeeksAt w me.0 found u) × (carried_after me.1 a ≡ me.1))
      by_value (inl e) =
          let u = at_rest (told call effect.Empty (ticket_of s) v) in
          let log' = r.1.log ++ note_at call effect.Empty (ticket_of s) ∷ [] in
          let nodes = shared_step _ _ (row_of s) r.1.log s.views o id v u (row_of s) log' here refl refl refl (λ _ f. f) tt refl
          (filled_empty _ (row_of s) r.1.log o.filled call (ticket_of s) at fits.1 (same ∙ e)) in (
            u,
            keeps,
            tt,
            kept_seen setup s.words (at + 3) (set s.views id u) r.0.0 (account_same setup (ticket_of s) s.views id v u r.0.1 here refl refl)
                (booked setup (ticket_of s) s.words log' (set s.views id u) (logged_more (ticket_of s) r.1.log s.views id v u call effect.Empty r.1.logged here
                (shared_unknown _ _ (row_of s) r.1.log s.views o) refl refl refl
                (contains_some v.drawn call drew) (drawn_below setup (ticket_of s) s.views id v call r.0.1 here drew)) (inr (shared, nodes))),
            (any_walk (λ k. PeeksAt k v found u) v.walk (walk_at call room at Find) has (inl (e, ticket_of s, refl)), refl),
          )
      by_value (inr ne) =
          let u = walking (walk_at call room at (Read found)) v in
          let nodes = shared_step _ _ (row_of s) r.1.log s.views o id v u (row_of s) r.1.log here refl refl refl (λ _ f. f)
          (fits.0, (fits.1, same, ne)) refl o.filled in (
            u,
            keeps,
            tt,
            kept_seen setup s.words (at + 3) (set s.views id u) r.0.0 (account_same setup (ticket_of s) s.views id v u r.0.1 here refl refl)
                (booked_same setup (ticket_of s) s.words r.1.log s.views id v u r.1.logged here refl refl (λ e. e) (inr (shared, nodes))),
            (any_walk (λ k. PeeksAt k v found u) v.walk (walk_at call room at Find) has (inr (ne, refl)), refl),
          )

  -- the value that was read is counted as dequeued, or was so before
  pub claims_at : (call room at x : ℕ) → me.0.walk ≡ Some (walk_at call room at (Read x)) → Contains me.0.drawn call
      → Allows (KeepsAccount setup) slots id me 2 (λ n. either (eqb n at) (at + 1) n)
      (λ found after. ((w : Walk) → me.0.walk ≡ Some w → ClaimsAt w me.0 found after.0) × (after.1 ≡ me.1))
  claims_at call room at x has drew s r _ here _ = exchanged found at (at + 1) F hit miss
    where
      v : Holding
      v = me.0

      found : ℕ
      found = get_or s.words 2 0

      F : ℕ → Type 0
      F y = (u : Holding) × (a : Act (Unit {0})) × Valid s.homes me.1 a × KeepsAccount setup (stepped s 2 y id me.1 u a)
          × (((w : Walk) → me.0.walk ≡ Some w → ClaimsAt w me.0 found u) × (carried_after me.1 a ≡ me.1))

      o : AreShared (initial_of setup) (room_of setup) (row_of s) r.1.log s.views
      o = shared_beside setup _ _ s.views r.1.nodes shared

      fits : FitsWalk (row_of s) (Some (walk_at call room at (Read x)))
      fits = subst (FitsWalk (row_of s)) has (at_place (λ h. FitsWalk (row_of s) h.walk) s.views id v here o.walks)

      second : get_or (row_of s) 1 0 ≡ found
      second = get_or-drop 1 s.words 1 0

      hit : found ≡ at → F (at + 1)
      hit e =
          let u = at_rest (told call (effect.Deq x) (ticket_of s) v) in
          let more = set (row_of s) 1 (at + 1) in
          let log' = r.1.log ++ note_at call (effect.Deq x) (ticket_of s) ∷ [] in
          let first : at ≡ get_or (row_of s) 1 0 = sym (second ∙ e) in
          let within = o.filled.within in
          let nodes = shared_step _ _ (row_of s) r.1.log s.views o id v u more log' here refl refl refl
          (walk_taken (row_of s) at first (omega arith)) tt (length-set (row_of s) 1 (at + 1))
          (filled_taken _ (row_of s) r.1.log o.filled call (ticket_of s) x at first fits.1.1 fits.1.2) in (
            u,
            keeps,
            tt,
            kept_else setup s.words 2 1 (at + 1) log' (set s.views id u) refl r.0.0 (account_same setup (ticket_of s) s.views id v u r.0.1 here refl refl)
                (logged_more (ticket_of s) r.1.log s.views id v u call (effect.Deq x) r.1.logged here (shared_unknown _ _ (row_of s) r.1.log s.views o) refl refl refl
                (contains_some v.drawn call drew) (drawn_below setup (ticket_of s) s.views id v call r.0.1 here drew)) (inr (shared, nodes)),
            (any_walk (λ k. ClaimsAt k v found u) v.walk (walk_at call room at (Read x)) has (inl (e, ticket_of s, refl)), refl),
          )

      miss : found ≢ at → F found
      miss ne =
          let u = walking (walk_at call room found Find) v in
          let within = o.filled.within in
          let low = fits.1.0 in
          let wide = fits.0 in
          let nodes = shared_step _ _ (row_of s) r.1.log s.views o id v u (row_of s) r.1.log here refl refl refl (λ _ f. f)
          (fits.0, omega (arith, second)) refl o.filled in (
            u,
            keeps,
            tt,
            kept_seen setup s.words 2 (set s.views id u) r.0.0 (account_same setup (ticket_of s) s.views id v u r.0.1 here refl refl)
                (booked_same setup (ticket_of s) s.words r.1.log s.views id v u r.1.logged here refl refl (λ e. e) (inr (shared, nodes))),
            (
              any_walk (λ k. ClaimsAt k v found u) v.walk (walk_at call room at (Read x)) has
                  (inr (ne, less_than at found (omega (arith, low, second)) ne, omega (arith, within, wide, second), refl)),
              refl,
            ),
          )

-- ---- the end, and the beginning

-- a pass with the whole budget has noted the whole log, which a queue accepts
pub settles_shared : (setup : Setup) → setup.is_shared ≡ true → (id : ℕ) (v : Holding) (words : List ℕ) (slots : List (Unit {0})) (next : ℕ)
    → whole_of v ≡ setup.budget → Final (Seen (KeepsAccount setup) id v) words slots → get_elem? words 0 ≡ some next
    → (log : List Note) × IsPermutation v.noted log × LooksRise 0 log next × IsSome (queue_after (initial_of setup) log)
settles_shared setup shared id v words slots next whole f found =
    let s = f.0 in
    let here = f.1.1 in
    let n : ℕ = get_or s.words 0 0 in
    let b = f.1.0.1 in
    let o = shared_beside setup _ _ s.views b.nodes shared in
    let last : n ≡ next = ap (λ (l : List ℕ). get_or l 0 0) f.2 ∙ first_word words next found in (
      b.log,
      logged_all n b.log s.views id v b.logged here (others_idle setup n s.views id v f.1.0.0.1 here whole),
      subst (LooksRise 0 b.log) last b.logged.rise,
      subst IsSome (sym o.filled.legal) refl,
    )

pub row_words_long : (initial : List ℕ) (room : ℕ) → length initial ≤ room → length (row_words initial room) ≡ room + 4
row_words_long initial room fits =
    let a = length-append initial (replicate (room + 1 - length initial) NO_VALUE) in
    let b = length-replicate (room + 1 - length initial) NO_VALUE in
    omega arith

-- the values that shared nodes hold at first
pub row_words_held : (initial : List ℕ) (room : ℕ) → take (length initial) (drop 3 (row_words initial room)) ≡ initial
row_words_held initial room = take_at initial (replicate (room + 1 - length initial) NO_VALUE) (length initial) refl

filled_first : (initial : List ℕ) (room : ℕ) → length initial ≤ room → All (λ v. v ≢ NO_VALUE) initial
    → AreFilled initial (drop 1 (row_words initial room)) []
filled_first initial room fits values = record {
  queue = initial;
  legal = refl;
  hint = omega arith;
  within = (let long = row_words_long initial room fits in omega arith);
  lies = λ i h. node (0 + i + 2) i (omega arith) ∙ get_or_append_left initial rest 0 i h;
  full = λ k h bad. All-get_or (λ (v : ℕ). v ≢ NO_VALUE) initial k 0 (omega (arith, h)) values
      (sym (get_or_append_left initial rest 0 k (omega (arith, h))) ∙ sym (node (k + 2) k refl) ∙ bad);
  empty = λ k behind inside.
      (let long = row_words_long initial room fits in
      let place : length initial + (k - length initial) ≡ k = omega (arith, behind) in
      node (k + 2) k refl ∙ ap (λ (j : ℕ). get_or (initial ++ rest) j 0) (sym place) ∙ get_or-append-add initial rest (k - length initial) 0
      ∙ get_or-replicate (room + 1 - length initial) (k - length initial) NO_VALUE 0 (omega (arith, behind, inside)));
}
  where
    rest : List ℕ
    rest = replicate (room + 1 - length initial) NO_VALUE

    node : (j k : ℕ) → j ≡ k + 2 → get_or (length initial ∷ 0 ∷ (initial ++ rest)) j 0 ≡ get_or (initial ++ rest) k 0
    node j k e = (let is : j ≡ suc (suc k) = omega arith in ap (λ (i : ℕ). get_or (length initial ∷ 0 ∷ (initial ++ rest)) i 0) is)

-- a table whose nodes all passes share
pub opens_shared : (setup : Setup) (words initial : List ℕ) (room : ℕ) → setup.has_ring ≡ false → setup.is_shared ≡ true → setup.filled ≡ length initial
    → setup.words.value.items ≡ words → words ≡ row_words initial room → length initial ≤ room → All (λ v. v ≢ NO_VALUE) initial
    → setup.budget ≤ TICKET_LIMIT → KeepsAccount setup (opening words [] (first_of setup))
opens_shared setup words initial room none shared filled are is fits values limit =
    subst (λ (l : List ℕ). KeepsAccount setup (opening l [] (first_of setup))) (sym is)
    (subst (λ (w : Holding). KeepsAccount setup (opening (row_words initial room) [] w)) (sym first) (
      (omega arith, opens_account setup v refl refl limit),
      booked setup 0 (row_words initial room) [] (v ∷ []) (opens_log setup v refl tt) (inr (
        shared,
        record {
          none = omega (arith, sum_by-cons rights v []);
          wide = omega (arith, long, length_all);
          walks = All-cons (λ (h : Holding). FitsWalk (drop 1 (row_words initial room)) h.walk) v [] tt
              (All-nil (λ (h : Holding). FitsWalk (drop 1 (row_words initial room)) h.walk));
          filled = subst (λ (l : List ℕ). AreFilled l (drop 1 (row_words initial room)) []) (sym held) (filled_first initial room fits values);
        },
      )),
    ))
  where
    v : Holding
    v = holding setup.budget [] []

    first : first_of setup ≡ v
    first = ap (λ (b : Bool). if b then with_both setup else (if setup.is_shared then v else with_known setup)) none
        ∙ ap (λ (b : Bool). if b then v else with_known setup) shared

    long : length (row_words initial room) ≡ room + 4
    long = row_words_long initial room fits

    length_all : length setup.words.value.items ≡ room + 4
    length_all = ap length (are ∙ is) ∙ long

    held : initial_of setup ≡ initial
    held = ap (λ (l : List ℕ). take setup.filled (drop 3 l)) (are ∙ is) ∙ ap (λ (k : ℕ). take k (drop 3 (row_words initial room))) filled
        ∙ row_words_held initial room

-- ---- the case that a step was

pub linked_hit : (w : Walk) (x : ℕ) (before : Holding) (found : ℕ) (after : Holding) → LinksAt w x before found after → found ≡ NO_VALUE
    → (look : ℕ) × (after ≡ walking (record w { at = w.at + 1 }) (told w.call (effect.Enq x) look before))
linked_hit w x before found after (inl went) e = (went.1, went.2)
linked_hit w x before found after (inr held) e = absurd (held.0 e)

pub linked_miss : (w : Walk) (x : ℕ) (before : Holding) (found : ℕ) (after : Holding) → LinksAt w x before found after → found ≢ NO_VALUE
    → after ≡ walking (record w { at = w.at + 1 }) before
linked_miss w x before found after (inl went) ne = absurd (ne went.0)
linked_miss w x before found after (inr held) ne = held.1

pub peeked_none : (w : Walk) (before : Holding) (found : ℕ) (after : Holding) → PeeksAt w before found after → found ≡ NO_VALUE
    → (look : ℕ) × (after ≡ at_rest (told w.call effect.Empty look before))
peeked_none w before found after (inl none) e = (none.1, none.2)
peeked_none w before found after (inr held) e = absurd (held.0 e)

pub peeked_some : (w : Walk) (before : Holding) (found : ℕ) (after : Holding) → PeeksAt w before found after → found ≢ NO_VALUE
    → after ≡ walking (record w { aim = Read found }) before
peeked_some w before found after (inl none) ne = absurd (ne none.0)
peeked_some w before found after (inr held) ne = held.1

pub claimed_hit : (w : Walk) (before : Holding) (found : ℕ) (after : Holding) → ClaimsAt w before found after → found ≡ w.at
    → (look : ℕ) × (after ≡ at_rest (told w.call (effect.Deq (value_of w.aim)) look before))
claimed_hit w before found after (inl went) e = (went.1, went.2)
claimed_hit w before found after (inr later) e = absurd (later.0 e)

pub claimed_miss : (w : Walk) (before : Holding) (found : ℕ) (after : Holding) → ClaimsAt w before found after → found ≢ w.at
    → (w.at < found) × (found ≤ w.room) × (after ≡ walking (walk_at w.call w.room found Find) before)
claimed_miss w before found after (inl went) ne = absurd (ne went.0)
claimed_miss w before found after (inr later) ne = (later.1, later.2, later.3)
