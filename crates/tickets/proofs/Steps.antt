-- Each step keeps the account.
use Rattle.std.proofs.Common.{◌≡◌, ◌≢◌, ℕ, suc, ◌+◌, ◌-◌, ◌%◌, ◌^◌, ◌<◌, ◌≤◌, List, [], ◌∷◌, ◌++◌, length, get_or}
use Rattle.std.proofs.Common.{set, All, sum_by, flat_map}
use Rattle.std.proofs.Common.{IsPermutation, refl, sym, ap, ◌∙◌, subst, arith, length-append, length-set, get_or-set_same, get_or-set_other, append_assoc}
use mathlib.Core.Option.{some, some-injective, some-ne-none}
use lib.ListN.{get_elem?}
use Rattle.std.specs.List.Sorted.{IsStrictlyIncreasing}
use Rattle.std.proofs.lemmas.List.{append-nil, drop-set-lt, drop-set-add, set-get_or}
use Rattle.std.proofs.lemmas.List.Concat.{flat_map-append, length-flat_map}
use Rattle.std.proofs.lemmas.List.Elements.{All-nil, All-cons, All-head, All-tail, All-get_or, All-set, All-push, All-contains}
use Rattle.std.proofs.lemmas.List.FromFn.{length-range_with_len}
use Rattle.std.proofs.lemmas.List.Sums.{sum_by-cons, sum_by_push, sum_by-set, get_or-le-sum_by}
use Rattle.std.proofs.lemmas.List.Sorted.{IsPermutation-sym, IsPermutation-trans, IsPermutation-append_left}
use Rattle.std.proofs.lemmas.List.Sorted.{IsPermutation-middle, IsPermutation-to_front}
use Rattle.std.proofs.lemmas.List.Sorted.{IsPermutation-cons, length_permutation, All-permutation}
use Rattle.atomic_table.specs.Table.{State, Me, keeps, stepped, Allows, Splits, Joins, Seen, Final}
use Rattle.atomic_table.proofs.Lists.{set_again, set_else}
use Rattle.tickets.specs.declared.account.Holding.{Holding}
use Rattle.tickets.specs.Account.{whole_of, IsAccount}
use Rattle.tickets.specs.Inner.Account.{first_of, holding, logging, known_log, knows_log, without_log, with_log}
use Rattle.tickets.specs.Inner.Account.{AreBooked, AreBeside, either_log, with_both, with_known}
use Rattle.tickets.specs.Inner.Ring.{holders}
use Rattle.tickets.specs.declared.account.Setup.{Setup}
use Rattle.tickets.proofs.Beside.{beside_same, beside_split, beside_join, beside_known}
use Rattle.tickets.specs.Inner.Account.{noting, KeepsAccount, DrawsNext, NotesAt, LooksAtShare, merged, put_together}
use Rattle.tickets.specs.Log.{IsLogged, Knows, LooksRise, knowers, note_at}
use Rattle.tickets.specs.declared.note.Effect.{Effect}
use Rattle.tickets.specs.declared.note.Note.{Note}
use Rattle.std.specs.Prelude.{None, Contains, Bool, false, drop, if◌then◌else◌}
use Rattle.tickets.specs.Views.{numbers_below}
use Rattle.tickets.proofs.Logged.{logged_same, logged_push, logged_lent, logged_taken, logged_joined, logged_noted, logged_whole, noted_within, looks_within, known_is, at_place}
use Rattle.tickets.proofs.Apart.{place_in, one_apart, two_apart}
use Rattle.tickets.proofs.Rising.{times, times-append, times-permutation, times-range, range-push, range-below, rises, increasing, RisesFrom-push}
use Rattle.tickets.proofs.Rising.{all_below, IsPermutation-merged, RisesFrom-merged}

-- the tickets of a pass
abbrev pub drawn_of : Holding → List ℕ
drawn_of h = h.drawn

-- the number of tickets of a pass
abbrev pub count_of : Holding → ℕ
count_of h = length h.drawn

-- the next ticket
abbrev pub ticket_of : State (Unit {0}) Holding → ℕ
ticket_of s = get_or s.words 0 0

-- the words after the next ticket
abbrev pub row_of : State (Unit {0}) Holding → List ℕ
row_of s = drop 1 s.words

-- a step that a caller chose is allowed if it follows from what an allowed step shows
pub allows_play : (holds : State (Unit {0}) Holding → Type 0) (slots id : ℕ) (me : Me (Unit {0}) Holding) (word : ℕ) (f : ℕ → ℕ) (tells : ℕ → Holding → Type 0)
    (chosen : ℕ → Me (Unit {0}) Holding → Type 0) → Allows holds slots id me word f (λ found after. tells found after.0 × (after.1 ≡ me.1))
    → ((found : ℕ) (after : Holding) → tells found after → chosen found (after, me.1)) → Allows holds slots id me word f chosen
allows_play holds slots id me word f tells chosen allowed follows s r long at small =
    let x = allowed s r long at small in
    let found = get_or s.words word 0 in
    (x.0, x.1, x.2, x.3, subst (λ carried. chosen found (x.0, carried)) (sym x.4.1) (follows found x.0 x.4.0))

-- ---- shares and counts

shares-set : (views : List Holding) (i : ℕ) (v w : Holding) → get_elem? views i ≡ some v
    → sum_by whole_of (set views i w) + whole_of v ≡ sum_by whole_of views + whole_of w
shares-set views i v w at = let p = place_in views i v at in
    subst (λ (h : Holding). sum_by whole_of (set views i w) + whole_of h ≡ sum_by whole_of views + whole_of w) (p.1 v) (sum_by-set whole_of views i w v p.0)

share_within : (views : List Holding) (i : ℕ) (v : Holding) → get_elem? views i ≡ some v → whole_of v ≤ sum_by whole_of views
share_within views i v at = let p = place_in views i v at in
    subst (λ (h : Holding). whole_of h ≤ sum_by whole_of views) (p.1 v) (get_or-le-sum_by whole_of views i v p.0)

counts-set : (views : List Holding) (i : ℕ) (v w : Holding) → get_elem? views i ≡ some v
    → sum_by count_of (set views i w) + count_of v ≡ sum_by count_of views + count_of w
counts-set views i v w at = let p = place_in views i v at in
    subst (λ (h : Holding). sum_by count_of (set views i w) + count_of h ≡ sum_by count_of views + count_of w) (p.1 v) (sum_by-set count_of views i w v p.0)

counts_within : (views : List Holding) → sum_by count_of views ≤ sum_by whole_of views
counts_within [] = omega arith
counts_within (x ∷ xs) = let rest = counts_within xs in let counts = sum_by-cons count_of x xs in let shares = sum_by-cons whole_of x xs in omega arith

rising_at : (views : List Holding) (i : ℕ) (v : Holding) → get_elem? views i ≡ some v → All (λ h. IsStrictlyIncreasing h.drawn) views
    → IsStrictlyIncreasing v.drawn
rising_at views i v at all = let p = place_in views i v at in
    subst (λ (h : Holding). IsStrictlyIncreasing h.drawn) (p.1 v) (All-get_or (λ (h : Holding). IsStrictlyIncreasing h.drawn) views i v p.0 all)

pub none_rise : IsStrictlyIncreasing []
none_rise k l = absurd (omega arith)

-- what holds of all of two lists holds of all of the first
pub all_left : (P : ℕ → Type 0) (xs ys : List ℕ) → All P (xs ++ ys) → All P xs
all_left P [] ys h = All-nil P
all_left P (x ∷ xs) ys h = All-cons P x xs (All-head P x (xs ++ ys) h) (all_left P xs ys (All-tail P x (xs ++ ys) h))

nothing : (xs : List ℕ) → length xs ≡ 0 → xs ≡ []
nothing [] e = refl
nothing (x ∷ xs) e = absurd (omega arith)

pub contains_some : (xs : List ℕ) (x : ℕ) → Contains xs x → xs ≢ []
contains_some xs x c e = let long = ap length e in let inside = c.1 in absurd (omega arith)

not_empty : (xs : List ℕ) (n : ℕ) → xs ++ n ∷ [] ≢ []
not_empty xs n e = let long = ap length e in let sum = length-append xs (n ∷ []) in absurd (omega arith)

-- the numbers below n are below n
pub below_all : (n : ℕ) → All (λ t. t < n) (numbers_below n)
below_all n = subst (λ (m : ℕ). All (λ t. t < m) (numbers_below n)) (omega arith) (range-below 0 n)

-- the first of some words
pub first_word : (words : List ℕ) (n : ℕ) → get_elem? words 0 ≡ some n → get_or words 0 0 ≡ n
first_word [] n e = absurd (some-ne-none n (sym e))
first_word (x ∷ xs) n e = some-injective x n e

-- ---- the account, and its table

-- the pass has neither end of the nodes
abbrev pub HasNoEnd : Holding → Type 0
HasNoEnd h = (h.tail ≡ None) × (h.head ≡ None)

-- all passes together have as many tickets as the next number says
pub total : (budget next : ℕ) (views : List Holding) → IsAccount budget next views → sum_by count_of views ≡ next
total budget next views a = sym (length-flat_map drawn_of views) ∙ sym (length_permutation (flat_map drawn_of views) (numbers_below next) a.complete)
    ∙ length-range_with_len 0 next

module _ (setup : Setup) where
  -- while a pass may still draw, the next number is below the budget
  room : (next : ℕ) (views : List Holding) (i : ℕ) (v : Holding) → IsAccount setup.budget next views → get_elem? views i ≡ some v → 0 < v.left → next < setup.budget
  room next views i v a at some_left =
      let none = holding 0 [] [] in
      let all = total setup.budget next views a in
      let counts = counts-set views i v none at in
      let shares = shares-set views i v none at in
      let within = counts_within (set views i none) in
      let is = a.shared_out in
      omega arith

  -- the table after its first word became x
  pub kept : (words : List ℕ) (x : ℕ) (views : List Holding) → 0 < length words → IsAccount setup.budget x views → AreBooked setup x words views
      → ((0 < length (set words 0 x)) × IsAccount setup.budget (get_or (set words 0 x) 0 0) views)
      × AreBooked setup (get_or (set words 0 x) 0 0) (set words 0 x) views
  kept words x views wide a b =
      let same = sym (get_or-set_same words 0 x 0 wide) in
      let row = drop-set-lt 1 words 0 x (omega arith) in (
        (subst (λ (n : ℕ). 0 < n) (sym (length-set words 0 x)) wide, subst (λ (z : ℕ). IsAccount setup.budget z views) same a),
        subst (λ (z : ℕ). AreBooked setup z (set words 0 x) views) same
            (record { log = b.log; logged = b.logged; nodes = subst (λ (r : List ℕ). AreBeside setup r b.log views) (sym row) b.nodes }),
      )

  -- the table after a further word became y
  pub kept_else : (words : List ℕ) (i j y : ℕ) (log : List Note) (views : List Holding) → i ≡ 1 + j → 0 < length words
      → IsAccount setup.budget (get_or words 0 0) views → IsLogged (get_or words 0 0) log views
      → AreBeside setup (set (drop 1 words) j y) log views
      → ((0 < length (set words i y)) × IsAccount setup.budget (get_or (set words i y) 0 0) views)
      × AreBooked setup (get_or (set words i y) 0 0) (set words i y) views
  kept_else words i j y log views is wide a l nodes =
      let same = sym (get_or-set_other words i 0 y 0 (λ e. absurd (omega arith))) in
      let row : drop 1 (set words i y) ≡ set (drop 1 words) j y = ap (λ (k : ℕ). drop 1 (set words k y)) is ∙ drop-set-add 1 words j y in (
        (subst (λ (n : ℕ). 0 < n) (sym (length-set words i y)) wide, subst (λ (z : ℕ). IsAccount setup.budget z views) same a),
        subst (λ (z : ℕ). AreBooked setup z (set words i y) views) same
            (record { log = log; logged = l; nodes = subst (λ (r : List ℕ). AreBeside setup r log views) (sym row) nodes }),
      )

  -- the table after a look at a word
  pub kept_seen : (words : List ℕ) (i : ℕ) (views : List Holding) → 0 < length words → IsAccount setup.budget (get_or words 0 0) views
      → AreBooked setup (get_or words 0 0) words views
      → ((0 < length (set words i (get_or words i 0))) × IsAccount setup.budget (get_or (set words i (get_or words i 0)) 0 0) views)
      × AreBooked setup (get_or (set words i (get_or words i 0)) 0 0) (set words i (get_or words i 0)) views
  kept_seen words i views wide a b =
      subst (λ (ws : List ℕ). ((0 < length ws) × IsAccount setup.budget (get_or ws 0 0) views) × AreBooked setup (get_or ws 0 0) ws views)
      (sym (set-get_or words i 0)) ((wide, a), b)

  account_drawn : (n : ℕ) (views : List Holding) (i : ℕ) (v : Holding) → IsAccount setup.budget n views → get_elem? views i ≡ some v → 0 < v.left
      → All (λ t. t < n) v.drawn
      → IsAccount setup.budget (suc n) (set views i (record v { left = v.left - 1; drawn = v.drawn ++ n ∷ [] }))
  account_drawn n views i v a at some_left below =
      let w = record v { left = v.left - 1; drawn = v.drawn ++ n ∷ [] } in
      let apart = one_apart drawn_of views i v at in
      let shares = shares-set views i v w at in
      let one_more = length-append v.drawn (n ∷ []) in
      let is = a.shared_out in
      let all = flat_map drawn_of views in
      let moved = subst (IsPermutation (flat_map drawn_of (set views i w))) (append_assoc v.drawn (n ∷ []) apart.others) (apart.after w) in
      let first = IsPermutation-trans (flat_map drawn_of (set views i w)) (v.drawn ++ n ∷ apart.others) (n ∷ (v.drawn ++ apart.others)) moved
      (IsPermutation-middle v.drawn n apart.others) in
      let old = IsPermutation-trans (v.drawn ++ apart.others) all (numbers_below n) (IsPermutation-sym all (v.drawn ++ apart.others) apart.before) a.complete in
      let second = IsPermutation-trans (flat_map drawn_of (set views i w)) (n ∷ (v.drawn ++ apart.others)) (n ∷ numbers_below n) first
      (IsPermutation-cons n (v.drawn ++ apart.others) (numbers_below n) old) in
      let third = IsPermutation-trans (flat_map drawn_of (set views i w)) (n ∷ numbers_below n) (numbers_below n ++ n ∷ []) second
      (IsPermutation-sym (numbers_below n ++ n ∷ []) (n ∷ numbers_below n) (IsPermutation-to_front (numbers_below n) n)) in
      let pushed : numbers_below n ++ n ∷ [] ≡ numbers_below (suc n) = sym (range-push 0 n ∙ ap (λ (k : ℕ). numbers_below n ++ k ∷ []) (omega arith)) in
      record {
        limited = a.limited;
        shared_out = omega arith;
        rising = All-set (λ (h : Holding). IsStrictlyIncreasing h.drawn) views i w
            (increasing 0 (v.drawn ++ n ∷ []) (RisesFrom-push 0 n v.drawn (rises v.drawn (rising_at views i v at a.rising)) below (omega arith))) a.rising;
        complete = subst (IsPermutation (flat_map drawn_of (set views i w))) pushed third;
      }

  -- each ticket of a pass is below the next number
  pub drawn_below : (n : ℕ) (views : List Holding) (i : ℕ) (v : Holding) (t : ℕ) → IsAccount setup.budget n views → get_elem? views i ≡ some v
      → Contains v.drawn t → t < n
  drawn_below n views i v t a at drew =
      let apart = one_apart drawn_of views i v at in
      let all = flat_map drawn_of views in
      let same = IsPermutation-trans (numbers_below n) all (v.drawn ++ apart.others) (IsPermutation-sym all (numbers_below n) a.complete) apart.before in
      let below = all_left (λ k. k < n) v.drawn apart.others (All-permutation (λ k. k < n) (numbers_below n) (v.drawn ++ apart.others) same (below_all n)) in
      All-contains (λ k. k < n) v.drawn t below drew

  -- a draw keeps the account, and gives the pass the word's number
  pub draws : (slots id : ℕ) (me : Me (Unit {0}) Holding) → 0 < me.0.left
      → Allows (KeepsAccount setup) slots id me 0 (λ n. (n + 1) % 2 ^ 64) (λ found after. DrawsNext me.0 found after.0 × (after.1 ≡ me.1))
  draws slots id me some_left s r _ at small =
      let v = me.0 in
      let n : ℕ = get_or s.words 0 0 in
      let a = r.0.1 in
      let inside : n < setup.budget = room n s.views id v a at some_left in
      let limit = a.limited in
      let apart = one_apart drawn_of s.views id v at in
      let all = flat_map drawn_of s.views in
      let same = IsPermutation-trans (numbers_below n) all (v.drawn ++ apart.others) (IsPermutation-sym all (numbers_below n) a.complete) apart.before in
      let below = all_left (λ t. t < n) v.drawn apart.others (All-permutation (λ t. t < n) (numbers_below n) (v.drawn ++ apart.others) same (below_all n)) in
      let next : suc n ≡ (n + 1) % 18446744073709551616 = omega arith in
      let w = record v { left = v.left - 1; drawn = v.drawn ++ n ∷ [] } in (
        w,
        keeps,
        tt,
        subst (λ (z : ℕ). KeepsAccount setup (stepped s 0 z id me.1 w keeps)) next
            (kept s.words (suc n) (set s.views id w) r.0.0 (account_drawn n s.views id v a at some_left below)
            (record {
              log = r.1.log;
              logged = logged_same n (suc n) r.1.log s.views id v w (omega arith) r.1.logged at refl refl (λ e. absurd (not_empty v.drawn n e));
              nodes = beside_same setup _ _ s.views r.1.nodes id v w at refl refl refl refl;
            })),
        ((omega arith, refl, below, omega arith, refl, refl, refl, refl, refl, noted_within n r.1.log s.views id v r.1.logged at), refl),
      )

  -- a split keeps the account, and gives the new pass its share and no tickets
  pub splits : (id : ℕ) (v : Holding) (n : ℕ) → n ≤ v.left
      → Splits (KeepsAccount setup) id v (record v { left = v.left - n }) (holding n [] [])
  splits id v n fits s r at =
      let a = r.0.1 in
      let w = record v { left = v.left - n } in
      let new = holding n [] [] in
      let apart = one_apart drawn_of s.views id v at in
      let shares = shares-set s.views id v w at in
      let pushed = sum_by_push whole_of (set s.views id w) new in
      let is = a.shared_out in
      let all = flat_map drawn_of s.views in
      let same = IsPermutation-trans (flat_map drawn_of (set s.views id w)) (v.drawn ++ apart.others) all (apart.after w)
      (IsPermutation-sym all (v.drawn ++ apart.others) apart.before) in
      let done = IsPermutation-trans (flat_map drawn_of (set s.views id w)) all (numbers_below (get_or s.words 0 0)) same a.complete in
      let longer : flat_map drawn_of (set s.views id w) ≡ flat_map drawn_of (set s.views id w ++ new ∷ []) =
      sym (flat_map-append drawn_of (set s.views id w) (new ∷ []) ∙ append-nil (flat_map drawn_of (set s.views id w))) in (
        (
          r.0.0,
          record {
            limited = a.limited;
            shared_out = omega arith;
            rising = All-push (λ (h : Holding). IsStrictlyIncreasing h.drawn) (set s.views id w) new
                (All-set (λ (h : Holding). IsStrictlyIncreasing h.drawn) s.views id w (rising_at s.views id v at a.rising) a.rising) none_rise;
            complete = subst (λ (l : List ℕ). IsPermutation l (numbers_below (get_or s.words 0 0))) longer done;
          },
        ),
        record {
          log = r.1.log;
          logged = logged_push (get_or s.words 0 0) r.1.log (set s.views id w) new
              (logged_same (get_or s.words 0 0) (get_or s.words 0 0) r.1.log s.views id v w (omega arith) r.1.logged at refl refl (λ e. e)) refl refl;
          nodes = beside_split setup _ _ s.views r.1.nodes id v w new at (omega arith) (omega arith) (omega arith)
              (λ _ _ _ fits. (fits, tt)) (λ _ _ _ fits. (fits, tt)) refl refl;
        },
      )

  -- a join keeps the account, and puts the shares and tickets of both passes together
  pub joins : (id : ℕ) (v : Holding) (other : ℕ) (w : Holding) → v.log ≡ None → w.log ≡ None → HasNoEnd v → HasNoEnd w
      → Joins (KeepsAccount setup) id v other w (put_together v w) (holding 0 [] [])
  joins id v other w none none' no_end no_end' s r at apart there =
      let a = r.0.1 in
      let views = s.views in
      let next : ℕ = get_or s.words 0 0 in
      let m = put_together v w in
      let spent = holding 0 [] [] in
      let here = sym (set_else views id other m apart) ∙ there in
      let two = two_apart drawn_of views id other v w at here apart in
      let all = flat_map drawn_of views in
      let both = IsPermutation-merged v.drawn w.drawn in
      let long = length_permutation (v.drawn ++ w.drawn) (merged v.drawn w.drawn) both in
      let sum = length-append v.drawn w.drawn in
      let first = shares-set views id v m at in
      let second = shares-set (set views id m) other w spent there in
      let is = a.shared_out in
      let once : (x : ℕ) → times x v.drawn + times x w.drawn ≤ 1 = λ x.
      (let outer = times-append x v.drawn (w.drawn ++ two.others) in let inner = times-append x w.drawn two.others in let same =
      times-permutation x all (v.drawn ++ (w.drawn ++ two.others)) two.before in
      let known = times-permutation x all (numbers_below next) a.complete in omega (arith, (times-range x 0 next).0)) in
      let rise = increasing 0 (merged v.drawn w.drawn) (RisesFrom-merged v.drawn w.drawn (rises w.drawn (rising_at views other w here a.rising)) once) in
      let after = flat_map drawn_of (set (set views id m) other spent) in
      let to_parts = IsPermutation-trans after (merged v.drawn w.drawn ++ two.others) ((v.drawn ++ w.drawn) ++ two.others) (two.after m spent)
      (IsPermutation-append_left two.others (merged v.drawn w.drawn) (v.drawn ++ w.drawn)
      (IsPermutation-sym (v.drawn ++ w.drawn) (merged v.drawn w.drawn) both)) in
      let to_old = IsPermutation-trans after (v.drawn ++ (w.drawn ++ two.others)) all
      (subst (IsPermutation after) (append_assoc v.drawn w.drawn two.others) to_parts)
      (IsPermutation-sym all (v.drawn ++ (w.drawn ++ two.others)) two.before) in (
        (
          r.0.0,
          record {
            limited = a.limited;
            shared_out = omega arith;
            rising = All-set (λ (h : Holding). IsStrictlyIncreasing h.drawn) (set views id m) other spent none_rise
                (All-set (λ (h : Holding). IsStrictlyIncreasing h.drawn) views id m rise a.rising);
            complete = IsPermutation-trans after all (numbers_below next) to_old a.complete;
          },
        ),
        record {
          log = r.1.log;
          logged = logged_joined next r.1.log views id other v w r.1.logged at here apart none none'
              (λ e. let zero_long = ap length e in (nothing v.drawn (omega arith), nothing w.drawn (omega arith)));
          nodes =
              let a = ap knowers none in
              let b = ap knowers none' in
              let ab : knowers (either_log v.log w.log) ≡ 0 = λ i. knowers (either_log (none i) (none' i)) in
              let c = ap holders no_end.0 in
              let d = ap holders no_end.1 in
              let c' = ap holders no_end'.0 in
              let d' = ap holders no_end'.1 in
              beside_join setup _ _ views r.1.nodes id other v w m spent at there here (omega arith) (omega arith) (omega arith)
              (λ _ _ _ _ _. (tt, tt)) (λ _ _ _ _ _. (tt, tt)) (λ _. tt) refl;
        },
      )

  -- a look at a pass keeps the account and changes nothing
  pub looks : (slots id : ℕ) (me : Me (Unit {0}) Holding) → Allows (KeepsAccount setup) slots id me 0 (λ n. n)
      (λ found after. LooksAtShare me.0 × (after ≡ me))
  looks slots id me s r _ at _ =
      let a = r.0.1 in
      let n : ℕ = get_or s.words 0 0 in
      let within = share_within s.views id me.0 at in
      let limit = a.limited in
      let is = a.shared_out in (
        me.0,
        keeps,
        tt,
        kept s.words n (set s.views id me.0) r.0.0 (subst (IsAccount setup.budget n) (sym (set_again s.views id me.0 at)) a)
            (subst (AreBooked setup n s.words) (sym (set_again s.views id me.0 at)) r.1),
        ((omega arith, rising_at s.views id me.0 at a.rising), refl),
      )

  -- the pass with the whole budget holds each number below the word once
  pub closes : (id : ℕ) (v : Holding) (words : List ℕ) (slots : List (Unit {0})) (next : ℕ) → whole_of v ≡ setup.budget
      → Final (Seen (KeepsAccount setup) id v) words slots → get_elem? words 0 ≡ some next → v.drawn ≡ numbers_below next
  closes id v words slots next whole f found =
      let s = f.0 in
      let a = f.1.0.0.1 in
      let at = f.1.1 in
      let last : get_or s.words 0 0 ≡ next = ap (λ (l : List ℕ). get_or l 0 0) f.2 ∙ first_word words next found in
      let none = holding 0 [] [] in
      let apart = one_apart drawn_of s.views id v at in
      let shares = shares-set s.views id v none at in
      let within = counts_within (set s.views id none) in
      let is = a.shared_out in
      let counted = length-flat_map drawn_of (set s.views id none) in
      let long = length_permutation (flat_map drawn_of (set s.views id none)) apart.others (apart.after none) in
      let empty = nothing apart.others (omega arith) in
      let alone = subst (λ (l : List ℕ). IsPermutation (flat_map drawn_of s.views) l)
      (ap (λ (l : List ℕ). v.drawn ++ l) empty ∙ append-nil v.drawn) apart.before in
      let mine = IsPermutation-trans v.drawn (flat_map drawn_of s.views) (numbers_below (get_or s.words 0 0))
      (IsPermutation-sym (flat_map drawn_of s.views) v.drawn alone) a.complete in
      all_below (get_or s.words 0 0) v.drawn (rising_at s.views id v at a.rising) mine ∙ ap numbers_below last

  -- a pass changes, and keeps its share and its tickets
  pub account_same : (next : ℕ) (views : List Holding) (i : ℕ) (v w : Holding) → IsAccount setup.budget next views → get_elem? views i ≡ some v
      → w.left ≡ v.left → w.drawn ≡ v.drawn → IsAccount setup.budget next (set views i w)
  account_same next views i v w a at left drawn =
      let apart = one_apart drawn_of views i v at in
      let shares = shares-set views i v w at in
      let long = ap length drawn in
      let is = a.shared_out in
      let all = flat_map drawn_of views in
      let after = flat_map drawn_of (set views i w) in
      let same = subst (λ (l : List ℕ). IsPermutation after (l ++ apart.others)) drawn (apart.after w) in
      record {
        limited = a.limited;
        shared_out = omega arith;
        rising = All-set (λ (h : Holding). IsStrictlyIncreasing h.drawn) views i w
            (subst IsStrictlyIncreasing (sym drawn) (rising_at views i v at a.rising)) a.rising;
        complete = IsPermutation-trans after all (numbers_below next)
            (IsPermutation-trans after (v.drawn ++ apart.others) all same (IsPermutation-sym all (v.drawn ++ apart.others) apart.before)) a.complete;
      }

  -- one more pass without a share
  pub account_push : (next : ℕ) (views : List Holding) (new : Holding) → new.left ≡ 0 → new.drawn ≡ [] → IsAccount setup.budget next views
      → IsAccount setup.budget next (views ++ new ∷ [])
  account_push next views new none_left none_drawn a =
      let pushed = sum_by_push whole_of views new in
      let is = a.shared_out in
      let zero_long = ap length none_drawn in
      let longer : flat_map drawn_of views ≡ flat_map drawn_of (views ++ new ∷ []) =
      sym (flat_map-append drawn_of views (new ∷ []) ∙ ap (λ (l : List ℕ). flat_map drawn_of views ++ (l ++ [])) none_drawn ∙ append-nil (flat_map drawn_of views)) in
      record {
        limited = a.limited;
        shared_out = omega arith;
        rising = All-push (λ (h : Holding). IsStrictlyIncreasing h.drawn) views new a.rising (subst IsStrictlyIncreasing (sym none_drawn) none_rise);
        complete = subst (λ (l : List ℕ). IsPermutation l (numbers_below next)) longer a.complete;
      }

  -- a split gives the log a seat of its own
  pub lends : (id : ℕ) (v : Holding) → knows_log v → Splits (KeepsAccount setup) id v (without_log v) (logging (known_log v.log))
  lends id v knows s r at =
      let n : ℕ = get_or s.words 0 0 in
      let w = without_log v in (
        (r.0.0, account_push n (set s.views id w) (logging (known_log v.log)) refl refl (account_same n s.views id v w r.0.1 at refl refl)),
        record {
          log = r.1.log;
          logged = logged_lent n r.1.log s.views id v r.1.logged at knows;
          nodes = beside_split setup _ _ s.views r.1.nodes id v w (logging (known_log v.log)) at (sym (ap knowers knows)) (omega arith) (omega arith)
              (λ _ _ _ fits. (fits, tt)) (λ _ _ _ fits. (fits, tt)) refl refl;
        },
      )

  -- a pass takes the log
  pub takes : (id : ℕ) (v : Holding) (other : ℕ) (log : List Note) → v.log ≡ None
      → Joins (KeepsAccount setup) id v other (logging log) (with_log v (logging log)) (holding 0 [] [])
  takes id v other log none s r at apart there =
      let n : ℕ = get_or s.words 0 0 in
      let w = logging log in
      let m = with_log v w in
      let here = sym (set_else s.views id other m apart) ∙ there in (
        (r.0.0, account_same n (set s.views id m) other w (holding 0 [] []) (account_same n s.views id v m r.0.1 at refl refl) there refl refl),
        record {
          log = r.1.log;
          logged = logged_taken n r.1.log s.views id other v log r.1.logged at here apart none;
          nodes =
              let a = ap knowers none in
              beside_join setup _ _ s.views r.1.nodes id other v w m (holding 0 [] []) at there here (omega arith) (omega arith) (omega arith)
              (λ _ _ _ fits _. (fits, tt)) (λ _ _ _ fits _. (fits, tt)) (λ fits. fits) refl;
        },
      )

  -- a look at the word adds a note to the log
  pub notes : (slots id : ℕ) (me : Me (Unit {0}) Holding) (call : ℕ) (effect : Effect) → knows_log me.0 → Contains me.0.drawn call
      → Allows (KeepsAccount setup) slots id me 0 (λ n. n) (λ found after. NotesAt call effect me.0 found after.0 × (after.1 ≡ me.1))
  notes slots id me call effect knows drew s r _ at _ =
      let v = me.0 in
      let a = r.0.1 in
      let n : ℕ = get_or s.words 0 0 in
      let w = noting call effect n v in
      let above : call < n = drawn_below n s.views id v call a at drew in
      let l = r.1.logged in
      let log = r.1.log in
      let is = known_is log v knows (at_place (λ h. Knows log h.log) s.views id v at l.known) in (
        w,
        keeps,
        tt,
        kept s.words n (set s.views id w) r.0.0 (account_same n s.views id v w a at refl refl)
            (record {
              log = log ++ note_at call effect n ∷ [];
              logged = logged_noted n log s.views id v call effect l at knows (contains_some v.drawn call drew) above;
              nodes = beside_known setup _ _ s.views r.1.nodes id v w (log ++ note_at call effect n ∷ []) at (ap knowers knows) refl refl;
            }),
        ((refl, above, subst (All (λ (m : Note). m.look ≤ n)) (sym is) (looks_within 0 log n l.rise)), refl),
      )

  -- if a pass has the whole budget, no other has drawn a ticket
  pub others_idle : (next : ℕ) (views : List Holding) (i : ℕ) (v : Holding) → IsAccount setup.budget next views → get_elem? views i ≡ some v
      → whole_of v ≡ setup.budget → All (λ h. h.drawn ≡ []) (set views i (holding 0 [] []))
  others_idle next views i v a at whole =
      let none = holding 0 [] [] in
      let shares = shares-set views i v none at in
      let is = a.shared_out in
      none_drawn (set views i none) (omega arith)
    where
      none_drawn : (hs : List Holding) → sum_by whole_of hs ≡ 0 → All (λ h. h.drawn ≡ []) hs
      none_drawn [] e = All-nil (λ (h : Holding). h.drawn ≡ [])
      none_drawn (h ∷ hs) e = let split = sum_by-cons whole_of h hs in
          All-cons (λ (g : Holding). g.drawn ≡ []) h hs (nothing h.drawn (omega arith)) (none_drawn hs (omega arith))

  -- the pass with the whole budget and the log has noted all of it
  pub settles : (id : ℕ) (v : Holding) (words : List ℕ) (slots : List (Unit {0})) (next : ℕ) → whole_of v ≡ setup.budget → knows_log v
      → Final (Seen (KeepsAccount setup) id v) words slots → get_elem? words 0 ≡ some next
      → IsPermutation v.noted (known_log v.log) × LooksRise 0 (known_log v.log) next
  settles id v words slots next whole knows f found =
      let s = f.0 in
      let at = f.1.1 in
      let n : ℕ = get_or s.words 0 0 in
      let last : n ≡ next = ap (λ (l : List ℕ). get_or l 0 0) f.2 ∙ first_word words next found in
      subst (λ (m : ℕ). IsPermutation v.noted (known_log v.log) × LooksRise 0 (known_log v.log) m) last
      (logged_whole n f.1.0.1.log s.views id v f.1.0.1.logged at knows (others_idle n s.views id v f.1.0.0.1 at whole))

-- the share of two joined passes is the sum of their shares
pub whole_of-put_together : (v w : Holding) → whole_of (put_together v w) ≡ whole_of v + whole_of w
whole_of-put_together v w =
    let long = length_permutation (v.drawn ++ w.drawn) (merged v.drawn w.drawn) (IsPermutation-merged v.drawn w.drawn) in
    let sum = length-append v.drawn w.drawn in
    omega arith

-- without nodes the first pass knows the log
pub first_plain : (setup : Setup) → setup.has_ring ≡ false → setup.is_shared ≡ false → first_of setup ≡ with_known setup
first_plain setup none unshared =
    ap (λ (b : Bool). if b then with_both setup else (if setup.is_shared then holding setup.budget [] [] else with_known setup)) none
    ∙ ap (λ (b : Bool). if b then holding setup.budget [] [] else with_known setup) unshared

pub first_knows : (v : Holding) (setup : Setup) → setup.has_ring ≡ false → setup.is_shared ≡ false → v ≡ first_of setup → knows_log v
first_knows v setup none unshared is = subst knows_log (sym (is ∙ first_plain setup none unshared)) refl

-- a pass knows the log after a note in it
pub noted_knows : (v w : Holding) (call : ℕ) (effect : Effect) (look : ℕ) → w ≡ noting call effect look v → knows_log w
noted_knows v w call effect look is = subst knows_log (sym is) refl
