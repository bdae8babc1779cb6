-- A covered window has its chosen cover, and no cover is shorter.
use Rattle.empty_witness.proofs.Common.{[], All, All-append, All-contains, All-weaker, ap, arith, call_before_return}
use Rattle.empty_witness.proofs.Common.{call_or_never, cases_lt, cases_order, clear_on, Contains}
use Rattle.empty_witness.proofs.Common.{Contains-append_cases, Contains-append_right, contains_cons, Course, course}
use Rattle.empty_witness.proofs.Common.{Covers, CoversFrom, Dequeue, dequeue_call, dequeue_of, dequeued_if_called, Did}
use Rattle.empty_witness.proofs.Common.{drop, DequeueEmpty, Enqueue, enqueue_of, enqueue_return, EntersBefore}
use Rattle.empty_witness.proofs.Common.{FindsLongest}
use Rattle.empty_witness.proofs.Common.{HoldsValues, initial_enqueues, inl, inr, IsChosenCover, IsChosenCoverFrom}
use Rattle.empty_witness.proofs.Common.{IsClear, IsCovered, IsLife, IsLongestOf, IsNextOfCover, IsSome}
use Rattle.empty_witness.proofs.Common.{IsWitnessViolation, le-ltb, length, Life, life_is_contained, life_of_contained}
use Rattle.empty_witness.proofs.Common.{life_value, List, lives_of, lt-ltb, MatchBool-at_false, MatchBool-at_true}
use Rattle.empty_witness.proofs.Common.{MatchedValue, MatchOption, MatchOption-at_some, NamesChosenCover, NEVER}
use Rattle.empty_witness.proofs.Common.{no_enqueue, None, NoneDid, not_in_none, on, one_deeper, one_more_zipped}
use Rattle.empty_witness.proofs.Common.{Operation, Option, refl, return_differs_from_call, return_in_range}
use Rattle.empty_witness.proofs.Common.{rules, Some, StaysAtLeast, subst, suc, sym, take, take-append-drop, timed}
use Rattle.empty_witness.proofs.Common.{timeline, value_lives, zero, ℕ, ◌++◌, ◌+◌, ◌<◌, ◌∷◌, ◌≡◌, ◌≢◌, ◌≤◌, ◌⊎◌}
use Rattle.std.proofs.Common.{append_assoc}
use Rattle.value_match.proofs.Fronts.{stays_as_itself, stays_through}
use Rattle.history_merge.specs.Complete.{AreComplete}
use Rattle.value_match.specs.declared.violation.CoverStep.{CoverStep}
use Rattle.value_match.proofs.HistoryPlaces.{clear_life}
use Rattle.value_match.specs.Outcome.{IsNamed, NamesCover}

stays_at_least_one : (x y : Life) → StaysAtLeast x y ⊎ StaysAtLeast y x
stays_at_least_one x y = elim (cases_order (dequeue_call x) (dequeue_call y)) [
  | inr (inl shorter) ↦ inr (omega arith, λ same. absurd (omega arith))
  | inr (inr longer) ↦ inl (omega arith, λ same. absurd (omega arith))
  | inl same ↦ elim (cases_lt (enqueue_return x) (enqueue_return y)) [ inl first ↦ inl (omega arith, λ _. omega arith) | inr last ↦ inr (omega arith, λ _. last) ]
]

-- the value that stays longest among those whose enqueue returned before the frontier
record IsLongestBefore (lives : List Life) (frontier : ℕ) (life : Life) : Type 0 where
  among : Contains lives life
  before_frontier : enqueue_return life < frontier
  longest : (other : Life) → Contains lives other → enqueue_return other < frontier → StaysAtLeast life other

longest_of : (lives : List Life) (frontier : ℕ) → ((life : Life) × IsLongestBefore lives frontier life)
    ⊎ ((other : Life) → Contains lives other → frontier ≤ enqueue_return other)
longest_of [] frontier = inr (λ other among. absurd (not_in_none other among))
longest_of (x ∷ lives) frontier = join (longest_of lives frontier) (cases_lt (enqueue_return x) frontier)
  where
    longer : (w : Life) → Contains (x ∷ lives) w → enqueue_return w < frontier
        → (enqueue_return x < frontier → StaysAtLeast w x)
        → ((other : Life) → Contains lives other → enqueue_return other < frontier → StaysAtLeast w other)
        → IsLongestBefore (x ∷ lives) frontier w
    longer w among before first later = record {
      among = among;
      before_frontier = before;
      longest = λ other there before'. elim (contains_cons x lives other there) [
        | inl same ↦ subst (StaysAtLeast w) same (first (subst (λ y. enqueue_return y < frontier) (sym same) before'))
        | inr behind ↦ later other behind before'
      ];
    }

    join : ((life : Life) × IsLongestBefore lives frontier life)
        ⊎ ((other : Life) → Contains lives other → frontier ≤ enqueue_return other)
        → (enqueue_return x < frontier) ⊎ (frontier ≤ enqueue_return x)
        → ((life : Life) × IsLongestBefore (x ∷ lives) frontier life)
        ⊎ ((other : Life) → Contains (x ∷ lives) other → frontier ≤ enqueue_return other)
    join (inl (w, is)) (inl before) = elim (stays_at_least_one w x) [
      | inl more ↦ inl (w, longer w (one_deeper x lives w is.among) is.before_frontier (λ _. more) is.longest)
      | inr less ↦ inl (
        x,
        longer x (zero, omega arith, refl) before (λ _. stays_as_itself x)
            (λ other among before'. stays_through x w other less (is.longest other among before')),
      )
    ]
    join (inl (w, is)) (inr after) =
        inl (w, longer w (one_deeper x lives w is.among) is.before_frontier (λ before. absurd (omega arith)) is.longest)
    join (inr none) (inl before) = inl (
      x,
      longer x (zero, omega arith, refl) before (λ _. stays_as_itself x)
          (λ other among before'. absurd (omega (arith, none other among))),
    )
    join (inr none) (inr after) = inr (λ other among. elim (contains_cons x lives other among) [
      | inl same ↦ subst (λ y. frontier ≤ enqueue_return y) same after
      | inr later ↦ none other later
    ])

-- if some value was enqueued before the frontier, one of them is next in the cover
next_of_cover : (operations : List Operation) (frontier : ℕ) (some : Life) → IsClear (on operations)
    → IsLife (on operations) some
    → enqueue_return some < frontier → (life : Life) × IsNextOfCover (on operations) frontier life
next_of_cover operations frontier some clear is before = elim (longest_of (lives_of operations) frontier) [
  | inl found ↦ (
    found.0,
    record {
      is_life = life_of_contained operations found.0 found.1.among;
      before_frontier = found.1.before_frontier;
      longest = λ other is_other before'. found.1.longest other (life_is_contained operations other clear is_other) before';
    },
  )
  | inr none ↦ let late = none some (life_is_contained operations some clear is) in absurd (omega arith)
]

-- a cover that continues after its first value
go_on : (h : Course) (empty : Operation) (frontier : ℕ) (life : Life) (rest : List Life) → IsLife h life
    → enqueue_return life < frontier → dequeue_call life < NEVER → CoversFrom h empty (dequeue_call life) rest
    → CoversFrom h empty frontier (life ∷ rest)
go_on h empty frontier life [] is enters dequeued covers = absurd covers
go_on h empty frontier life (next ∷ rest) is enters dequeued covers = (is, enters, dequeued, covers)

-- the chosen cover is a violation
chosen_covers : (h : Course) (empty : Operation) (frontier : ℕ) (cover : List Life) → empty.ret < NEVER
    → IsChosenCoverFrom h empty frontier cover → CoversFrom h empty frontier cover
chosen_covers h empty frontier [] in_range chosen = absurd chosen
chosen_covers h empty frontier (life ∷ rest) in_range chosen = elim (cases_lt empty.ret (dequeue_call life)) [
  | inl past ↦
      let ends = MatchBool-at_true (rest ≡ []) (IsChosenCoverFrom h empty (dequeue_call life) rest) (lt-ltb _ _ past) chosen.1 in
      subst (λ r. CoversFrom h empty frontier (life ∷ r)) (sym ends) (chosen.0.is_life, chosen.0.before_frontier, past)
  | inr leaves ↦
      let further = MatchBool-at_false (rest ≡ []) (IsChosenCoverFrom h empty (dequeue_call life) rest) (le-ltb _ _ leaves) chosen.1 in
      go_on h empty frontier life rest chosen.0.is_life chosen.0.before_frontier (omega arith)
      (chosen_covers h empty (dequeue_call life) rest in_range further)
]

-- a chosen cover is a witness violation
pub chosen_cover_violates : (operations : List Operation) (empty : Operation) (cover : List Life)
    → IsClear (on operations) → Did operations empty DequeueEmpty
    → IsChosenCover (on operations) empty cover → IsWitnessViolation (on operations) empty cover
chosen_cover_violates operations empty cover clear did chosen =
    let range = return_in_range operations empty clear.complete did.0 in
    record { answers_empty = did; covers = chosen_covers (on operations) empty empty.call cover (omega arith) chosen }

-- the chosen cover from an operation on, at most `left` tickets before the empty dequeue returns
cover_from : (left : ℕ) (operations : List Operation) (empty before : Operation) → IsClear (on operations)
    → Did operations empty DequeueEmpty
    → IsCovered (on operations) empty → Contains operations before → ((v : ℕ) → before.kind ≢ Enqueue v)
    → empty.call ≤ before.call → before.call < empty.ret
    → empty.ret ≤ before.call + left → (cover : List Life) × IsChosenCoverFrom (on operations) empty before.call cover
cover_from zero operations empty before clear did covered among other above below left = absurd (omega arith)
cover_from (suc left) operations empty before clear did covered among other above below near =
    let z = covered before.call (above, below) in
    let differs = return_differs_from_call operations (enqueue_of z.0) before clear.complete z.1.1.0 among other in
    let entered : enqueue_return z.0 < before.call = omega (arith, z.2.0) in
    let next = next_of_cover operations before.call z.0 clear z.1 entered in
    let past : before.call < dequeue_call next.0 = omega (arith, (next.1.longest z.0 z.1 entered).0, z.2.1) in
    elim (cases_lt empty.ret (dequeue_call next.0)) [
      | inl stays ↦ (next.0 ∷ [], (next.1, rw (lt-ltb empty.ret (dequeue_call next.0) stays) refl))
      | inr leaves ↦
          let found = dequeued_if_called next.0 (omega (arith, return_in_range operations empty clear.complete did.0)) in
          let calls : dequeue_call next.0 ≡ found.0.call = ap call_or_never found.1 in
          let did_d = MatchOption-at_some (NoneDid operations (Dequeue next.1.is_life.0)) (λ d. Did operations d (Dequeue next.1.is_life.0)) found.0 found.1
          next.1.is_life.2 in
          let own = no_enqueue found.0 (Dequeue next.1.is_life.0) did_d.1 refl in
          let apart = return_differs_from_call operations empty found.0 clear.complete did.0 did_d.0 own in
          let rest = cover_from left operations empty found.0 clear did covered did_d.0 own (omega arith) (omega arith) (omega arith) in
          (next.0 ∷ rest.0, (next.1, rw (le-ltb empty.ret (dequeue_call next.0) leaves) (subst (λ c. IsChosenCoverFrom (on operations) empty c rest.0) (sym calls) rest.1)))
    ]

-- a covered empty dequeue has a chosen cover, which is a violation
pub chosen_cover : (operations : List Operation) (empty : Operation) → IsClear (on operations)
    → Did operations empty DequeueEmpty → IsCovered (on operations) empty
    → (cover : List Life) × IsChosenCover (on operations) empty cover × IsWitnessViolation (on operations) empty cover
chosen_cover operations empty clear did covered =
    let other = no_enqueue empty DequeueEmpty did.1 refl in
    let less = call_before_return operations empty clear.complete did.0 other in
    let cover = cover_from empty.ret operations empty empty clear did covered did.0 other (omega arith) less (omega arith) in
    (cover.0, cover.1, chosen_cover_violates operations empty cover.0 clear did cover.1)

-- at each gap from the frontier to the empty dequeue's return, some value of the cover is definitely in the queue
covered_by : (h : Course) (empty : Operation) (frontier : ℕ) (cover : List Life) (c : ℕ)
    → CoversFrom h empty frontier cover
    → frontier ≤ c → c < empty.ret → (life : Life) × IsLife h life × Covers life c
covered_by h empty frontier [] c covers above below = absurd covers
covered_by h empty frontier (life ∷ []) c covers above below = (life, covers.0, (omega (arith, covers.1), omega (arith, covers.2)))
covered_by h empty frontier (life ∷ next ∷ rest) c covers above below = elim (cases_lt c (dequeue_call life)) [
  | inl here ↦ (life, covers.0, (omega (arith, covers.1), here))
  | inr later ↦ covered_by h empty (dequeue_call life) (next ∷ rest) c covers.3 later below
]

-- a witness violation covers its empty dequeue
pub violation_covers : (h : Course) (empty : Operation) (cover : List Life) → IsWitnessViolation h empty cover
    → IsCovered h empty
violation_covers h empty cover violation c window =
    covered_by h empty empty.call cover c violation.covers window.0 window.1

-- a cover that begins no later than the chosen one has no fewer values
no_shorter : (h : Course) (empty : Operation) (from frontier : ℕ) (cover other : List Life)
    → IsChosenCoverFrom h empty frontier cover → CoversFrom h empty from other → from ≤ frontier
    → length cover ≤ length other
no_shorter h empty from frontier [] other chosen covers le = absurd chosen
no_shorter h empty from frontier (x ∷ xs) [] chosen covers le = absurd covers
no_shorter h empty from frontier (x ∷ xs) (y ∷ []) chosen covers le =
    let stays = chosen.0.longest y covers.0 (omega (arith, covers.1)) in
    let past : empty.ret < dequeue_call x = omega (arith, stays.0, covers.2) in
    let ends = MatchBool-at_true (xs ≡ []) (IsChosenCoverFrom h empty (dequeue_call x) xs) (lt-ltb _ _ past) chosen.1 in
    let long : length xs ≡ 0 = ap length ends in
    omega arith
no_shorter h empty from frontier (x ∷ xs) (y ∷ next ∷ ys) chosen covers le =
    let stays = chosen.0.longest y covers.0 (omega (arith, covers.1)) in
    elim (cases_lt empty.ret (dequeue_call x)) [
      | inl past ↦
          let ends = MatchBool-at_true (xs ≡ []) (IsChosenCoverFrom h empty (dequeue_call x) xs) (lt-ltb _ _ past) chosen.1 in
          let long : length xs ≡ 0 = ap length ends in
          omega arith
      | inr leaves ↦
          let further = MatchBool-at_false (xs ≡ []) (IsChosenCoverFrom h empty (dequeue_call x) xs) (le-ltb _ _ leaves) chosen.1 in
          let rest = no_shorter h empty (dequeue_call y) (dequeue_call x) xs (next ∷ ys) further covers.3 stays.0 in
          omega arith
    ]

-- no cover is shorter than the chosen one
pub chosen_cover_is_shortest : (h : Course) (empty : Operation) (cover other : List Life)
    → IsChosenCover h empty cover → IsWitnessViolation h empty other → length cover ≤ length other
chosen_cover_is_shortest h empty cover other chosen violation =
    no_shorter h empty empty.call empty.call cover other chosen violation.covers (omega arith)

-- ---- the walk along the chosen cover, from the call of an empty dequeue to its return

-- the steps taken so far name values of the chosen cover, which goes on from the frontier
pub record IsCoverSoFar (initial : List ℕ) (operations : List Operation) (o : Operation) (steps : List CoverStep)
    (frontier : ℕ) : Type 0 where
  pub lives : List Life
  pub named : NamesCover initial operations steps lives
  pub past_call : o.call ≤ frontier
  pub no_return : (x : Operation) → Contains (timeline initial operations) x → x.ret ≢ frontier
  pub goes_on : frontier < o.ret → (rest : List Life) → IsChosenCoverFrom (course initial operations) o frontier rest
      → IsChosenCover (course initial operations) o (lives ++ rest)
  pub ends : o.ret < frontier → IsChosenCover (course initial operations) o lives

-- no operation returns when a value's dequeue is called, or at `NEVER`
no_return_at : (operations : List Operation) (v : ℕ) (dequeue : Option Operation) → AreComplete operations
    → MatchOption dequeue (NoneDid operations (Dequeue v)) (λ d. Did operations d (Dequeue v))
    → (x : Operation) → Contains operations x → x.ret ≢ call_or_never dequeue
no_return_at operations v None complete none x among same = let range = return_in_range operations x complete among in omega arith
no_return_at operations v (Some d) complete did x among same = return_differs_from_call operations x d complete among did.0 (no_enqueue d (Dequeue v) did.1 refl) same

module _ (initial : List ℕ) (operations : List Operation) (values : List MatchedValue) (o : Operation) (clear : IsClear (course initial operations))
    (holds : HoldsValues (record { initial = initial; operations = operations }) values) (is_empty : Did (timed operations) o DequeueEmpty)
    (covered : IsCovered (course initial operations) o) where
  abbrev all : List Operation
  all = timeline initial operations

  complete : AreComplete all
  complete = (clear_on initial operations clear).complete

  empty_there : Did all o DequeueEmpty
  empty_there = (Contains-append_right (initial_enqueues initial) (timed operations) o is_empty.0, is_empty.1)

  -- no step is taken yet
  pub no_steps_yet : IsCoverSoFar initial operations o [] o.call
  no_steps_yet = record {
    lives = [];
    named = search rules;
    past_call = omega arith;
    no_return = λ x among. return_differs_from_call all x o complete among empty_there.0 (no_enqueue o DequeueEmpty empty_there.1 refl);
    goes_on = λ below rest chosen. chosen;
    ends = λ past. let less = call_before_return all o complete empty_there.0 (no_enqueue o DequeueEmpty empty_there.1 refl) in absurd (omega arith);
  }

  -- a value that covers the gap at the frontier was enqueued before it
  entered_before : (steps : List CoverStep) (frontier : ℕ) → IsCoverSoFar initial operations o steps frontier
      → frontier < o.ret
      → (value : MatchedValue) × Contains values value × EntersBefore frontier value.life
      × (frontier < dequeue_call value.life)
  entered_before steps frontier so_far below =
      let life = covered frontier (so_far.past_call, below) in
      let value = life_value initial operations clear values holds life.0 life.1 in
      let differs = so_far.no_return (enqueue_of life.0) (clear_life initial operations clear life.0 life.1).1.0 in
      let entered : EntersBefore frontier life.0 = omega (arith, life.2.0) in
      (value.0, value.1, subst (EntersBefore frontier) (sym value.2) entered, subst (λ l. frontier < dequeue_call l) (sym value.2) life.2.1)

  -- so a next value is found
  pub next_is_found : (steps : List CoverStep) (frontier : ℕ) (found : Option MatchedValue)
      → IsCoverSoFar initial operations o steps frontier
      → frontier < o.ret → FindsLongest (EntersBefore frontier) values found → IsSome found
  next_is_found steps frontier None so_far below none =
      let value = entered_before steps frontier so_far below in
      absurd (All-contains (λ value. ¬ (EntersBefore frontier value.life)) values value.0 none value.1 value.2)
  next_is_found steps frontier (Some value) so_far below is = search rules

  -- the longest of the values that aren't gone by the call is the longest of all
  pub longest_of_all : (n : ℕ) (steps : List CoverStep) (frontier : ℕ) (found : Option MatchedValue)
      → All (λ value. dequeue_call value.life ≤ o.call) (take n values)
      → IsCoverSoFar initial operations o steps frontier → frontier < o.ret
      → FindsLongest (EntersBefore frontier) (drop n values) found → FindsLongest (EntersBefore frontier) values found
  longest_of_all n steps frontier found gone so_far below finds = go found finds
    where
      whole : take n values ++ (drop n values) ≡ values
      whole = take-append-drop n values

      z : (value : MatchedValue) × Contains values value × EntersBefore frontier value.life
          × (frontier < dequeue_call value.life)
      z = entered_before steps frontier so_far below

      left : Contains (drop n values) z.0
      left = elim (Contains-append_cases (take n values) (drop n values) z.0 (subst (λ xs. Contains xs z.0) (sym whole) z.1)) [
        | inl early ↦
            let leaves = All-contains (λ (value : MatchedValue). dequeue_call value.life ≤ o.call) (take n values) z.0 gone early in
            absurd (omega (arith, leaves, z.3, so_far.past_call))
        | inr late ↦ late
      ]

      go : (found : Option MatchedValue) → FindsLongest (EntersBefore frontier) (drop n values) found
          → FindsLongest (EntersBefore frontier) values found
      go None none = absurd (All-contains (λ value. ¬ (EntersBefore frontier value.life)) (drop n values) z.0 none left z.2)
      go (Some w) is = record {
        among = subst (λ xs. Contains xs w) whole (Contains-append_right (take n values) (drop n values) w is.among);
        passes = is.passes;
        longest = subst (All (λ other. EntersBefore frontier other.life → StaysAtLeast w.life other.life)) whole
            (All-append (λ other. EntersBefore frontier other.life → StaysAtLeast w.life other.life) (take n values) (drop n values) early is.longest);
      }
        where
          past : frontier < dequeue_call w.life
          past = let stays = All-contains (λ other. EntersBefore frontier other.life → StaysAtLeast w.life other.life) (drop n values) z.0 is.longest left z.2 in
              omega (arith, stays.0, z.3)

          early : All (λ other. EntersBefore frontier other.life → StaysAtLeast w.life other.life) (take n values)
          early = All-weaker (λ (value : MatchedValue). dequeue_call value.life ≤ o.call)
              (λ other. EntersBefore frontier other.life → StaysAtLeast w.life other.life)
              (λ value leaves entered. (omega (arith, leaves, past, so_far.past_call), λ same. absurd (omega (arith, leaves, past, so_far.past_call, same))))
              (take n values) gone

  is_next : (frontier : ℕ) (value : MatchedValue) → IsLongestOf (EntersBefore frontier) values value
      → IsNextOfCover (course initial operations) frontier value.life
  is_next frontier value is = record {
    is_life = value_lives initial operations clear values holds value is.among;
    before_frontier = is.passes;
    longest = λ other is_other before.
        let held = life_value initial operations clear values holds other is_other in
        subst (StaysAtLeast value.life) held.2
        (All-contains (λ other. EntersBefore frontier other.life → StaysAtLeast value.life other.life) values held.0 is.longest held.1
        (subst (EntersBefore frontier) (sym held.2) before));
  }

  -- the next value stays past the frontier
  pub frontier_rises : (steps : List CoverStep) (frontier : ℕ) (value : MatchedValue)
      → IsCoverSoFar initial operations o steps frontier → frontier < o.ret
      → IsLongestOf (EntersBefore frontier) values value → frontier < dequeue_call value.life
  frontier_rises steps frontier value so_far below is =
      let other = entered_before steps frontier so_far below in
      let stays = All-contains (λ other. EntersBefore frontier other.life → StaysAtLeast value.life other.life) values other.0 is.longest other.1 other.2 in
      omega (arith, stays.0, other.3)

  -- one more step, with the next value
  pub one_more_step : (steps : List CoverStep) (frontier : ℕ) (value : MatchedValue)
      → IsCoverSoFar initial operations o steps frontier → frontier < o.ret
      → IsLongestOf (EntersBefore frontier) values value
      → IsCoverSoFar initial operations o
      (steps ++ (record { source = value.source; dequeue = value.dequeue }) ∷ []) (dequeue_call value.life)
  one_more_step steps frontier value so_far below is = record {
    lives = so_far.lives ++ value.life ∷ [];
    named = one_more_zipped (λ (step : CoverStep) life. IsNamed initial operations step.source step.dequeue life) steps so_far.lives
        (record { source = value.source; dequeue = value.dequeue }) value.life so_far.named
        (All-contains (λ (m : MatchedValue). IsNamed initial operations m.source m.dequeue m.life) values value holds.named is.among);
    past_call = let rises = frontier_rises steps frontier value so_far below is in omega (arith, so_far.past_call);
    no_return = let there = clear_life initial operations clear value.life is_life in no_return_at all there.0 (dequeue_of value.life) complete there.2;
    goes_on = λ below' rest chosen.
        subst (IsChosenCover (course initial operations) o) (sym (append_assoc so_far.lives (value.life ∷ []) rest))
        (so_far.goes_on below (value.life ∷ rest) (next, rw (le-ltb o.ret (dequeue_call value.life) (omega arith)) chosen));
    ends = λ past. so_far.goes_on below (value.life ∷ []) (next, rw (lt-ltb o.ret (dequeue_call value.life) past) refl);
  }
    where
      is_life : IsLife (course initial operations) value.life
      is_life = value_lives initial operations clear values holds value is.among

      next : IsNextOfCover (course initial operations) frontier value.life
      next = is_next frontier value is

  -- past the return the cover is complete
  pub cover_is_whole : (steps : List CoverStep) (frontier : ℕ) → IsCoverSoFar initial operations o steps frontier
      → o.ret ≤ frontier
      → NamesChosenCover initial operations o steps
  cover_is_whole steps frontier so_far past =
      let differs = so_far.no_return o empty_there.0 in
      let ended = so_far.ends (omega arith) in
      let in_range = return_in_range all o complete empty_there.0 in (
        so_far.lives,
        so_far.named,
        ended,
        record { answers_empty = is_empty; covers = chosen_covers (course initial operations) o o.call so_far.lives (omega (arith, in_range)) ended },
      )

-- the value that was found is the longest of those enqueued before the frontier
pub found_longest : (values : List MatchedValue) (frontier : ℕ) (found : Option MatchedValue) (value : MatchedValue)
    → FindsLongest (EntersBefore frontier) values found → found ≡ Some value
    → IsLongestOf (EntersBefore frontier) values value
found_longest values frontier None value finds same = cc
found_longest values frontier (Some other) value finds same = let one : other ≡ value = cc in subst (IsLongestOf (EntersBefore frontier) values) one finds
