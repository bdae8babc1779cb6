-- From workers that made their rows to the events of a run.
use Rattle.std.proofs.Common.{◌≡◌, ℕ, zero, suc, ◌*◌, ◌<◌, List, [], ◌∷◌, ◌++◌, length, map, All, sum_by, flat_map, get_or, IsPermutation, Contains}
use Rattle.std.proofs.Common.{Option, Some, None, IfSome, inl, inr, true, false, refl, ap, sym, subst, ◌∙◌, arith}
use Rattle.std.proofs.lemmas.List.{map-append, length-map, get_or_default}
use Rattle.std.proofs.lemmas.List.Concat.{length-flat_map}
use Rattle.std.proofs.lemmas.List.FromFn.{length-range_with_len}
use Rattle.std.proofs.lemmas.List.Sums.{sum_by-cons}
use Rattle.std.proofs.lemmas.List.Sorted.{length_permutation}
use Rattle.std.proofs.lemmas.Slice.Zip.{AllZip-long}
use Rattle.std.specs.List.{AllZip}
use Rattle.std.specs.List.Sorted.{IsStrictlyIncreasing}
use Rattle.atomic_table.specs.Seated.{TableId}
use Rattle.tickets.specs.Views.{PassView, fresh_pass, share_of, numbers_below}
use Rattle.event_records.specs.Question.{Question}
use Rattle.event_records.specs.declared.kind.Kind.{Kind}
use Rattle.event_records.specs.declared.kind.Kind.TheVariants.{Enq, Deq}
use Rattle.event_records.specs.declared.kind.Answer.{Answer}
use Rattle.event_records.specs.declared.event.Event.{Event}
use Rattle.event_rings.specs.Ring.{TokenView}
use Rattle.workloads.specs.Plans.{IsPlan}
use Rattle.stress_run.specs.Ends.{EndsView, end_for}
use Rattle.stress_run.specs.Operations.{Operates, IsRun, ticket_of}
use Rattle.stress_run.specs.Workers.{WorkerView, Works, WorksIn, row_of}
use Rattle.stress_run.specs.Inner.Workers.{IsReadyIn}
use Rattle.stress_run.specs.Crew.{SizesView, IsNew, IsCrew, IsNotAfterStall, IsFaultOfWorker, token_of}
use Rattle.stress_run.specs.Inner.Crew.{AreClosed, HasItsEnds, IsFaultOfClosing, Stands, end_of}
use Rattle.stress_run.specs.Failed.{IsFaultAfter, IsFaultOfRun, Overflows}
use Rattle.stress_run.specs.Faults.{IsWithinLimits}
use Rattle.stress_run.specs.declared.faults.RunFault.{RunFault}
use Rattle.stress_run.specs.declared.faults.RunFault.TheVariants.{Limit, Roles, Memory, Stalled, CloseLost, Uncertified, Preload}
use Rattle.stress_run.proofs.Composed.{stays, runs, overflows}
use Rattle.collector.specs.Ends.{rings_of}
use Rattle.collector.specs.Inner.Ends.{rings_of_tokens}
use Rattle.stress_run.proofs.Places.{IsAt, zip_at, zip_of, map_at, numbered_at}

-- a worker that has made all operations of its row
pub record IsDone (row : List Kind) (a : WorkerView) : Type 0 where
  pub left : a.pass.left ≡ 0
  pub size : length a.pass.drawn ≡ 2 * length row
  pub drawn : a.pass.drawn ≡ map ticket_of a.sent

lefts : (rows : List (List Kind)) (after : List WorkerView) → AllZip IsDone rows after → sum_by (λ a. a.pass.left) after ≡ 0
lefts [] [] z = refl
lefts [] (a ∷ rest) z = absurd z
lefts (r ∷ rs) [] z = absurd z
lefts (r ∷ rs) (a ∷ rest) z = let one = sum_by-cons (λ (w : WorkerView). w.pass.left) a rest in let more = lefts rs rest z.1 in let none = z.0.left in
    omega (arith, one, more, none)

all_sizes : (rows : List (List Kind)) (after : List WorkerView) → AllZip IsDone rows after → sum_by (λ a. length a.pass.drawn) after ≡ 2 * sum_by length rows
all_sizes [] [] z = refl
all_sizes [] (a ∷ rest) z = absurd z
all_sizes (r ∷ rs) [] z = absurd z
all_sizes (r ∷ rs) (a ∷ rest) z =
    let one = sum_by-cons (λ (w : WorkerView). length w.pass.drawn) a rest in
    let row = sum_by-cons length r rs in
    let more = all_sizes rs rest z.1 in
    let all = z.0.size in
    omega (arith, one, row, more, all)

tickets_of : (rows : List (List Kind)) (after : List WorkerView) → AllZip IsDone rows after
    → flat_map (λ a. a.pass.drawn) after ≡ map ticket_of (flat_map (λ list. list) (map (λ a. a.sent) after))
tickets_of [] [] z = refl
tickets_of [] (a ∷ rest) z = absurd z
tickets_of (r ∷ rs) [] z = absurd z
tickets_of (r ∷ rs) (a ∷ rest) z =
    ap (λ l. l ++ flat_map (λ (w : WorkerView). w.pass.drawn) rest) z.0.drawn
    ∙ ap (λ l. map ticket_of a.sent ++ l) (tickets_of rs rest z.1)
    ∙ sym (map-append ticket_of a.sent (flat_map (λ list. list) (map (λ (w : WorkerView). w.sent) rest)))

same_rings : (workers after : List WorkerView) → AllZip (λ w a. (a.ring ≡ w.ring) × (a.thread ≡ w.thread)) workers after
    → rings_of_tokens (map token_of after) ≡ rings_of (map end_of workers)
same_rings [] [] z = refl
same_rings [] (a ∷ rest) z = absurd z
same_rings (w ∷ ws) [] z = absurd z
same_rings (w ∷ ws) (a ∷ rest) z = pairs a.ring w.ring a.thread w.thread _ _ z.0.0 z.0.1 (same_rings ws rest z.1)
  where
    pairs : {X Y : Type 0} (x x' : X) (y y' : Y) (xs xs' : List (X × Y)) → x ≡ x' → y ≡ y' → xs ≡ xs' → (x, y) ∷ xs ≡ (x', y') ∷ xs'
    pairs x x' y y' xs xs' p q r = cc

same_threads : (workers after : List WorkerView) → AllZip (λ w a. (a.ring ≡ w.ring) × (a.thread ≡ w.thread)) workers after
    → map (λ t. t.thread) (map token_of after) ≡ map (λ w. w.thread) workers
same_threads [] [] z = refl
same_threads [] (a ∷ rest) z = absurd z
same_threads (w ∷ ws) [] z = absurd z
same_threads (w ∷ ws) (a ∷ rest) z = ap (λ n. n ∷ map (λ (t : TokenView). t.thread) (map token_of rest)) z.0.1
    ∙ ap (λ l. w.thread ∷ l) (same_threads ws rest z.1)

sent_of : (after : List WorkerView) → map (λ token. token.sent) (map token_of after) ≡ map (λ a. a.sent) after
sent_of [] = refl
sent_of (a ∷ rest) = ap (λ l. a.sent ∷ l) (sent_of rest)

ends_threads : (workers : List WorkerView) → map (λ e. e.thread) (map end_of workers) ≡ map (λ w. w.thread) workers
ends_threads [] = refl
ends_threads (w ∷ ws) = ap (λ l. w.thread ∷ l) (ends_threads ws)

-- rings that were not drained have given nothing
pub ends_fresh : (workers : List WorkerView) → All (λ e. e.received ≡ []) (map end_of workers)
ends_fresh [] k d h = absurd (omega (arith, h))
ends_fresh (w ∷ ws) zero d h = refl
ends_fresh (w ∷ ws) (suc k) d h = ends_fresh ws k d (omega (arith, h))

-- if both ends serve, that of each kind of operation does
both_serve : (serves : Option TableId → Type 0) (ends : EndsView) → serves ends.tail × serves ends.head → (kind : Kind) → serves (end_for kind ends)
both_serve serves ends both Enq = both.0
both_serve serves ends both Deq = both.1

module _ (key : TableId) (sizes : SizesView) (rows : List (List Kind)) (workers : List WorkerView) (crew : IsCrew key sizes rows workers) where
  -- there are as many workers as rows
  pub crew_long : length workers ≡ length rows
  crew_long = AllZip-long (IsNew key sizes) rows workers crew.each

  -- the drain ends are in the order of their threads
  pub in_order : map (λ e. e.thread) (map end_of workers) ≡ numbers_below (length (map end_of workers))
  in_order = ends_threads workers ∙ crew.threads ∙ ap numbers_below (sym (length-map workers end_of ∙ crew_long))

  -- the row, the worker and its thread at a place
  record Place (t : ℕ) (w : WorkerView) : Type 0 where
    pub row : List Kind
    pub at_row : IsAt rows t row
    pub new : IsNew key sizes row w
    pub thread : w.thread ≡ t
    pub row_is : row_of rows w ≡ row

  place : (t : ℕ) (w : WorkerView) → t < length rows → IsAt workers t w → Place t w
  place t w h at =
      let z = zip_at (IsNew key sizes) rows workers t crew.each h in
      let same : z.1 ≡ w = sym (z.3 w) ∙ at w in
      let long = crew_long in
      let inside : t < length workers = omega (arith, h, long) in
      let number = numbered_at (λ (v : WorkerView). v.thread) workers (length rows) t w crew.threads h inside at in
      record { row = z.0; at_row = z.2; new = subst (IsNew key sizes z.0) same z.4; thread = number; row_is = ap (λ n. get_or rows n []) number ∙ z.2 [] }

  -- the workers of a plan are ready for its rows, if each has its ends and these serve
  pub ready : IsPlan rows → (serves : Option TableId → Type 0) (ends : EndsView) → serves ends.tail × serves ends.head
      → AllZip (HasItsEnds ends) rows workers → All (IsReadyIn serves key rows) workers
  ready plan serves ends serve served k d h =
      let w = get_or workers k d in
      let long = crew_long in
      let inside : k < length rows = omega (arith, h, long) in
      let p = place k w inside (λ e. get_or_default workers k e d h) in
      let new = p.new in
      let number = p.thread in
      let size = ap (λ (r : List Kind). length r) p.row_is in
      let short = plan.short k [] inside in
      let row = ap (λ (r : List Kind). length r) (p.at_row []) in
      let left = ap (λ (v : PassView). v.left) new.pass in
      let asked = new.asked in
      record {
        has_row = omega (arith, number, inside);
        ready = record {
          of_key = ap (λ (v : PassView). v.key) new.pass;
          enough = omega (arith, left, size);
          room = omega (arith, asked, size, short, row);
          served =
              (let z = zip_at (HasItsEnds ends) rows workers k served inside in
              let own : HasItsEnds ends (row_of rows w) w = subst (HasItsEnds ends (row_of rows w)) (sym (z.3 d))
              (subst (λ (r : List Kind). HasItsEnds ends r z.1) (sym (z.2 []) ∙ p.at_row [] ∙ sym p.row_is) z.4) in
              λ i e below. subst serves (sym (own i e below)) (both_serve serves ends serve (get_or (row_of rows w) i e)));
        };
      }

  module _ (may : Question → Answer → Type 0) (after : List WorkerView) (worked : AllZip (WorksIn may rows) workers after) where
    after_long : length after ≡ length rows
    after_long = AllZip-long (WorksIn may rows) workers after worked ∙ crew_long

    -- the worker at a place before the run, and what it did
    record Past (t : ℕ) (a : WorkerView) : Type 0 where
      pub w : WorkerView
      pub place_of : Place t w
      pub did : WorksIn may rows w a

    past : (t : ℕ) (a : WorkerView) → t < length rows → IsAt after t a → Past t a
    past t a h at =
        let long = crew_long in
        let inside : t < length workers = omega (arith, h, long) in
        let z = zip_at (WorksIn may rows) workers after t worked inside in
        let same : z.1 ≡ a = sym (z.3 a) ∙ at a in
        record { w = z.0; place_of = place t z.0 h z.2; did = subst (WorksIn may rows z.0) same z.4 }

    pub keys : All (λ a. a.pass.key ≡ key) after
    keys k d h =
        let long = after_long in
        let inside : k < length rows = omega (arith, h, long) in
        let p = past k (get_or after k d) inside (λ e. get_or_default after k e d h) in
        (stays may (row_of rows p.w) p.w (get_or after k d) p.did).key ∙ ap (λ (v : PassView). v.key) p.place_of.new.pass

    -- the place of a worker is its thread
    own_thread : (t : ℕ) (a : WorkerView) → t < length rows → IsAt after t a → a.thread ≡ t
    own_thread t a h at = let p = past t a h at in (stays may (row_of rows p.w) p.w a p.did).thread ∙ p.place_of.thread

    module _ (f : RunFault) (a : WorkerView) (among : Contains after a) (is : IsFaultOfWorker f a) (first : All (IsNotAfterStall f) after) where
      fault_after : IsFaultAfter may rows sizes f
      fault_after = record { key = key; workers = workers; crew = crew; after = after; worked = worked; faulty = a; among = among; is = is; first = first }

      here : among.0 < length rows
      here = let long = after_long in let inside = among.1 in omega (arith, long, inside)

      found : IsAt after among.0 a
      found d = sym (get_or_default after among.0 a d among.1) ∙ among.2

      pub in_plan : (t : ℕ) → t ≡ a.thread → t < length rows
      in_plan t e = let own = own_thread among.0 a here found in let inside = here in omega (arith, e, own, inside)

      pub row_overflows : (t : ℕ) → t ≡ a.thread → a.stopped ≡ true → Overflows rows sizes t
      row_overflows t e stopped =
          let p = past among.0 a here found in
          let new = p.place_of.new in
          let few = overflows may (row_of rows p.w) p.w a p.did new.sent new.running stopped in
          let room = new.capacity in
          let same : t ≡ p.w.thread = e ∙ (stays may (row_of rows p.w) p.w a p.did).thread in
          let row = ap (λ (n : ℕ). length (get_or rows n [])) same in
          omega (arith, few, room, row)

      pub fault_is : (initial : List ℕ) (g : RunFault) → f ≡ g → IsWithinLimits sizes.ring sizes.tries → IsFaultOfRun may initial rows sizes g
      fault_is initial Limit e within = absurd (subst (λ (x : RunFault). IsFaultOfWorker x a) e is)
      fault_is initial Roles e within = absurd (subst (λ (x : RunFault). IsFaultOfWorker x a) e is)
      fault_is initial Memory e within = within
      fault_is initial (Stalled t) e within =
          let own = subst (λ (x : RunFault). IsFaultOfWorker x a) e is in
          (in_plan t own.1, row_overflows t own.1 own.0, subst (IsFaultAfter may rows sizes) e fault_after)
      fault_is initial (CloseLost t) e within =
          let own = subst (λ (x : RunFault). IsFaultOfWorker x a) e is in
          (in_plan t own, subst (IsFaultAfter may rows sizes) e fault_after)
      fault_is initial (Uncertified t) e within = absurd (subst (λ (x : RunFault). IsFaultOfWorker x a) e is)
      fault_is initial (Preload place) e within = absurd (subst (λ (x : RunFault). IsFaultOfWorker x a) e is)

    -- the fault of closing the workers after their rows is one of the run
    pub closing_fault : (initial : List ℕ) (f : RunFault) → IsWithinLimits sizes.ring sizes.tries → IsFaultOfClosing after f → IsFaultOfRun may initial rows sizes f
    closing_fault initial f within (inl e) = subst (IsFaultOfRun may initial rows sizes) (sym e) within
    closing_fault initial f within (inr (inl e, first)) = cc
    closing_fault initial f within (inr (inr (inl e), first)) = subst (IsFaultOfRun may initial rows sizes) (sym e) within
    closing_fault initial f within (inr (inr (inr own), first)) = fault_is f own.0 own.1 own.2 first initial f refl within

    each_same : (ws vs : List WorkerView) → AllZip (WorksIn may rows) ws vs → AllZip (λ w a. (a.ring ≡ w.ring) × (a.thread ≡ w.thread)) ws vs
    each_same [] [] z = tt
    each_same [] (v ∷ vs) z = absurd z
    each_same (w ∷ ws) [] z = absurd z
    each_same (w ∷ ws) (v ∷ vs) z = (let s = stays may (row_of rows w) w v z.0 in (s.ring, s.thread), each_same ws vs z.1)

    pub rings : rings_of_tokens (map token_of after) ≡ rings_of (map end_of workers)
    rings = same_rings workers after (each_same workers after worked)

    -- the tokens are in the order of their threads
    pub tokens_own : (tokens : List TokenView) → tokens ≡ map token_of after → map (λ t. t.thread) tokens ≡ numbers_below (length tokens)
    tokens_own tokens are =
        ap (map (λ (t : TokenView). t.thread)) are
        ∙ same_threads workers after (each_same workers after worked)
        ∙ crew.threads
        ∙ ap numbers_below (sym (ap length are ∙ length-map after token_of ∙ after_long))

    module _ (tokens : List TokenView) (pass : PassView) (closed : AreClosed (fresh_pass key 0) after tokens pass) where
      works : (t : ℕ) (a : WorkerView) → t < length rows → IsAt after t a → (p : Past t a) → Works may (row_of rows p.w) p.w a
      works t a h at p =
          let long = after_long in
          let inside : t < length after = omega (arith, h, long) in
          runs may (row_of rows p.w) p.w a p.did (subst (λ (v : WorkerView). v.stopped ≡ false) (at a) (closed.running t a inside))

      done_each : AllZip IsDone rows after
      done_each = zip_of IsDone rows after after_long (λ t row a h at_row at. one t row a h at_row at)
        where
          one : (t : ℕ) (row : List Kind) (a : WorkerView) → t < length rows → IsAt rows t row → IsAt after t a → IsDone row a
          one t row a h at_row at =
              let p = past t a h at in
              let k = works t a h at p in
              let new = p.place_of.new in
              let same_row : p.place_of.row ≡ row = sym (p.place_of.at_row []) ∙ at_row [] in
              let size = ap (λ (r : List Kind). length r) (p.place_of.row_is ∙ same_row) in
              let size_new = ap (λ (r : List Kind). length r) same_row in
              let had = ap (λ (v : PassView). v.left) new.pass in
              let none = ap (λ (v : PassView). length v.drawn) new.pass in
              let share = k.same.share in
              let left = k.left in
              let drawn = k.drawn ∙ ap (λ (v : PassView). v.drawn ++ map ticket_of k.events) new.pass in
              let sent = k.sent ∙ ap (λ l. l ++ k.events) new.sent in
              record {
                left = omega (arith, left, had, size, size_new);
                size = omega (arith, left, had, size, size_new, share, none);
                drawn =
                    drawn ∙ sym (ap (map ticket_of) sent);
              }

      pub whole : share_of pass ≡ 2 * sum_by length rows
      whole =
          let left = closed.left in
          let none = lefts rows after done_each in
          let all = length_permutation _ _ closed.drawn in
          let flat = length-flat_map (λ (a : WorkerView). a.pass.drawn) after in
          let size = all_sizes rows after done_each in
          omega (arith, left, none, all, flat, size)

      module _ (total : ℕ) (lists : List (List Event)) (drawn : pass.drawn ≡ numbers_below total) (sealed : lists ≡ map (λ token. token.sent) tokens) where
        lists_are : lists ≡ map (λ a. a.sent) after
        lists_are = sealed ∙ ap (map (λ (token : TokenView). token.sent)) closed.tokens_are ∙ sent_of after

        list_at : (t : ℕ) (a : WorkerView) → t < length rows → IsAt after t a → get_or lists t [] ≡ a.sent
        list_at t a h at =
            let long = after_long in
            let inside : t < length after = omega (arith, h, long) in
            ap (λ l. get_or l t []) lists_are ∙ map_at (λ (v : WorkerView). v.sent) after t a [] inside at

        operates_as : (thread thread' : ℕ) (key' : TableId) (first first' : ℕ) (kinds kinds' : List Kind) (events events' : List Event)
            → thread ≡ thread' → key' ≡ key → first ≡ first' → kinds ≡ kinds' → events ≡ events'
            → Operates may thread key' first kinds events → Operates may thread' key first' kinds' events'
        operates_as thread thread' key' first first' kinds kinds' events events' a b c d e o =
            subst (λ (es : List Event). Operates may thread' key first' kinds' es) e
            (subst (λ (ks : List Kind). Operates may thread' key first' ks events) d
            (subst (λ (n : ℕ). Operates may thread' key n kinds events) c
            (subst (λ (k : TableId). Operates may thread' k first kinds events) b
            (subst (λ (n : ℕ). Operates may n key' first kinds events) a o))))

        worker_at : (t : ℕ) → t < length rows → (a : WorkerView) × IsAt after t a
        worker_at t h =
            let z = zip_at IsDone rows after t done_each h in (z.1, z.3)

        recorded_at : (t : ℕ) → t < length rows
            → Operates may t key 0 (get_or rows t []) (get_or lists t []) × IsStrictlyIncreasing (map ticket_of (get_or lists t []))
        recorded_at t h =
            let z = worker_at t h in
            let p = past t z.0 h z.1 in
            let k = works t z.0 h z.1 p in
            let new = p.place_of.new in
            let sent = k.sent ∙ ap (λ l. l ++ k.events) new.sent in (
              operates_as p.w.thread t p.w.pass.key p.w.asked 0 (row_of rows p.w) (get_or rows t []) k.events (get_or lists t [])
                  p.place_of.thread (ap (λ (v : PassView). v.key) new.pass) new.asked (p.place_of.row_is ∙ sym (p.place_of.at_row []))
                  (sym sent ∙ sym (list_at t z.0 h z.1)) k.operates,
              subst (λ (l : List Event). IsStrictlyIncreasing (map ticket_of l)) (sym (list_at t z.0 h z.1 ∙ sent)) k.rising,
            )

        pub is_run : IsRun may rows lists total
        is_run = record {
          word = key;
          one_each = ap length lists_are ∙ length-map after (λ (a : WorkerView). a.sent) ∙ after_long;
          operates = λ t h. (recorded_at t h).0;
          rising = λ t h. (recorded_at t h).1;
          tickets = subst (λ l. IsPermutation (map ticket_of (flat_map (λ list. list) l)) (numbers_below total)) (sym lists_are)
              (subst (λ l. IsPermutation l (numbers_below total)) (tickets_of rows after done_each)
              (subst (IsPermutation (flat_map (λ (a : WorkerView). a.pass.drawn) after)) drawn closed.drawn));
          two_each =
              (let size = whole in
              let left = closed.left in
              let none = lefts rows after done_each in
              let shown = ap (λ l. length l) drawn in
              let n = length-range_with_len 0 total in
              omega (arith, size, left, none, shown, n));
        }

-- if at most `Memory` stood before the end, the fault that stands after it is `Memory`, or a fault of a worker that
-- counts before all stalls
pub stands_at_end : (workers : List WorkerView) (standing : Option RunFault) (f : RunFault) → IfSome standing (λ g. g ≡ Memory) → Stands standing workers f
    → All (IsNotAfterStall f) workers → IsFaultOfClosing workers f
stands_at_end workers None f memory (inl e) first = cc
stands_at_end workers (Some g) f memory (inl e) first = let same : g ≡ f = cc in inl (sym same ∙ memory)
stands_at_end workers standing f memory (inr (inl e)) first = inl e
stands_at_end workers standing f memory (inr (inr own)) first = inr (inr (inr own), first)
