-- The operations that a worker made first and next, as one list of operations.
use Rattle.std.proofs.Common.{◌≡◌, ℕ, zero, suc, ◌+◌, ◌*◌, List, [], ◌∷◌, ◌++◌, length, map, refl, ap, sym, ◌∙◌, arith, subst, append_assoc}
use Rattle.std.proofs.Common.{append-nil, length-append, take, drop, take-append-drop, get_or, ◌<◌, ◌≤◌, inl, inr, true, false}
use Rattle.std.proofs.lemmas.List.{map-append, length-map}
use Rattle.std.proofs.lemmas.Grind.{flat_map-append}
use Rattle.std.proofs.lemmas.List.Elements.{All-append, All-tail}
use Rattle.std.specs.List.{range_with_len, All, flat_map}
use Rattle.event_records.specs.Question.{Question}
use Rattle.event_records.specs.declared.kind.Kind.{Kind}
use Rattle.event_records.specs.declared.kind.Answer.{Answer}
use Rattle.stress_run.specs.Operations.{Completed, IsAsked, events_of, ticket_of, asked_kind, asked_number}
use Rattle.std.proofs.Math.Seq.{take-suc, take-length, drop-cons}
use Rattle.std.proofs.lemmas.Bool.{false≢true}
use Rattle.std.specs.List.Sorted.{IsStrictlyIncreasing}
use Rattle.stress_run.specs.Workers.{WorkerView, SameWorker, Works, Stalls, WorksOrStalls, AreAbove}
use Rattle.stress_run.proofs.Recording.{two_each}
use Rattle.history_merge.proofs.Lists.{All-left, All-right}

range-append : (a n m : ℕ) → range_with_len a (n + m) ≡ range_with_len a n ++ range_with_len (a + n) m
range-append a zero m =
    let e : 0 + m ≡ m = omega arith in
    let f : a ≡ a + 0 = omega arith in
    ap (range_with_len a) e ∙ ap (λ b. range_with_len b m) f
range-append a (suc n) m =
    let e : suc n + m ≡ suc (n + m) = omega arith in
    let f : a + 1 + n ≡ a + suc n = omega arith in
    ap (range_with_len a) e ∙ ap (λ l. a ∷ l) (range-append (a + 1) n m) ∙ ap (λ b. (a ∷ range_with_len (a + 1) n) ++ range_with_len b m) f

later_rise : (x : ℕ) (xs : List ℕ) → IsStrictlyIncreasing (x ∷ xs) → IsStrictlyIncreasing xs
later_rise x xs r k h =
    let next : suc k + 1 ≡ suc (k + 1) = omega arith in
    subst (λ i. get_or xs k 0 < get_or (x ∷ xs) i 0) next (r (suc k) (omega (arith, h)))

-- rising numbers, followed by rising numbers above all of them
pub rising-join : (xs ys : List ℕ) → IsStrictlyIncreasing xs → IsStrictlyIncreasing ys → AreAbove xs ys → IsStrictlyIncreasing (xs ++ ys)
rising-join [] ys r s above k h = s k h
rising-join (x ∷ []) [] r s above k h = r k h
rising-join (x ∷ []) (y ∷ ys) r s above zero h = above 0 0 (omega arith) 0 0 (omega arith)
rising-join (x ∷ []) (y ∷ ys) r s above (suc k) h =
    let next : suc k + 1 ≡ suc (k + 1) = omega arith in
    subst (λ i. get_or (y ∷ ys) k 0 < get_or (x ∷ y ∷ ys) i 0) (sym next) (s k (omega (arith, h)))
rising-join (x ∷ z ∷ xs) ys r s above zero h = r 0 (omega arith)
rising-join (x ∷ z ∷ xs) ys r s above (suc k) h =
    let next : suc k + 1 ≡ suc (k + 1) = omega arith in
    let more = rising-join (z ∷ xs) ys (later_rise x (z ∷ xs) r) s (λ i d b. All-tail (λ t. t < get_or ys i d) x (z ∷ xs) (above i d b)) k (omega (arith, h)) in
    subst (λ i. get_or (z ∷ xs ++ ys) k 0 < get_or (x ∷ z ∷ xs ++ ys) i 0) (sym next) more

module _ (may : Question → Answer → Type 0) where
  -- a worker that stays the same one in each of two parts stays the same one in both
  pub same_then : (w v u : WorkerView) → SameWorker w v → SameWorker v u → SameWorker w u
  same_then w v u p q = record {
    ends = q.ends ∙ p.ends;
    thread = q.thread ∙ p.thread;
    ring = q.ring ∙ p.ring;
    capacity = q.capacity ∙ p.capacity;
    tries =
        q.tries ∙ p.tries;
    key = q.key ∙ p.key;
    share = q.share ∙ p.share;
  }

  numbered_then : (ks ls : List Kind) (first next : ℕ) (os ps : List Completed)
      → map asked_number os ≡ range_with_len first (length ks) → map asked_number ps ≡ range_with_len next (length ls) → next ≡ first + length ks
      → map asked_number (os ++ ps) ≡ range_with_len first (length (ks ++ ls))
  numbered_then ks ls first next os ps p q e =
      map-append asked_number os ps
      ∙ ap (λ l. l ++ map asked_number ps) p
      ∙ ap (λ l. range_with_len first (length ks) ++ l) (q ∙ ap (λ b. range_with_len b (length ls)) e)
      ∙ sym (range-append first (length ks) (length ls))
      ∙ ap (range_with_len first) (sym (length-append ks ls))

  -- no operation leaves a worker as it was
  pub works_none : (w : WorkerView) → Works may [] w w
  works_none w = record {
    same = record { ends = refl; thread = refl; ring = refl; capacity = refl; tries = refl; key = refl; share = refl };
    running = refl;
    asked = omega arith;
    left = omega arith;
    events = [];
    operates = record { operations = []; planned = refl; numbered = refl; all_asked = λ k d h. absurd (omega (arith, h)); recorded = refl };
    sent = sym (append-nil w.sent);
    drawn = sym (append-nil w.pass.drawn);
    rising = λ i h. absurd (omega (arith, h));
    above = λ k d h. absurd (omega (arith, h));
  }

  -- operations and then further ones are one list of operations
  pub works_then : (ks ls : List Kind) (w v u : WorkerView) → Works may ks w v → Works may ls v u → Works may (ks ++ ls) w u
  works_then ks ls w v u p q =
      let os = p.operates.operations in
      let ps = q.operates.operations in
      let later : AreAbove (w.pass.drawn ++ map ticket_of p.events) (map ticket_of q.events) =
      subst (λ (held : List ℕ). AreAbove held (map ticket_of q.events)) p.drawn q.above in
      let moved : All (IsAsked may w.thread w.pass.key) ps =
      let P : _ → Type 0 = λ t. All (IsAsked may t w.pass.key) ps in
      let Q : _ → Type 0 = λ k. All (IsAsked may v.thread k) ps in
      subst P p.same.thread (subst Q p.same.key q.operates.all_asked) in
      record {
        same = same_then w v u p.same q.same;
        running = q.running ∙ p.running;
        asked = omega (arith, p.asked, q.asked, length-append ks ls);
        left = omega (arith, p.left, q.left, length-append ks ls);
        events = p.events ++ q.events;
        operates = record {
          operations = os ++ ps;
          planned = map-append asked_kind os ps ∙ ap (λ l. l ++ map asked_kind ps) p.operates.planned ∙ ap (λ l. ks ++ l) q.operates.planned;
          numbered = numbered_then ks ls w.asked v.asked os ps p.operates.numbered q.operates.numbered p.asked;
          all_asked = All-append (IsAsked may w.thread w.pass.key) os ps p.operates.all_asked moved;
          recorded = ap (λ l. l ++ q.events) p.operates.recorded ∙ ap (λ l. flat_map events_of os ++ l) q.operates.recorded
              ∙ sym (flat_map-append events_of os ps);
        };
        sent = q.sent ∙ ap (λ l. l ++ q.events) p.sent ∙ append_assoc w.sent p.events q.events;
        drawn = q.drawn ∙ ap (λ l. l ++ map ticket_of q.events) p.drawn ∙ append_assoc w.pass.drawn (map ticket_of p.events) (map ticket_of q.events)
            ∙ ap (λ l. w.pass.drawn ++ l) (sym (map-append ticket_of p.events q.events));
        rising = subst IsStrictlyIncreasing (sym (map-append ticket_of p.events q.events))
            (rising-join (map ticket_of p.events) (map ticket_of q.events) p.rising q.rising
            (λ k d h. All-right (λ t. t < get_or (map ticket_of q.events) k d) w.pass.drawn (map ticket_of p.events) (later k d h)));
        above = subst (AreAbove w.pass.drawn) (sym (map-append ticket_of p.events q.events))
            (All-append (λ (ticket : ℕ). All (λ t. t < ticket) w.pass.drawn) (map ticket_of p.events) (map ticket_of q.events) p.above
            (λ k d h. All-left (λ t. t < get_or (map ticket_of q.events) k d) w.pass.drawn (map ticket_of p.events) (later k d h)));
      }

  -- the first i operations and the next are the first i + 1
  pub works_more : (kinds : List Kind) (i : ℕ) (d : Kind) (w v u : WorkerView) → i < length kinds → Works may (take i kinds) w v
      → Works may (get_or kinds i d ∷ []) v u → Works may (take (i + 1) kinds) w u
  works_more kinds i d w v u below p q =
      let f : i + 1 ≡ suc i = omega arith in
      let e = ap (λ n. take n kinds) f ∙ take-suc kinds i d below in
      let P : List Kind → Type 0 = λ ks. Works may ks w u in
      subst P (sym e) (works_then (take i kinds) (get_or kinds i d ∷ []) w v u p q)

  -- operations up to the last one are all operations
  pub works_all : (kinds : List Kind) (i : ℕ) (w v : WorkerView) → length kinds ≤ i → i ≤ length kinds → Works may (take i kinds) w v → Works may kinds w v
  works_all kinds i w v past within p =
      let f : i ≡ length kinds = omega (arith, past, within) in
      let P : List Kind → Type 0 = λ ks. Works may ks w v in
      subst P (ap (λ n. take n kinds) f ∙ take-length kinds) p

  -- a worker that made all operations made them or stalled
  pub works_or : (kinds : List Kind) (w v : WorkerView) → Works may kinds w v → WorksOrStalls may kinds w v
  works_or kinds w v p = inl p

  -- a worker that stalls in one of the operations stalls in the list
  pub stalls_at : (kinds : List Kind) (i : ℕ) (d : Kind) (w v u : WorkerView) → i < length kinds → Works may (take i kinds) w v
      → Stalls (get_or kinds i d) v u → WorksOrStalls may kinds w u
  stalls_at kinds i d w v u inside p q = inr (record {
    made = take i kinds;
    next = get_or kinds i d;
    rest = drop (suc i) kinds;
    kinds_are = sym (take-append-drop i kinds) ∙ ap (λ l. take i kinds ++ l) (drop-cons kinds i d inside);
    until = v;
    works = p;
    stalls = q;
  })

  -- a worker that works or stalls stays the same one
  pub stays : (kinds : List Kind) (w u : WorkerView) → WorksOrStalls may kinds w u → SameWorker w u
  stays kinds w u (inl p) = p.same
  stays kinds w u (inr s) = same_then w s.until u s.works.same s.stalls.same

  -- a worker that is not stopped made all operations
  pub runs : (kinds : List Kind) (w u : WorkerView) → WorksOrStalls may kinds w u → u.stopped ≡ false → Works may kinds w u
  runs kinds w u (inl p) e = p
  runs kinds w u (inr s) e = absurd (false≢true (sym e ∙ s.stalls.stopped))

  -- if a new worker stalls, its row has more events than its ring has room for
  pub overflows : (kinds : List Kind) (w u : WorkerView) → WorksOrStalls may kinds w u → w.sent ≡ [] → w.stopped ≡ false → u.stopped ≡ true
      → w.capacity < 2 * length kinds
  overflows kinds w u (inl p) none ran stopped = absurd (false≢true (sym (p.running ∙ ran) ∙ stopped))
  overflows kinds w u (inr s) none ran stopped =
      let made = sent_by s.made w s.until s.works none in
      let last = pushed_by s.next s.until u s.stalls in
      let filled = s.stalls.filled in
      let same = (stays kinds w u (inr s)).capacity in
      let long = ap (λ (l : List Kind). length l) s.kinds_are ∙ length-append s.made (s.next ∷ s.rest) in
      omega (arith, made, last, filled, same, long)
    where
      sent_by : (ks : List Kind) (a b : WorkerView) → Works may ks a b → a.sent ≡ [] → length b.sent ≡ 2 * length ks
      sent_by ks a b p empty =
          let os = p.operates.operations in
          let sent = ap (λ l. length l) (p.sent ∙ ap (λ l. l ++ p.events) empty ∙ p.operates.recorded) in
          let twice = two_each os in
          let many = sym (length-map os asked_kind) ∙ ap (λ (l : List Kind). length l) p.operates.planned in
          omega (arith, sent, twice, many)

      pushed_by : (k : Kind) (a b : WorkerView) → Stalls k a b → length b.sent ≤ length a.sent + 1
      pushed_by k a b p = elim p.sent [
        | inl same ↦ (let e = ap (λ l. length l) same in omega (arith, e))
        | inr one ↦ (let e = ap (λ l. length l) one.4 ∙ length-append a.sent _ in omega (arith, e))
      ]
