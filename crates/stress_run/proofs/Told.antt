-- A run whose notes are a log that a queue accepts is linearizable.
use Rattle.std.proofs.Common.{◌≡◌, ℕ, zero, suc, ◌+◌, ◌<◌, ◌≤◌, true, List, [], ◌∷◌}
use Rattle.std.proofs.Common.{length, map, get_or, set, Option, Some, refl, sym, ap, ◌∙◌, subst, arith}
use Rattle.std.specs.Prelude.{All, AllPairs, Contains, IsPermutation, find, flat_map, nat_eq}
use Rattle.std.specs.List.{cons_option, range_with_len, swap}
use Rattle.std.proofs.Math.ListN.{get_or-map}
use Rattle.std.specs.List.Sorted.{apply_swaps, SwapsInRange}
use Rattle.std.proofs.lemmas.Bool.{eq-eqb}
use Rattle.std.proofs.lemmas.List.{length-map, map-set}
use Rattle.std.proofs.lemmas.List.Elements.{All-nil, All-cons, All-head, All-tail, All-append, All-contains}
use Rattle.std.proofs.lemmas.List.Sorted.{IsPermutation-map, IsPermutation-trans, All-permutation}
use Rattle.std.proofs.lemmas.Option.{slice_get-get_or, slice_get_within}
use Rattle.tickets.specs.declared.note.Note.{Note}
use Rattle.tickets.specs.Log.{LooksRise}
use Rattle.event_records.specs.declared.event.Event.{Event}
use Rattle.event_records.specs.Projection.{projection}
use Rattle.event_records.specs.Turns.{TakesTurns}
use Rattle.history_merge.specs.declared.operation.Operation.{Operation}
use Rattle.history_merge.specs.declared.operation.OpKind.{OpKind}
use Rattle.history_merge.specs.Legal.{IsLegalOrder}
use Rattle.history_merge.specs.Merge.{IsMerged}
use Rattle.history_merge.specs.Operations.{Precedes, operations_of, operation_of, kind_of}
use Rattle.history_merge.specs.Queue.{IsAccepted}
use Rattle.history_merge.proofs.Turns.{answer_is_return}
use Rattle.recorder_core.proofs.Blocks.{blocks, blocks_same, joined_blocks, same_permutation}
use Rattle.recorder_core.proofs.Fitting.{AreFit, owned, projection_is}
use Rattle.recorder_core.proofs.Members.{pairs_cons}
use Rattle.recorder_core.proofs.Operating.{operations_by_thread}
use Rattle.stress_run.specs.Noted.{kind_noted, kinds_noted, AreNotesOf, AreNotesOfAll}
use Rattle.history_merge.proofs.Formed.{no_operation}
use Rattle.recorder_core.proofs.Collecting.{map_blocks}

-- a note, and the operation that it is of
abbrev Pair : Type 0
Pair = Note × Operation

abbrev note_in : Pair → Note
note_in p = p.0

abbrev made_in : Pair → Operation
made_in p = p.1

-- the note has the operation's call ticket and kind, and a look at which it had not returned
record IsTold (p : Pair) : Type 0 where
  pub called : p.0.call ≡ p.1.call
  pub did : p.1.kind ≡ kind_noted p.0.effect
  pub returned : p.0.look ≤ p.1.ret

abbrev pair_of : Event → Event → Note → Pair
pair_of call ret n = (n, record { call = call.ticket; ret = ret.ticket; thread = call.thread; kind = kind_noted n.effect })

-- the notes of a thread, each paired with its operation
abbrev pairs : List Event → List Note → List Pair
pairs [] ns = []
pairs (call ∷ []) ns = []
pairs (call ∷ ret ∷ rest) [] = []
pairs (call ∷ ret ∷ rest) (n ∷ ns) = pair_of call ret n ∷ pairs rest ns

notes_are : (events : List Event) (ns : List Note) → AreNotesOf events ns → map note_in (pairs events ns) ≡ ns
notes_are [] [] h = refl
notes_are [] (n ∷ ns) h = absurd h
notes_are (call ∷ []) ns h = absurd h
notes_are (call ∷ ret ∷ rest) [] h = absurd h
notes_are (call ∷ ret ∷ rest) (n ∷ ns) h = ap (λ (l : List Note). n ∷ l) (notes_are rest ns h.1)

each_told : (events : List Event) (ns : List Note) → AreNotesOf events ns → All IsTold (pairs events ns)
each_told [] [] h = All-nil IsTold
each_told [] (n ∷ ns) h = absurd h
each_told (call ∷ []) ns h = absurd h
each_told (call ∷ ret ∷ rest) [] h = absurd h
each_told (call ∷ ret ∷ rest) (n ∷ ns) h =
    All-cons IsTold (pair_of call ret n) (pairs rest ns) (record { called = h.0.called; did = refl; returned = h.0.returned }) (each_told rest ns h.1)

-- a call and its return are the operation of their kind
one_operation : (call ret : Event) (kind : OpKind) → kind_of call.what ret.what ≡ Some kind
    → operation_of call (Some ret) ≡ Some (record { call = call.ticket; ret = ret.ticket; thread = call.thread; kind = kind })
one_operation call ret kind is = rw (is, operation_of) refl

operations_are : (t : ℕ) (events : List Event) (ns : List Note) → TakesTurns events → All (λ e. e.thread ≡ t) events → AreNotesOf events ns
    → operations_of events ≡ map made_in (pairs events ns)
operations_are t [] [] turns own h = refl
operations_are t [] (n ∷ ns) turns own h = absurd h
operations_are t (call ∷ []) ns turns own h = absurd h
operations_are t (call ∷ ret ∷ rest) [] turns own h = absurd h
operations_are t (call ∷ ret ∷ rest) (n ∷ ns) turns own h =
    let own' = All-tail (λ (e : Event). e.thread ≡ t) call (ret ∷ rest) own in
    let threads : ret.thread ≡ call.thread = All-head (λ (e : Event). e.thread ≡ t) ret rest own'
    ∙ sym (All-head (λ (e : Event). e.thread ≡ t) call (ret ∷ rest) own) in
    let found : nat_eq ret.thread call.thread ≡ true = eq-eqb ret.thread call.thread threads in
    let more = operations_are t rest ns turns.1 (All-tail (λ (e : Event). e.thread ≡ t) ret rest own') h.1 in
    rw (found, no_operation ret (find (λ r. nat_eq r.thread ret.thread) rest) (answer_is_return call.what ret.what turns.0))
    (ap (λ (o : Option Operation). cons_option o (operations_of rest)) (one_operation call ret (kind_noted n.effect) h.0.did)
    ∙ ap (λ (l : List Operation). (pair_of call ret n).1 ∷ l) more)

-- ---- blocks

all_blocks : {X : Type 0} (P : X → Type 0) (g : ℕ → List X) (n : ℕ) → ((t : ℕ) → t < n → All P (g t)) → All P (blocks g n)
all_blocks P g zero each = All-nil P
all_blocks P g (suc n) each = All-append P (blocks g n) (g n) (all_blocks P g n (λ t h. each t (omega (arith, h)))) (each n (omega arith))

-- concatenated lists are their blocks
flat_blocks : {X : Type 0} (parts : List (List X)) → flat_map (λ part. part) parts ≡ blocks (λ t. get_or parts t []) (length parts)
flat_blocks {X} parts = ap (flat_map (λ (part : List X). part)) (sym (as_range parts)) ∙ joined_blocks (λ t. get_or parts t []) (length parts)
  where
    later : (a n : ℕ) (x : List X) (xs : List (List X)) → map (λ t. get_or (x ∷ xs) t []) (range_with_len (suc a) n) ≡ map (λ t. get_or xs t []) (range_with_len a n)
    later a zero x xs = refl
    later a (suc n) x xs =
        let e : suc a + 1 ≡ suc (a + 1) = omega arith in
        ap (λ (m : ℕ). get_or xs a [] ∷ map (λ t. get_or (x ∷ xs) t []) (range_with_len m n)) e
        ∙ ap (λ (l : List (List X)). get_or xs a [] ∷ l) (later (a + 1) n x xs)

    as_range : (xs : List (List X)) → map (λ t. get_or xs t []) (range_with_len 0 (length xs)) ≡ xs
    as_range [] = refl
    as_range (x ∷ xs) = ap (λ (l : List (List X)). x ∷ l) (later 0 (length xs) x xs ∙ as_range xs)

-- ---- orders

exchanged : {X Y : Type 0} (f : X → Y) (xs : List X) (i j : ℕ) → map f (swap xs i j) ≡ swap (map f xs) i j
exchanged f [] i j = refl
exchanged {X} {Y} f (x ∷ xs) i j =
    let all = x ∷ xs in
    let first = map-set f all i (get_or all j x) ∙ ap (set (map f all) i) (sym (get_or-map f all j x)) in
    map-set f (set all i (get_or all j x)) j (get_or all i x)
    ∙ ap (λ (l : List Y). set l j (f (get_or all i x))) first
    ∙ ap (set (set (map f all) i (get_or (map f all) j (f x))) j) (sym (get_or-map f all i x))

moved : {X Y : Type 0} (f : X → Y) (xs : List X) (moves : List (ℕ × ℕ)) → map f (apply_swaps xs moves) ≡ apply_swaps (map f xs) moves
moved f xs [] = refl
moved {X} {Y} f xs (m ∷ ms) = exchanged f (apply_swaps xs ms) m.0 m.1 ∙ ap (λ (l : List Y). swap l m.0 m.1) (moved f xs ms)

-- a permutation of a mapped list is a mapped permutation of the list
lifted : {X Y : Type 0} (f : X → Y) (xs : List X) (ys : List Y) → IsPermutation (map f xs) ys → (zs : List X) × IsPermutation xs zs × (map f zs ≡ ys)
lifted f xs ys p = (
  apply_swaps xs p.moves,
  record { moves = p.moves; below = subst (λ (n : ℕ). SwapsInRange n p.moves) (length-map xs f) p.below; is = refl },
  moved f xs p.moves ∙ sym p.is,
)

-- notes whose looks rise are in an order that keeps precedence
in_precedence : (from next : ℕ) (ps : List Pair) → LooksRise from (map note_in ps) next → All IsTold ps
    → AllPairs (λ earlier later. ¬ (Precedes later earlier)) (map made_in ps)
in_precedence from next [] r told = λ i j d below within. absurd (omega (arith, within))
in_precedence from next (p ∷ ps) r told =
    let one = All-head IsTold p ps told in
    let later = none_before p.1 p.0.look ps (let c = one.called in let above = r.0 in omega arith) r.2 (All-tail IsTold p ps told) in
    pairs_cons (λ earlier after. ¬ (Precedes after earlier)) p.1 (map made_in ps)
    (λ o among. All-contains (λ after. ¬ (Precedes after p.1)) (map made_in ps) o later among)
    (in_precedence p.0.look next ps r.2 (All-tail IsTold p ps told))
  where
    none_before : (o : Operation) (look : ℕ) (qs : List Pair) → o.call < look → LooksRise look (map note_in qs) next → All IsTold qs
        → All (λ later. ¬ (Precedes later o)) (map made_in qs)
    none_before o look [] above rise all = All-nil (λ (later : Operation). ¬ (Precedes later o))
    none_before o look (q ∷ qs) above rise all =
        let told_q = All-head IsTold q qs all in
        All-cons (λ (later : Operation). ¬ (Precedes later o)) q.1 (map made_in qs)
        (λ before. let back = told_q.returned in let up = rise.1 in absurd (omega arith))
        (none_before o q.0.look qs (let up = rise.1 in omega arith) rise.2 (All-tail IsTold q qs all))

kinds_are : (ps : List Pair) → All IsTold ps → map (λ (o : Operation). o.kind) (map made_in ps) ≡ map (λ (n : Note). kind_noted n.effect) (map note_in ps)
kinds_are [] told = refl
kinds_are (p ∷ ps) told = λ i. (All-head IsTold p ps told).did i ∷ kinds_are ps (All-tail IsTold p ps told) i

-- ---- the run

module _ (lists : List (List Event)) (notes log : List Note) (merged : List Event) (fit : AreFit lists) (told : AreNotesOfAll lists notes)
    (logged : IsPermutation notes log) (is : IsMerged lists merged) where
  abbrev list_at : ℕ → List Event
  list_at t = get_or lists t []

  abbrev part_at : ℕ → List Note
  part_at t = get_or told.parts t []

  abbrev all_pairs : List Pair
  all_pairs = blocks (λ t. pairs (list_at t) (part_at t)) (length lists)

  notes_in : map note_in all_pairs ≡ notes
  notes_in =
      map_blocks note_in (λ t. pairs (list_at t) (part_at t)) (length lists)
      ∙ blocks_same (λ t. map note_in (pairs (list_at t) (part_at t))) part_at (length lists) (λ t h. notes_are (list_at t) (part_at t) (told.each t h))
      ∙ ap (blocks part_at) (sym told.one_each)
      ∙ sym (flat_blocks told.parts) ∙ sym told.together

  told_all : All IsTold all_pairs
  told_all = all_blocks IsTold (λ t. pairs (list_at t) (part_at t)) (length lists) (λ t h. each_told (list_at t) (part_at t) (told.each t h))

  operations_in : IsPermutation (operations_of merged) (map made_in all_pairs)
  operations_in =
      let low : (e : Event) → Contains merged e → e.thread < length lists = λ e among.
      (let o = owned lists merged fit is e among in slice_get_within lists e.thread o.0 o.1) in
      let by_thread : (t : ℕ) → t < length lists → operations_of (projection t merged) ≡ map made_in (pairs (list_at t) (part_at t)) = λ t h.
      (let at = slice_get-get_or lists t [] h in let own = fit.each t (list_at t) at in
      ap operations_of (projection_is lists merged fit is t (list_at t) at)
      ∙ operations_are t (list_at t) (part_at t) own.alternates.takes_turns own.own (told.each t h)) in
      IsPermutation-trans _ _ _ (operations_by_thread merged (length lists) low)
      (same_permutation _ _ (blocks_same (λ t. operations_of (projection t merged)) (λ t. map made_in (pairs (list_at t) (part_at t))) (length lists) by_thread
      ∙ sym (map_blocks made_in (λ t. pairs (list_at t) (part_at t)) (length lists))))

  -- the order of the log is a linearization
  pub linearized : (initial : List ℕ) (next : ℕ) → LooksRise 0 log next → IsAccepted initial (kinds_noted log)
      → (order : List Operation) × IsLegalOrder initial (operations_of merged) order × (map (λ o. o.kind) order ≡ kinds_noted log)
  linearized initial next rise accepted =
      let z = lifted note_in all_pairs log (subst (λ (ns : List Note). IsPermutation ns log) (sym notes_in) logged) in
      let ps = z.0 in
      let told_ps = All-permutation IsTold all_pairs ps z.1 told_all in
      let kinds = kinds_are ps told_ps ∙ ap kinds_noted z.2 in (
        map made_in ps,
        record {
          holds_each_once = IsPermutation-trans _ _ _ operations_in (IsPermutation-map made_in all_pairs ps z.1);
          extends_precedence = in_precedence 0 next ps (subst (λ (ns : List Note). LooksRise 0 ns next) (sym z.2) rise) told_ps;
          is_accepted = subst (IsAccepted initial) (sym kinds) accepted;
        },
        kinds,
      )
