-- A crew with one more worker.
use Rattle.std.proofs.Common.{◌≡◌, ℕ, suc, ◌+◌, ◌*◌, ◌-◌, ◌<◌, ◌≤◌, List, [], ◌∷◌, ◌++◌, length}
use Rattle.std.proofs.Common.{map, take, drop, get_or, sum_by, ap, sym, subst, ◌∙◌}
use Rattle.std.proofs.Common.{refl, arith, add-one, length-append, length-take-le}
use Rattle.std.proofs.Math.ListN.{drop_of_length-le}
use Rattle.std.proofs.Math.Seq.{take-suc, drop-cons}
use Rattle.std.proofs.lemmas.List.{map-append, take_all}
use Rattle.std.proofs.lemmas.List.Sums.{sum_by-cons}
use Rattle.atomic_table.specs.Seated.{TableId}
use Rattle.tickets.specs.Views.{PassView, fresh_pass, numbers_below}
use Rattle.event_records.specs.declared.kind.Kind.{Kind}
use Rattle.event_rings.specs.Ring.{DrainView}
use Rattle.stress_run.specs.Workers.{WorkerView}
use Rattle.stress_run.specs.Crew.{SizesView, IsNew, IsCrew}
use Rattle.stress_run.specs.Inner.Crew.{end_of}
use Rattle.recorder_core.proofs.Blocks.{range_more}
use Rattle.history_merge.proofs.Lists.{one_more_zipped}

-- the workers of the first rows are made, and the pass has the shares of the other rows
pub record IsMaking (key : TableId) (sizes : SizesView) (rows : List (List Kind)) (place : ℕ) (rest : PassView) (workers : List WorkerView)
    (ends : List DrainView) : Type 0 where
  pub crew : IsCrew key sizes (take place rows) workers
  pub ends_are : ends ≡ map end_of workers
  pub rest_is : rest ≡ fresh_pass key (2 * sum_by length (drop place rows))

-- before the first worker is made
pub made_none : (key : TableId) (sizes : SizesView) (rows : List (List Kind)) (rest : PassView) (workers : List WorkerView) (ends : List DrainView)
    → rest ≡ fresh_pass key (2 * sum_by length rows) → workers ≡ [] → ends ≡ [] → IsMaking key sizes rows 0 rest workers ends
made_none key sizes rows rest workers ends is none no_ends = record {
  crew = subst (λ ws. IsCrew key sizes [] ws) (sym none) (record { threads = refl; each = tt });
  ends_are = no_ends ∙ ap (map end_of) (sym none);
  rest_is = is;
}

-- after the last worker is made: nothing is left of the pass
pub made_all : (key : TableId) (sizes : SizesView) (rows : List (List Kind)) (place : ℕ) (rest : PassView) (workers : List WorkerView) (ends : List DrainView)
    → length rows ≤ place → IsMaking key sizes rows place rest workers ends
    → IsCrew key sizes rows workers × (rest ≡ fresh_pass key 0)
made_all key sizes rows place rest workers ends all p = (
  subst (λ rs. IsCrew key sizes rs workers) (take_all place rows all) p.crew,
  p.rest_is ∙ ap (λ (rs : List (List Kind)). fresh_pass key (2 * sum_by length rs)) (drop_of_length-le rows all),
)

crew_more : (key : TableId) (sizes : SizesView) (rows : List (List Kind)) (workers : List WorkerView) (row : List Kind) (w : WorkerView)
    → IsCrew key sizes rows workers → IsNew key sizes row w → w.thread ≡ length rows → IsCrew key sizes (rows ++ row ∷ []) (workers ++ w ∷ [])
crew_more key sizes rows workers row w crew new thread = record {
  threads =
      map-append (λ (v : WorkerView). v.thread) workers (w ∷ [])
      ∙ ap (λ l. l ++ w.thread ∷ []) crew.threads
      ∙ ap (λ (n : ℕ). numbers_below (length rows) ++ n ∷ []) thread
      ∙ sym (range_more (length rows))
      ∙ ap numbers_below longer;
  each = one_more_zipped (IsNew key sizes) rows workers row w crew.each new;
}
  where
    longer : suc (length rows) ≡ length (rows ++ row ∷ [])
    longer = omega (arith, length-append rows (row ∷ []))

module _ (key : TableId) (sizes : SizesView) (rows : List (List Kind)) (place : ℕ) (inside : place < length rows) (rest : PassView)
    (workers : List WorkerView) (ends : List DrainView) (p : IsMaking key sizes rows place rest workers ends) where
  here : (d : List Kind) → sum_by length (drop place rows) ≡ length (get_or rows place d) + sum_by length (drop (place + 1) rows)
  here d = ap (sum_by length) (drop-cons rows place d inside) ∙ sum_by-cons length (get_or rows place d) (drop (suc place) rows)
      ∙ ap (λ (n : ℕ). length (get_or rows place d) + sum_by length (drop n rows)) (sym (add-one place))

  -- the rest of the pass is of the same ticket word
  pub key_is : rest.key ≡ key
  key_is = ap (λ (r : PassView). r.key) p.rest_is

  -- the rest of the pass has two tickets for each operation of the next row
  pub enough : (row : List Kind) → row ≡ get_or rows place row → 2 * length row ≤ rest.left
  enough row is =
      let left = ap (λ (r : PassView). r.left) p.rest_is in
      let sum = here row in
      let same = ap (λ (r : List Kind). length r) is in
      omega (arith, left, sum, same)

  -- after one more worker is made, whose share is taken from the pass
  pub made_more : (row : List Kind) (w : WorkerView) (rest' : PassView) (end : DrainView) (workers' : List WorkerView) (ends' : List DrainView)
      → row ≡ get_or rows place row → IsNew key sizes row w → w.thread ≡ place → end ≡ end_of w → rest' ≡ record rest { left = rest.left - 2 * length row }
      → workers' ≡ workers ++ w ∷ [] → ends' ≡ ends ++ end ∷ [] → IsMaking key sizes rows (place + 1) rest' workers' ends'
  made_more row w rest' end workers' ends' is new thread end_is rest_is more more_ends = record {
    crew = subst (λ ws. IsCrew key sizes (take (place + 1) rows) ws) (sym more)
        (subst (λ rs. IsCrew key sizes rs (workers ++ w ∷ [])) (sym taken)
        (crew_more key sizes (take place rows) workers row w p.crew new (thread ∙ sym shown)));
    ends_are = more_ends ∙ ap (λ l. l ++ end ∷ []) p.ends_are ∙ ap (λ e. map end_of workers ++ e ∷ []) end_is
        ∙ sym (map-append end_of workers (w ∷ [])) ∙ ap (map end_of) (sym more);
    rest_is = rest_is ∙ fields rest _ _ (ap (λ (r : PassView). r.key) p.rest_is) (ap (λ (r : PassView). r.drawn) p.rest_is) (ap (λ (r : PassView). r.noted) p.rest_is) left;
  }
    where
      taken : take (place + 1) rows ≡ take place rows ++ row ∷ []
      taken = ap (λ (n : ℕ). take n rows) (add-one place) ∙ take-suc rows place row inside ∙ ap (λ (r : List Kind). take place rows ++ r ∷ []) (sym is)

      shown : length (take place rows) ≡ place
      shown = length-take-le place rows (let h = inside in omega (arith, h))

      left : rest.left - 2 * length row ≡ 2 * sum_by length (drop (place + 1) rows)
      left =
          let was = ap (λ (r : PassView). r.left) p.rest_is in
          let sum = here row in
          let same = ap (λ (r : List Kind). length r) is in
          omega (arith, was, sum, same)

      fields : (r : PassView) (m n : ℕ) → r.key ≡ key → r.drawn ≡ [] → r.noted ≡ [] → m ≡ n → record r { left = m } ≡ fresh_pass key n
      fields r m n k d ns e = cc
