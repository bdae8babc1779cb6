-- The kinds that words give, joined.
use Rattle.std.proofs.Common.{◌≡◌, ℕ, suc, ◌+◌, ◌*◌, ◌≤◌, List, [], ◌∷◌, ◌++◌, length, flat_map, All, sym, ap, ◌∙◌, subst, add-zero}
use Rattle.std.proofs.Common.{length-append, append_assoc, arith}
use Rattle.std.proofs.lemmas.List.{append-nil}
use Rattle.std.proofs.lemmas.List.Concat.{flat_map-append, length-flat_map}
use Rattle.std.proofs.lemmas.List.Elements.{All-push, All-weaker}
use Rattle.rand_core.specs.Steps.{first_words}
use Rattle.rand_pcg.specs.Lcg.{Lcg}
use Rattle.rand_pcg.specs.Pcg.{pcg64}
use Rattle.event_records.specs.declared.kind.Kind.{Kind}
use Rattle.event_records.specs.declared.limits.TheConstants.{MAX_OPERATIONS, MAX_THREAD_OPERATIONS}
use Rattle.event_records.specs.declared.limits.TheConstants.{MAX_WORKERS}
use Rattle.workloads.specs.Plans.{IsPlan}
use Rattle.workloads.specs.Seeds.{kind_of_word, kinds_of_words, generator_of, IsSeeded}
use Rattle.workloads.specs.Inner.Seeds.{GivesKinds}

first_kind : (percent more : ℕ) (before : Lcg) → kinds_of_words percent (1 + more) before ≡ kind_of_word percent
    (pcg64 before).0 ∷ kinds_of_words percent more (pcg64 before).1
unfolding first_words
first_kind percent more before = let next : 1 + more ≡ suc more = omega arith in ap (λ (n : ℕ). kinds_of_words percent n before) next

gives_word : (percent : ℕ) (before : Lcg) (word : ℕ) (after : Lcg) → (word, after) ≡ pcg64 before
    → GivesKinds percent before (kind_of_word percent word ∷ []) after
gives_word percent before word after step = record {
  begins = λ more. first_kind percent more before ∙ ap (λ (p : ℕ × Lcg). kind_of_word percent p.0 ∷ kinds_of_words percent more p.1) (sym step);
}

-- kinds, and then further kinds
gives_both : (percent : ℕ) (before middle after : Lcg) (kinds further : List Kind) → GivesKinds percent before kinds middle
    → GivesKinds percent middle further after → GivesKinds percent before (kinds ++ further) after
gives_both percent before middle after kinds further first second = record {
  begins = λ more.
      let sum : length (kinds ++ further) + more ≡ length kinds + (length further + more) = omega (arith, length-append kinds further) in
      ap (λ (n : ℕ). kinds_of_words percent n before) sum
      ∙ first.begins (length further + more)
      ∙ ap (λ (rest : List Kind). kinds ++ rest) (second.begins more)
      ∙ sym (append_assoc kinds further (kinds_of_words percent more after));
}

-- one more kind
pub gives_more : (percent : ℕ) (before middle after : Lcg) (kinds longer : List Kind) (word : ℕ) (kind : Kind)
    → GivesKinds percent before kinds middle → (word, after) ≡ pcg64 middle → kind ≡ kind_of_word percent word → longer ≡ kinds ++ kind ∷ []
    → GivesKinds percent before longer after
gives_more percent before middle after kinds longer word kind first step is last =
    let both = gives_both percent before middle after kinds (kind_of_word percent word ∷ []) first (gives_word percent middle word after step) in
    subst (λ (l : List Kind). GivesKinds percent before l after) (sym (last ∙ ap (λ (k : Kind). kinds ++ k ∷ []) is)) both

-- rows of this many operations each, whose kinds come from the words
pub record GivesRows (percent operations : ℕ) (before : Lcg) (rows : List (List Kind)) (after : Lcg) : Type 0 where
  pub lengths : All (λ row. length row ≡ operations) rows
  pub total : length (flat_map (λ row. row) rows) ≡ length rows * operations
  pub kinds : GivesKinds percent before (flat_map (λ row. row) rows) after

-- one more row
pub gives_row : (percent operations : ℕ) (before middle after : Lcg) (rows longer : List (List Kind)) (row : List Kind)
    → GivesRows percent operations before rows middle → GivesKinds percent middle row after → length row ≡ operations → longer ≡ rows ++ row ∷ []
    → GivesRows percent operations before longer after
gives_row percent operations before middle after rows longer row first next size last =
    subst (λ (l : List (List Kind)). GivesRows percent operations before l after) (sym last) (record {
      lengths = All-push (λ (r : List Kind). length r ≡ operations) rows row first.lengths size;
      total = let parts = ap length joined in let sizes = length-append (flat_map (λ (r : List Kind). r) rows) row in let count =
          length-append rows (row ∷ []) in let old = first.total in rw count (omega (arith, parts, sizes, old, size));
      kinds = subst (λ (l : List Kind). GivesKinds percent before l after) (sym joined)
          (gives_both percent before middle after (flat_map (λ (r : List Kind). r) rows) row first.kinds next);
    })
  where
    joined : flat_map (λ (r : List Kind). r) (rows ++ row ∷ []) ≡ flat_map (λ (r : List Kind). r) rows ++ row
    joined = flat_map-append (λ (r : List Kind). r) rows (row ∷ []) ∙ ap (λ (l : List Kind). flat_map (λ (r : List Kind). r) rows ++ l) (append-nil row)

-- one row for each worker is a plan of the seed
pub seeded : (seed percent workers operations : ℕ) (rows : List (List Kind)) (after : Lcg)
    → GivesRows percent operations (generator_of seed) rows after → length rows ≡ workers → IsSeeded seed workers operations percent rows
unfolding first_words
seeded seed percent workers operations rows after given count =
    let start = generator_of seed in
    let all : length (flat_map (λ (r : List Kind). r) rows) + 0 ≡ workers * operations =
    add-zero (length (flat_map (λ (r : List Kind). r) rows)) ∙ given.total ∙ ap (λ (n : ℕ). n * operations) count in
    record {
      all_workers = count;
      all_operations = given.lengths;
      kinds = sym (append-nil (flat_map (λ (r : List Kind). r) rows)) ∙ sym (given.kinds.begins 0) ∙ ap (λ (n : ℕ). kinds_of_words percent n start) all;
    }

-- such rows are within the limits if their numbers are
pub seeded_plan : (percent operations : ℕ) (before : Lcg) (rows : List (List Kind)) (after : Lcg) → GivesRows percent operations before rows after
    → 1 ≤ length rows → length rows ≤ MAX_WORKERS → operations ≤ MAX_THREAD_OPERATIONS → length rows * operations ≤ MAX_OPERATIONS → IsPlan rows
seeded_plan percent operations before rows after given some few short small = record {
  some = some;
  few = few;
  short = All-weaker (λ (r : List Kind). length r ≡ operations) (λ (r : List Kind). length r ≤ MAX_THREAD_OPERATIONS) (λ r is. omega arith) rows given.lengths;
  small = let counted = length-flat_map (λ (r : List Kind). r) rows in let total = given.total in omega (arith, counted, total);
}
