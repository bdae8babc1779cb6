-- Values sorted by their enqueues' returns, and the one that stays longest in each prefix.
use Rattle.value_match.proofs.Common.{[], All, All-from_get_or, All-get_or, All-nil, All-permutation, All-push}
use Rattle.value_match.proofs.Common.{All-weaker, Any, ap, AreEntriesOf, arith, below_more, cases_lt, Contains}
use Rattle.value_match.proofs.Common.{Contains-append_left, Contains-permutation, Contains-push, DequeueEmpty}
use Rattle.value_match.proofs.Common.{enqueue_return}
use Rattle.value_match.proofs.Common.{EntersBefore, false, FindsLongest, Front, get_or, get_or-map, get_or-set_other}
use Rattle.value_match.proofs.Common.{get_or-set_same, get_or-take, get_or_default, HasFronts, IfSome, inl, inr}
use Rattle.value_match.proofs.Common.{IsEntryOf, IsFrontAt, IsLongerOf, IsLongestOf, IsNonDecreasingBy}
use Rattle.value_match.proofs.Common.{IsPartitionPoint, IsPermutation, IsPermutation-map, IsPermutation-refl}
use Rattle.value_match.proofs.Common.{IsPermutation-sym, IsPermutation-trans, IsTableOf, length, length-map}
use Rattle.value_match.proofs.Common.{length-set, length-take-le, Life, List, ltb, ltb-false, ltb-true, map-append}
use Rattle.value_match.proofs.Common.{MatchedValue, MatchOption, None, NonePasses, Option, refl, rules, set, Some}
use Rattle.value_match.proofs.Common.{StaysAtLeast, subst, sym, take, take_all, take_more, true, values_at, ℕ, ◌++◌}
use Rattle.value_match.proofs.Common.{◌+◌, ◌<◌, ◌∙◌, ◌∷◌, ◌≡◌, ◌≤◌}
use Rattle.value_match.proofs.Lists.{one_more}
use Rattle.value_match.specs.declared.life.Source.TheVariants.{Initial}

-- ---- one more value in a scan for the one that stays longest among those that pass

-- staying at least as long is transitive
pub stays_through : (x y z : Life) → StaysAtLeast x y → StaysAtLeast y z → StaysAtLeast x z
stays_through x y z first second = (omega (arith, first.0, second.0), λ same. grind (arith, first, second))

-- each value stays as long as itself
pub stays_as_itself : (x : Life) → StaysAtLeast x x
stays_as_itself x = (omega arith, λ same. omega arith)

module _ (Passes : Life → Type 0) where
  -- the value stays at least as long as another, if that passes
  abbrev StaysPast : MatchedValue → MatchedValue → Type 0
  StaysPast value other = Passes other.life → StaysAtLeast value.life other.life

  alone : (seen : List MatchedValue) (x : MatchedValue) → NonePasses Passes seen → Passes x.life
      → IsLongestOf Passes (seen ++ x ∷ []) x
  alone seen x none passes = record {
    among = Contains-push seen x;
    passes = passes;
    longest = All-push (StaysPast x) seen x (All-weaker (λ value. ¬ (Passes value.life)) (StaysPast x)
        (λ other not passes. absurd (not passes)) seen none) (λ _. stays_as_itself x.life);
  }

  taken : (seen : List MatchedValue) (x r : MatchedValue) (found : Option MatchedValue)
      → FindsLongest Passes seen found → Passes x.life
      → MatchOption found (r ≡ x) (λ a. IsLongerOf a x r) → IsLongestOf Passes (seen ++ x ∷ []) r
  taken seen x r None none passes same = subst (IsLongestOf Passes (seen ++ x ∷ [])) (sym same) (alone seen x none passes)
  taken seen x r (Some a) is passes longer = record {
    among = elim longer.is_one [
      | inl same ↦ subst (Contains (seen ++ x ∷ [])) (sym same) (Contains-append_left seen (x ∷ []) a is.among)
      | inr same ↦ subst (Contains (seen ++ x ∷ [])) (sym same) (Contains-push seen x)
    ];
    passes = elim longer.is_one [ inl same ↦ subst (λ y. Passes y.life) (sym same) is.passes | inr same ↦ subst (λ y. Passes y.life) (sym same) passes ];
    longest = All-push (StaysPast r) seen x
        (All-weaker (StaysPast a) (StaysPast r) (λ other stays passes'. stays_through r.life a.life other.life longer.stays_first (stays passes'))
        seen is.longest)
        (λ _. longer.stays_second);
  }

  -- the next value passes
  pub longest_changes : (values : List MatchedValue) (i : ℕ) (x r : MatchedValue) (found : Option MatchedValue)
      → i < length values
      → x ≡ get_or values i x → FindsLongest Passes (take i values) found
      → Passes x.life → MatchOption found (r ≡ x) (λ a. IsLongerOf a x r)
      → FindsLongest Passes (take (i + 1) values) (Some r)
  longest_changes values i x r found within is so_far passes longer =
      subst (λ seen. IsLongestOf Passes seen r) (sym (one_more values i x within is)) (taken (take i values) x r found so_far passes longer)

-- ---- values sorted by their enqueues' returns, and the one that stays longest in each prefix

-- a value for indices that are out of range
abbrev nobody : MatchedValue
nobody = record { life = record { enqueue = record { call = 0; ret = 0; thread = 0; kind = DequeueEmpty }; dequeue = None }; source = Initial 0; dequeue = None }

-- a front for indices that are out of range
abbrev pub nowhere : Front
nowhere = record { enqueue_return = 0; place = 0 }

-- the entry of a value at this place
abbrev entry_of : MatchedValue → ℕ → Front
entry_of x n = record { enqueue_return = enqueue_return x.life; place = n }

-- the enqueue returns and places of the first n values
pub record ListsValues (values : List MatchedValue) (n : ℕ) (entries : List Front) : Type 0 where
  pub names : All (IsEntryOf values) entries
  pub each_once : (d : MatchedValue) → values_at values entries d ≡ take n values

-- one more value is listed
pub lists_more : (values : List MatchedValue) (n : ℕ) (x : MatchedValue) (entries : List Front) → n < length values
    → x ≡ get_or values n x
    → ListsValues values n entries → ListsValues values (n + 1) (entries ++ entry_of x n ∷ [])
lists_more values n x entries within is known = record {
  names = All-push (IsEntryOf values) entries (entry_of x n) known.names
      (record { within = within; returns = λ d. ap (λ (v : MatchedValue). enqueue_return v.life) (is ∙ get_or_default values n x d within) });
  each_once = λ d.
      rw (map-append, known.each_once d, take_more values n d within) refl;
}

-- all values are listed
pub all_listed : (values : List MatchedValue) (n : ℕ) (entries : List Front) → length values ≤ n
    → ListsValues values n entries → AreEntriesOf values entries
all_listed values n entries all known = record {
  names = known.names;
  each_once = λ d. subst (λ (vs : List MatchedValue). IsPermutation vs (values_at values entries d)) (known.each_once d ∙ take_all n values all)
      (IsPermutation-refl (values_at values entries d));
}

-- the entries in another order
pub entries_moved : (values : List MatchedValue) (listed entries : List Front) → AreEntriesOf values listed
    → IsPermutation listed entries
    → AreEntriesOf values entries
entries_moved values listed entries known moved = record {
  names = All-permutation (IsEntryOf values) listed entries moved known.names;
  each_once = λ d. IsPermutation-trans values (values_at values listed d) (values_at values entries d) (known.each_once d)
      (IsPermutation-map (λ (e : Front). get_or values e.place d) listed entries moved);
}

-- the value at the place, if there is one
abbrev value_at : List MatchedValue → MatchedValue → Option ℕ → Option MatchedValue
value_at values d None = None
value_at values d (Some p) = Some (get_or values p d)

-- the first n entries name the value that stays longest in their prefix, and the others are unchanged
pub record HasSoFar (values : List MatchedValue) (entries : List Front) (n : ℕ) (fronts : List Front)
    (so_far : Option ℕ) : Type 0 where
  pub one_each : length fronts ≡ length entries
  pub each : (i : ℕ) → i < n → (f : Front) → IsFrontAt values entries i (get_or fronts i f)
  pub others : (i : ℕ) → n ≤ i → (f : Front) → get_or fronts i f ≡ get_or entries i f
  pub within : IfSome so_far (λ p. p < length values)
  pub longest : (d : MatchedValue) → FindsLongest Any (take n (values_at values entries d)) (value_at values d so_far)

-- no front has a longest value at first
pub none_so_far : (values : List MatchedValue) (entries : List Front) → HasSoFar values entries 0 entries None
none_so_far values entries = record {
  one_each = refl;
  each = λ i less f. absurd (omega arith);
  others = λ i after f. refl;
  within = search rules;
  longest = λ d. All-nil (λ value. ¬ (Any value.life));
}

longer_at : (values : List MatchedValue) (d : MatchedValue) (so_far : Option ℕ) (place p : ℕ)
    → MatchOption so_far (p ≡ place) (λ q. IsLongerOf (get_or values q d) (get_or values place d) (get_or values p d))
    → MatchOption (value_at values d so_far) (get_or values p d ≡ get_or values place d)
    (λ a. IsLongerOf a (get_or values place d) (get_or values p d))
longer_at values d None place p same = ap (λ q. get_or values q d) same
longer_at values d (Some q) place p longer = longer

-- one more entry names its value
pub one_more_front : (values : List MatchedValue) (entries : List Front) (n p : ℕ) (e : Front) (fronts : List Front)
    (so_far : Option ℕ)
    → n < length fronts → e ≡ get_or fronts n e → HasSoFar values entries n fronts so_far
    → p < length values → ((d : MatchedValue) → MatchOption so_far (p ≡ e.place)
    (λ q. IsLongerOf (get_or values q d) (get_or values e.place d) (get_or values p d)))
    → HasSoFar values entries (n + 1) (set fronts n (record e { place = p })) (Some p)
one_more_front values entries n p e fronts so_far inside read known within longer =
    let front : Front = record { enqueue_return = e.enqueue_return; place = p } in
    let below : n < length entries = omega (arith, known.one_each) in
    let is = read ∙ known.others n (omega arith) e in
    let stays_longest = λ (d : MatchedValue).
    let order = values_at values entries d in
    let x = get_or values e.place d in
    let many = length-map entries (λ (e : Front). get_or values e.place d) in
    let here : x ≡ get_or order n x = sym (get_or-map (λ (e : Front). get_or values e.place d) entries n e x below
    ∙ ap (λ (e : Front). get_or values e.place d) (sym is)) in
    longest_changes Any order n x (get_or values p d) (value_at values d so_far) (omega (arith, many)) here (known.longest d) tt
    (longer_at values d so_far e.place p (longer d)) in
    let is_front : IsFrontAt values entries n front = record {
      returns = λ e'. ap (λ (e : Front). e.enqueue_return) (is ∙ get_or_default entries n e e' below);
      within = within;
      longest = stays_longest;
    } in
    record {
      one_each = length-set fronts n front ∙ known.one_each;
      each = below_more (λ i. (f : Front) → IsFrontAt values entries i (get_or (set fronts n front) i f)) n
          (λ i less f. rw (get_or-set_other fronts n i front f (omega arith)) (known.each i less f))
          (λ f. rw (get_or-set_same fronts n front f inside) is_front);
      others = λ i after f. get_or-set_other fronts n i front f (omega arith) ∙ known.others i (omega arith) f;
      within = within;
      longest = stays_longest;
    }

-- all entries name their values
pub all_fronts : (values : List MatchedValue) (entries fronts : List Front) (n : ℕ) (so_far : Option ℕ)
    → length fronts ≤ n
    → HasSoFar values entries n fronts so_far → HasFronts values entries fronts
all_fronts values entries fronts n so_far all known = record { one_each = known.one_each; each = λ i less f. known.each i (omega (arith, known.one_each)) f }

-- the fronts are sorted by their enqueues' returns
pub fronts_rise : (values : List MatchedValue) (fronts : List Front) → IsTableOf values fronts
    → IsNonDecreasingBy (λ f. f.enqueue_return) fronts
fronts_rise values fronts table i j f le inside =
    let upper : j < length table.0 = omega (arith, table.2.one_each) in
    let lower : i < length table.0 = omega arith in
    let here = (table.2.each i lower f).returns nowhere in
    let there = (table.2.each j upper f).returns nowhere in
    let rises = table.1.rises i j nowhere le upper in
    omega arith

-- the value that stays longest in a prefix is one of the values
pub longest_within : (values : List MatchedValue) (fronts : List Front) (i : ℕ) (front : Front)
    → IsTableOf values fronts → i < length fronts
    → front ≡ get_or fronts i front → front.place < length values
longest_within values fronts i front table inside is = subst (λ (f : Front). f.place < length values) (sym is)
    (table.2.each i (omega (arith, table.2.one_each)) front).within

-- the values that entered before a limit, by the first i fronts, which are those before it
module _ (values : List MatchedValue) (fronts : List Front) (limit i : ℕ) (table : IsTableOf values fronts)
    (point : IsPartitionPoint (λ (f : Front). ltb f.enqueue_return limit ≡ true) (λ (f : Front). ltb f.enqueue_return limit ≡ false) fronts i)
    (within : i ≤ length fronts) where
  counted : (d : MatchedValue) → length (values_at values table.0 d) ≡ length fronts
  counted d = length-map table.0 (λ (e : Front). get_or values e.place d) ∙ sym table.2.one_each

  return_at : (d e : MatchedValue) (k : ℕ) (f : Front) → k < length fronts
      → (get_or fronts k f).enqueue_return ≡ enqueue_return (get_or (values_at values table.0 d) k e).life
  return_at d e k f inside =
      let below : k < length table.0 = omega (arith, table.2.one_each) in
      (table.2.each k below f).returns nowhere ∙ (All-get_or (IsEntryOf values) table.0 k nowhere below table.1.are.names).returns d
      ∙ ap (λ (v : MatchedValue). enqueue_return v.life) (sym (get_or-map (λ (e : Front). get_or values e.place d) table.0 k nowhere e below))

  enters : (d e : MatchedValue) (k : ℕ) → k < i → EntersBefore limit (get_or (values_at values table.0 d) k e).life
  enters d e k less =
      let yes = ltb-true (get_or fronts k nowhere).enqueue_return limit (point.0 k nowhere (omega arith) less) in
      omega (arith, yes, return_at d e k nowhere (omega arith))

  enters_not : (d e : MatchedValue) (k : ℕ) → i ≤ k → k < length fronts
      → ¬ (EntersBefore limit (get_or (values_at values table.0 d) k e).life)
  enters_not d e k after inside less =
      let no = ltb-false (get_or fronts k nowhere).enqueue_return limit (point.1 k nowhere after inside) in
      omega (arith, no, less, return_at d e k nowhere inside)

  -- if no front is before the limit, no value entered before it
  pub none_before : i ≡ 0 → NonePasses (EntersBefore limit) values
  none_before none =
      let order = values_at values table.0 nobody in
      All-permutation (λ v. ¬ (EntersBefore limit v.life)) order values (IsPermutation-sym values order (table.1.are.each_once nobody))
      (All-from_get_or (λ v. ¬ (EntersBefore limit v.life)) order nobody (λ k inside. enters_not nobody nobody k (omega arith) (omega (arith, counted nobody))))

  -- the last front before the limit names the value that stays longest among those before it
  pub longest_found : (last : ℕ) (front : Front) (d : MatchedValue) → last + 1 ≡ i → front ≡ get_or fronts last front
      → IsLongestOf (EntersBefore limit) values (get_or values front.place d)
  longest_found last front d is here =
      let order = values_at values table.0 d in
      let value = get_or values front.place d in
      let back = IsPermutation-sym values order (table.1.are.each_once d) in
      let many = counted d in
      let long = length-take-le i order (omega arith) in
      let is_longest : IsLongestOf Any (take i order) value =
      rw (← is, here) ((table.2.each last (omega (arith, table.2.one_each)) front).longest d) in
      let (k, low, at) = is_longest.among in
      let less : k < i = omega arith in
      let same = sym (get_or-take i order k value less) ∙ at in
      record {
        among = Contains-permutation order values value back (k, omega arith, same);
        passes = subst (λ (v : MatchedValue). EntersBefore limit v.life) same (enters d value k less);
        longest = All-permutation (λ other. EntersBefore limit other.life → StaysAtLeast value.life other.life) order values back
            (All-from_get_or (λ other. EntersBefore limit other.life → StaysAtLeast value.life other.life) order d
            (λ j inside passes. elim (cases_lt j i) [
              | inl before ↦ rw (← get_or-take i order j d before)
                  (All-get_or (λ other. Any other.life → StaysAtLeast value.life other.life) (take i order) j d (omega arith) is_longest.longest tt)
              | inr after ↦ absurd (enters_not d d j after (omega arith) passes)
            ]));
      }
