-- The getters of the matches, by the rows.
use Rattle.std.proofs.Common.{◌≡◌, ◌∙◌, ap, sym, subst, ℕ, Option, Some, None, Result, Err, option_map, is_some, true, false}
use Rattle.std.specs.Prelude.{IsSome, IsSomeAnd}
use Rattle.std.specs.Borrow.{Bor}
use Rattle.std.specs.Str.Parse.{ParsesUnsigned}
use Rattle.clap.specs.Matches.{first_value}
use Rattle.clap.specs.Values.{IsUnsignedIn}
use Rattle.clap.specs.Walk.{Text, first_of, rows_of}
use Rattle.clap.specs.declared.parser.matches.Found.{Found}
use Rattle.clap.proofs.WalkLemmas.{first_value-rows}

module _ (f : Found) (id : Text) (o : Option (Bor Text)) (got : option_map (λ s. s.now) o ≡ first_value f id) where
  -- an option that wasn't found has no row
  pub absent : o ≡ None → None ≡ first_of id (rows_of f)
  absent none = ap (option_map (λ s. s.now)) (sym none) ∙ got ∙ first_value-rows f id

  -- an option whose text has a property has a text
  pub some_text : (P : Text → Type 0) → IsSomeAnd (first_of id (rows_of f)) P → o ≡ None → ⊥
  some_text P h none = subst (λ (x : Option Text). IsSomeAnd x P) (sym (absent none)) h

  -- an option with a text is found
  pub no_text : IsSome (first_of id (rows_of f)) → o ≡ None → ⊥
  no_text h none =
      let bad : false ≡ true = subst (λ (x : Option Text). is_some x ≡ true) (sym (absent none)) h in
      cc

  -- the text that was found is the first of the rows
  pub that_text : (t : Bor Text) → o ≡ Some t → first_of id (rows_of f) ≡ Some t.now
  that_text t some = sym (first_value-rows f id) ∙ sym got ∙ ap (option_map (λ s. s.now)) some

  -- a text that is a number in a range is parsed without failing
  pub parses : {E : Type 0} (t : Bor Text) → o ≡ Some t → (low high : ℕ) → IsSomeAnd (first_of id (rows_of f)) (IsUnsignedIn low high) → (r : Result ℕ E)
      → ParsesUnsigned 64 10 t.now r → (e : E) → r ≡ Err e → ⊥
  parses t some low high h r p e is =
      let range : IsUnsignedIn low high t.now = subst (λ (x : Option Text). IsSomeAnd x (IsUnsignedIn low high)) (that_text t some) h in
      let fails = rw is at p in
      fails (range.0, range.1)
