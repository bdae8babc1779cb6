-- A walk over arguments without a fault keeps rows whose first values pass.
use Rattle.std.proofs.Common.{◌≡◌, ◌&&◌, ℕ, zero, suc, Bool, true, false, List, [], ◌∷◌, Option, Some, None, is_some, length, drop}
use Rattle.std.specs.Prelude.{⊤, IfSome, find, fold, slice_get, encode_utf8, if◌then◌else◌}
use Rattle.std.specs.Option.{option_map_or}
use Rattle.std.specs.Str.{bytes_eq, chars}
use Rattle.clap.specs.Lexer.{long_of, short_of}
use Rattle.clap.specs.Simple.{Shape}
use Rattle.clap.specs.Kinds.{Kinds, or_else}
use Rattle.clap.specs.Faults.{bundle_fault, bundle_step_fault, flag_word_fault, flags_fault, long_fault, option_fault, other_fault, positional_fault}
use Rattle.clap.specs.Faults.{react_fault, settle_fault, short_fault, step_fault, stray_fault, turn_fault, use_fault, walk_fault, word_fault}
use Rattle.clap.specs.Walk.{Held, Names, Outcome, Row, Rule, Step, Text, Waiting, Walk, after_flag, after_step, arg_by_id, arg_by_index, arg_by_long}
use Rattle.clap.specs.Walk.{arg_by_short, attached_value, bundle, bundle_met, bundle_step, done, flag_met, idle, is_pending, long_met, long_or_other}
use Rattle.clap.specs.Walk.{next, option, option_met, option_word, plain, plain_word, positional, positional_held, reacted, refused, settled}
use Rattle.clap.specs.Walk.{settled_rows, short_met, short_or_plain, subcommand, subcommand_met, subcommand_or_other, takes_several, takes_values}
use Rattle.clap.specs.Walk.{to_positional, trailing, used, used_by_id, value, waits, walked, walked_from, word_met}
use Rattle.clap.specs.declared.error.kind.ErrorKind.TheVariants as kind
use Rattle.command_words.proofs.NoKinds.{first_none, then_none}
use Rattle.command_words.proofs.Rows.{RowsPass}

-- a property of a walk that each turn without a fault keeps holds at its end
pub walk_keeps : (P : Walk → Type 0) (s : Shape) (names : Names)
    → ((w : Walk) (word : Text) → turn_fault s names w word ≡ [] → P w → P (walked s.rules names w word))
    → (args : List Text) (w : Walk) → walk_fault s names w args ≡ [] → P w → P (fold (walked s.rules names) w args)
unfolding walk_fault
walk_keeps P s names f [] w e p = p
walk_keeps P s names f (x ∷ xs) w e p = walk_keeps P s names f xs (walked s.rules names w x) (then_none _ _ e) (f w x (first_none _ _ e) p)

module _ (test : Text → Text → Bool) where
  -- a use of the rule without a fault keeps rows that pass
  abbrev pub UsesWell : Rule → Type 0
  UsesWell a = (again : Bool) (values : List Text) (rows : List Row) → use_fault again a values rows ≡ [] → RowsPass test rows
      → RowsPass test (used a values rows)

  -- each rule that a search of the list may find is used well
  abbrev pub FindsWell : List Rule → Type 0
  FindsWell c = (p : Rule → Bool) → IfSome (find p c) UsesWell

  abbrev pub AllUseWell : List Rule → Type 0
  AllUseWell [] = ⊤
  AllUseWell (a ∷ rules) = UsesWell a × AllUseWell rules

  -- if all rules of a list are used well, so is each that is found
  pub finds_well : (c : List Rule) → AllUseWell c → FindsWell c
  finds_well [] all p = tt
  finds_well (a ∷ rules) all p = go (p a) (finds_well rules all.1 p)
    where
      go : (b : Bool) → IfSome (find p rules) UsesWell → IfSome (if b then Some a else find p rules) UsesWell
      go true rest = all.0
      go false rest = rest

module _ (test : Text → Text → Bool) (c : List Rule) (well : FindsWell test c) (again : Bool) where
  -- ---- one use

  used_by_rule : (values : List Text) (rows : List Row) (o : Option Rule) → IfSome o (UsesWell test)
      → option_map_or (λ a. use_fault again a values rows) o [] ≡ []
      → RowsPass test rows → RowsPass test (used_by_id o values rows)
  used_by_rule values rows None u e p = p
  used_by_rule values rows (Some a) u e p = u again values rows e p

  settled_passes : (h : Held) → settle_fault c again h ≡ [] → RowsPass test h.rows → RowsPass test (settled c h).rows
  settled_passes h e p = go h.pending e
    where
      go : (o : Option (Text × List Text)) → option_map_or (λ q. option_map_or (λ a. use_fault again a q.1 h.rows) (arg_by_id c q.0) []) o [] ≡ []
          → RowsPass test (settled_rows c o h.rows)
      go None e = p
      go (Some q) e = used_by_rule q.1 h.rows (arg_by_id c q.0) (well (λ a. bytes_eq a.id q.0)) e p

  reacted_passes : (a : Rule) (values : List Text) (h : Held) → UsesWell test a → react_fault c again a values h ≡ [] → RowsPass test h.rows
      → RowsPass test (reacted c a values h).rows
  reacted_passes a values h u e p = u again values (settled c h).rows (then_none _ _ e) (settled_passes h (first_none _ _ e) p)

  option_passes : (a : Rule) (v : Option Text) (h : Held) → UsesWell test a → option_fault c again a v h ≡ [] → RowsPass test h.rows
      → RowsPass test (option_met c a v h).0.rows
  option_passes a (Some v) h u e p = reacted_passes a (v ∷ []) h u e p
  option_passes a None h u e p = settled_passes h e p

  flag_passes : (a : Rule) (v : Option Text) (h : Held) → UsesWell test a
      → (if is_some v then kind.TooManyValues ∷ [] else react_fault c again a [] h) ≡ [] → RowsPass test h.rows
      → RowsPass test (flag_met c a v h).0.rows
  flag_passes a (Some v) h u e p = p
  flag_passes a None h u e p = reacted_passes a [] h u e p

  long_passes : (o : Option Rule) (v : Option Text) (h : Held) → IfSome o (UsesWell test) → long_fault c again o v h ≡ [] → RowsPass test h.rows
      → RowsPass test (long_met c o v h).0.rows
  long_passes None v h u e p = p
  long_passes (Some a) v h u e p = go (takes_values a) e
    where
      go : (b : Bool) → (if b then option_fault c again a v h else (if is_some v then kind.TooManyValues ∷ [] else react_fault c again a [] h)) ≡ []
          → RowsPass test (if b then option_met c a v h else flag_met c a v h).0.rows
      go true e = option_passes a v h u e p
      go false e = flag_passes a v h u e p

  -- ---- a bundle of flags

  short_passes : (o : Option Rule) (rest : Text) (h : Held) (faults : Held → Kinds) (step : Held → Held × Outcome) → IfSome o (UsesWell test)
      → ((g : Held) → faults g ≡ [] → RowsPass test g.rows → RowsPass test (step g).0.rows) → short_fault c again o rest h faults ≡ [] → RowsPass test h.rows
      → RowsPass test (short_met c o rest h step).0.rows
  short_passes None rest h faults step u f e p = p
  short_passes (Some a) rest h faults step u f e p = go (takes_values a) e
    where
      go : (b : Bool) → (if b then option_fault c again a (attached_value rest) h else or_else (react_fault c again a [] h) (faults (reacted c a [] h))) ≡ []
          → RowsPass test (if b then option_met c a (attached_value rest) h else step (reacted c a [] h)).0.rows
      go true e = option_passes a (attached_value rest) h u e p
      go false e = f (reacted c a [] h) (then_none _ _ e) (reacted_passes a [] h u (first_none _ _ e) p)

  flags_pass : (k : ℕ) (flags : Text) (skip : ℕ) (so_far : Outcome) (h : Held) → flags_fault c again k flags skip h ≡ [] → RowsPass test h.rows
      → RowsPass test (bundle_met c k flags skip so_far h).0.rows
  unfolding flags_fault bundle_met
  flags_pass zero flags skip so_far h e p = p
  flags_pass (suc k) flags skip so_far h e p = go (slice_get (chars flags) 0) skip e (λ rest left o g f q. flags_pass k rest left o g f q)
    where
      go : (o : Option ℕ) (skip : ℕ) → bundle_step_fault c again o flags skip h (flags_fault c again k) ≡ []
          → ((rest : Text) (left : ℕ) (o : Outcome) (g : Held) → flags_fault c again k rest left g ≡ [] → RowsPass test g.rows
          → RowsPass test (bundle_met c k rest left o g).0.rows)
          → RowsPass test (bundle_step c o flags skip so_far h (bundle_met c k)).0.rows
      go None skip e step = p
      go (Some x) zero e step =
          let rest = drop (length (encode_utf8 x)) flags in
          short_passes (arg_by_short c x) rest h (flags_fault c again k rest 0) (bundle_met c k rest 0 done) (well _) (step rest 0 done) e p
      go (Some x) (suc skip) e step = step (drop (length (encode_utf8 x)) flags) skip so_far h e p

  -- ---- one word

  option_word_passes : (o : Option Rule) (id word : Text) (h : Held) → RowsPass test h.rows → RowsPass test (option_word o id word h).0.rows
  option_word_passes None id word h p = p
  option_word_passes (Some a) id word h p = p

  plain_passes : (waiting : Waiting) (word : Text) (h : Held) → RowsPass test h.rows → RowsPass test (plain_word c waiting word h).0.rows
  plain_passes idle word h p = p
  plain_passes (option id) word h p = option_word_passes (arg_by_id c id) id word h p
  plain_passes positional word h p = p

  after_flag_passes : (waiting : Waiting) (word : Text) (h : Held) (o : Outcome) → RowsPass test h.rows → RowsPass test (after_flag c waiting word h o).0.rows
  after_flag_passes waiting word h done p = p
  after_flag_passes waiting word h (waits id) p = p
  after_flag_passes waiting word h plain p = plain_passes waiting word h p
  after_flag_passes waiting word h refused p = plain_passes waiting word h p

  short_word_passes : (o : Option Text) (waiting : Waiting) (word : Text) (h : Held) → option_map_or (λ flags. bundle_fault c again flags h) o [] ≡ []
      → RowsPass test h.rows
      → RowsPass test (short_or_plain c waiting word o h).0.rows
  short_word_passes None waiting word h e p = plain_passes waiting word h p
  short_word_passes (Some flags) waiting word h e p =
      after_flag_passes waiting word (bundle c flags h).0 (bundle c flags h).1 (flags_pass (length flags) flags h.skip plain (record h { skip = 0 }) e p)

  flag_word_passes : (o : Option (Text × Option Text)) (waiting : Waiting) (word : Text) (h : Held) → flag_word_fault c again o word h ≡ []
      → RowsPass test h.rows
      → RowsPass test (long_or_other c waiting word o h).0.rows
  flag_word_passes None waiting word h e p = short_word_passes (short_of word) waiting word h e p
  flag_word_passes (Some q) waiting word h e p =
      after_flag_passes waiting word (long_met c (arg_by_long c q.0) q.1 h).0 (long_met c (arg_by_long c q.0) q.1 h).1
      (long_passes (arg_by_long c q.0) q.1 h (well _) e p)

  positional_passes : (a : Rule) (word : Text) (h : Held) → positional_fault c again a h ≡ [] → RowsPass test h.rows
      → RowsPass test (positional_held c a word h).rows
  positional_passes a word h e p = go (is_pending a h.pending && takes_several a) e
    where
      go : (b : Bool) → (if b then [] else settle_fault c again h) ≡ [] → RowsPass test (if b then h else settled c h).rows
      go true e = p
      go false e = settled_passes h e p

-- ---- one turn

module _ (test : Text → Text → Bool) (s : Shape) (names : Names) (well : FindsWell test s.rules) where
  other_passes : (o : Option Text) (waiting : Waiting) (position : ℕ) (word : Text) (h : Held) → other_fault s o word h ≡ [] → RowsPass test h.rows
      → RowsPass test (subcommand_or_other s.rules o waiting position word h).0.rows
  other_passes (Some name) waiting position word h e p = p
  other_passes None waiting position word h e p = go (bytes_eq word (45 ∷ 45 ∷ [])) e
    where
      go : (b : Bool) → (if b then [] else flag_word_fault s.rules s.args_override_self (long_of word) word h) ≡ []
          → RowsPass test (if b then (h, trailing position) else long_or_other s.rules waiting word (long_of word) h).0.rows
      go true e = p
      go false e = flag_word_passes test s.rules well s.args_override_self (long_of word) waiting word h e p

  word_passes : (is_trailing : Bool) (waiting : Waiting) (position : ℕ) (word : Text) (h : Held) → word_fault s names is_trailing waiting word h ≡ []
      → RowsPass test h.rows
      → RowsPass test (word_met s.rules names is_trailing waiting position word h).0.rows
  word_passes true waiting position word h e p = p
  word_passes false waiting position word h e p = other_passes (subcommand_met names waiting word) waiting position word h e p

  to_positional_passes : (o : Option Rule) (word : Text) (w : Walk) (h : Held)
      → option_map_or (λ a. positional_fault s.rules s.args_override_self a h) o (stray_fault s) ≡ [] → RowsPass test h.rows
      → RowsPass test (to_positional s.rules o word w h).held.rows
  to_positional_passes None word w h e p = p
  to_positional_passes (Some a) word w h e p = positional_passes test s.rules well s.args_override_self a word h e p

  step_passes : (step : Step) (word : Text) (w : Walk) (h : Held) → step_fault s w.position h step ≡ [] → RowsPass test h.rows
      → RowsPass test (after_step s.rules word w h step).held.rows
  step_passes (next waiting) word w h e p = p
  step_passes (trailing position) word w h e p = p
  step_passes (subcommand name) word w h e p = p
  step_passes value word w h e p = to_positional_passes (arg_by_index s.rules w.position) word w h e p

  -- a word without fault leaves rows that pass
  pub turn_passes : (w : Walk) (word : Text) → turn_fault s names w word ≡ [] → RowsPass test w.held.rows
      → RowsPass test (walked s.rules names w word).held.rows
  unfolding walked
  turn_passes w word e p = go w.stopped e
    where
      met : Held × Step
      met = word_met s.rules names w.is_trailing w.waiting w.position word w.held

      go : (o : Option (Text × List Text))
          → (if is_some o then [] else or_else (word_fault s names w.is_trailing w.waiting word w.held) (step_fault s w.position met.0 met.1)) ≡ []
          → RowsPass test (walked_from s.rules names o w word).held.rows
      go (Some q) e = p
      go None e = step_passes met.1 word w met.0 (then_none _ _ e) (word_passes w.is_trailing w.waiting w.position word w.held (first_none _ _ e) p)

  -- the rows after all arguments, once the pending one is used
  pub walk_passes : (args : List Text) (w : Walk) → walk_fault s names w args ≡ [] → RowsPass test w.held.rows
      → settle_fault s.rules s.args_override_self (fold (walked s.rules names) w args).held ≡ []
      → RowsPass test (settled s.rules (fold (walked s.rules names) w args).held).rows
  walk_passes args w e p settle = settled_passes test s.rules well s.args_override_self (fold (walked s.rules names) w args).held settle
      (walk_keeps (λ (x : Walk). RowsPass test x.held.rows) s names turn_passes args w e p)
