use Rattle.std.proofs.Common.{Ok, Err, inr}
use Rattle.std.specs.Prelude.{IfOk, string_bytes}
use Rattle.std.specs.declared.result.Result.{Result}
use Rattle.messages.proofs.sentences.sentence.Goals as goal

-- a fact about a result, in a weaker form
weaker : {T E : Type 0} (P Q : T → Type 0) (result : Result T E) → ((made : T) → P made → Q made) → IfOk result P
    → IfOk result Q
weaker P Q (Ok made) follows known = follows made known
weaker P Q (Err fault) follows known = known

pub returns : goal.returns
returns c = weaker _ _ c.joined.result (λ made is. inr (record {
  first = string_bytes c.in_ok-said-2.said;
  second = string_bytes c.in_ok-hint.hint;
  is_first = c.in_ok-said-2.ensures;
  is_second = c.in_ok-hint.ensures;
  is = is;
})) c.joined.ensures
