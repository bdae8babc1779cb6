-- Two clauses of one result.
use Rattle.std.proofs.Common.{Result, Ok, Err, IfOk}

-- a fact that follows from two facts about the value
pub IfOk-both : {T E : Type 0} (r : Result T E) (P Q S : T → Type 0) → IfOk r P → IfOk r Q → ((x : T) → P x → Q x → S x) → IfOk r S
IfOk-both (Ok x) P Q S p q f = f x p q
IfOk-both (Err e) P Q S p q f = tt
