use Rattle.commands.proofs.Common.{answer_of, AnswersOrNoMemory, carries, HistoryText, IsFaultOfHistoryInput, IsHistoryOf, Reply, said_in, ShrinksSound, subst, sym}
use Rattle.commands.proofs.Common.{Bool, false, refl, true, ◌≡◌}
use Rattle.commands.proofs.OneAnswer.{faults_answered, few_values, of_value}
use Rattle.command_words.specs.declared.options.Condition.{Condition}
use Rattle.commands.specs.Judging.{Shrinks}
use Rattle.commands.proofs.shrink.shrink.Goals as goal

-- the condition with these flags
with_flags : (condition : Condition) (is_local is_weak : Bool) → condition.is_local ≡ is_local → condition.is_weakly_empty ≡ is_weak
    → (text : HistoryText) (answer : Reply) → AnswersOrNoMemory (Shrinks (record { is_local = is_local; is_weakly_empty = is_weak })) text answer
    → AnswersOrNoMemory (Shrinks condition) text answer
with_flags condition is_local is_weak local weak text answer =
    subst (λ (c : Condition). AnswersOrNoMemory (Shrinks c) text answer)
    (sym (λ i. record { is_local = local i; is_weakly_empty = weak i }))

pub shrink_weakly-requires-clause-few : goal.shrink_weakly-requires-clause-few
shrink_weakly-requires-clause-few g c = few_values (said_in c.in_ok-version.version c.in_ok-version.history) c.in_ok-version.ensures.has

pub shrink_locally-requires-clause-few : goal.shrink_locally-requires-clause-few
shrink_locally-requires-clause-few g c = few_values (said_in c.in_ok-version.version c.in_ok-version.history) c.in_ok-version.ensures.has

pub returns-in_err-version-clause-found : goal.returns-in_err-version-clause-found
returns-in_err-version-clause-found g c = rw (carries c.from_residual.result _ c.from_residual.ensures.1)
    (faults_answered (ShrinksSound c.args.condition) (g.S.TextSource.ahead c.args.reader) _ c.in_err-version.ensures.fault)

pub returns-then-condition-clause-found : goal.returns-then-condition-clause-found
returns-then-condition-clause-found g c =
    of_value IsHistoryOf IsFaultOfHistoryInput (Shrinks c.args.condition) (g.S.TextSource.ahead c.args.reader) _ _ c.in_ok-version.ensures.history
    (with_flags c.args.condition true c.args.condition.is_weakly_empty c.if-condition.true refl
    (said_in c.in_ok-version.version c.in_ok-version.history) (answer_of c.shrink_locally.result)
    (c.shrink_locally.ensures.found c.args.condition.is_weakly_empty c.emptiness_of.ensures))

pub returns-then-condition-2-clause-found : goal.returns-then-condition-2-clause-found
returns-then-condition-2-clause-found g c =
    of_value IsHistoryOf IsFaultOfHistoryInput (Shrinks c.args.condition) (g.S.TextSource.ahead c.args.reader) _ _ c.in_ok-version.ensures.history
    (with_flags c.args.condition false true c.if-condition.false c.if-condition-2.true
    (said_in c.in_ok-version.version c.in_ok-version.history) (answer_of c.shrink_weakly.result) c.shrink_weakly.ensures.found)

pub returns-else-condition-2-clause-found : goal.returns-else-condition-2-clause-found
returns-else-condition-2-clause-found g c =
    of_value IsHistoryOf IsFaultOfHistoryInput (Shrinks c.args.condition) (g.S.TextSource.ahead c.args.reader) _ _ c.in_ok-version.ensures.history
    (with_flags c.args.condition false false c.if-condition.false c.if-condition-2.false
    (said_in c.in_ok-version.version c.in_ok-version.history) (answer_of c.shrink_history.result) c.shrink_history.ensures.found)
