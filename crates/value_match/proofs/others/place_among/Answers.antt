use Rattle.value_match.proofs.Common.{ap, arith, Call, get_or_read, is_some, IsPartitionedBy-ltb}
use Rattle.value_match.proofs.Common.{IsPartitionPoint-from_clause, length, ltb, ltb-false, none_by_key, rules, sym}
use Rattle.value_match.proofs.Common.{◌∙◌}
use Rattle.value_match.proofs.others.place_among.Goals as goal

pub returns-in_default : goal.returns-in_default
returns-in_default c =
    let calls = c.args.calls.now in
    let point = IsPartitionPoint-from_clause (λ (call : Call). ltb call.value c.args.value) calls _ c.partition_point-below.ensures.partitioned
    (IsPartitionedBy-ltb (λ (call : Call). call.value) calls c.args.value c.requires) (λ a r f k. search rules) in
    none_by_key (λ (call : Call). call.value) calls c.args.value c.partition_point-below.result c.requires point
    (λ d below same. c.if-call-value.false (ap (λ (call : Call). call.value)
    (get_or_read calls c.partition_point-below.result c.in-Some.call.now below c.in-Some.ensures.lookup.1 d) ∙ same))

pub returns-in_default-2 : goal.returns-in_default-2
returns-in_default-2 c =
    let calls = c.args.calls.now in
    let point = IsPartitionPoint-from_clause (λ (call : Call). ltb call.value c.args.value) calls _ c.partition_point-below.ensures.partitioned
    (IsPartitionedBy-ltb (λ (call : Call). call.value) calls c.args.value c.requires) (λ a r f k. search rules) in
    none_by_key (λ (call : Call). call.value) calls c.args.value c.partition_point-below.result c.requires point
    (λ d below same. let none = c.get.ensures.lookup.0 in let no = sym (ap is_some c.in_default.is) ∙ none in let after =
    ltb-false c.partition_point-below.result (length calls) (sym no) in omega (arith, after, below))
