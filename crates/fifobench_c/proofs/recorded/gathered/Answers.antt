use Rattle.fifobench_c.proofs.Common.{[], ◌++◌, ◌<◌, ◌∙◌, ◌∷◌, ◌≡◌, arith, get_or, length, length-take-le, Some, sym}
use Rattle.fifobench_c.proofs.Common.{take, event_of}
use Rattle.std.proofs.lemmas.List.{get_or_default}
use Rattle.event_records.specs.declared.limits.TheConstants.{MAX_EVENTS}
use Rattle.fifobench_c.proofs.Structs.{as_many, one_more}
use Rattle.fifobench_c.proofs.recorded.gathered.Goals as goal

pub loop-place-preserved : goal.loop-place-preserved
loop-place-preserved c =
    let structs = c.args.structs.now in
    let place = c.loop-place.place in
    let inside = c.loop-place-test.true in
    let read = c.loop-place.invariant in
    let here = get_or structs place (record { ticket = 0; value = 0; thread = 0; what = 0 }) in
    let known : event_of here ≡ Some c.in-Some.event = sym c.event.ensures ∙ c.in-Some.is in
    let same_here : here ≡ get_or structs place here = get_or_default structs place (record { ticket = 0; value = 0; thread = 0; what = 0 }) here inside in
    let few : length read.0 < MAX_EVENTS =
    omega (arith, as_many (take place structs) read.0 read.1, length-take-le place structs (omega (arith, inside)), inside, c.requires) in
    (read.0 ++ c.in-Some.event ∷ [], one_more structs place here c.in-Some.event read.0 inside same_here known read.1, c.add.ensures.added [] read.0 read.2 few)
