use Rattle.history_text.proofs.Common.{Ahead, ap, ◌≡◌, EndOfInput, IsOver, NoRoomForVerdict, refl, verdict_text}
use Rattle.history_text.proofs.OneVerdict.{judged, stands}
use Rattle.history_text.proofs.FirstFaults.{reads_what_is_there}
use Rattle.history_text.proofs.reader.read_verdict.Goals as goal

pub returns-clause-whole : goal.returns-clause-whole
returns-clause-whole g c = λ claimed has begins.
    reads_what_is_there judged NoRoomForVerdict _ (λ c d. c ≡ d) c.args.reader.now.lines _ _ c.claim-result.result
    c.claim-result.ensures.claim c.claim-result.ensures.fault
    (λ c is. (
      c,
      is.0,
      is.1,
      λ b may. let over_is = is.2.only b may in (ap (λ (a : Ahead). a.bytes) over_is, ap (λ (a : Ahead). a.ending) over_is),
      refl,
    )) claimed has (stands _ (verdict_text claimed) begins)
