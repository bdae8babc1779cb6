use Rattle.history_merge.specs.Operations.{operations_of}
use Rattle.text_lines.proofs.Putting.{longer_front, refused_text, writes_then}
use Rattle.claims.specs.Claiming.{claim_of}
use Rattle.history_text.specs.Verdicts.{verdict_text}
use Rattle.history_text.specs.Versions.{said_in, text_of}
use Rattle.history_text.proofs.verdict_writer.write_shown.Goals as goal

pub returns-in_err-write_history : goal.returns-in_err-write_history
returns-in_err-write_history g c = refused_text _ _ _ _ c.from_residual.result _ _ _ c.from_residual.ensures.1
    (longer_front _ _ _ (text_of (said_in c.args.version c.args.history.now))
    (verdict_text (claim_of c.args.history.now.initial (operations_of c.args.history.now.events) c.args.verdict.now)) _ _
    c.in_err-write_history.ensures.text)

pub returns : goal.returns
returns g c = writes_then _ _ _ c.write_verdict.result (text_of (said_in c.args.version c.args.history.now))
    (verdict_text (claim_of c.args.history.now.initial (operations_of c.args.history.now.events) c.args.verdict.now)) _ _ _
    c.in_ok-write_history.ensures.text c.write_verdict.ensures
