use Rattle.std.proofs.Common.{ap, ◌∙◌}
use Rattle.tickets.specs.Views.{LogView}
use Rattle.tickets.specs.declared.note.Effect.TheVariants as effect
use Rattle.history_merge.specs.Queue.{accept_all}
use Rattle.stress_run.specs.Noted.{kinds_noted}
use Rattle.stress_run.proofs.Accepting.{legal_more, put_accepts, refusal_accepts}
use Rattle.stress_run.proofs.proved.LockedLog.enqueue.Goals as goal

pub invariant_of-self : goal.invariant_of-self
invariant_of-self g c = record {
  word = ap (λ (l : LogView). l.key) c.note.ensures.logged ∙ c.args.self.now.word;
  legal = ap (λ (l : LogView). accept_all g.J.OfRun.initial (kinds_noted l.notes)) c.note.ensures.logged
      ∙ legal_more g.J.OfRun.initial c.args.self.now.log.notes c.call.result (effect.Enq c.value-value.result) c.note.result c.args.self.now.list c.put.new.self
      c.args.self.now.legal (put_accepts c.args.self.now.list c.put.new.self c.value-value.result c.put.result c.put.ensures c.if-put.true);
}

pub invariant_of-self-else-put : goal.invariant_of-self-else-put
invariant_of-self-else-put g c = record {
  word = ap (λ (l : LogView). l.key) c.note-else-put.ensures.logged ∙ c.args.self.now.word;
  legal = ap (λ (l : LogView). accept_all g.J.OfRun.initial (kinds_noted l.notes)) c.note-else-put.ensures.logged
      ∙ legal_more g.J.OfRun.initial c.args.self.now.log.notes c.call-else-put.result (effect.Not c.value-value.result) c.note-else-put.result c.args.self.now.list c.put.new.self
      c.args.self.now.legal (refusal_accepts c.args.self.now.list c.put.new.self c.value-value.result c.put.result c.put.ensures c.if-put.false);
}
