use Rattle.std.proofs.Common.{ap, ◌∙◌}
use Rattle.tickets.specs.Views.{LogView}
use Rattle.tickets.specs.declared.note.Effect.TheVariants as effect
use Rattle.history_merge.specs.Queue.{accept_all}
use Rattle.stress_run.specs.Noted.{kinds_noted}
use Rattle.stress_run.proofs.Accepting.{legal_more, take_accepts, none_accepts}
use Rattle.stress_run.proofs.proved.LockedLog.dequeue.Goals as goal

pub invariant_of-self : goal.invariant_of-self
invariant_of-self g c = record {
  word = ap (λ (l : LogView). l.key) c.note.ensures.logged ∙ c.args.self.now.word;
  legal = ap (λ (l : LogView). accept_all g.J.OfRun.initial (kinds_noted l.notes)) c.note.ensures.logged
      ∙ legal_more g.J.OfRun.initial c.args.self.now.log.notes c.call.result (effect.Deq c.in-Some.value) c.note.result c.args.self.now.list c.take.new.self
      c.args.self.now.legal (take_accepts c.args.self.now.list c.take.new.self c.in-Some.value c.in-Some.ensures.first);
}

pub invariant_of-self-in-None : goal.invariant_of-self-in-None
invariant_of-self-in-None g c = record {
  word = ap (λ (l : LogView). l.key) c.note-in-None.ensures.logged ∙ c.args.self.now.word;
  legal = ap (λ (l : LogView). accept_all g.J.OfRun.initial (kinds_noted l.notes)) c.note-in-None.ensures.logged
      ∙ legal_more g.J.OfRun.initial c.args.self.now.log.notes c.call-in-None.result effect.Empty c.note-in-None.result c.args.self.now.list c.take.new.self
      c.args.self.now.legal (none_accepts c.args.self.now.list c.take.new.self c.in-None.ensures.none c.in-None.ensures.first);
}
