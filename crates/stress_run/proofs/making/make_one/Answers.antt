use Rattle.std.proofs.Common.{ap, ◌∙◌, rules}
use Rattle.stress_run.specs.Crew.{SizesView}
use Rattle.stress_run.specs.Workers.{WorkerView}
use Rattle.stress_run.proofs.making.make_one.Goals as goal

pub returns-clause-worker : goal.returns-clause-worker
returns-clause-worker c =
    let is = c.with_ends.ensures ∙ ap (λ (w : WorkerView). record w { ends = c.args.ends }) c.new-worker.ensures in (
      record {
        pass = search rules;
        capacity = search rules;
        tries = ap (λ (w : WorkerView). w.tries) is ∙ ap (λ (s : SizesView). s.tries) c.sizes.view_is;
        asked = search rules;
        sent = search rules;
        running = ap (λ (w : WorkerView). w.stopped) is;
      },
      search rules,
    )
