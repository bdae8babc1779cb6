use Rattle.std.proofs.Common.{◌≡◌, ◌≤◌, get_or, length, not, take, ℕ}
use Rattle.std.specs.Prelude.{filter}
use Rattle.completions.specs.Completed.{is_left_out}
use Rattle.completions.proofs.Walks.{past_end}
use Rattle.completions.proofs.completion.leave_out.Given as goal

abbrev pub invariant-loop-place : goal.invariant-loop-place
invariant-loop-place l = record {
  same : length l.events.items ≡ length l.fn.events.items;
  few : l.kept ≤ l.place;
  kept : take l.kept l.events.items
      ≡ filter (λ e. not (is_left_out l.fn.events.items l.answers e)) (take l.place l.fn.events.items);
  rest : (k : ℕ) → l.place ≤ k → get_or l.events.items k past_end ≡ get_or l.fn.events.items k past_end;
}
