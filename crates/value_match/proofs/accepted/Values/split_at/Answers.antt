use Rattle.value_match.proofs.Common.{All-drop, All-take, ap, drop, drop-map, HasPlaces, map, sym, take, take-map}
use Rattle.value_match.proofs.Common.{history_value, ◌∙◌}
use Rattle.value_match.proofs.accepted.Values.split_at.Goals as goal

pub new-requires : goal.new-requires
new-requires c = rw (c.split_at.ensures.front, ← take-map) (All-take (HasPlaces c.self.inside.timeline.now) c.args.place _ c.self.invariant)

pub new-requires-2 : goal.new-requires-2
new-requires-2 c = rw (c.split_at.ensures.back, ← drop-map) (All-drop (HasPlaces c.self.inside.timeline.now) c.args.place _ c.self.invariant)

pub returns-clause-before : goal.returns-clause-before
returns-clause-before c = c.new.ensures ∙ ap (map (history_value c.self.inside.initial_count c.self.inside.timeline.now)) c.split_at.ensures.front
    ∙ sym (take-map (history_value c.self.inside.initial_count c.self.inside.timeline.now) c.args.place c.self.inside.pairs.now) ∙ ap (take c.args.place) c.self.view_is

pub returns-clause-others : goal.returns-clause-others
returns-clause-others c = c.new-2.ensures ∙ ap (map (history_value c.self.inside.initial_count c.self.inside.timeline.now)) c.split_at.ensures.back
    ∙ sym (drop-map (history_value c.self.inside.initial_count c.self.inside.timeline.now) c.args.place c.self.inside.pairs.now) ∙ ap (drop c.args.place) c.self.view_is
