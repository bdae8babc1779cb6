use Rattle.history_text.proofs.Common.{[], All-push, ap, append-nil, append_assoc, Event, event_line, flat_map}
use Rattle.history_text.proofs.Common.{flat_map-append, HasValueInRange, List, some_then, stops_inside, sym, ℕ, ◌++◌}
use Rattle.history_text.proofs.Common.{◌∙◌, ◌∷◌, ◌≡◌}
use Rattle.history_text.proofs.history_writer.put_events.Goals as goal

-- the text of the seen events and of those left is the text of all
parts : (seen left all : List Event) → seen ++ left ≡ all
    → flat_map event_line seen ++ flat_map event_line left ≡ flat_map event_line all
parts seen left all is = sym (flat_map-append event_line seen left) ∙ ap (flat_map event_line) is

-- if no event is left, all were seen
whole : (seen left all : List Event) → left ≡ [] → seen ++ left ≡ all → seen ≡ all
whole seen left all none is = sym (append-nil seen) ∙ ap (λ (es : List Event). seen ++ es) (sym none) ∙ is

-- one more line
one_more : (seen : List Event) (e : Event)
    → flat_map event_line (seen ++ e ∷ []) ≡ flat_map event_line seen ++ event_line e
one_more seen e = flat_map-append event_line seen (e ∷ []) ∙ ap (λ (r : List ℕ). flat_map event_line seen ++ r) (append-nil (event_line e))

pub returns-in_err-put_one-clause-text : goal.returns-in_err-put_one-clause-text
returns-in_err-put_one-clause-text g c =
    let seen = c.loop-event.yielded in
    let e = c.in-Some.event in
    let left = c.next.new.self in
    let is = ap (λ (es : List Event). seen ++ es) (sym c.in-Some.ensures.steps) ∙ c.loop-event.invariant.all in
    rw (← parts seen (e ∷ left) c.args.events is)
    (stops_inside _ _ _ _ c.from_residual.result _ _ _ (flat_map event_line seen) (event_line e) (flat_map event_line left) _ _ _ c.loop-event.invariant.put
    c.from_residual.ensures.1 c.in_err-put_one.ensures.text)

pub loop-event-preserved : goal.loop-event-preserved
loop-event-preserved g c =
    let seen = c.loop-event.yielded in
    let e = c.in-Some.event in
    let old = c.loop-event.invariant in
    record {
      all = append_assoc seen (e ∷ []) c.next.new.self ∙ ap (λ (es : List Event). seen ++ es) (sym c.in-Some.ensures.steps) ∙ old.all;
      put = rw (one_more seen e) (some_then _ _ _ _ _ _ _ _ _ _ _ old.put c.in_ok-put_one.ensures.text);
      fits = All-push (λ (x : Event). HasValueInRange x.what) seen e old.fits c.in_ok-put_one.ensures.fits;
    }
