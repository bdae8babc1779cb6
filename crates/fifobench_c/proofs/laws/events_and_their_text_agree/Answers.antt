use Rattle.fifobench_c.proofs.Common.{inl, inr, List, refl, Event, from_none, input_of, linearizability}
use Rattle.history_text.specs.Versions.{HistoryText}
use Rattle.history_text.specs.declared.version.Version.TheVariants.{One}
use Rattle.history_text.specs.Histories.{history_text}
use Rattle.history_text.specs.Versions.{said_in}
use Rattle.commands.proofs.OneAnswer.{check_has_one}
use Rattle.fifobench_c.proofs.laws.events_and_their_text_agree.Goals as goal

-- the text of these events
abbrev said : List Event → HistoryText
said events = said_in One (from_none events)

pub returns : goal.returns
returns c = λ events a b has of_events of_text.
    elim of_text [
      | inl answered ↦ check_has_one linearizability (input_of (history_text events)) a b
          (inl (record {
            value = said events;
            input_of = (record { initial = refl; events = has }, record { bytes = refl; ending = refl });
            answered = of_events;
          })) answered
      | inr memory ↦ inr (inr memory)
    ]
