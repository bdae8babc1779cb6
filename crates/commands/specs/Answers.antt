-- The program's answers, with their texts and statuses.
use Rattle.std.specs.Prelude.{ℕ, List, ◌++◌, if◌then◌else◌, Bool, true, false, codes, decimal, Option, Some, None, ⊤}
use Rattle.std.specs.List.{flat_map}
use Rattle.event_records.specs.declared.event.Event.{Event}
use Rattle.text_lines.specs.declared.fault.TextFault.{TextFault}
use Rattle.text_lines.specs.declared.fault.TextFault.TheVariants as text
use Rattle.text_lines.specs.Faults as text_names
use Rattle.text_lines.specs.Lines.{line}
use Rattle.history_text.specs.Versions.{HistoryText, text_of}
use Rattle.history_text.specs.Histories.{history_text}
use Rattle.history_text.specs.Claims.{first_line}
use Rattle.history_text.specs.Verdicts.{verdict_text}
use Rattle.history_merge.specs.declared.fault.HistoryFault.{HistoryFault}
use Rattle.history_merge.specs.declared.fault.HistoryFault.TheVariants as history
use Rattle.history_merge.specs.Names as history_names
use Rattle.history_stats.specs.declared.statistics.Statistics.{Statistics}
use Rattle.history_stats.specs.declared.overtaking.Overtaking.{Overtaking}
use Rattle.history_stats.specs.Text.{overtakings_text, statistics_text}
use Rattle.recorder_core.specs.Names.{name_of}
use Rattle.simulation.specs.declared.playing.Rejection.{Rejection}
use Rattle.stress_run.specs.declared.faults.RunFault.{RunFault}
use Rattle.stress_run.specs.Faults as run_names
use Rattle.claims.specs.declared.claimed.Claimed.{Claimed}
use Rattle.claims.specs.declared.claimed.Claimed.TheVariants as claim

-- an answer of a command
pub data Reply : Type 0 where
  -- a verdict
  judged : Claimed → Reply
  -- a history and its verdict
  shown : HistoryText → Claimed → Reply
  -- the refused steps of a schedule, after which the machine isn't done
  left_open : List Rejection → Reply
  -- the refused steps of a schedule, and the collected history and its verdict
  played : List Rejection → List Event → Claimed → Reply
  -- whether a verdict is evidence
  verified : Bool → Reply
  -- a history on its own
  converted : HistoryText → Reply
  -- the statistics of a history
  counted : Statistics → Reply
  -- the dequeues of a history that overtook values
  overtaken : List Overtaking → Reply
  -- a picture, in lines of characters
  drawn : List ℕ → Reply
  -- the input is refused
  refused_text : TextFault → Reply
  refused_history : HistoryFault → Reply
  -- the history or the verdict is too large to be drawn
  refused_size : Reply
  -- the verdict has a linearization for each producer, so there is no single one to draw
  refused_orders : Reply
  -- the words are refused: no queue has this name, the queue is for one producer and one consumer, or there are too
  -- many operations
  refused_queue : Reply
  refused_roles : Reply
  refused_limit : Reply
  -- a read failed, memory ran out, or a run gave no history
  read_fault : Reply
  memory_fault : Reply
  run_fault : RunFault → Reply

-- no violation is shown
abbrev pub ShowsNoViolation : Reply → Type 0
ShowsNoViolation (shown text (claim.No kind lines)) = ⊥
ShowsNoViolation _ = ⊤

-- ---- names

-- a name, and then a number if there is one
abbrev pub named : List ℕ → Option ℕ → List ℕ
named name None = name
named name (Some n) = name ++ codes " " ++ decimal n

-- the beginning of the line of a refusal, or of a failure
abbrev pub beginning : Bool → List ℕ
beginning true = codes "REFUSED "
beginning false = codes "FAULT "

-- ---- texts

-- the line of a refused step: its place from 1, and the reason
abbrev pub rejection_line : Rejection → List ℕ
rejection_line rejection = line (codes "REJECTED " ++ decimal rejection.step ++ codes " " ++ name_of rejection.reason)

-- the lines of refused steps
abbrev pub rejection_lines : List Rejection → List ℕ
rejection_lines rejections = flat_map rejection_line rejections

-- the text of an answer; that of a fault is its name, and the line, the place, the ticket or the thread that it names
abbrev pub answer_text : Reply → List ℕ
answer_text (judged claimed) = verdict_text claimed
answer_text (shown text claimed) = text_of text ++ verdict_text claimed
answer_text (left_open rejections) = rejection_lines rejections ++ line (codes "OPEN")
answer_text (played rejections events claimed) =
    rejection_lines rejections ++ (history_text events ++ verdict_text claimed)
answer_text (verified valid) = line (if valid then codes "VALID" else codes "INVALID")
answer_text (converted text) = text_of text
answer_text (counted statistics) = statistics_text statistics
answer_text (overtaken overtakings) = overtakings_text overtakings
answer_text (drawn picture) = picture
answer_text (refused_text fault) = line (beginning true ++ named (text_names.name_of fault) (text_names.line_in fault))
answer_text (refused_history fault) =
    line (beginning true ++ named (history_names.name_of fault) (history_names.place_in fault))
answer_text refused_size = line (beginning true ++ codes "Size")
answer_text refused_orders = line (beginning true ++ codes "Orders")
answer_text refused_queue = line (beginning true ++ codes "Queue")
answer_text refused_roles = line (beginning true ++ codes "Roles")
answer_text refused_limit = line (beginning true ++ codes "Limit")
answer_text read_fault = line (beginning false ++ codes "Read")
answer_text memory_fault = line (beginning false ++ codes "Memory")
answer_text (run_fault fault) = line (beginning false ++ named (run_names.name_of fault) (run_names.place_in fault))

-- the first line of a verdict's text
abbrev pub verdict_head : Claimed → List ℕ
verdict_head (claim.Yes lines) = line (first_line None)
verdict_head (claim.No kind lines) = line (first_line (Some kind))

-- the text of an answer with `--quiet`: only the first line of a verdict
abbrev pub quiet_text : Reply → List ℕ
quiet_text (judged claimed) = verdict_head claimed
quiet_text (shown text claimed) = verdict_head claimed
quiet_text (left_open rejections) = line (codes "OPEN")
quiet_text (played rejections events claimed) = verdict_head claimed
quiet_text answer = answer_text answer

-- the text of an answer, with `--quiet` or without
abbrev pub said_text : Bool → Reply → List ℕ
said_text false answer = answer_text answer
said_text true answer = quiet_text answer

-- ---- statuses

-- the status of a verdict
abbrev pub claim_status : Claimed → ℕ
claim_status (claim.Yes lines) = 0
claim_status (claim.No kind lines) = 1

-- the status of a refusal, or of a failure
abbrev pub fault_status : Bool → ℕ
fault_status true = 2
fault_status false = 3

-- the status that goes with an answer
abbrev pub answer_status : Reply → ℕ
answer_status (judged claimed) = claim_status claimed
answer_status (shown text claimed) = claim_status claimed
answer_status (played rejections events claimed) = claim_status claimed
answer_status (verified valid) = if valid then 0 else 1
answer_status (refused_text fault) = fault_status true
answer_status (refused_history fault) = fault_status true
answer_status refused_size = fault_status true
answer_status refused_orders = fault_status true
answer_status refused_queue = fault_status true
answer_status refused_roles = fault_status true
answer_status refused_limit = fault_status true
answer_status read_fault = fault_status false
answer_status memory_fault = fault_status false
answer_status (run_fault fault) = fault_status false
answer_status found = 0

-- ---- answers to faults

-- a text's fault is refused input, a read that failed, or out of memory
abbrev pub answer_of_text_fault : TextFault → Reply
answer_of_text_fault text.Read = read_fault
answer_of_text_fault text.Memory = memory_fault
answer_of_text_fault fault = refused_text fault

-- a history's fault is refused input, or out of memory
abbrev pub answer_of_history_fault : HistoryFault → Reply
answer_of_history_fault history.Memory = memory_fault
answer_of_history_fault fault = refused_history fault
