-- The outcome of a command, what it found or its fault, as the answer that is printed.
use Rattle.std.specs.Prelude.{◌≡◌, ℕ, List, [], Option, None, Ok, Err, codes, MatchOption, ⊤}
use Rattle.history_text.specs.declared.version.Version.TheVariants.{One, Two}
use Rattle.history_text.specs.Versions.{said_in}
use Rattle.text_lines.specs.Faults as text_names
use Rattle.event_records.specs.declared.event.Event.{Event}
use Rattle.history_merge.specs.Clashes.{IsClash, fault_of}
use Rattle.history_merge.specs.Names as history_names
use Rattle.history_merge.specs.Operations.{operations_of}
use Rattle.completions.specs.declared.fault.CompletionFault.{CompletionFault}
use Rattle.completions.specs.declared.fault.CompletionFault.TheVariants as completion
use Rattle.stress_run.specs.Faults as run_names
use Rattle.claims.specs.Claiming.{claim_of, IsWithin}
use Rattle.std.specs.declared.result.Result.{Result}
use Rattle.commands.specs.declared.outcome.Report.{Report}
use Rattle.commands.specs.declared.outcome.Report.TheVariants.{Judged, Shown, LeftOpen, Played, Verified, Converted}
use Rattle.commands.specs.declared.outcome.Report.TheVariants.{Completed, Counted}
use Rattle.commands.specs.declared.outcome.Report.TheVariants.{Drawn, Overtaken}
use Rattle.commands.specs.declared.outcome.Fault.{Fault}
use Rattle.commands.specs.declared.outcome.Fault.TheVariants.{Text, History, Size, Orders, Queue, Roles, Limit}
use Rattle.commands.specs.declared.outcome.Fault.TheVariants.{Memory, Run}
use Rattle.commands.specs.Answers.{Reply, judged, shown, left_open, played, verified, converted, counted, overtaken}
use Rattle.commands.specs.Answers.{drawn, refused_orders, refused_size}
use Rattle.commands.specs.Answers.{refused_queue, refused_roles, refused_limit, memory_fault, run_fault}
use Rattle.commands.specs.Answers.{answer_of_text_fault, answer_of_history_fault}

-- the answer that is printed for what was found: for a verdict its claim, for the rest the same
abbrev pub answer_of_report : Report → Reply
answer_of_report (Judged history verdict) = judged (claim_of history.initial (operations_of history.events) verdict)
answer_of_report (Shown version history verdict) =
    shown (said_in version history) (claim_of history.initial (operations_of history.events) verdict)
answer_of_report (LeftOpen rejections) = left_open rejections
answer_of_report (Played rejections history verdict) =
    played rejections history.events (claim_of history.initial (operations_of history.events) verdict)
answer_of_report (Verified valid) = verified valid
answer_of_report (Converted history) = converted (said_in Two history)
answer_of_report (Completed version initial events) =
    converted (record { version = version; initial = initial; events = events })
answer_of_report (Counted statistics) = counted statistics
answer_of_report (Overtaken overtakings) = overtaken overtakings.items
answer_of_report (Drawn picture) = drawn picture.items

-- the answer that is printed for a fault
abbrev pub answer_of_fault : Fault → Reply
answer_of_fault (Text fault) = answer_of_text_fault fault
answer_of_fault (History incomplete) = answer_of_history_fault incomplete.fault
answer_of_fault Size = refused_size
answer_of_fault Orders = refused_orders
answer_of_fault Queue = refused_queue
answer_of_fault Roles = refused_roles
answer_of_fault Limit = refused_limit
answer_of_fault Memory = memory_fault
answer_of_fault (Run fault) = run_fault fault

-- the fault of a command if a history has no completion
abbrev pub fault_of_completion : CompletionFault → Fault
fault_of_completion (completion.History fault) = History (record { fault = fault; clash = None })
fault_of_completion completion.Limit = Limit

-- if a fault names events that clash, they clash in this history, and explain the fault
abbrev pub NamesClash : List ℕ → List Event → Fault → Type 0
NamesClash initial events (History incomplete) =
    MatchOption incomplete.clash ⊤ (λ clash. IsClash initial events clash × (fault_of clash ≡ incomplete.fault))
NamesClash initial events _ = ⊤

-- the answer that is printed for an outcome
abbrev pub answer_of : Result Report Fault → Reply
answer_of (Ok found) = answer_of_report found
answer_of (Err fault) = answer_of_fault fault

-- the printed name of a fault
abbrev pub name_of : Fault → List ℕ
name_of (Text fault) = text_names.name_of fault
name_of (History incomplete) = history_names.name_of incomplete.fault
name_of Size = codes "Size"
name_of Orders = codes "Orders"
name_of Queue = codes "Queue"
name_of Roles = codes "Roles"
name_of Limit = codes "Limit"
name_of Memory = codes "Memory"
name_of (Run fault) = run_names.name_of fault

-- the line, the place, the ticket or the thread that a fault names
abbrev pub place_in : Fault → Option ℕ
place_in (Text fault) = text_names.line_in fault
place_in (History incomplete) = history_names.place_in incomplete.fault
place_in (Run fault) = run_names.place_in fault
place_in _ = None

-- a verdict names places of its own history, and a history is shown in a version that has a text for it
abbrev pub HasPlaces : Report → Type 0
HasPlaces (Judged history verdict) = IsWithin history.initial (operations_of history.events) verdict
HasPlaces (Shown version history verdict) =
    IsWithin history.initial (operations_of history.events) verdict × (version ≡ One → history.initial ≡ [])
HasPlaces (Completed version initial events) = version ≡ One → initial ≡ []
HasPlaces (Played rejections history verdict) = IsWithin history.initial (operations_of history.events) verdict
    × (history.initial ≡ [])
HasPlaces _ = ⊤

-- a report has such places; a fault has none
abbrev pub NamesPlaces : Result Report Fault → Type 0
NamesPlaces (Ok found) = HasPlaces found
NamesPlaces (Err fault) = ⊤
