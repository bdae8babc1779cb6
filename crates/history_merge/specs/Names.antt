-- The printed names of faults.
use Rattle.std.specs.Prelude.{ℕ, List, codes, Option, Some, None}
use Rattle.history_merge.specs.declared.fault.HistoryFault.{HistoryFault}
use Rattle.history_merge.specs.declared.fault.HistoryFault.TheVariants.{TicketOrder, BadThread, CallWhilePending}
use Rattle.history_merge.specs.declared.fault.HistoryFault.TheVariants.{ReturnWithoutCall, WrongReturn}
use Rattle.history_merge.specs.declared.fault.HistoryFault.TheVariants.{DuplicateValue, Pending, Memory, InitialTwice}

-- the name of a fault
abbrev pub name_of : HistoryFault → List ℕ
name_of (TicketOrder i) = codes "TicketOrder"
name_of (BadThread i) = codes "BadThread"
name_of (CallWhilePending i) = codes "CallWhilePending"
name_of (ReturnWithoutCall i) = codes "ReturnWithoutCall"
name_of (WrongReturn i) = codes "WrongReturn"
name_of (DuplicateValue i) = codes "DuplicateValue"
name_of (Pending ticket) = codes "Pending"
name_of Memory = codes "Memory"
name_of (InitialTwice j) = codes "InitialTwice"

-- the place of a fault from 0, or its ticket
abbrev pub place_in : HistoryFault → Option ℕ
place_in (TicketOrder i) = Some i
place_in (BadThread i) = Some i
place_in (CallWhilePending i) = Some i
place_in (ReturnWithoutCall i) = Some i
place_in (WrongReturn i) = Some i
place_in (DuplicateValue i) = Some i
place_in (Pending ticket) = Some ticket
place_in Memory = None
place_in (InitialTwice j) = Some j
