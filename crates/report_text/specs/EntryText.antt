-- Verdicts, replies and the journal's rounds as they are printed.
use Rattle.std.specs.Prelude.{ℕ, ◌+◌, List, [], ◌∷◌, ◌++◌, length, codes}
use Rattle.std.specs.Fmt.{decimal}
use Rattle.net_types.specs.declared.table.Table.{Table}
use Rattle.net_types.specs.declared.table.Table.TheVariants.{L2, Host, Group, Route}
use Rattle.switch_model.specs.declared.journal.Entry.{Entry}
use Rattle.switch_model.specs.declared.journal.Round.{Round}
use Rattle.switch_model.specs.declared.journal.RoundKind.{RoundKind}
use Rattle.switch_model.specs.declared.journal.RoundKind.TheVariants.{Whole, One}
use Rattle.switch_model.specs.declared.reply.Reply.{Reply}
use Rattle.switch_model.specs.declared.reply.Reply.TheVariants.{Settled, HistoryFull, Settle, Pump, Answer}
use Rattle.switch_model.specs.declared.verdict.Reason.{Reason}
use Rattle.switch_model.specs.declared.verdict.Reason.TheVariants.{NoVlan, VlanExists, VlanInUse, NoPort, PortExists, PortInUse, NoIntf, IntfExists, VlanHasIntf, IntfInUse, BadMac, AddrExists, AddrOverlap, NoAddr, AddrInUse, NotInSubnet, PortNotInVlan, NoNeighbor, NoMac, InterfaceClient, FamilyMix, NoHops, TooManyHops, DoubleHop, DoublePrefix, NoRoute}
use Rattle.switch_model.specs.declared.verdict.Verdict.{Verdict}
use Rattle.switch_model.specs.declared.verdict.Verdict.TheVariants.{Accepted, Invalid, Full}
use Rattle.switch_model.specs.Journal.{version_after}
use Rattle.script_text.specs.UpdateText.{update_text}

-- the word for a table
abbrev pub table_text : Table → List ℕ
table_text L2 = codes "l2"
table_text Host = codes "host"
table_text Group = codes "group"
table_text Route = codes "route"

-- the words for reasons on routes
abbrev pub route_reason_text : Reason → List ℕ
route_reason_text InterfaceClient = codes "InterfaceClient"
route_reason_text FamilyMix = codes "FamilyMix"
route_reason_text NoHops = codes "NoHops"
route_reason_text TooManyHops = codes "TooManyHops"
route_reason_text DoubleHop = codes "DoubleHop"
route_reason_text DoublePrefix = codes "DoublePrefix"
route_reason_text NoRoute = codes "NoRoute"
route_reason_text _ = []

-- the words for reasons on addresses, neighbours and stations, or on what comes after them
abbrev pub neighbor_reason_text : Reason → List ℕ
neighbor_reason_text BadMac = codes "BadMac"
neighbor_reason_text AddrExists = codes "AddrExists"
neighbor_reason_text AddrOverlap = codes "AddrOverlap"
neighbor_reason_text NoAddr = codes "NoAddr"
neighbor_reason_text AddrInUse = codes "AddrInUse"
neighbor_reason_text NotInSubnet = codes "NotInSubnet"
neighbor_reason_text PortNotInVlan = codes "PortNotInVlan"
neighbor_reason_text NoNeighbor = codes "NoNeighbor"
neighbor_reason_text NoMac = codes "NoMac"
neighbor_reason_text reason = route_reason_text reason

-- the word for a reason is its name
abbrev pub reason_text : Reason → List ℕ
reason_text NoVlan = codes "NoVlan"
reason_text VlanExists = codes "VlanExists"
reason_text VlanInUse = codes "VlanInUse"
reason_text NoPort = codes "NoPort"
reason_text PortExists = codes "PortExists"
reason_text PortInUse = codes "PortInUse"
reason_text NoIntf = codes "NoIntf"
reason_text IntfExists = codes "IntfExists"
reason_text VlanHasIntf = codes "VlanHasIntf"
reason_text IntfInUse = codes "IntfInUse"
reason_text reason = neighbor_reason_text reason

-- a verdict, with its reason or its table
abbrev pub verdict_text : Verdict → List ℕ
verdict_text Accepted = codes "accepted"
verdict_text (Invalid reason) = codes "invalid " ++ reason_text reason
verdict_text (Full table) = codes "full " ++ table_text table

-- what a line was told, after its number
abbrev pub reply_text : Reply → List ℕ
reply_text (Settled position verdict version front) =
    codes "settled " ++ (decimal position ++ (codes " " ++ (verdict_text verdict ++ (codes " version " ++ (decimal version ++ (codes " front " ++ decimal front))))))
reply_text HistoryFull = codes "history-full"
reply_text (Settle count) = codes "settle " ++ decimal count
reply_text (Pump count) = codes "pump " ++ decimal count
reply_text (Answer front text) = text

-- a line for each reply
abbrev pub replies_text : List (ℕ × Reply) → List ℕ
replies_text [] = []
replies_text (r ∷ rs) = decimal r.0 ++ (codes " " ++ (reply_text r.1 ++ (codes "\n" ++ replies_text rs)))

-- a line for an entry, which stands at that position of the journal
abbrev pub entry_text : ℕ → Entry → List ℕ
entry_text position entry =
    decimal position ++ (codes " caller " ++ (decimal entry.caller ++ (codes " seq " ++ (decimal entry.seq ++ (codes " " ++ (verdict_text entry.verdict ++ (codes " " ++ (update_text entry.update ++ codes "\n"))))))))

-- entries one after another, the first at that position
abbrev pub entries_text : ℕ → List Entry → List ℕ
entries_text position [] = []
entries_text position (entry ∷ es) = entry_text position entry ++ entries_text (position + 1) es

-- the word for a kind of round
abbrev pub kind_text : RoundKind → List ℕ
kind_text Whole = codes "whole"
kind_text One = codes "one"

-- the line with which a round of that number begins, with the version after the round
abbrev pub round_line : ℕ → RoundKind → ℕ → List ℕ
round_line number kind version = codes "round " ++ (decimal number ++ (codes " " ++ (kind_text kind ++ (codes " version " ++ (decimal version ++ codes "\n")))))

-- that line, and the round's entries from that position on
abbrev pub round_text : ℕ → ℕ → ℕ → Round → List ℕ
round_text number position version round = round_line number round.kind version ++ entries_text position round.entries

-- rounds from that number, position and version on
abbrev pub rounds_text : ℕ → ℕ → ℕ → List Round → List ℕ
rounds_text number position version [] = []
rounds_text number position version (round ∷ rounds) =
    let after = version_after version round.entries in round_text number position after round ++ rounds_text (number + 1) (position + length round.entries) after rounds
