-- What differs between two states, by part and then key.
use Rattle.std.specs.Prelude.{ℕ, List, ◌++◌, map}
use Rattle.node_map.specs.TreeNode.{Entries}
use Rattle.state_delta.specs.Change.{ChangeView}
use Rattle.state_delta.specs.Delta.{delta}
use Rattle.switch_state.specs.StateView.{StateView}
use Rattle.observer_kinds.specs.declared.listing.Part.{Part}
use Rattle.observer_kinds.specs.declared.listing.Part.TheVariants.{Vlans, Ports, Intfs, Macs, Arps, Ndps, Routes, Fibs}
use Rattle.observer_kinds.specs.declared.listing.PartChange.{PartChange}

-- a key of the part, and how the maps differ there
abbrev pub part_change : {T : Type 0} → Part → ℕ × ChangeView T → PartChange
part_change part c = record { part = part; key = c.0; kind = c.1.kind }

-- the keys under which two maps of a part differ, and how
abbrev pub part_changes : {T : Type 0} → Part → Entries T → Entries T → List PartChange
part_changes part old new = map (part_change part) (delta old new)

-- VLANs, ports, interfaces and stations
abbrev pub first_parts : StateView → StateView → List PartChange
first_parts old new =
    part_changes Vlans old.vlans.entries new.vlans.entries
    ++ (part_changes Ports old.ports.entries new.ports.entries
    ++ (part_changes Intfs old.intfs.entries new.intfs.entries
    ++ part_changes Macs old.macs.entries new.macs.entries))

-- neighbours, routes and the FIB
abbrev pub later_parts : StateView → StateView → List PartChange
later_parts old new =
    part_changes Arps old.arps.entries new.arps.entries
    ++ (part_changes Ndps old.ndps.entries new.ndps.entries
    ++ (part_changes Routes old.routes.entries new.routes.entries
    ++ part_changes Fibs old.fibs.entries new.fibs.entries))

-- all of them
abbrev pub changes_between : StateView → StateView → List PartChange
changes_between old new = first_parts old new ++ later_parts old new
