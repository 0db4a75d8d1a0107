-- Keys and rows of the tables and changes that the tests commit: hosts of interface 1, routes of one VRF each, and rows that are all alike.
use Rattle.std.specs.Prelude.{ℕ, true, List, [], ◌∷◌}
use Rattle.net_types.specs.declared.group.Member.{Member}
use Rattle.net_types.specs.declared.ip.Ip.TheVariants.{V4}
use Rattle.net_types.specs.declared.table.HostAct.TheVariants.{Trap}
use Rattle.net_types.specs.declared.table.HostKey.{HostKey}
use Rattle.net_types.specs.declared.table.HostRow.{HostRow}
use Rattle.net_types.specs.declared.table.L2Key.{L2Key}
use Rattle.net_types.specs.declared.table.L2Row.{L2Row}
use Rattle.net_types.specs.declared.table.RouteKey.{RouteKey}
use Rattle.net_types.specs.declared.table.Tables.{Tables}
use Rattle.chip_core.specs.Changes.{AreOldRows, changed_rows}
use Rattle.net_types.specs.Closed.{IsClosed}
use Rattle.chip_core.specs.Chip.{view_of}
use Rattle.chip_core.specs.declared.changes.RowChanges.{RowChanges}

-- the host 0.0.0.n, or its like
abbrev pub host : ℕ → HostKey
host n = record { ip = V4 n; intf = 1 }

-- a host that isn't known yet
abbrev pub trapped : HostRow
trapped = record { vrf = 0; act = Trap }

-- the default route of the VRF n
abbrev pub route : ℕ → RouteKey
route n = record { vrf = n; prefix = record { ip = V4 0; len = 0 } }

-- the station n in VLAN 10
abbrev pub station : ℕ → L2Key
station n = record { vlan = 10; mac = n }

-- it is at port 1
abbrev pub at_port : L2Row
at_port = record { port = 1; up = true }

-- a group's members in two slots
abbrev pub pair : ℕ → ℕ → List Member
pair m n = record { host = m; live = true } ∷ record { host = n; live = true } ∷ []

-- a commit of the changes to a chip with these tables may be made
pub record MayCommit (tables : Tables) (changes : RowChanges) : Type 0 where
  pub old : AreOldRows changes (view_of tables)
  pub closed : IsClosed (changed_rows changes (view_of tables))
