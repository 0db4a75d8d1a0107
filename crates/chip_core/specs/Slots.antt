-- Rows that stand in slots. Group and route rows name what they lead to by its slot.
use Rattle.std.specs.Prelude.{◌≡◌, ◌<◌, ℕ, Option, None, IsSome, List, map}
use Rattle.std.specs.Ordering.{nat_cmp}
use Rattle.keyed.specs.Keyed.{at, put, without, change}
use Rattle.keyed.specs.Named.{key_of}
use Rattle.net_types.specs.Groups.{group_key_cmp, group_key_of}
use Rattle.net_types.specs.KeyOrder.{host_cmp}
use Rattle.net_types.specs.declared.group.Member.{Member}
use Rattle.net_types.specs.declared.table.HostKey.{HostKey}
use Rattle.net_types.specs.declared.table.HostRow.{HostRow}

-- rows of the host table: a slot, a key and a row each
abbrev pub Hosts : Type 0
Hosts = List (ℕ × HostKey × HostRow)

-- rows of the group table, by slot
abbrev pub Groups : Type 0
Groups = List (ℕ × List Member)

-- the hosts as entries: under each slot a key with its row
abbrev pub host_entries : Hosts → List (ℕ × (HostKey × HostRow))
host_entries hosts = map (λ h. (h.0, (h.1, h.2))) hosts

-- such entries as rows of the host table
abbrev pub host_rows : List (ℕ × (HostKey × HostRow)) → Hosts
host_rows entries = map (λ e. (e.0, e.1.0, e.1.1)) entries

-- the key and the row in the slot
abbrev pub host_at : ℕ → Hosts → Option (HostKey × HostRow)
host_at slot hosts = at nat_cmp slot (host_entries hosts)

-- the hosts with this key and row in the slot
abbrev pub put_host : ℕ → HostKey → HostRow → Hosts → Hosts
put_host slot key row hosts = host_rows (put nat_cmp slot (key, row) (host_entries hosts))

-- the hosts with another row in the slot, under the key that is there
abbrev pub set_host : ℕ → HostRow → Hosts → Hosts
set_host slot row hosts = host_rows (change nat_cmp slot (λ h. (h.0, row)) (host_entries hosts))

-- the hosts with none in the slot
abbrev pub without_host : ℕ → Hosts → Hosts
without_host slot hosts = host_rows (without nat_cmp slot (host_entries hosts))

-- the slot of the host with this key
abbrev pub slot_of : HostKey → Hosts → Option ℕ
slot_of key hosts = key_of host_cmp (λ h. h.0) key (host_entries hosts)

-- the slots of the hosts that a group leads to, in the order of its members
abbrev pub hosts_of : List Member → List ℕ
hosts_of members = map (λ m. m.host) members

-- the slot of the group with this key
abbrev pub group_slot_of : List ℕ → Groups → Option ℕ
group_slot_of key groups = key_of group_key_cmp group_key_of key groups

-- the slot is free, and each lower one is taken
pub record IsLowestFree {V : Type 0} (slot : ℕ) (entries : List (ℕ × V)) : Type 0 where
  pub free : at nat_cmp slot entries ≡ None
  pub lower : (n : ℕ) → n < slot → IsSome (at nat_cmp n entries)
