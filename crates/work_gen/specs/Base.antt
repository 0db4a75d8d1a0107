-- What the switch begins with: 8 VLANs, 32 ports that are up, and 8 interfaces with an address each.
use Rattle.std.specs.Prelude.{ℕ, ◌+◌, ◌-◌, ◌%◌, List, [], ◌∷◌, ◌++◌, map, flat_map, codes}
use Rattle.std.specs.List.{range_with_len}
use Rattle.switch_model.specs.declared.act.Act.{Act}
use Rattle.switch_model.specs.declared.act.Act.TheVariants.{VlanAdd, PortAdd, PortUp, IntfAdd, AddrAdd}
use Rattle.work_gen.specs.Values.{quad}

-- VLAN v, of the name g
abbrev pub vlan_act : ℕ → Act
vlan_act v = VlanAdd v (codes "g")

-- port p, in the VLANs from 1 to 8 by turns, which goes up
abbrev pub port_acts : ℕ → List Act
port_acts p = PortAdd p (1 + (p - 1) % 8) ∷ PortUp p ∷ []

-- interface i of VLAN i, in VRF 0, of the MAC 02:00:00:00:00:00 + i, with the address 10.i.0.1/16
abbrev pub intf_acts : ℕ → List Act
intf_acts i = IntfAdd i i 0 (0x020000000000 + i) ∷ AddrAdd i (record { ip = quad 10 i 0 1; len = 16 }) ∷ []

-- the VLANs from 1 to 8
abbrev pub vlan_acts : List Act
vlan_acts = map vlan_act (range_with_len 1 8)

-- the ports from 1 to 32
abbrev pub all_port_acts : List Act
all_port_acts = flat_map port_acts (range_with_len 1 32)

-- the interfaces from 1 to 8
abbrev pub all_intf_acts : List Act
all_intf_acts = flat_map intf_acts (range_with_len 1 8)

-- VLANs, then ports, then interfaces
abbrev pub base_acts : List Act
base_acts = vlan_acts ++ (all_port_acts ++ all_intf_acts)
