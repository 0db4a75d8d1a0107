-- A sound state: one that updates can build.
use Rattle.std.specs.Prelude.{◌≡◌, ℕ, Ok, List, [], ◌∷◌, ◌++◌, map, flat_map, if◌then◌else◌}
use Rattle.switch_model.specs.declared.act.Act.{Act}
use Rattle.switch_model.specs.declared.act.Act.TheVariants.{VlanAdd, PortAdd, PortUp, IntfAdd, AddrAdd, NeighborSet, NeighborPending, MacSet, RouteSet}
use Rattle.switch_model.specs.declared.key.NeighborKey.{NeighborKey}
use Rattle.switch_model.specs.declared.record.IntfRec.{IntfRec}
use Rattle.switch_model.specs.declared.record.NeighborRec.{NeighborRec}
use Rattle.switch_model.specs.declared.record.NeighborRec.TheVariants.{Pending, Reachable}
use Rattle.switch_model.specs.declared.record.PortRec.{PortRec}
use Rattle.switch_model.specs.declared.record.RouteRec.{RouteRec}
use Rattle.switch_model.specs.declared.record.RouteRec.TheVariants as kept
use Rattle.switch_model.specs.declared.via.Via.{Via}
use Rattle.switch_model.specs.declared.via.Via.TheVariants.{Hops, ToCpu, Discard}
use Rattle.switch_model.specs.Built.{built}
use Rattle.switch_model.specs.PlainState.{PlainState, empty}

-- a new port is down
abbrev pub port_acts : ℕ × PortRec → List Act
port_acts e = PortAdd e.0 e.1.vlan ∷ (if e.1.up then PortUp e.0 ∷ [] else [])

-- the addresses of one interface
abbrev pub addr_acts : ℕ × IntfRec → List Act
addr_acts e = map (AddrAdd e.0) e.1.addrs

-- a pending neighbour, or a reachable one
abbrev pub neighbor_act : NeighborKey → NeighborRec → Act
neighbor_act key Pending = NeighborPending key.intf key.ip
neighbor_act key (Reachable mac port) = NeighborSet key.intf key.ip mac port

-- what gives a route as it is kept
abbrev pub via_of : RouteRec → Via
via_of (kept.Hops hops) = Hops hops
via_of kept.ToCpu = ToCpu
via_of kept.Discard = Discard

-- acts that make the state from an empty one, part by part; all interfaces stand before the first address
abbrev pub acts_of : PlainState → List Act
acts_of m = map (λ e. VlanAdd e.0 e.1.name) m.vlans
    ++ flat_map port_acts m.ports
    ++ map (λ e. IntfAdd e.0 e.1.vlan e.1.vrf e.1.mac) m.intfs
    ++ flat_map addr_acts m.intfs
    ++ map (λ e. neighbor_act e.0 e.1) m.neighbors
    ++ map (λ e. MacSet e.0.vlan e.0.mac e.1.port) m.macs
    ++ map (λ e. RouteSet e.0.vrf e.0.prefix e.0.client (via_of e.1)) m.routes

-- those acts build the state
abbrev pub IsSound : PlainState → Type 0
IsSound m = built empty (acts_of m) ≡ Ok m
