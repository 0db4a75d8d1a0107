-- Worked examples: which keys updates touch.
use Rattle.std.proofs.Common.{◌≡◌, false, [], ◌∷◌, refl, codes}
use Rattle.net_types.specs.declared.client.Client.TheVariants.{Ebgp, Static}
use Rattle.switch_model.specs.declared.act.Act.{Act}
use Rattle.switch_model.specs.declared.act.Act.TheVariants.{VlanAdd, PortUp, AddrAdd, NeighborSet, NeighborDel, MacDel, RouteSet, ClientSync}
use Rattle.switch_model.specs.declared.journal.Entry.{Entry}
use Rattle.switch_model.specs.declared.verdict.Reason.TheVariants.{NoPort}
use Rattle.switch_model.specs.declared.verdict.Verdict.{Verdict}
use Rattle.switch_model.specs.declared.verdict.Verdict.TheVariants.{Accepted, Invalid}
use Rattle.switch_model.specs.declared.via.Via.TheVariants.{ToCpu, Discard}
use Rattle.switch_model.specs.PlainState.{PlainState}
use Rattle.switch_model.specs.Touched.{touched, touched_entries, untouched}
use Rattle.switch_model.proofs.Notation.{ten, link_local, slash, eight, mac, after}
use Rattle.switch_model.proofs.ExamplesAddresses.{two_interfaces}

-- a VLAN's name is put over the one that is there, under the same key
a_vlan_touches_itself : touched two_interfaces (VlanAdd 10 (codes "c")) ≡ record untouched { vlans = 10 ∷ [] }
a_vlan_touches_itself = refl

-- an address stands in its interface's entry
an_address_touches_its_interface : touched two_interfaces (AddrAdd 2 (slash (ten 1) 24)) ≡ record untouched { intfs = 2 ∷ [] }
an_address_touches_its_interface = refl

-- a port that goes up touches its own entry, and not the stations and neighbours behind it
a_port_touches_itself : touched two_interfaces (PortUp 1) ≡ record untouched { ports = 1 ∷ [] }
a_port_touches_itself = refl

neighbors_of_ipv4_are_arps : touched two_interfaces (NeighborSet 1 (ten 9) (mac 9 9) 1) ≡ record untouched { arps = record { intf = 1; ip = ten 9 } ∷ [] }
neighbors_of_ipv4_are_arps = refl

neighbors_of_ipv6_are_ndps : touched two_interfaces (NeighborDel 1 (link_local 9)) ≡ record untouched { ndps = record { intf = 1; ip = link_local 9 } ∷ [] }
neighbors_of_ipv6_are_ndps = refl

-- what is taken away is touched whether it stands there or not
a_station_touches_itself : touched two_interfaces (MacDel 10 (mac 7 7)) ≡ record untouched { macs = record { vlan = 10; mac = mac 7 7 } ∷ [] }
a_station_touches_itself = refl

abbrev three_routes : PlainState
three_routes = after two_interfaces (RouteSet 0 (eight 20) Ebgp ToCpu ∷ RouteSet 0 (eight 20) Static ToCpu ∷ RouteSet 1 (eight 21) Ebgp ToCpu ∷ [])

-- a sync takes `20.0.0.0/8` of its client away and puts `30.0.0.0/8`; routes of other clients and VRFs aren't touched
a_sync_touches_its_routes : touched three_routes (ClientSync 0 Ebgp ((eight 30, Discard) ∷ [])) ≡ record untouched { routes = record { vrf = 0; prefix = eight 20; client = Ebgp } ∷ record { vrf = 0; prefix = eight 30; client = Ebgp } ∷ [] }
a_sync_touches_its_routes = refl

-- a sync of nothing touches what it takes away
an_empty_sync_touches_what_goes : touched three_routes (ClientSync 1 Ebgp []) ≡ record untouched { routes = record { vrf = 1; prefix = eight 21; client = Ebgp } ∷ [] }
an_empty_sync_touches_what_goes = refl

-- of a round only the accepted updates touch anything, and a sync touches what an update of the same round has put
abbrev entry_of : Act → Verdict → Entry
entry_of act verdict = record { caller = 0; seq = 0; update = record { alone = false; act = act }; verdict = verdict; version = 1 }

a_round_touches_in_turn : touched_entries two_interfaces (entry_of (RouteSet 0 (eight 20) Ebgp ToCpu) Accepted ∷ entry_of (PortUp 5) (Invalid NoPort) ∷ entry_of (ClientSync 0 Ebgp []) Accepted ∷ []) ≡ record untouched { routes = record { vrf = 0; prefix = eight 20; client = Ebgp } ∷ record { vrf = 0; prefix = eight 20; client = Ebgp } ∷ [] }
a_round_touches_in_turn = refl
