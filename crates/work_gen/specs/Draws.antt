-- The acts that are drawn: what is drawn for each, and in which order.
use Rattle.std.specs.Prelude.{ℕ, zero, suc, ◌+◌, ◌*◌, ◌%◌, ◌==◌, nat_le, List, [], ◌∷◌, if◌then◌else◌}
use Rattle.rand_pcg.specs.Lcg.{Lcg, started, increment_of}
use Rattle.rand_pcg.specs.Pcg.{multiplier_64, pcg32}
use Rattle.switch_model.specs.declared.act.Act.{Act}
use Rattle.switch_model.specs.declared.act.Act.TheVariants.{MacSet, MacDel, NeighborSet, NeighborDel, RouteSet, RouteDel, PortUp, PortDown}
use Rattle.switch_model.specs.declared.via.Via.TheVariants.{Hops}
use Rattle.work_gen.specs.Values.{quad, client_of, hops_from}

-- the generator of a seed: PCG-XSH-RR with 64 bits of state, on stream 0
abbrev pub seeded : ℕ → Lcg
seeded seed = started 64 multiplier_64 seed (increment_of 64 0)

-- the next word of 32 bits modulo n, and the generator after it
abbrev pub draw : ℕ → Lcg → ℕ × Lcg
draw n g = ((pcg32 g).0 % n, (pcg32 g).1)

-- v = 1 + draw(8), m = draw(4096), q = draw(4): in VLAN v the MAC 02:00:00:01:00:00 + m is at port v + 8q
unfoldable pub mac_set : Lcg → Act × Lcg
mac_set g =
    let v = draw 8 g in
    let m = draw 4096 v.1 in
    let q = draw 4 m.1 in
    (MacSet (1 + v.0) (0x020000010000 + m.0) (1 + v.0 + 8 * q.0), q.1)

-- v = 1 + draw(8), m = draw(4096): the MAC 02:00:00:01:00:00 + m is taken out of VLAN v
unfoldable pub mac_del : Lcg → Act × Lcg
mac_del g =
    let v = draw 8 g in
    let m = draw 4096 v.1 in
    (MacDel (1 + v.0) (0x020000010000 + m.0), m.1)

-- i = 1 + draw(8), h = draw(200), m = draw(4096), q = draw(4): on interface i 10.i.0.(2 + h) is the MAC 02:00:00:02:00:00 + m at port i + 8q
unfoldable pub neighbor_set : Lcg → Act × Lcg
neighbor_set g =
    let i = draw 8 g in
    let h = draw 200 i.1 in
    let m = draw 4096 h.1 in
    let q = draw 4 m.1 in
    (NeighborSet (1 + i.0) (quad 10 (1 + i.0) 0 (2 + h.0)) (0x020000020000 + m.0) (1 + i.0 + 8 * q.0), q.1)

-- i = 1 + draw(8), h = draw(200): 10.i.0.(2 + h) is taken from interface i
unfoldable pub neighbor_del : Lcg → Act × Lcg
neighbor_del g =
    let i = draw 8 g in
    let h = draw 200 i.1 in
    (NeighborDel (1 + i.0) (quad 10 (1 + i.0) 0 (2 + h.0)), h.1)

-- p = draw(256), c = 1 + draw(4), i = 1 + draw(8), n = 1 + draw(4), h = draw(100): client c's route to 20.p.0.0/16 by the n hops from 10.i.0.(2 + h) upwards
unfoldable pub route_set : Lcg → Act × Lcg
route_set g =
    let p = draw 256 g in
    let c = draw 4 p.1 in
    let i = draw 8 c.1 in
    let n = draw 4 i.1 in
    let h = draw 100 n.1 in
    (RouteSet 0 (record { ip = quad 20 p.0 0 0; len = 16 }) (client_of (1 + c.0)) (Hops (hops_from (1 + n.0) (1 + i.0) (2 + h.0))), h.1)

-- p = draw(256), c = 1 + draw(4): client c's route to 20.p.0.0/16 is taken away
unfoldable pub route_del : Lcg → Act × Lcg
route_del g =
    let p = draw 256 g in
    let c = draw 4 p.1 in
    (RouteDel 0 (record { ip = quad 20 p.0 0 0; len = 16 }) (client_of (1 + c.0)), c.1)

-- p = 1 + draw(32), u = draw(2): port p goes up where u is 1, else down
unfoldable pub port_set : Lcg → Act × Lcg
port_set g =
    let p = draw 32 g in
    let u = draw 2 p.1 in
    (if u.0 == 1 then PortUp (1 + p.0) else PortDown (1 + p.0), u.1)

-- the act of each k below 10
unfoldable pub act_by : ℕ → Lcg → Act × Lcg
act_by k g =
    if nat_le k 2 then mac_set g
    else if nat_le k 3 then mac_del g
    else if nat_le k 5 then neighbor_set g
    else if nat_le k 6 then neighbor_del g
    else if nat_le k 7 then route_set g
    else if nat_le k 8 then route_del g
    else port_set g

-- k = draw(10), and then the act of that k
abbrev pub next_act : Lcg → Act × Lcg
next_act g = let k = draw 10 g in act_by k.0 k.1

-- so many acts, one after another
unfoldable pub acts : ℕ → Lcg → List Act
acts zero g = []
acts (suc n) g = (next_act g).0 ∷ acts n (next_act g).1
