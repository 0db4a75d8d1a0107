-- VLANs and ports are built again entry by entry.
use Rattle.std.proofs.Common.{◌≡◌, ◌++◌, ℕ, Bool, true, false, List, [], ◌∷◌, map, refl, ap}
use Rattle.std.specs.List.{flat_map}
use Rattle.std.specs.Prelude.{if◌then◌else◌}
use Rattle.std.specs.Ordering.{nat_cmp}
use Rattle.keyed.specs.KeyOrders.{nat_order}
use Rattle.keyed.specs.Cases.{not_none}
use Rattle.keyed.specs.FrontLaws.{IsAbove, above, put_past, change_mid, at_new, at_mid, at_entry}
use Rattle.keyed.specs.HasLaws.{is_there}
use Rattle.switch_model.specs.declared.act.Act.TheVariants.{VlanAdd, PortAdd, PortUp}
use Rattle.switch_model.specs.declared.record.PortRec.{PortRec}
use Rattle.switch_model.specs.Effect.{with_up}
use Rattle.switch_model.specs.PlainState.{PlainState}
use Rattle.switch_model.specs.Sound.{port_acts}
use Rattle.switch_laws.proofs.Builds.{Builds, builds_nothing, builds_one, builds_then, builds_as, each_builds, each_one}
use Rattle.switch_laws.proofs.Stages.{with_front_vlans, with_front_ports}
use Rattle.switch_laws.specs.Linked.{IsLinked}

pub vlans_built : (m : PlainState) → IsLinked m → Builds (with_front_vlans []) (map (λ e. VlanAdd e.0 e.1.name) m.vlans) (with_front_vlans m.vlans)
vlans_built m is = each_one m.vlans (λ e. VlanAdd e.0 e.1.name) (λ f b. with_front_vlans f)
    (λ f e b whole.
    let up = above nat_cmp nat_order f e b m.vlans whole is.in_order.vlans in
    builds_as _ _ _ _ (ap with_front_vlans (put_past nat_cmp nat_order e.0 e.1 f up))
    (builds_one (with_front_vlans f) (VlanAdd e.0 e.1.name) (rw (at_new nat_cmp nat_order e.0 f up) refl, tt)))
    [] m.vlans refl

-- a port that is down, and then up where it is to be
flipped : (m : PlainState) (f : List (ℕ × PortRec)) (k : ℕ) (new : PortRec) → IsAbove nat_cmp k f → (up : Bool) → new.up ≡ false → Builds (with_front_ports m (f ++ ((k, new) ∷ []))) (if up then PortUp k ∷ [] else []) (with_front_ports m (f ++ ((k, with_up up new) ∷ [])))
flipped m f k new above true down =
    builds_as _ _ _ _ (ap (with_front_ports m) (change_mid nat_cmp nat_order k new (with_up true) f [] above))
    (builds_one (with_front_ports m (f ++ ((k, new) ∷ []))) (PortUp k) (not_none _ new (at_mid nat_cmp nat_order k new f [] above), tt))
flipped m f k new above false down =
    let same : new ≡ with_up false new = ap (λ (b : Bool). with_up b new) down in
    builds_as _ _ _ _ (ap (λ (p : PortRec). with_front_ports m (f ++ ((k, p) ∷ []))) same) (builds_nothing (with_front_ports m (f ++ ((k, new) ∷ []))))

pub ports_built : (m : PlainState) → IsLinked m → Builds (with_front_ports m []) (flat_map port_acts m.ports) (with_front_ports m m.ports)
ports_built m is = each_builds m.ports port_acts (λ f b. with_front_ports m f) step [] m.ports refl
  where
    step : (f : List (ℕ × PortRec)) (e : ℕ × PortRec) (b : List (ℕ × PortRec)) → f ++ (e ∷ b) ≡ m.ports → Builds (with_front_ports m f) (port_acts e) (with_front_ports m (f ++ (e ∷ [])))
    step f e b whole =
        let up = above nat_cmp nat_order f e b m.ports whole is.in_order.ports in
        let new : PortRec = record { vlan = e.1.vlan; up = false } in
        let there = is.ports.every e.0 e.1 (at_entry nat_cmp nat_order f e b m.ports whole is.in_order.ports) in
        builds_then (with_front_ports m f) (with_front_ports m (f ++ ((e.0, new) ∷ []))) (with_front_ports m (f ++ (e ∷ []))) (PortAdd e.0 e.1.vlan ∷ []) (if e.1.up then PortUp e.0 ∷ [] else [])
        (builds_as _ _ _ _ (ap (with_front_ports m) (put_past nat_cmp nat_order e.0 new f up))
        (builds_one (with_front_ports m f) (PortAdd e.0 e.1.vlan) (is_there _ there, (rw (at_new nat_cmp nat_order e.0 f up) refl, tt))))
        (flipped m f e.0 new up e.1.up refl)
