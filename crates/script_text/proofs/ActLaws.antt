-- The acts: what is read is an act, the words of an act are read, and a fault is at the first word that no act begins with.
use Rattle.std.proofs.Common.{ℕ, List, [], ◌∷◌, ◌++◌, refl, codes}
use Rattle.switch_model.specs.declared.act.Act.{Act}
use Rattle.switch_model.specs.declared.act.Act.TheVariants.{VlanAdd, VlanDel, PortAdd, PortDel, PortVlan, PortUp, PortDown, IntfAdd, IntfDel, AddrAdd, AddrDel, NeighborSet, NeighborPending, NeighborDel, MacSet, MacDel, RouteSet, RouteDel, ClientSync}
use Rattle.switch_model.specs.declared.via.Via.{Via}
use Rattle.switch_model.specs.declared.via.Via.TheVariants.{Hops, ToCpu, Discard}
use Rattle.script_words.specs.Grammar.{Token, key, AreWords, vlan, port, intf, addr, mac, client}
use Rattle.script_words.specs.Exact.{Exact, exact_ended, exact_choose, exact_map, partly_choose, partly_bad}
use Rattle.script_words.specs.Classes.{vlan_class, port_class, intf_class, vrf_class, vlan_name_class, ip_class, addr_class, prefix_class, mac_class, hop_class, client_class}
use Rattle.script_words.specs.Again.{Again, exact_one, again_ended, again_one, again_here, again_next, again_map}
use Rattle.script_words.specs.Rows.{exact_each, each_again}
use Rattle.script_text.specs.Grammar.{act, action}
use Rattle.script_text.specs.Reading.{via_at, act_at, vlan_add_at, vlan_del_at, port_add_at, port_del_at, port_vlan_at, port_up_at, port_down_at, intf_add_at, intf_del_at, addr_add_at, addr_del_at, neighbor_set_at, neighbor_pending_at, neighbor_del_at, mac_set_at, mac_del_at, route_set_at, route_del_at, client_sync_at, vlan_at, port_at, intf_at, addr_at, neighbor_at, mac_at, route_at, client_at}
use Rattle.script_text.proofs.ItemLaws.{exact_items, items_again}

exact_via : Exact via_at (λ via ws. AreWords (action via) ws)
unfolding via_at
exact_via = exact_choose (codes "via") (exact_map Hops (λ hs ws is. (refl, is)) (exact_each hop_class)) (partly_choose (codes "cpu") (exact_ended (refl, tt)) (partly_choose (codes "drop") (exact_ended (refl, tt)) partly_bad))

via_again : (via : Via) → Again via_at (action via) via
unfolding via_at
via_again (Hops hs) = again_here _ (again_map Hops (record { again = λ ws is. each_again hop_class hs ws is }))
via_again ToCpu = again_next _ _ refl (again_here _ again_ended)
via_again Discard = again_next _ _ refl (again_next _ _ refl (again_here _ again_ended))

-- the words of an act behind others
abbrev Behind : List (List ℕ) → Act → List (List ℕ) → Type 0
Behind front a ws = AreWords (act a) (front ++ ws)

exact_vlan_add : Exact vlan_add_at (Behind (codes "vlan" ∷ codes "add" ∷ []))
unfolding vlan_add_at
exact_vlan_add = exact_one vlan_class (λ w v v_is. exact_one vlan_name_class (λ u n n_is. exact_ended (refl, (refl, (v_is, (n_is, tt))))))

exact_vlan_del : Exact vlan_del_at (Behind (codes "vlan" ∷ codes "del" ∷ []))
unfolding vlan_del_at
exact_vlan_del = exact_one vlan_class (λ w v v_is. exact_ended (refl, (refl, (v_is, tt))))

exact_port_add : Exact port_add_at (Behind (codes "port" ∷ codes "add" ∷ []))
unfolding port_add_at
exact_port_add = exact_one port_class (λ w p p_is. exact_one vlan_class (λ u v v_is. exact_ended (refl, (refl, (p_is, (v_is, tt))))))

exact_port_del : Exact port_del_at (Behind (codes "port" ∷ codes "del" ∷ []))
unfolding port_del_at
exact_port_del = exact_one port_class (λ w p p_is. exact_ended (refl, (refl, (p_is, tt))))

exact_port_vlan : Exact port_vlan_at (Behind (codes "port" ∷ codes "vlan" ∷ []))
unfolding port_vlan_at
exact_port_vlan = exact_one port_class (λ w p p_is. exact_one vlan_class (λ u v v_is. exact_ended (refl, (refl, (p_is, (v_is, tt))))))

exact_port_up : Exact port_up_at (Behind (codes "port" ∷ codes "up" ∷ []))
unfolding port_up_at
exact_port_up = exact_one port_class (λ w p p_is. exact_ended (refl, (refl, (p_is, tt))))

exact_port_down : Exact port_down_at (Behind (codes "port" ∷ codes "down" ∷ []))
unfolding port_down_at
exact_port_down = exact_one port_class (λ w p p_is. exact_ended (refl, (refl, (p_is, tt))))

exact_intf_add : Exact intf_add_at (Behind (codes "intf" ∷ codes "add" ∷ []))
unfolding intf_add_at
exact_intf_add = exact_one intf_class (λ w i i_is. exact_one vlan_class (λ u v v_is. exact_one vrf_class (λ t n n_is. exact_one mac_class (λ s m m_is. exact_ended (refl, (refl, (i_is, (v_is, (n_is, (m_is, tt))))))))))

exact_intf_del : Exact intf_del_at (Behind (codes "intf" ∷ codes "del" ∷ []))
unfolding intf_del_at
exact_intf_del = exact_one intf_class (λ w i i_is. exact_ended (refl, (refl, (i_is, tt))))

exact_addr_add : Exact addr_add_at (Behind (codes "addr" ∷ codes "add" ∷ []))
unfolding addr_add_at
exact_addr_add = exact_one intf_class (λ w i i_is. exact_one addr_class (λ u a a_is. exact_ended (refl, (refl, (i_is, (a_is, tt))))))

exact_addr_del : Exact addr_del_at (Behind (codes "addr" ∷ codes "del" ∷ []))
unfolding addr_del_at
exact_addr_del = exact_one intf_class (λ w i i_is. exact_one addr_class (λ u a a_is. exact_ended (refl, (refl, (i_is, (a_is, tt))))))

exact_neighbor_set : Exact neighbor_set_at (Behind (codes "neighbor" ∷ codes "set" ∷ []))
unfolding neighbor_set_at
exact_neighbor_set = exact_one intf_class (λ w i i_is. exact_one ip_class (λ u a a_is. exact_one mac_class (λ t m m_is. exact_one port_class (λ s p p_is. exact_ended (refl, (refl, (i_is, (a_is, (m_is, (p_is, tt))))))))))

exact_neighbor_pending : Exact neighbor_pending_at (Behind (codes "neighbor" ∷ codes "pending" ∷ []))
unfolding neighbor_pending_at
exact_neighbor_pending = exact_one intf_class (λ w i i_is. exact_one ip_class (λ u a a_is. exact_ended (refl, (refl, (i_is, (a_is, tt))))))

exact_neighbor_del : Exact neighbor_del_at (Behind (codes "neighbor" ∷ codes "del" ∷ []))
unfolding neighbor_del_at
exact_neighbor_del = exact_one intf_class (λ w i i_is. exact_one ip_class (λ u a a_is. exact_ended (refl, (refl, (i_is, (a_is, tt))))))

exact_mac_set : Exact mac_set_at (Behind (codes "mac" ∷ codes "set" ∷ []))
unfolding mac_set_at
exact_mac_set = exact_one vlan_class (λ w v v_is. exact_one mac_class (λ u m m_is. exact_one port_class (λ t p p_is. exact_ended (refl, (refl, (v_is, (m_is, (p_is, tt))))))))

exact_mac_del : Exact mac_del_at (Behind (codes "mac" ∷ codes "del" ∷ []))
unfolding mac_del_at
exact_mac_del = exact_one vlan_class (λ w v v_is. exact_one mac_class (λ u m m_is. exact_ended (refl, (refl, (v_is, (m_is, tt))))))

exact_route_set : Exact route_set_at (Behind (codes "route" ∷ codes "set" ∷ []))
unfolding route_set_at
exact_route_set = exact_one vrf_class (λ w n n_is. exact_one prefix_class (λ u p p_is. exact_one client_class (λ t c c_is. exact_map (RouteSet n p c) (λ rest ws is. (refl, (refl, (n_is, (p_is, (c_is, is)))))) exact_via)))

exact_route_del : Exact route_del_at (Behind (codes "route" ∷ codes "del" ∷ []))
unfolding route_del_at
exact_route_del = exact_one vrf_class (λ w n n_is. exact_one prefix_class (λ u p p_is. exact_one client_class (λ t c c_is. exact_ended (refl, (refl, (n_is, (p_is, (c_is, tt))))))))

exact_client_sync : Exact client_sync_at (Behind (codes "client" ∷ codes "sync" ∷ []))
unfolding client_sync_at
exact_client_sync = exact_one vrf_class (λ w n n_is. exact_one client_class (λ u c c_is. exact_map (ClientSync n c) (λ rest ws is. (refl, (refl, (n_is, (c_is, is))))) exact_items))

pub exact_act : Exact act_at (λ a ws. AreWords (act a) ws)
unfolding act_at vlan_at port_at intf_at addr_at neighbor_at mac_at route_at client_at
exact_act =
    exact_choose (codes "vlan") (exact_choose (codes "add") exact_vlan_add (partly_choose (codes "del") exact_vlan_del partly_bad))
    (partly_choose (codes "port") (exact_choose (codes "add") exact_port_add (partly_choose (codes "del") exact_port_del (partly_choose (codes "vlan") exact_port_vlan (partly_choose (codes "up") exact_port_up (partly_choose (codes "down") exact_port_down partly_bad)))))
    (partly_choose (codes "intf") (exact_choose (codes "add") exact_intf_add (partly_choose (codes "del") exact_intf_del partly_bad))
    (partly_choose (codes "addr") (exact_choose (codes "add") exact_addr_add (partly_choose (codes "del") exact_addr_del partly_bad))
    (partly_choose (codes "neighbor") (exact_choose (codes "set") exact_neighbor_set (partly_choose (codes "pending") exact_neighbor_pending (partly_choose (codes "del") exact_neighbor_del partly_bad)))
    (partly_choose (codes "mac") (exact_choose (codes "set") exact_mac_set (partly_choose (codes "del") exact_mac_del partly_bad))
    (partly_choose (codes "route") (exact_choose (codes "set") exact_route_set (partly_choose (codes "del") exact_route_del partly_bad))
    (partly_choose (codes "client") (exact_choose (codes "sync") exact_client_sync partly_bad) partly_bad)))))))

vlan_first : {ts : List Token} {a : Act} → Again vlan_at ts a → Again act_at (key (codes "vlan") ∷ ts) a
unfolding act_at
vlan_first a = again_here _ a

port_first : {ts : List Token} {a : Act} → Again port_at ts a → Again act_at (key (codes "port") ∷ ts) a
unfolding act_at
port_first a = again_next _ _ refl (again_here _ a)

intf_first : {ts : List Token} {a : Act} → Again intf_at ts a → Again act_at (key (codes "intf") ∷ ts) a
unfolding act_at
intf_first a = again_next _ _ refl (again_next _ _ refl (again_here _ a))

addr_first : {ts : List Token} {a : Act} → Again addr_at ts a → Again act_at (key (codes "addr") ∷ ts) a
unfolding act_at
addr_first a = again_next _ _ refl (again_next _ _ refl (again_next _ _ refl (again_here _ a)))

neighbor_first : {ts : List Token} {a : Act} → Again neighbor_at ts a → Again act_at (key (codes "neighbor") ∷ ts) a
unfolding act_at
neighbor_first a = again_next _ _ refl (again_next _ _ refl (again_next _ _ refl (again_next _ _ refl (again_here _ a))))

mac_first : {ts : List Token} {a : Act} → Again mac_at ts a → Again act_at (key (codes "mac") ∷ ts) a
unfolding act_at
mac_first a = again_next _ _ refl (again_next _ _ refl (again_next _ _ refl (again_next _ _ refl (again_next _ _ refl (again_here _ a)))))

route_first : {ts : List Token} {a : Act} → Again route_at ts a → Again act_at (key (codes "route") ∷ ts) a
unfolding act_at
route_first a = again_next _ _ refl (again_next _ _ refl (again_next _ _ refl (again_next _ _ refl (again_next _ _ refl (again_next _ _ refl (again_here _ a))))))

client_first : {ts : List Token} {a : Act} → Again client_at ts a → Again act_at (key (codes "client") ∷ ts) a
unfolding act_at
client_first a = again_next _ _ refl (again_next _ _ refl (again_next _ _ refl (again_next _ _ refl (again_next _ _ refl (again_next _ _ refl (again_next _ _ refl (again_here _ a)))))))

pub act_again : (a : Act) → Again act_at (act a) a
unfolding vlan_add_at vlan_del_at port_add_at port_del_at port_vlan_at port_up_at port_down_at intf_add_at intf_del_at addr_add_at addr_del_at neighbor_set_at neighbor_pending_at neighbor_del_at mac_set_at mac_del_at route_set_at route_del_at client_sync_at vlan_at port_at intf_at addr_at neighbor_at mac_at route_at client_at
act_again (VlanAdd v n) = vlan_first (again_here _ (again_one _ vlan_class (again_one _ vlan_name_class (again_ended))))
act_again (VlanDel v) = vlan_first (again_next _ _ refl (again_here _ (again_one _ vlan_class (again_ended))))
act_again (PortAdd p v) = port_first (again_here _ (again_one _ port_class (again_one _ vlan_class (again_ended))))
act_again (PortDel p) = port_first (again_next _ _ refl (again_here _ (again_one _ port_class (again_ended))))
act_again (PortVlan p v) = port_first (again_next _ _ refl (again_next _ _ refl (again_here _ (again_one _ port_class (again_one _ vlan_class (again_ended))))))
act_again (PortUp p) = port_first (again_next _ _ refl (again_next _ _ refl (again_next _ _ refl (again_here _ (again_one _ port_class (again_ended))))))
act_again (PortDown p) = port_first (again_next _ _ refl (again_next _ _ refl (again_next _ _ refl (again_next _ _ refl (again_here _ (again_one _ port_class (again_ended)))))))
act_again (IntfAdd i v n m) = intf_first (again_here _ (again_one _ intf_class (again_one _ vlan_class (again_one _ vrf_class (again_one _ mac_class (again_ended))))))
act_again (IntfDel i) = intf_first (again_next _ _ refl (again_here _ (again_one _ intf_class (again_ended))))
act_again (AddrAdd i a) = addr_first (again_here _ (again_one _ intf_class (again_one _ addr_class (again_ended))))
act_again (AddrDel i a) = addr_first (again_next _ _ refl (again_here _ (again_one _ intf_class (again_one _ addr_class (again_ended)))))
act_again (NeighborSet i a m p) = neighbor_first (again_here _ (again_one _ intf_class (again_one _ ip_class (again_one _ mac_class (again_one _ port_class (again_ended))))))
act_again (NeighborPending i a) = neighbor_first (again_next _ _ refl (again_here _ (again_one _ intf_class (again_one _ ip_class (again_ended)))))
act_again (NeighborDel i a) = neighbor_first (again_next _ _ refl (again_next _ _ refl (again_here _ (again_one _ intf_class (again_one _ ip_class (again_ended))))))
act_again (MacSet v m p) = mac_first (again_here _ (again_one _ vlan_class (again_one _ mac_class (again_one _ port_class (again_ended)))))
act_again (MacDel v m) = mac_first (again_next _ _ refl (again_here _ (again_one _ vlan_class (again_one _ mac_class (again_ended)))))
act_again (RouteSet n p c via) = route_first (again_here _ (again_one _ vrf_class (again_one _ prefix_class (again_one _ client_class (again_map (RouteSet n p c) (via_again via))))))
act_again (RouteDel n p c) = route_first (again_next _ _ refl (again_here _ (again_one _ vrf_class (again_one _ prefix_class (again_one _ client_class (again_ended))))))
act_again (ClientSync n c xs) = client_first (again_here _ (again_one _ vrf_class (again_one _ client_class (again_map (ClientSync n c) (record { again = λ ws is. items_again xs ws is })))))
