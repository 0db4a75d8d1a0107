-- Acts on VLANs keep a linked state linked.
use Rattle.std.proofs.Common.{◌≡◌, ◌≢◌, ◌==◌, ◌||◌, ℕ, Bool, false, List, sym, ◌∙◌}
use Rattle.std.specs.Ordering.{nat_cmp}
use Rattle.std.proofs.lemmas.Bool.{or_parts, true≢false}
use Rattle.std.proofs.lemmas.Bool.Decides.{Decides-eqb}
use Rattle.std.specs.List.{list_any}
use Rattle.keyed.specs.Keyed.{put, without}
use Rattle.keyed.specs.KeyOrders.{nat_order}
use Rattle.keyed.specs.KeyedLaws.{ascends-put, ascends-without}
use Rattle.keyed.specs.EveryLaws.{every_so, none-any}
use Rattle.keyed.specs.HasLaws.{has-put, has-without}
use Rattle.keyed.specs.Tests.{NoneHolds}
use Rattle.net_types.specs.declared.table.L2Key.{L2Key}
use Rattle.net_types.specs.KeyOrder.{l2_cmp, l2_order}
use Rattle.switch_model.specs.declared.act.Act.TheVariants.{VlanAdd, VlanDel}
use Rattle.switch_model.specs.declared.record.IntfRec.{IntfRec}
use Rattle.switch_model.specs.declared.record.MacRec.{MacRec}
use Rattle.switch_model.specs.declared.record.PortRec.{PortRec}
use Rattle.switch_model.specs.declared.record.VlanRec.{VlanRec}
use Rattle.switch_model.specs.Effect.{effect}
use Rattle.switch_model.specs.PlainState.{PlainState}
use Rattle.switch_model.specs.Reason.{reasons}
use Rattle.switch_laws.proofs.OtherPart.{other_vlans}
use Rattle.switch_laws.specs.Linked.{IsLinked, IsVlanThere, IsPort, IsIntf, IsStation}

-- numbers that a test tells apart
pub differs : (a b : ℕ) → (a == b) ≡ false → a ≢ b
differs a b h same = true≢false (sym ((Decides-eqb a b).1 same) ∙ h)

pub vlan_add-kept : (m : PlainState) (vlan : ℕ) (name : _) → NoneHolds (reasons m (VlanAdd vlan name)) → IsLinked m → IsLinked (effect m (VlanAdd vlan name))
vlan_add-kept m vlan name none is =
    let l : List (ℕ × VlanRec) = put nat_cmp vlan (record { name = name }) m.vlans in
    let stays : (v : ℕ) → IsVlanThere m.vlans v → IsVlanThere l v = λ v has. has-put nat_cmp nat_order v vlan (record { name = name }) (λ (r : VlanRec). Unit {0}) m.vlans (λ same. tt) has in
    other_vlans m l is (ascends-put nat_cmp nat_order vlan (record { name = name }) m.vlans is.in_order.vlans)
    (every_so nat_cmp nat_order (IsPort m.vlans) (IsPort l) m.ports (λ k v there has. stays v.vlan has) is.ports)
    (every_so nat_cmp nat_order (IsIntf m.vlans) (IsIntf l) m.intfs (λ k v there has. (stays v.vlan has.0, has.1, has.2)) is.intfs)
    (every_so l2_cmp l2_order (IsStation m.vlans m.ports) (IsStation l m.ports) m.macs (λ k v there has. (stays k.vlan has.0, has.1, has.2)) is.macs)

pub vlan_del-kept : (m : PlainState) (vlan : ℕ) → NoneHolds (reasons m (VlanDel vlan)) → IsLinked m → IsLinked (effect m (VlanDel vlan))
vlan_del-kept m vlan none is =
    let l : List (ℕ × VlanRec) = without nat_cmp vlan m.vlans in
    let by_port : ℕ × PortRec → Bool = λ e. e.1.vlan == vlan in
    let by_intf : ℕ × IntfRec → Bool = λ e. e.1.vlan == vlan in
    let by_mac : L2Key × MacRec → Bool = λ e. e.0.vlan == vlan in
    let first_two = or_parts (list_any by_port m.ports || list_any by_intf m.intfs) (list_any by_mac m.macs) none.1.0 in
    let apart = or_parts (list_any by_port m.ports) (list_any by_intf m.intfs) first_two.0 in
    let stays : (v : ℕ) → (v == vlan) ≡ false → IsVlanThere m.vlans v → IsVlanThere l v = λ v other has. has-without nat_cmp nat_order v vlan (λ (r : VlanRec). Unit {0}) m.vlans is.in_order.vlans (differs v vlan other) has in
    other_vlans m l is (ascends-without nat_cmp nat_order vlan m.vlans is.in_order.vlans)
    (every_so nat_cmp nat_order (IsPort m.vlans) (IsPort l) m.ports (λ k v there has. stays v.vlan ((none-any nat_cmp nat_order by_port m.ports apart.0).every k v there) has) is.ports)
    (every_so nat_cmp nat_order (IsIntf m.vlans) (IsIntf l) m.intfs (λ k v there has. (stays v.vlan ((none-any nat_cmp nat_order by_intf m.intfs apart.1).every k v there) has.0, has.1, has.2)) is.intfs)
    (every_so l2_cmp l2_order (IsStation m.vlans m.ports) (IsStation l m.ports) m.macs (λ k v there has. (stays k.vlan ((none-any l2_cmp l2_order by_mac m.macs first_two.1).every k v there) has.0, has.1, has.2)) is.macs)
