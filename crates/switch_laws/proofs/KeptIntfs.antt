-- Acts on interfaces and their addresses keep a linked state linked.
use Rattle.std.proofs.Common.{◌≡◌, ◌≢◌, ◌==◌, ◌&&◌, ℕ, Bool, true, false, not, List, [], Option, Some, length, sym, ap, ◌∙◌, subst, inl, inr}
use Rattle.std.specs.List.{list_any, Contains}
use Rattle.std.specs.Ordering.{nat_cmp}
use Rattle.std.proofs.lemmas.Bool.{or_parts, not-false, false_from_ne_true}
use Rattle.std.proofs.lemmas.Bool.Decides.{Decides-eqb}
use Rattle.keyed.specs.Keyed.{Ascends, at, put, without, change}
use Rattle.keyed.specs.KeyOrders.{nat_order}
use Rattle.keyed.specs.KeyedLaws.{ascends-put, ascends-without}
use Rattle.keyed.specs.Members.{contains_none}
use Rattle.keyed.specs.SetLaws.{ascends-insert, ascends-delete, ascends-set_of}
use Rattle.keyed.specs.Sets.{delete}
use Rattle.keyed.specs.ValueLaws.{ascends-change}
use Rattle.keyed.specs.Every.{Every, EachTwo, Has}
use Rattle.keyed.specs.EveryLaws.{every_so, every-put, every-without, every-change, two-put, two-without, two-change, none-any}
use Rattle.keyed.specs.HasLaws.{has-put_new, has-without, has-change, has_found, has_so}
use Rattle.keyed.specs.InsertLaws.{insert_cases, delete_cases, insert_keeps}
use Rattle.keyed.specs.ListLaws.{find_none}
use Rattle.keyed.specs.Tests.{NoneHolds}
use Rattle.net_types.specs.Cidr.{Cidr}
use Rattle.net_types.specs.Prefix.{overlaps, subnet_of}
use Rattle.switch_model.specs.declared.act.Act.TheVariants.{IntfAdd, IntfDel, AddrAdd, AddrDel}
use Rattle.switch_model.specs.declared.key.NeighborKey.{NeighborKey}
use Rattle.switch_model.specs.declared.record.IntfRec.{IntfRec}
use Rattle.switch_model.specs.declared.record.NeighborRec.{NeighborRec}
use Rattle.switch_model.specs.declared.record.NeighborRec.TheVariants.{Pending, Reachable}
use Rattle.switch_model.specs.Addresses.{addr_cmp, addr_total, has_subnet, subnets, is_on}
use Rattle.switch_model.specs.Effect.{effect, with_addr, without_addr}
use Rattle.switch_model.specs.Facts.{addrs_of, addrs_at, has_neighbor, overlaps_other, has_ip}
use Rattle.switch_model.specs.PlainState.{PlainState}
use Rattle.switch_model.specs.Reason.{reasons}
use Rattle.switch_model.specs.StateKeys.{neighbor_cmp, neighbor_order}
use Rattle.switch_laws.proofs.KeptVlans.{differs}
use Rattle.switch_laws.proofs.OtherPart.{other_intfs}
use Rattle.switch_laws.proofs.Subnets.{free_ip, subnet_false, is_on-more, apart-turned, overlaps_as, overlaps-each}
use Rattle.switch_laws.specs.Linked.{IsLinked, IsPortIn, IsIntf, AreApart, IsNeighbor}

pub equal_test : (a b : ℕ) → a ≡ b → (a == b) ≡ true
equal_test a b same = (Decides-eqb a b).1 same

pub other_test : (a b : ℕ) → a ≢ b → (a == b) ≡ false
other_test a b other = false_from_ne_true (a == b) (λ same. other ((Decides-eqb a b).0 same))

-- an address that is on its interface, which stays in its VLAN
module _ (m : PlainState) (l : List (ℕ × IntfRec)) where
  -- each interface that a neighbour is on is there as before, or in the same VLAN with the neighbour on it
  neighbor_with : (key : NeighborKey) → ((Is : ℕ → Type 0) → Has nat_cmp key.intf (λ (i : IntfRec). (is_on i.addrs key.ip ≡ true) × Is i.vlan) m.intfs → Has nat_cmp key.intf (λ (i : IntfRec). (is_on i.addrs key.ip ≡ true) × Is i.vlan) l)
      → (v : NeighborRec) → IsNeighbor m.ports m.intfs key v → IsNeighbor m.ports l key v
  neighbor_with key stays Pending is = has_so _ _ (λ i on. on.0) (stays (λ vlan. Unit {0}) (has_so _ _ (λ i on. (on, tt)) is))
  neighbor_with key stays (Reachable mac port) is = (stays (λ vlan. IsPortIn m.ports port vlan) is.0, is.1)

  pub intfs_linked : IsLinked m → Ascends nat_cmp l → Every nat_cmp (IsIntf m.vlans) l → EachTwo nat_cmp AreApart l
      → ((key : NeighborKey) (v : NeighborRec) → at neighbor_cmp key m.neighbors ≡ Some v → (Is : ℕ → Type 0) → Has nat_cmp key.intf (λ (i : IntfRec). (is_on i.addrs key.ip ≡ true) × Is i.vlan) m.intfs → Has nat_cmp key.intf (λ (i : IntfRec). (is_on i.addrs key.ip ≡ true) × Is i.vlan) l)
      → IsLinked (record m { intfs = l })
  intfs_linked is asc intfs apart stays = other_intfs m l is asc intfs apart
      (every_so neighbor_cmp neighbor_order (IsNeighbor m.ports m.intfs) (IsNeighbor m.ports l) m.neighbors (λ key v there has. neighbor_with key (stays key v there) v has) is.neighbors)

pub intf_add-kept : (m : PlainState) (intf vlan vrf mac : ℕ) → NoneHolds (reasons m (IntfAdd intf vlan vrf mac)) → IsLinked m → IsLinked (effect m (IntfAdd intf vlan vrf mac))
intf_add-kept m intf vlan vrf mac none is =
    let new : IntfRec = record { vlan = vlan; vrf = vrf; mac = mac; addrs = [] } in
    let in_vlan : ℕ × IntfRec → Bool = λ e. e.1.vlan == vlan in
    let no_intf : list_any in_vlan m.intfs ≡ false = sym (find_none (λ (e : ℕ × IntfRec). e.0) in_vlan m.intfs) ∙ none.1.1.0 in
    let fresh : Every nat_cmp (λ q w. q ≢ intf → AreApart new w × AreApart w new) m.intfs = every_so nat_cmp nat_order (λ q w. in_vlan (q, w) ≡ false) (λ q w. q ≢ intf → AreApart new w × AreApart w new) m.intfs
    (λ q w there other apart. (
      record { vlans = λ same. differs w.vlan vlan other (sym same); subnets = λ vrfs x y in_new in_w one two. absurd (contains_none x in_new) },
      record { vlans = λ same. differs w.vlan vlan other same; subnets = λ vrfs x y in_w in_new one two. absurd (contains_none y in_new) },
    ))
    (none-any nat_cmp nat_order in_vlan m.intfs no_intf) in
    intfs_linked m (put nat_cmp intf new m.intfs) is (ascends-put nat_cmp nat_order intf new m.intfs is.in_order.intfs)
    (every-put nat_cmp nat_order (IsIntf m.vlans) intf new m.intfs (has_found nat_cmp vlan m.vlans none.0, none.1.1.1.0, ascends-set_of addr_cmp addr_total []) is.intfs)
    (two-put nat_cmp nat_order AreApart intf new m.intfs fresh is.intfs_apart)
    (λ key v there Is has. has-put_new nat_cmp nat_order key.intf intf new (λ (i : IntfRec). (is_on i.addrs key.ip ≡ true) × Is i.vlan) m.intfs none.1.0 has)

pub intf_del-kept : (m : PlainState) (intf : ℕ) → NoneHolds (reasons m (IntfDel intf)) → IsLinked m → IsLinked (effect m (IntfDel intf))
intf_del-kept m intf none is =
    let by_neighbor : NeighborKey × NeighborRec → Bool = λ e. e.0.intf == intf in
    let unused : list_any by_neighbor m.neighbors ≡ false = (or_parts (not (length (addrs_at m intf) == 0)) (has_neighbor m intf) none.1.0).1 in
    intfs_linked m (without nat_cmp intf m.intfs) is (ascends-without nat_cmp nat_order intf m.intfs is.in_order.intfs)
    (every-without nat_cmp nat_order (IsIntf m.vlans) intf m.intfs is.in_order.intfs is.intfs)
    (two-without nat_cmp nat_order AreApart intf m.intfs is.in_order.intfs is.intfs_apart)
    (λ key v there Is has. has-without nat_cmp nat_order key.intf intf (λ (i : IntfRec). (is_on i.addrs key.ip ≡ true) × Is i.vlan) m.intfs is.in_order.intfs (differs key.intf intf ((none-any neighbor_cmp neighbor_order by_neighbor m.neighbors unused).every key v there)) has)

-- the address's subnet overlaps none of another interface of the VRF
new_apart : (m : PlainState) (intf : ℕ) (addr : Cidr) (own : IntfRec) → at nat_cmp intf m.intfs ≡ Some own → (has_subnet addr && overlaps_other m intf (subnet_of addr)) ≡ false → has_subnet addr ≡ true
    → (q : ℕ) (w : IntfRec) → q ≢ intf → at nat_cmp q m.intfs ≡ Some w → own.vrf ≡ w.vrf → (y : Cidr) → Contains w.addrs y → has_subnet y ≡ true → overlaps (subnet_of addr) (subnet_of y) ≡ false
new_apart m intf addr own is none one q w other there vrfs y in_w two =
    let test : ℕ × IntfRec → Bool = overlaps_as intf own.vrf (subnet_of addr) in
    let clear : overlaps_other m intf (subnet_of addr) ≡ false = rw one at none in
    let others : list_any test m.intfs ≡ false = sym (overlaps-each m intf (subnet_of addr) own is) ∙ clear in
    let of_w : test (q, w) ≡ false = (none-any nat_cmp nat_order test m.intfs others).every q w there in
    let not_own : (q == intf) ≡ false = other_test q intf other in
    let same_vrf : (w.vrf == own.vrf) ≡ true = equal_test w.vrf own.vrf (sym vrfs) in
    let none_of : list_any (overlaps (subnet_of addr)) (subnets w.addrs) ≡ false = rw same_vrf at (rw not_own at of_w) in
    subnet_false (overlaps (subnet_of addr)) w.addrs none_of y in_w two

pub addr_add-kept : (m : PlainState) (intf : ℕ) (addr : Cidr) → NoneHolds (reasons m (AddrAdd intf addr)) → IsLinked m → IsLinked (effect m (AddrAdd intf addr))
addr_add-kept m intf addr none is =
    let apart : (v : IntfRec) → at nat_cmp intf m.intfs ≡ Some v → (q : ℕ) (w : IntfRec) → at nat_cmp q m.intfs ≡ Some w → q ≢ intf → v.vrf ≡ w.vrf → (x y : Cidr) → Contains (with_addr addr v).addrs x → Contains w.addrs y → has_subnet x ≡ true → has_subnet y ≡ true → overlaps (subnet_of x) (subnet_of y) ≡ false =
    λ v own q w there other vrfs x y in_v in_w one two. elim (insert_cases addr_cmp addr v.addrs x in_v) [
      | inl new ↦ subst (λ (z : Cidr). overlaps (subnet_of z) (subnet_of y) ≡ false) (sym new) (new_apart m intf addr v own none.1.1.0 (subst (λ (z : Cidr). has_subnet z ≡ true) new one) q w other there vrfs y in_w two)
      | inr was ↦ (is.intfs_apart.two intf q v w (λ same. other (sym same)) own there).subnets vrfs x y was in_w one two
    ] in
    intfs_linked m (change nat_cmp intf (with_addr addr) m.intfs) is (ascends-change nat_cmp intf (with_addr addr) m.intfs is.in_order.intfs)
    (every-change nat_cmp nat_order (IsIntf m.vlans) intf (with_addr addr) m.intfs (λ v there has. (has.0, has.1, ascends-insert addr_cmp addr_total addr v.addrs has.2)) is.intfs)
    (two-change nat_cmp nat_order AreApart intf (with_addr addr) m.intfs
    (λ v own. record {
      every = λ q w there other. (
        record { vlans = (is.intfs_apart.two intf q v w (λ same. other (sym same)) own there).vlans; subnets = λ vrfs x y in_v in_w one two. apart v own q w there other vrfs x y in_v in_w one two },
        record { vlans = (is.intfs_apart.two q intf w v other there own).vlans; subnets = λ vrfs y x in_w in_v two one. apart-turned (subnet_of x) (subnet_of y) (apart v own q w there other (sym vrfs) x y in_v in_w one two) },
      );
    })
    is.intfs_apart)
    (λ key v there Is has. has-change nat_cmp nat_order key.intf intf (with_addr addr) (λ (i : IntfRec). (is_on i.addrs key.ip ≡ true) × Is i.vlan) (λ (i : IntfRec). (is_on i.addrs key.ip ≡ true) × Is i.vlan) m.intfs
    (λ i at_it on. on)
    (λ i same at_it on.
    let free : has_ip i.addrs addr ≡ false = subst (λ (o : Option IntfRec). has_ip (addrs_of o) addr ≡ false) (ap (λ (q : ℕ). at nat_cmp q m.intfs) (sym same) ∙ at_it) none.1.0 in
    (is_on-more i.addrs (with_addr addr i).addrs key.ip (λ x has_x. insert_keeps addr_cmp addr i.addrs x (free_ip i.addrs addr free) has_x) on.0, on.1))
    has)

pub addr_del-kept : (m : PlainState) (intf : ℕ) (addr : Cidr) → NoneHolds (reasons m (AddrDel intf addr)) → IsLinked m → IsLinked (effect m (AddrDel intf addr))
addr_del-kept m intf addr none is =
    let fewer : (v : IntfRec) (x : Cidr) → Contains (without_addr addr v).addrs x → Contains v.addrs x = λ v x has. delete_cases addr_cmp addr v.addrs x has in
    let orphan : NeighborKey × NeighborRec → Bool = λ e. (e.0.intf == intf) && not (is_on (delete addr_cmp addr (addrs_at m intf)) e.0.ip) in
    intfs_linked m (change nat_cmp intf (without_addr addr) m.intfs) is (ascends-change nat_cmp intf (without_addr addr) m.intfs is.in_order.intfs)
    (every-change nat_cmp nat_order (IsIntf m.vlans) intf (without_addr addr) m.intfs (λ v there has. (has.0, has.1, ascends-delete addr_cmp addr_total addr v.addrs has.2)) is.intfs)
    (two-change nat_cmp nat_order AreApart intf (without_addr addr) m.intfs
    (λ v own. record {
      every = λ q w there other.
          let first = is.intfs_apart.two intf q v w (λ same. other (sym same)) own there in
          let second = is.intfs_apart.two q intf w v other there own in (
            record { vlans = first.vlans; subnets = λ vrfs x y in_v in_w one two. first.subnets vrfs x y (fewer v x in_v) in_w one two },
            record { vlans = second.vlans; subnets = λ vrfs y x in_w in_v two one. second.subnets vrfs y x in_w (fewer v x in_v) two one },
          );
    })
    is.intfs_apart)
    (λ key v there Is has. has-change nat_cmp nat_order key.intf intf (without_addr addr) (λ (i : IntfRec). (is_on i.addrs key.ip ≡ true) × Is i.vlan) (λ (i : IntfRec). (is_on i.addrs key.ip ≡ true) × Is i.vlan) m.intfs
    (λ i at_it on. on)
    (λ i same at_it on.
    let test : orphan (key, v) ≡ false = (none-any neighbor_cmp neighbor_order orphan m.neighbors none.1.1.0).every key v there in
    let still : is_on (delete addr_cmp addr (addrs_at m intf)) key.ip ≡ true = not-false _ (rw (equal_test key.intf intf same) at test) in
    (subst (λ (o : Option IntfRec). is_on (delete addr_cmp addr (addrs_of o)) key.ip ≡ true) (ap (λ (q : ℕ). at nat_cmp q m.intfs) (sym same) ∙ at_it) still, on.1))
    has)
