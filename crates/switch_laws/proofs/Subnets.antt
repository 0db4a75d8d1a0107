-- Addresses of an interface: what is kept where one comes or goes, and what their subnets overlap.
use Rattle.std.proofs.Common.{◌≡◌, ◌≢◌, Bool, true, false, List, refl, sym, ap, ◌∙◌, inl, inr, ◌&&◌, ℕ, Some}
use Rattle.std.specs.List.{list_any, Contains, filter}
use Rattle.std.specs.Ordering.{eq_by_cmp, ordering_reverse}
use Rattle.std.specs.declared.cmp.Ordering.TheVariants.{Equal}
use Rattle.std.proofs.lemmas.Bool.{or_cases, or_right, true≢false, false_from_ne_true}
use Rattle.keyed.specs.Members.{contains_map, map_contains, contains_filter, filter_contains}
use Rattle.keyed.specs.ListLaws.{any_false, false_any, any_true, true_any}
use Rattle.net_types.specs.declared.ip.Ip.{Ip}
use Rattle.net_types.specs.Address.{is_link_local}
use Rattle.net_types.specs.Cidr.{Cidr}
use Rattle.net_types.specs.KeyOrder.{ip_cmp}
use Rattle.net_types.proofs.Overlaps.{overlaps-sym}
use Rattle.net_types.specs.Prefix.{contains, overlaps, subnet_of}
use Rattle.switch_model.specs.Addresses.{addr_cmp, addr_total, has_subnet, subnets, is_on}
use Rattle.switch_model.specs.Facts.{has_ip, is_other, overlaps_other}
use Rattle.switch_model.specs.declared.record.IntfRec.{IntfRec}
use Rattle.switch_model.specs.FactsLaws.{overlaps_other_by_each}
use Rattle.switch_model.specs.PlainState.{PlainState, intf_at}

-- an ip that no address has
pub free_ip : (addrs : List Cidr) (addr : Cidr) → has_ip addrs addr ≡ false → (x : Cidr) → Contains addrs x → addr_cmp addr x ≢ Equal
free_ip addrs addr free x has tied =
    let turned : addr_cmp x addr ≡ Equal = addr_total.antisymm x addr ∙ ap ordering_reverse tied in
    let test : eq_by_cmp ip_cmp x.ip addr.ip ≡ true = rw turned refl in
    true≢false (sym test ∙ any_false (λ (a : Cidr). eq_by_cmp ip_cmp a.ip addr.ip) addrs free x has)

-- the subnets of addresses, one by one
pub subnet_false : (p : Cidr → Bool) (addrs : List Cidr) → list_any p (subnets addrs) ≡ false → (x : Cidr) → Contains addrs x → has_subnet x ≡ true → p (subnet_of x) ≡ false
subnet_false p addrs h x has one = any_false p (subnets addrs) h (subnet_of x) (map_contains subnet_of (filter has_subnet addrs) x (filter_contains has_subnet addrs x has one))

pub false_subnet : (p : Cidr → Bool) (addrs : List Cidr) → ((x : Cidr) → Contains addrs x → has_subnet x ≡ true → p (subnet_of x) ≡ false) → list_any p (subnets addrs) ≡ false
false_subnet p addrs h = false_any p (subnets addrs) (λ s has.
    let of_addr = contains_map subnet_of (filter has_subnet addrs) s has in
    let passes = contains_filter has_subnet addrs of_addr.0 of_addr.1 in
    ap p (sym of_addr.2) ∙ h of_addr.0 passes.0 passes.1)

-- an ip stays on an interface whose addresses stay
pub is_on-more : (few many : List Cidr) (ip : Ip) → ((x : Cidr) → Contains few x → Contains many x) → is_on few ip ≡ true → is_on many ip ≡ true
is_on-more few many ip stay on = elim (or_cases (is_link_local ip) (list_any (λ subnet. contains subnet ip) (subnets few)) on) [
  | inl local ↦ rw local refl
  | inr some ↦
      let subnet = any_true (λ subnet. contains subnet ip) (subnets few) some in
      let of_addr = contains_map subnet_of (filter has_subnet few) subnet.0 subnet.1 in
      let passes = contains_filter has_subnet few of_addr.0 of_addr.1 in
      let there = map_contains subnet_of (filter has_subnet many) of_addr.0 (filter_contains has_subnet many of_addr.0 (stay of_addr.0 passes.0) passes.1) in
      let covers : contains (subnet_of of_addr.0) ip ≡ true = ap (λ (s : Cidr). contains s ip) of_addr.2 ∙ subnet.2 in
      let any : list_any (λ subnet. contains subnet ip) (subnets many) ≡ true = true_any (λ subnet. contains subnet ip) (subnets many) (subnet_of of_addr.0) there covers in
      or_right (is_link_local ip) (list_any (λ subnet. contains subnet ip) (subnets many)) any
]

-- prefixes that lie apart do so both ways
pub apart-turned : (p q : Cidr) → overlaps p q ≡ false → overlaps q p ≡ false
apart-turned p q h = false_from_ne_true (overlaps q p) (λ touch. true≢false (sym (overlaps-sym q p touch) ∙ h))

-- the interface is another one of that VRF, and has a subnet that overlaps the prefix
abbrev pub overlaps_as : ℕ → ℕ → Cidr → ℕ × IntfRec → Bool
overlaps_as intf vrf prefix e = is_other intf vrf e && list_any (overlaps prefix) (subnets e.1.addrs)

pub overlaps-each : (m : PlainState) (intf : ℕ) (prefix : Cidr) (own : IntfRec) → intf_at m intf ≡ Some own → overlaps_other m intf prefix ≡ list_any (overlaps_as intf own.vrf prefix) m.intfs
overlaps-each m intf prefix own is = overlaps_other_by_each m intf prefix own is
