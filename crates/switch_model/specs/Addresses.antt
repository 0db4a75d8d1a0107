-- The addresses of an interface, and the subnets that they give it.
use Rattle.std.specs.Prelude.{◌||◌, not, Bool, List, map, filter}
use Rattle.std.specs.Cmp.{IsEquivalence, IsTotalOrder}
use Rattle.std.specs.Cmp.Lexicographic.{pointwise, lists_equiv}
use Rattle.std.specs.List.{list_any}
use Rattle.std.specs.Ordering.{eq_by_cmp}
use Rattle.std.specs.declared.cmp.Ordering.{Ordering}
use Rattle.std.proofs.lemmas.Cmp.{eq_by_cmp_equiv, on_total}
use Rattle.net_types.specs.declared.ip.Ip.{Ip}
use Rattle.net_types.specs.Address.{is_link_local}
use Rattle.net_types.specs.Cidr.{Cidr}
use Rattle.net_types.specs.KeyOrder.{ip_cmp, ip_order, prefix_cmp, prefix_order}
use Rattle.net_types.specs.Prefix.{contains, subnet_of}

-- an interface has one address for each ip
abbrev pub addr_cmp : Cidr → Cidr → Ordering
addr_cmp a b = ip_cmp a.ip b.ip

pub addr_total : IsTotalOrder addr_cmp
addr_total = on_total (λ (c : Cidr). c.ip) ip_order.total

-- the same address: ip and length
abbrev pub same_addr : Cidr → Cidr → Bool
same_addr = eq_by_cmp prefix_cmp

-- the same addresses, in the same order
abbrev pub same_addrs : List Cidr → List Cidr → Bool
same_addrs = pointwise same_addr

pub addrs_equivalence : IsEquivalence same_addrs
addrs_equivalence = lists_equiv (eq_by_cmp_equiv prefix_order.total)

-- a link-local address has no subnet
abbrev pub has_subnet : Cidr → Bool
has_subnet addr = not (is_link_local addr.ip)

-- the prefixes of the addresses that aren't link-local
abbrev pub subnets : List Cidr → List Cidr
subnets addrs = map subnet_of (filter has_subnet addrs)

-- an ip is on an interface where it is link-local or lies in one of its subnets
abbrev pub is_on : List Cidr → Ip → Bool
is_on addrs ip = is_link_local ip || list_any (λ subnet. contains subnet ip) (subnets addrs)
