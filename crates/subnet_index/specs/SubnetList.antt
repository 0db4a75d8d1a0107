-- The subnets of interfaces, and what a change of one interface does to them.
use Rattle.std.specs.Prelude.{ℕ, ◌==◌, ◌&&◌, ◌||◌, Bool, false, List, [], ◌∷◌, Option, None, Some, map, if◌then◌else◌}
use Rattle.std.specs.List.{list_any}
use Rattle.net_types.specs.Cidr.{Cidr}
use Rattle.net_types.specs.Prefix.{subnet_of}
use Rattle.switch_model.specs.declared.record.IntfRec.{IntfRec}
use Rattle.switch_model.specs.Addresses.{same_addr, subnets}
use Rattle.subnet_index.specs.declared.key.Subnet.{Subnet}
use Rattle.subnet_index.specs.Index.{index_of, with_all, without_all}
use Rattle.subnet_index.specs.SubnetKey.{subnet_cmp}

-- the subnets of an interface's addresses: none of a link-local one
abbrev pub subnets_by : ℕ → ℕ → List Cidr → List Subnet
subnets_by vrf intf addrs = map (λ p. record { vrf = vrf; prefix = p; intf = intf }) (subnets addrs)

-- the subnets of an interface
abbrev pub subnets_of : ℕ × IntfRec → List Subnet
subnets_of e = subnets_by e.1.vrf e.0 e.1.addrs

-- the subnets of the interfaces, each once, by VRF, prefix and interface
abbrev pub subnets_in : List (ℕ × IntfRec) → List Subnet
subnets_in intfs = index_of subnet_cmp subnets_of intfs

-- the record is in the VRF and has that very address
abbrev pub has_addr : Option IntfRec → ℕ → Cidr → Bool
has_addr None vrf addr = false
has_addr (Some rec) vrf addr = (rec.vrf == vrf) && list_any (same_addr addr) rec.addrs

-- the address or its subnet is among those of the addresses
abbrev pub keeps_addr : List Cidr → Cidr → Bool
keeps_addr addrs addr = list_any (same_addr addr) addrs || list_any (same_addr (subnet_of addr)) (subnets addrs)

-- the record is in the VRF and has the address's subnet
abbrev pub keeps_subnet : Option IntfRec → ℕ → Cidr → Bool
keeps_subnet None vrf addr = false
keeps_subnet (Some rec) vrf addr = (rec.vrf == vrf) && keeps_addr rec.addrs addr

-- without the subnets of the addresses that don't stay, address by address
abbrev pub cut_addrs : ℕ → ℕ → (Cidr → Bool) → List Cidr → List Subnet → List Subnet
cut_addrs vrf intf stays [] xs = xs
cut_addrs vrf intf stays (a ∷ more) xs = cut_addrs vrf intf stays more (if stays a then xs else without_all subnet_cmp (subnets_by vrf intf (a ∷ [])) xs)

-- with the subnets of the addresses that weren't there, address by address
abbrev pub add_addrs : ℕ → ℕ → (Cidr → Bool) → List Cidr → List Subnet → List Subnet
add_addrs vrf intf was [] xs = xs
add_addrs vrf intf was (a ∷ more) xs = add_addrs vrf intf was more (if was a then xs else with_all subnet_cmp (subnets_by vrf intf (a ∷ [])) xs)

-- without those subnets of the old record, where there is one, that the new one lacks
abbrev pub cut_gone : ℕ → Option IntfRec → Option IntfRec → List Subnet → List Subnet
cut_gone intf None new xs = xs
cut_gone intf (Some rec) new xs = cut_addrs rec.vrf intf (keeps_subnet new rec.vrf) rec.addrs xs

-- with the subnets of those addresses of the new record, where there is one, that the old one lacks
abbrev pub add_come : ℕ → Option IntfRec → Option IntfRec → List Subnet → List Subnet
add_come intf old None xs = xs
add_come intf old (Some rec) xs = add_addrs rec.vrf intf (has_addr old rec.vrf) rec.addrs xs
