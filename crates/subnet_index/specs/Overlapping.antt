-- Which subnets overlap a prefix, and how they are found by their keys.
use Rattle.std.specs.Prelude.{◌≡◌, ℕ, ◌<◌, ◌/◌, ◌^◌, ◌==◌, ◌&&◌, not, Bool, true, false, List, nat_lt}
use Rattle.std.specs.List.{Contains}
use Rattle.net_types.specs.Cidr.{Cidr}
use Rattle.net_types.specs.Prefix.{contains, overlaps, subnet_of}
use Rattle.state_keys.specs.PartKeys.{fib_number}
use Rattle.subnet_index.specs.declared.key.Subnet.{Subnet}
use Rattle.subnet_index.specs.SubnetKey.{subnet_number}

-- another interface's subnet in the VRF that overlaps the prefix
abbrev pub overlaps_another : ℕ → ℕ → Cidr → Subnet → Bool
overlaps_another intf vrf prefix s = not (s.intf == intf) && (s.vrf == vrf) && overlaps prefix s.prefix

-- a number that is at most that of each subnet with the prefix
abbrev pub first_number : ℕ → Cidr → ℕ
first_number vrf prefix = fib_number (record { vrf = vrf; prefix = prefix })

-- another interface's subnet, not before the prefix, whose ip the prefix contains
abbrev pub is_other_within : ℕ → ℕ → Cidr → Subnet → Bool
is_other_within intf vrf prefix s = not (nat_lt (subnet_number s) (first_number vrf prefix)) && (((s.vrf == vrf) && contains prefix s.prefix.ip) && not (s.intf == intf))

-- another interface's subnet with that very prefix
abbrev pub is_other_at : ℕ → ℕ → Cidr → Subnet → Bool
is_other_at intf vrf prefix s = not (nat_lt (subnet_number s) (first_number vrf prefix)) && ((subnet_number s / 2 ^ 39 == first_number vrf prefix / 2 ^ 39) && not (s.intf == intf))

-- the prefix at another length
abbrev pub shortened : Cidr → ℕ → Cidr
shortened prefix len = subnet_of (record { ip = prefix.ip; len = len })

-- no other interface has the prefix at a length below that one
abbrev pub IsNoneBelow : ℕ → ℕ → Cidr → List Subnet → ℕ → Type 0
IsNoneBelow intf vrf prefix subnets end = (s : Subnet) → Contains subnets s → (len : ℕ) → len < end → is_other_at intf vrf (shortened prefix len) s ≡ false

-- whether another interface has the prefix at a shorter length
abbrev pub IsAroundFound : ℕ → ℕ → Cidr → List Subnet → Bool → Type 0
IsAroundFound intf vrf prefix subnets true = (s : Subnet) × Contains subnets s × ((len : ℕ) × (len < prefix.len) × (is_other_at intf vrf (shortened prefix len) s ≡ true))
IsAroundFound intf vrf prefix subnets false = IsNoneBelow intf vrf prefix subnets prefix.len
