-- Routes by key, and subnets by VRF, prefix and interface.
use Rattle.std.specs.Prelude.{◌≡◌, ◌↔◌, ℕ, true, All, List}
use Rattle.std.specs.List.{Contains}
use Rattle.std.specs.List.Sorted.{IsStrictlySortedBy}
use Rattle.std.specs.Ordering.{nat_cmp}
use Rattle.std.specs.declared.cmp.Ordering.{Ordering}
use Rattle.net_types.specs.declared.client.Client.{Client}
use Rattle.net_types.specs.declared.table.RouteKey.{RouteKey}
use Rattle.net_types.specs.Range.{IsIntf}
use Rattle.switch_model.specs.declared.record.IntfRec.{IntfRec}
use Rattle.switch_model.specs.declared.key.RibKey.{RibKey}
use Rattle.switch_model.specs.declared.record.RouteRec.{RouteRec}
use Rattle.switch_model.specs.PlainState.{Rib}
use Rattle.switch_model.specs.StateKeys.{client_cmp}
use Rattle.switch_model.specs.BestRoute.{has_subnet_in}
use Rattle.node_map.specs.TreeNode.{Entries}
use Rattle.state_keys.specs.PartKeys.{intf_of, rib_of, IsIntfNumber, IsRibNumber}
use Rattle.state_scan.specs.Listed.{listed}
use Rattle.subnet_index.specs.SubnetKey.{subnet_cmp}
use Rattle.subnet_index.specs.SubnetList.{subnets_in}
use Rattle.subnet_index.specs.declared.key.Subnet.{Subnet}

-- the prefix of a subnet, in its VRF
abbrev pub key_of_subnet : Subnet → RouteKey
key_of_subnet k = record { vrf = k.vrf; prefix = k.prefix }

-- one of the interfaces has that number and that subnet
pub record HasSubnet (intfs : List (ℕ × IntfRec)) (key : Subnet) : Type 0 where
  pub intf : IntfRec
  pub among : Contains intfs (key.intf, intf)
  pub has : has_subnet_in key.vrf key.prefix (key.intf, intf) ≡ true

-- the subnets of the interfaces, each once, ascending
pub record AreSubnets (intfs : List (ℕ × IntfRec)) (keys : List Subnet) : Type 0 where
  pub ascend : IsStrictlySortedBy subnet_cmp keys
  pub exact : (key : Subnet) → Contains keys key ↔ HasSubnet intfs key
  pub bounded : (key : Subnet) → Contains keys key → IsIntf key.intf

-- the prefix of a route, in its VRF
abbrev pub key_of_rib : RibKey → RouteKey
key_of_rib k = record { vrf = k.vrf; prefix = k.prefix }

-- the key of that client's route to the prefix
abbrev pub with_client : Client → RouteKey → RibKey
with_client client k = record { vrf = k.vrf; prefix = k.prefix; client = client }

-- by client
abbrev pub rib_rest : RibKey → RibKey → Ordering
rib_rest a b = client_cmp a.client b.client

-- the prefix as a subnet of that interface
abbrev pub with_intf : ℕ → RouteKey → Subnet
with_intf intf k = record { vrf = k.vrf; prefix = k.prefix; intf = intf }

-- by interface
abbrev pub subnet_rest : Subnet → Subnet → Ordering
subnet_rest a b = nat_cmp a.intf b.intf

-- the interfaces and the routes that stand in maps
abbrev pub rib_over : Entries IntfRec → Entries RouteRec → Rib
rib_over intfs routes = record { intfs = listed intf_of intfs; routes = listed rib_of routes }

-- the maps' keys are numbers of interfaces and of routes, and the subnets are those of the interfaces
pub record AreTables (intfs : Entries IntfRec) (routes : Entries RouteRec) (subnets : List Subnet) : Type 0 where
  pub intf_numbers : All (λ e. IsIntfNumber e.0) intfs
  pub route_numbers : All (λ e. IsRibNumber e.0) routes
  pub subnets_are : subnets ≡ subnets_in (listed intf_of intfs)
