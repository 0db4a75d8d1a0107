-- The longest of the keys that contain an ip, and how it is found by look-ups of the last key up to a bound.
use Rattle.std.specs.Prelude.{◌≡◌, ◌≤◌, ℕ, true, Option, None, Some, List, [], ◌∷◌, if◌then◌else◌, ◌==◌, ◌&&◌, filter}
use Rattle.std.specs.List.{Contains, reduce}
use Rattle.std.specs.Ordering.{is_lt, is_le}
use Rattle.std.specs.declared.cmp.Ordering.{Ordering}
use Rattle.net_types.specs.declared.ip.Ip.{Ip}
use Rattle.net_types.specs.declared.table.RouteKey.{RouteKey}
use Rattle.net_types.specs.Address.{ip_width, agree}
use Rattle.net_types.specs.KeyOrder.{route_cmp}
use Rattle.net_types.specs.Prefix.{IsPrefix, contains, subnet_of}
use Rattle.switch_model.specs.LongestMatch.{longer}

-- the longest of the keys of the VRF that contain the ip
abbrev pub longest_key : ℕ → Ip → List RouteKey → Option RouteKey
longest_key vrf ip keys = reduce longer (filter (λ k. (k.vrf == vrf) && contains k.prefix ip) keys)

-- the key is of the VRF and contains the ip
pub record Matches (vrf : ℕ) (ip : Ip) (key : RouteKey) : Type 0 where
  pub vrf_is : key.vrf ≡ vrf
  pub inside : contains key.prefix ip ≡ true

-- each key is of a prefix
pub record ArePrefixKeys (keys : List RouteKey) : Type 0 where
  pub prefix : (key : RouteKey) → Contains keys key → IsPrefix key.prefix

-- of a key and the last one of those after it, the later one
abbrev pub later_of : {K : Type 0} → K → Option K → Option K
later_of k None = Some k
later_of k (Some x) = Some x

-- the last one of a list
abbrev pub last_of : {K : Type 0} → List K → Option K
last_of [] = None
last_of (k ∷ ks) = later_of k (last_of ks)

-- the keys before the first one that is above the bound
abbrev pub up_to : {K : Type 0} → (K → K → Ordering) → K → List K → List K
up_to cmp bound [] = []
up_to cmp bound (k ∷ ks) = if is_lt (cmp bound k) then [] else k ∷ up_to cmp bound ks

-- the last key that isn't above the bound, where they ascend
abbrev pub last_to : RouteKey → List RouteKey → Option RouteKey
last_to bound keys = last_of (up_to route_cmp bound keys)

-- the key is one of them and not above the bound, and no other such key is above it
pub record IsLastTo {K : Type 0} (cmp : K → K → Ordering) (bound : K) (keys : List K) (key : K) : Type 0 where
  pub among : Contains keys key
  pub below : is_le (cmp key bound) ≡ true
  pub last : (other : K) → Contains keys other → is_le (cmp other bound) ≡ true → is_le (cmp other key) ≡ true

-- the bound of a step: the first bits of the ip, as a prefix of that length
abbrev pub bound : ℕ → Ip → ℕ → RouteKey
bound vrf ip len = record { vrf = vrf; prefix = subnet_of (record { ip = ip; len = len }) }

-- no key that matches stands past the bound of that length
pub record AreUpTo (keys : List RouteKey) (vrf : ℕ) (ip : Ip) (len : ℕ) : Type 0 where
  pub up_to : (key : RouteKey) → Contains keys key → Matches vrf ip key → is_le (route_cmp key (bound vrf ip len)) ≡ true

-- a step of the search among keys of prefixes: no key that matches stands past its bound, and this is the last key up to it
pub record IsStep (keys : List RouteKey) (vrf : ℕ) (ip : Ip) (len : ℕ) (last : RouteKey) : Type 0 where
  pub prefixes : ArePrefixKeys keys
  pub within : len ≤ ip_width ip
  pub none_past : AreUpTo keys vrf ip len
  pub last_is : IsLastTo route_cmp (bound vrf ip len) keys last

-- the two are of one family, and len is the most of their first bits that they share
pub record IsCommon (a b : Ip) (len : ℕ) : Type 0 where
  pub family : ip_width a ≡ ip_width b
  pub within : len ≤ ip_width a
  pub shared : agree len a b ≡ true
  pub most : (n : ℕ) → n ≤ ip_width a → agree n a b ≡ true → n ≤ len
