-- Rules on the hops of a route, as they are given.
use Rattle.std.specs.Prelude.{◌==◌, ◌||◌, not, nat_lt, Bool, false, List, [], ◌∷◌, length, map}
use Rattle.std.specs.List.{list_any}
use Rattle.std.specs.Ordering.{eq_by_cmp}
use Rattle.std.specs.declared.cmp.Ordering.{Ordering}
use Rattle.net_types.specs.declared.hop.Hop.{Hop}
use Rattle.net_types.specs.Address.{ip_width}
use Rattle.net_types.specs.Cidr.{Cidr}
use Rattle.net_types.specs.KeyOrder.{hop_cmp, prefix_cmp}
use Rattle.switch_model.specs.declared.via.Via.{Via}
use Rattle.switch_model.specs.declared.via.Via.TheVariants.{Hops}

-- the hops as given, none for the CPU or drop
abbrev pub hops_of : Via → List Hop
hops_of (Hops hops) = hops
hops_of _ = []

-- a hop is of another family than the prefix
abbrev pub is_mixed : Cidr → Via → Bool
is_mixed prefix via = list_any (λ hop. not (ip_width hop.ip == ip_width prefix.ip)) (hops_of via)

-- hops were to be given, and there is none
abbrev pub lacks_hops : Via → Bool
lacks_hops (Hops hops) = length hops == 0
lacks_hops _ = false

-- more than 32 hops are given
abbrev pub has_too_many : Via → Bool
has_too_many via = nat_lt 32 (length (hops_of via))

-- an item stands twice in the list
abbrev pub has_double : {K : Type 0} → (K → K → Ordering) → List K → Bool
has_double cmp [] = false
has_double cmp (k ∷ ks) = list_any (eq_by_cmp cmp k) ks || has_double cmp ks

-- a hop stands twice, its interface included
abbrev pub has_double_hop : Via → Bool
has_double_hop via = has_double hop_cmp (hops_of via)

-- a prefix stands twice in the list of routes
abbrev pub has_double_prefix : List (Cidr × Via) → Bool
has_double_prefix routes = has_double prefix_cmp (map (λ r. r.0) routes)
