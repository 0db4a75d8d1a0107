-- Neighbours by ARP and by NDP as one part.
use Rattle.std.proofs.Common.{◌≡◌, Bool, ◌||◌, List, Option, None, Some, refl, ap, ◌∙◌, arith}
use Rattle.std.specs.List.{All, list_any}
use Rattle.std.specs.Option.{option_or}
use Rattle.std.specs.Ordering.{nat_cmp}
use Rattle.std.proofs.lemmas.List.Elements.{All-weaker}
use Rattle.keyed.specs.Keyed.{at, Ascends}
use Rattle.node_map.specs.Map.{MapView}
use Rattle.switch_model.specs.declared.key.NeighborKey.{NeighborKey}
use Rattle.switch_model.specs.declared.record.NeighborRec.{NeighborRec}
use Rattle.switch_model.specs.StateKeys.{neighbor_cmp, neighbor_order}
use Rattle.state_keys.specs.KeyLaws.{arp_numbering, ndp_numbering}
use Rattle.state_keys.specs.PartKeys.{family, arp_of, ndp_of, IsArp, IsNdp, IsArpNumber, IsNdpNumber}
use Rattle.state_scan.specs.Listed.{listed}
use Rattle.state_scan.specs.Neighbors.{neighbors}
use Rattle.state_scan.specs.Together.{together}
use Rattle.state_scan.specs.Neighbors.{AreNeighbors}
use Rattle.state_scan.proofs.Joining.{absent, any-together, at-together}
use Rattle.state_scan.proofs.Listing.{all-listed, ascends-listed}

-- the entries of each kind
abbrev pub arp_list : MapView NeighborRec → List (NeighborKey × NeighborRec)
arp_list m = listed arp_of m.entries

abbrev pub ndp_list : MapView NeighborRec → List (NeighborKey × NeighborRec)
ndp_list m = listed ndp_of m.entries

pub arps_ascend : (m : MapView NeighborRec) → All (λ e. IsArpNumber e.0) m.entries → Ascends nat_cmp m.entries → Ascends neighbor_cmp (arp_list m)
arps_ascend m numbers ascends = ascends-listed arp_numbering m.entries numbers ascends

pub ndps_ascend : (m : MapView NeighborRec) → All (λ e. IsNdpNumber e.0) m.entries → Ascends nat_cmp m.entries → Ascends neighbor_cmp (ndp_list m)
ndps_ascend m numbers ascends = ascends-listed ndp_numbering m.entries numbers ascends

pub no_ndp : (k : NeighborKey) (m : MapView NeighborRec) → family k.ip ≡ 0 → All (λ e. IsNdpNumber e.0) m.entries → at neighbor_cmp k (ndp_list m) ≡ None
no_ndp k m is numbers = absent neighbor_cmp neighbor_order IsNdp k (ndp_list m) (λ ndp. let one = ndp.family in omega arith) (all-listed ndp_numbering m.entries numbers)

pub no_arp : (k : NeighborKey) (m : MapView NeighborRec) → family k.ip ≡ 1 → All (λ e. IsArpNumber e.0) m.entries → at neighbor_cmp k (arp_list m) ≡ None
no_arp k m is numbers = absent neighbor_cmp neighbor_order IsArp k (arp_list m) (λ arp. let zero = arp.family in omega arith) (all-listed arp_numbering m.entries numbers)

-- no key is of both kinds
apart : (arps ndps : MapView NeighborRec) → AreNeighbors arps ndps → All (λ e. at neighbor_cmp e.0 (ndp_list ndps) ≡ None) (arp_list arps)
apart arps ndps are = All-weaker (λ (e : NeighborKey × NeighborRec). IsArp e.0) (λ (e : NeighborKey × NeighborRec). at neighbor_cmp e.0 (ndp_list ndps) ≡ None) (λ e is. no_ndp e.0 ndps is.family are.by_ndp) (arp_list arps) (all-listed arp_numbering arps.entries are.by_arp)

pub any_neighbor : (p : NeighborKey × NeighborRec → Bool) (arps ndps : MapView NeighborRec) → AreNeighbors arps ndps → list_any p (together neighbor_cmp (arp_list arps) (ndp_list ndps)) ≡ (list_any p (arp_list arps) || list_any p (ndp_list ndps))
any_neighbor p arps ndps are = any-together neighbor_cmp neighbor_order p (arp_list arps) (ndp_list ndps) (arps_ascend arps are.by_arp are.ascends) (apart arps ndps are)

-- a look-up of an ip finds what the map of its family has
or_none : (o : Option NeighborRec) → option_or o None ≡ o
or_none None = refl
or_none (Some v) = refl

pub arp_found : (k : NeighborKey) (arps ndps : MapView NeighborRec) → family k.ip ≡ 0 → AreNeighbors arps ndps → at neighbor_cmp k (together neighbor_cmp (arp_list arps) (ndp_list ndps)) ≡ at neighbor_cmp k (arp_list arps)
arp_found k arps ndps is are =
    at-together neighbor_cmp neighbor_order k (arp_list arps) (ndp_list ndps) (arps_ascend arps are.by_arp are.ascends)
    ∙ ap (λ (o : Option NeighborRec). option_or (at neighbor_cmp k (arp_list arps)) o) (no_ndp k ndps is are.by_ndp)
    ∙ or_none (at neighbor_cmp k (arp_list arps))

pub ndp_found : (k : NeighborKey) (arps ndps : MapView NeighborRec) → family k.ip ≡ 1 → AreNeighbors arps ndps → at neighbor_cmp k (together neighbor_cmp (arp_list arps) (ndp_list ndps)) ≡ at neighbor_cmp k (ndp_list ndps)
ndp_found k arps ndps is are =
    at-together neighbor_cmp neighbor_order k (arp_list arps) (ndp_list ndps) (arps_ascend arps are.by_arp are.ascends)
    ∙ ap (λ (o : Option NeighborRec). option_or o (at neighbor_cmp k (ndp_list ndps))) (no_arp k arps is are.by_arp)

pub neighbors_as : {seen seen2 arps ndps : MapView NeighborRec} → seen ≡ arps → seen2 ≡ ndps → neighbors seen seen2 ≡ neighbors arps ndps
neighbors_as {seen} {seen2} {arps} {ndps} first second = ap (λ (m : MapView NeighborRec). neighbors m seen2) first ∙ ap (λ (m : MapView NeighborRec). neighbors arps m) second
