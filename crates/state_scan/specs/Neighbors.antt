-- Neighbours by ARP and by NDP.
use Rattle.std.specs.Prelude.{List, All}
use Rattle.std.specs.Ordering.{nat_cmp}
use Rattle.keyed.specs.Keyed.{Ascends}
use Rattle.node_map.specs.Map.{MapView}
use Rattle.switch_model.specs.declared.key.NeighborKey.{NeighborKey}
use Rattle.switch_model.specs.declared.record.NeighborRec.{NeighborRec}
use Rattle.switch_model.specs.StateKeys.{neighbor_cmp}
use Rattle.state_keys.specs.PartKeys.{arp_of, ndp_of, IsArpNumber, IsNdpNumber}
use Rattle.state_scan.specs.Listed.{listed}
use Rattle.state_scan.specs.Together.{together}

-- neighbours by ARP and by NDP are one list, by interface and then ip
abbrev pub neighbors : MapView NeighborRec → MapView NeighborRec → List (NeighborKey × NeighborRec)
neighbors arps ndps = together neighbor_cmp (listed arp_of arps.entries) (listed ndp_of ndps.entries)

-- the keys of the maps are those of neighbours by ARP, in order, and of neighbours by NDP
pub record AreNeighbors (arps ndps : MapView NeighborRec) : Type 0 where
  pub by_arp : All (λ e. IsArpNumber e.0) arps.entries
  pub ascends : Ascends nat_cmp arps.entries
  pub by_ndp : All (λ e. IsNdpNumber e.0) ndps.entries
