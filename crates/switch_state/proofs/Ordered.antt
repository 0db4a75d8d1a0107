-- The parts of a state ascend by key.
use Rattle.state_keys.specs.KeyLaws.{intf_numbering, port_numbering, rib_numbering, station_numbering, vlan_numbering}
use Rattle.state_scan.proofs.Joining.{ascends-together}
use Rattle.state_scan.proofs.Listing.{ascends-listed}
use Rattle.state_scan.proofs.Neighbors.{arp_list, ndp_list, ndps_ascend}
use Rattle.switch_model.specs.PlainState.{ArePartsInOrder}
use Rattle.switch_model.specs.StateKeys.{neighbor_cmp, neighbor_order}
use Rattle.switch_state.specs.Plain.{plain}
use Rattle.switch_state.specs.StateView.{StateView}
use Rattle.switch_state.specs.Valid.{IsState}

pub parts_in_order : (s : StateView) → IsState s → ArePartsInOrder (plain s)
parts_in_order s is = record {
  vlans = ascends-listed vlan_numbering s.vlans.entries is.vlans.numbers is.vlans.ascends;
  ports = ascends-listed port_numbering s.ports.entries is.ports.numbers is.ports.ascends;
  intfs = ascends-listed intf_numbering s.intfs.entries is.intfs.numbers is.intfs.ascends;
  macs = ascends-listed station_numbering s.macs.entries is.macs.numbers is.macs.ascends;
  neighbors = ascends-together neighbor_cmp neighbor_order (arp_list s.arps) (ndp_list s.ndps) (ndps_ascend s.ndps is.ndps.numbers is.ndps.ascends);
  routes = ascends-listed rib_numbering s.routes.entries is.routes.numbers is.routes.ascends;
}
