use Rattle.std.proofs.Common.{◌≤◌, sym, ap, ◌∙◌, subst}
use Rattle.node_map.specs.Map.{MapView}
use Rattle.state_keys.specs.PartKeys.{intf_of}
use Rattle.state_scan.specs.Listed.{listed}
use Rattle.state_index.specs.IntfIndex.{indexed}
use Rattle.switch_model.specs.declared.record.IntfRec.{IntfRec}
use Rattle.switch_state.specs.StateView.{StateView}
use Rattle.switch_state.proofs.Parts.{part_at}
use Rattle.switch_state.proofs.state.SwitchState.share_at.Goals as goal

pub invariant_of-result : goal.invariant_of-result
invariant_of-result c =
    let parts = c.self.invariant.parts in
    let later : c.self.inside.version ≤ c.args.version = subst (λ (s : StateView). s.version ≤ c.args.version) (sym c.self.view_is) c.requires in
    record {
      parts = record {
        vlans = part_at later c.in_ok-share.ensures parts.vlans;
        ports = part_at later c.in_ok-share-2.ensures parts.ports;
        intfs = part_at later c.in_ok-share-3.ensures parts.intfs;
        macs = part_at later c.in_ok-share-4.ensures parts.macs;
        arps = part_at later c.in_ok-share-5.ensures parts.arps;
        ndps = part_at later c.in_ok-share-6.ensures parts.ndps;
        routes = part_at later c.in_ok-share-7.ensures parts.routes;
        fibs = part_at later c.in_ok-share-8.ensures parts.fibs;
      };
      index_is = c.in_ok-share-9.ensures ∙ c.self.invariant.index_is ∙ ap (λ (m : MapView IntfRec). indexed (listed intf_of m.entries)) (sym c.in_ok-share-3.ensures);
    }
