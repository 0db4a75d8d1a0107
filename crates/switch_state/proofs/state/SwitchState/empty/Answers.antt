use Rattle.std.proofs.Common.{rules, sym, ap, ◌∙◌, subst}
use Rattle.node_map.specs.TreeNode.{Entries}
use Rattle.state_keys.specs.PartKeys.{intf_of, IsVlanNumber, IsPortNumber, IsIntfNumber, IsStationNumber, IsArpNumber, IsNdpNumber, IsRibNumber, IsFibNumber}
use Rattle.state_scan.specs.Listed.{listed}
use Rattle.state_index.specs.IntfIndex.{indexed}
use Rattle.switch_model.specs.declared.record.IntfRec.{IntfRec}
use Rattle.switch_state.proofs.Indexed.{empty_part, sound_nothing}
use Rattle.switch_state.proofs.state.SwitchState.empty.Goals as goal

pub invariant_of-result : goal.invariant_of-result
invariant_of-result c = record {
  parts = record {
    vlans = empty_part IsVlanNumber 0 c.new.result c.new.ensures.entries c.new.ensures.nodes;
    ports = empty_part IsPortNumber 0 c.new-2.result c.new-2.ensures.entries c.new-2.ensures.nodes;
    intfs = empty_part IsIntfNumber 0 c.new-3.result c.new-3.ensures.entries c.new-3.ensures.nodes;
    macs = empty_part IsStationNumber 0 c.new-4.result c.new-4.ensures.entries c.new-4.ensures.nodes;
    arps = empty_part IsArpNumber 0 c.new-5.result c.new-5.ensures.entries c.new-5.ensures.nodes;
    ndps = empty_part IsNdpNumber 0 c.new-6.result c.new-6.ensures.entries c.new-6.ensures.nodes;
    routes = empty_part IsRibNumber 0 c.new-7.result c.new-7.ensures.entries c.new-7.ensures.nodes;
    fibs = empty_part IsFibNumber 0 c.new-8.result c.new-8.ensures.entries c.new-8.ensures.nodes;
  };
  index_is = c.new-9.ensures ∙ ap (λ (es : Entries IntfRec). indexed (listed intf_of es)) (sym c.new-3.ensures.entries);
}

pub returns-clause-sound : goal.returns-clause-sound
returns-clause-sound c = sound_nothing (record { version = 0; vlans = c.new.result; ports = c.new-2.result; intfs = c.new-3.result; macs = c.new-4.result; arps = c.new-5.result; ndps = c.new-6.result; routes = c.new-7.result; fibs = c.new-8.result }) (search rules)
