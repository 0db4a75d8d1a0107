use Rattle.state_counts.proofs.Parts.{counted_by_map}
use Rattle.state_counts.proofs.state.count_state.Goals as goal

pub returns : goal.returns
returns c = record {
  counts = counted_by_map c.args.state.now c.shape.ensures.state
      c.ports.ensures.map c.ports-2.ensures.map c.vlans.ensures.map c.intfs.ensures.map c.macs.ensures.map c.arps.ensures.map c.ndps.ensures.map c.routes.ensures.map c.fibs.ensures.map
      c.count_all.ensures c.count_up.ensures c.count_all-2.ensures c.count_all-3.ensures c.count_all-4.ensures c.count_both.ensures c.count_all-5.ensures c.count_all-6.ensures;
}
