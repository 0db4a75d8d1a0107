use Rattle.std.proofs.Common.{length}
use Rattle.switch_state.proofs.Deltas.{may_differ}
use Rattle.state_counts.proofs.CountLaws.{both_keep_up}
use Rattle.state_counts.proofs.Parts.{kept_of_maps}
use Rattle.state_counts.proofs.state.neighbors_on.Goals as goal

pub count_on-requires : goal.count_on-requires
count_on-requires c = may_differ c.args.old.now.version c.arps.ensures.map c.arps-2.ensures.map c.requires.parts.arps

pub count_on-requires-2 : goal.count_on-requires-2
count_on-requires-2 c = may_differ c.args.old.now.version c.ndps.ensures.map c.ndps-2.ensures.map c.requires.parts.ndps

pub returns : goal.returns
returns c = both_keep_up c.args.before (length c.args.old.now.arps.entries) (length c.args.new.now.arps.entries) c.in_ok-count.count (length c.args.old.now.ndps.entries) (length c.args.new.now.ndps.entries) c.in_ok-both.both
    (kept_of_maps c.args.before c.in_ok-count.count c.arps.ensures.map c.arps-2.ensures.map c.in_ok-count.ensures)
    (kept_of_maps c.in_ok-count.count c.in_ok-both.both c.ndps.ensures.map c.ndps-2.ensures.map c.in_ok-both.ensures)
