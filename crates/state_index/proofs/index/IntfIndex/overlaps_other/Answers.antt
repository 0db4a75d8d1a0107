use Rattle.std.proofs.Common.{List, ap, ◌∙◌}
use Rattle.std.specs.List.{list_any}
use Rattle.subnet_index.specs.declared.key.Subnet.{Subnet}
use Rattle.subnet_index.specs.Overlapping.{overlaps_another}
use Rattle.state_index.specs.IntfIndex.{IndexView}
use Rattle.state_index.proofs.Found.{overlaps_walked}
use Rattle.state_index.proofs.index.IntfIndex.overlaps_other.Goals as goal

pub returns : goal.returns
returns c = λ intfs same. c.overlaps_other.ensures ∙ ap (λ (ss : List Subnet). list_any (overlaps_another c.args.intf c.args.vrf c.args.prefix.now) ss) (ap (λ (i : IndexView). i.subnets) (c.self.view_is ∙ same)) ∙ overlaps_walked c.args.intf c.args.vrf c.args.prefix.now intfs
