use Rattle.std.proofs.Common.{◌≡◌, List, ap, ◌∙◌}
use Rattle.std.specs.Option.{option_copied}
use Rattle.std.specs.Ordering.{nat_cmp}
use Rattle.subnet_index.specs.declared.key.Subnet.{Subnet}
use Rattle.subnet_index.specs.Index.{entry_changed}
use Rattle.subnet_index.specs.SubnetList.{subnets_in}
use Rattle.state_index.specs.declared.members.Member.{Member}
use Rattle.state_index.specs.IntfIndex.{IndexView, indexed}
use Rattle.state_index.proofs.index.IntfIndex.change.Goals as goal

pub returns : goal.returns
returns c = λ intfs asc same before.
    let seen = c.self.view_is ∙ same in
    let subnets = c.in_ok-subnets.ensures intfs asc (ap (λ (i : IndexView). i.subnets) seen) before in
    let members = c.in_ok-members.ensures intfs asc (ap (λ (i : IndexView). i.members) seen) before in
    ap (λ (s : List Subnet). record { subnets = s; members = c.in_ok-members.members }) subnets
    ∙ ap (λ (m : List Member). record { subnets = subnets_in (entry_changed nat_cmp c.args.intf (option_copied c.args.new) intfs); members = m }) members
