use Rattle.std.proofs.Common.{List, ap, ◌∙◌, subst}
use Rattle.state_index.specs.declared.members.Member.{Member}
use Rattle.state_index.specs.IntfIndex.{IndexView}
use Rattle.state_index.specs.MemberKey.{IsFirstMember}
use Rattle.state_index.proofs.Found.{first_found}
use Rattle.state_index.proofs.index.IntfIndex.intf_of_vlan.Goals as goal

pub returns : goal.returns
returns c = λ intfs asc same. first_found intfs c.args.vlan c.first_of.result asc (subst (λ (ms : List Member). IsFirstMember c.args.vlan ms c.first_of.result) (ap (λ (i : IndexView). i.members) (c.self.view_is ∙ same)) c.first_of.ensures)
