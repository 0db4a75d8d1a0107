use Rattle.std.proofs.Common.{ℕ, List, Option, None, sym, subst}
use Rattle.std.proofs.lemmas.List.Elements.{All-contains}
use Rattle.state_index.specs.declared.members.Member.{Member}
use Rattle.state_index.specs.MemberKey.{IsFirstMember, IsMemberNumber, member_in}
use Rattle.state_index.proofs.Firsts.{first_none, first_some}
use Rattle.state_index.proofs.members.Members.first_of.Goals as goal

pub member_in-requires : goal.member_in-requires
member_in-requires c = (All-contains IsMemberNumber c.self.inside.keys c.in-Some.key.now c.self.invariant c.in-Some.ensures.least.0).key.intf

pub returns-in-Some : goal.returns-in-Some
returns-in-Some c =
    let first = first_some c.args.vlan c.vlan_key.result c.in-Some.key.now c.self.inside.keys c.vlan_key.ensures.key (λ k has. All-contains IsMemberNumber c.self.inside.keys k c.self.invariant has) c.in-Some.ensures.least in
    let seen = subst (λ (ms : List Member). IsFirstMember c.args.vlan ms (member_in c.args.vlan c.in-Some.key.now)) c.self.view_is first in
    subst (λ (o : Option ℕ). IsFirstMember c.args.vlan c.args.self.now o) (sym c.member_in.ensures) seen

pub returns-in-None : goal.returns-in-None
returns-in-None c = subst (λ (ms : List Member). IsFirstMember c.args.vlan ms None) c.self.view_is (first_none c.args.vlan c.vlan_key.result c.self.inside.keys c.vlan_key.ensures.key (λ k has. All-contains IsMemberNumber c.self.inside.keys k c.self.invariant has) c.in-None.ensures.least)
