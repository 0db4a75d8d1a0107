-- The indexes of interfaces as contracts see them.
use Rattle.std.specs.Prelude.{ℕ, List}
use Rattle.subnet_index.specs.declared.key.Subnet.{Subnet}
use Rattle.subnet_index.specs.SubnetList.{subnets_in}
use Rattle.switch_model.specs.declared.record.IntfRec.{IntfRec}
use Rattle.state_index.specs.declared.members.Member.{Member}
use Rattle.state_index.specs.MemberList.{members_in}

-- subnets, and interfaces by VLAN
pub record IndexView : Type 0 where
  pub subnets : List Subnet
  pub members : List Member

-- those of the interfaces
abbrev pub indexed : List (ℕ × IntfRec) → IndexView
indexed intfs = record { subnets = subnets_in intfs; members = members_in intfs }
