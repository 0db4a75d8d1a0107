-- Interfaces by VLAN, and what a change of one interface does to them.
use Rattle.std.specs.Prelude.{ℕ, ◌==◌, Bool, false, List, [], ◌∷◌, Option, None, Some, if◌then◌else◌}
use Rattle.keyed.specs.Sets.{delete, insert}
use Rattle.switch_model.specs.declared.record.IntfRec.{IntfRec}
use Rattle.state_index.specs.declared.members.Member.{Member}
use Rattle.state_index.specs.MemberKey.{member_cmp}
use Rattle.subnet_index.specs.Index.{index_of}

-- an interface in its VLAN
abbrev pub member_of : ℕ × IntfRec → List Member
member_of e = record { vlan = e.1.vlan; intf = e.0 } ∷ []

-- the interfaces, by VLAN and number
abbrev pub members_in : List (ℕ × IntfRec) → List Member
members_in intfs = index_of member_cmp member_of intfs

-- the record is in the VLAN
abbrev pub is_in : Option IntfRec → ℕ → Bool
is_in None vlan = false
is_in (Some rec) vlan = rec.vlan == vlan

-- the VLAN of the one record that the other one isn't in
abbrev pub lost : Option IntfRec → Option IntfRec → Option ℕ
lost None other = None
lost (Some rec) other = if is_in other rec.vlan then None else Some rec.vlan

-- without the interface in the VLAN that it has lost
abbrev pub cut_at : ℕ → Option ℕ → List Member → List Member
cut_at intf None ms = ms
cut_at intf (Some vlan) ms = delete member_cmp (record { vlan = vlan; intf = intf }) ms

-- with the interface in the VLAN that it has won
abbrev pub put_at : ℕ → Option ℕ → List Member → List Member
put_at intf None ms = ms
put_at intf (Some vlan) ms = insert member_cmp (record { vlan = vlan; intf = intf }) ms

abbrev pub cut_member : ℕ → Option IntfRec → Option IntfRec → List Member → List Member
cut_member intf old new ms = cut_at intf (lost old new) ms

abbrev pub put_member : ℕ → Option IntfRec → Option IntfRec → List Member → List Member
put_member intf old new ms = put_at intf (lost new old) ms
