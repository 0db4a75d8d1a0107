-- The forms of the rows of the chip's tables.
use Rattle.std.proofs.Common.{◌≡◌, ◌⊎◌, ℕ, Bool, List, [], ◌∷◌, None, codes, inl, inr, refl, arith}
use Rattle.std.specs.List.{AllByRecursion}
use Rattle.net_types.specs.declared.group.Member.{Member}
use Rattle.net_types.specs.declared.table.HostAct.{HostAct}
use Rattle.net_types.specs.declared.table.HostAct.TheVariants.{Forward, Trap}
use Rattle.net_types.specs.declared.table.RouteRow.{RouteRow}
use Rattle.net_types.specs.declared.table.RouteRow.TheVariants.{Host, Group, ToCpu, Discard}
use Rattle.json_form.specs.Arrays.{IsEither, either_json, either_of, pair_json, quad_json, single_json}
use Rattle.json_form.specs.Form.{Form}
use Rattle.json_form.specs.Lists.{Ascends, rows_json, rows_of}
use Rattle.serde_json.specs.Data.{Data, boolean}
use Rattle.json_form.proofs.FormLaws.{boolean_form, deeper, either_form, legally, pair_form, quad_form, quint_form, reworded, single_form, triple_form, turned, word_form}
use Rattle.json_form.proofs.ListLaws.{rows_form}
use Rattle.saved_rows.specs.Values.{IsMacText, IsPort, IsSlot, mac_json, number_json, word_json}
use Rattle.saved_rows.specs.ChipRows.{Acts, IsAct, IsGroup, IsHost, IsL2, IsMember, IsRoute, IsTarget, Targets, act_json, act_of, act_row, alone, behind_word, group_json, group_of, host_json, host_of, host_row, in_any_order, l2_json, l2_of, l2_row, member_json, member_of, member_row, route_json, route_of, route_row, target_json, target_of, target_row}
use Rattle.saved_rows.proofs.ValueForms.{intf_number_form, ip_form, mac_form, port_number_form, prefix_form, slot_form, vlan_number_form, vrf_form}

pub l2_form : Form 1 l2_of l2_json IsL2
l2_form = turned (quad_form vlan_number_form mac_form port_number_form boolean_form) l2_row (λ e. (e.0.vlan, e.0.mac, e.1.port, e.1.up)) (λ x. refl) (λ y. refl)

-- ---- hosts

abbrev sides : HostAct → Acts
sides (Forward mac port up) = inl (tt, mac, port, up)
sides Trap = inr tt

there : (x : Acts) → sides (act_row x) ≡ x
there (inl p) = refl
there (inr p) = refl

back : (act : HostAct) → act_row (sides act) ≡ act
back (Forward mac port up) = refl
back Trap = refl

said : (act : HostAct) → either_json (quad_json (word_json (codes "forward")) mac_json number_json boolean) (single_json (word_json (codes "trap"))) (sides act) ≡ act_json act
said (Forward mac port up) = refl
said Trap = refl

abbrev IsForward : Unit {0} × ℕ × ℕ × Bool → Type 0
IsForward p = Unit {0} × IsMacText p.1 × IsPort p.2 × Unit {0}

act_there : (act : HostAct) → IsEither IsForward (λ _. Unit {0}) (sides act) → IsAct act
act_there (Forward mac port up) h = h
act_there Trap h = h

act_back : (act : HostAct) → IsAct act → IsEither IsForward (λ _. Unit {0}) (sides act)
act_back (Forward mac port up) h = h
act_back Trap h = h

pub act_form : Form 1 act_of act_json IsAct
act_form = legally (reworded (turned (either_form (quad_form (word_form (codes "forward")) mac_form port_number_form boolean_form) (single_form (word_form (codes "trap"))) (λ y legal. refl)) act_row sides there back) act_json said) IsAct act_there act_back

pub host_form : Form 2 host_of host_json IsHost
host_form = turned (quint_form (deeper slot_form 1 (omega arith)) (deeper ip_form 1 (omega arith)) (deeper intf_number_form 1 (omega arith)) (deeper vrf_form 1 (omega arith)) act_form) host_row (λ e. (e.0, e.1.ip, e.1.intf, e.2.vrf, e.2.act)) (λ x. refl) (λ y. refl)

-- ---- groups

pub member_form : Form 1 member_of member_json IsMember
member_form = turned (pair_form slot_form boolean_form) member_row (λ m. (m.host, m.live)) (λ x. refl) (λ y. refl)

-- any members ascend in no order
all_ascend : (members : List Member) → Ascends in_any_order members
all_ascend [] = tt
all_ascend (m ∷ []) = tt
all_ascend (m ∷ n ∷ more) = (refl, all_ascend (n ∷ more))

members_form : Form 2 (rows_of member_of in_any_order) (rows_json member_json) (λ members. AllByRecursion IsMember members)
members_form = legally (rows_form member_form in_any_order) (λ members. AllByRecursion IsMember members) (λ members h. h.1) (λ members h. (all_ascend members, h))

pub group_form : Form 3 group_of group_json IsGroup
group_form = pair_form (deeper slot_form 2 (omega arith)) members_form

-- ---- routes

abbrev target_sides : RouteRow → Targets
target_sides (Host slot) = inl (tt, slot)
target_sides (Group slot) = inr (inl (tt, slot))
target_sides ToCpu = inr (inr (inl tt))
target_sides Discard = inr (inr (inr tt))

target_there : (x : Targets) → target_sides (target_row x) ≡ x
target_there (inl p) = refl
target_there (inr (inl p)) = refl
target_there (inr (inr (inl p))) = refl
target_there (inr (inr (inr p))) = refl

target_back : (target : RouteRow) → target_row (target_sides target) ≡ target
target_back (Host slot) = refl
target_back (Group slot) = refl
target_back ToCpu = refl
target_back Discard = refl

abbrev slot_json : List ℕ → Unit {0} × ℕ → Data
slot_json word = pair_json (word_json word) number_json

abbrev alone_json : List ℕ → Unit {0} → Data
alone_json word = single_json (word_json word)

abbrev words_json : Unit {0} ⊎ Unit {0} → Data
words_json = either_json (alone_json (codes "cpu")) (alone_json (codes "drop"))

abbrev later_json : (Unit {0} × ℕ) ⊎ (Unit {0} ⊎ Unit {0}) → Data
later_json = either_json (slot_json (codes "group")) words_json

target_said : (target : RouteRow) → either_json (slot_json (codes "host")) later_json (target_sides target) ≡ target_json target
target_said (Host slot) = refl
target_said (Group slot) = refl
target_said ToCpu = refl
target_said Discard = refl

abbrev IsBehind : Unit {0} × ℕ → Type 0
IsBehind p = Unit {0} × IsSlot p.1

abbrev AreWords : Unit {0} ⊎ Unit {0} → Type 0
AreWords = IsEither (λ _. Unit {0}) (λ _. Unit {0})

abbrev AreLater : (Unit {0} × ℕ) ⊎ (Unit {0} ⊎ Unit {0}) → Type 0
AreLater = IsEither IsBehind AreWords

legal_there : (target : RouteRow) → IsEither IsBehind AreLater (target_sides target) → IsTarget target
legal_there (Host slot) h = h
legal_there (Group slot) h = h
legal_there ToCpu h = h
legal_there Discard h = h

legal_back : (target : RouteRow) → IsTarget target → IsEither IsBehind AreLater (target_sides target)
legal_back (Host slot) h = h
legal_back (Group slot) h = h
legal_back ToCpu h = h
legal_back Discard h = h

words_form : Form 1 (either_of (alone (codes "cpu")) (alone (codes "drop"))) words_json AreWords
words_form = either_form (single_form (word_form (codes "cpu"))) (single_form (word_form (codes "drop"))) (λ y legal. refl)

no_group : (y : Unit {0} ⊎ Unit {0}) → AreWords y → behind_word (codes "group") (words_json y) ≡ None
no_group (inl y) legal = refl
no_group (inr y) legal = refl

later_form : Form 1 (either_of (behind_word (codes "group")) (either_of (alone (codes "cpu")) (alone (codes "drop")))) later_json AreLater
later_form = either_form (pair_form (word_form (codes "group")) slot_form) words_form no_group

no_host : (y : (Unit {0} × ℕ) ⊎ (Unit {0} ⊎ Unit {0})) → AreLater y → behind_word (codes "host") (later_json y) ≡ None
no_host (inl y) legal = refl
no_host (inr (inl y)) legal = refl
no_host (inr (inr y)) legal = refl

pub target_form : Form 1 target_of target_json IsTarget
target_form = legally (reworded (turned (either_form (pair_form (word_form (codes "host")) slot_form) later_form no_host) target_row target_sides target_there target_back) target_json target_said) IsTarget legal_there legal_back

pub route_form : Form 2 route_of route_json IsRoute
route_form = turned (triple_form (deeper vrf_form 1 (omega arith)) (deeper prefix_form 1 (omega arith)) target_form) route_row (λ e. (e.0.vrf, e.0.prefix, e.1)) (λ x. refl) (λ y. refl)
