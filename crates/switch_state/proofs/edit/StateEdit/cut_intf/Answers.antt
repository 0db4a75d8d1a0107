use Rattle.std.proofs.Common.{◌≡◌, ℕ, List, sym, ap, ◌∙◌, subst}
use Rattle.std.specs.Option.{option_copied}
use Rattle.std.specs.Ordering.{nat_cmp}
use Rattle.keyed.specs.Keyed.{at, without}
use Rattle.net_types.specs.Range.{IsIntf}
use Rattle.node_map.specs.Change.{IsPathMade}
use Rattle.node_map.specs.Map.{MapView}
use Rattle.switch_model.specs.declared.record.IntfRec.{IntfRec}
use Rattle.state_keys.specs.KeyLaws.{intf_numbering}
use Rattle.state_keys.specs.PartKeys.{intf_number, intf_of, IsIntfNumber}
use Rattle.state_scan.specs.Listed.{listed}
use Rattle.state_index.specs.IntfIndex.{indexed}
use Rattle.switch_state.proofs.Indexed.{intf_found, intfs_ascend}
use Rattle.switch_state.specs.Edit.{EditView, IsCut, IsForged}
use Rattle.switch_state.specs.Plain.{plain}
use Rattle.switch_state.specs.StateView.{StateView}
use Rattle.switch_state.specs.Valid.{IsPart}
use Rattle.switch_state.proofs.Changes.{list-cut}
use Rattle.switch_state.proofs.Following.{intfs_forged}
use Rattle.switch_state.proofs.Parts.{part_cut}
use Rattle.switch_state.proofs.Storing.{absent_same, is_cut_of}
use Rattle.switch_state.proofs.edit.StateEdit.cut_intf.Goals as goal

pub set_intfs-requires : goal.set_intfs-requires
set_intfs-requires c =
    let version : c.self.inside.forge.version ≡ c.self.inside.state.version = c.self.invariant.forge in
    let key : c.intf_key-2.result ≡ intf_number c.args.key = c.intf_key-2.ensures.key in
    let map : c.intfs-2.result.now ≡ c.self.inside.state.intfs = c.intfs-2.ensures.map in
    let change : IsCut c.self.inside.state.version (intf_number c.args.key) c.self.inside.state.intfs c.in_ok-intfs.intfs = is_cut_of version key map c.in_ok-intfs.ensures.entries c.in_ok-intfs.ensures.nodes (absent_same (at nat_cmp c.intf_key-2.result c.intfs-2.result.now.entries) c.intfs-2.result.now c.in_ok-intfs.intfs c.in_ok-intfs.ensures.absent) in
    let part : IsPart IsIntfNumber c.self.inside.state.version c.self.inside.state.intfs = subst (λ (m : MapView IntfRec). IsPart IsIntfNumber c.self.inside.state.version m) map c.intfs-2.ensures.part in
    let range : IsIntf c.args.key = c.intf_key.ensures.range in
    record {
      part = part_cut part change;
      index = c.in_ok-index.ensures (listed intf_of c.self.inside.state.intfs.entries) (intfs_ascend part) c.index.ensures (intf_found c.args.key c.intf_key.result (option_copied c.record_under-old.result) part c.intf_key.ensures.range c.intf_key.ensures.key c.intfs.ensures.map c.record_under-old.ensures) ∙ ap indexed (sym (list-cut intf_numbering c.self.inside.state.version c.args.key range part change));
    }

pub invariant_of-self : goal.invariant_of-self
invariant_of-self c =
    let nodes : IsPathMade c.self.inside.forge.version c.intf_key-2.result c.self.inside.state.intfs.nodes c.in_ok-intfs.intfs.nodes = subst (λ (m : MapView IntfRec). IsPathMade c.self.inside.forge.version c.intf_key-2.result m.nodes c.in_ok-intfs.intfs.nodes) c.intfs-2.ensures.map c.in_ok-intfs.ensures.nodes in
    subst (λ (s : StateView). IsForged c.self.inside.forge.version (record { base = c.self.inside.base; state = s })) (sym c.set_intfs.ensures) (intfs_forged c.self.invariant nodes)

pub returns-clause-plain : goal.returns-clause-plain
returns-clause-plain c =
    let version : c.self.inside.forge.version ≡ c.self.inside.state.version = c.self.invariant.forge in
    let key : c.intf_key-2.result ≡ intf_number c.args.key = c.intf_key-2.ensures.key in
    let map : c.intfs-2.result.now ≡ c.self.inside.state.intfs = c.intfs-2.ensures.map in
    let change : IsCut c.self.inside.state.version (intf_number c.args.key) c.self.inside.state.intfs c.in_ok-intfs.intfs = is_cut_of version key map c.in_ok-intfs.ensures.entries c.in_ok-intfs.ensures.nodes (absent_same (at nat_cmp c.intf_key-2.result c.intfs-2.result.now.entries) c.intfs-2.result.now c.in_ok-intfs.intfs c.in_ok-intfs.ensures.absent) in
    let part : IsPart IsIntfNumber c.self.inside.state.version c.self.inside.state.intfs = subst (λ (m : MapView IntfRec). IsPart IsIntfNumber c.self.inside.state.version m) map c.intfs-2.ensures.part in
    let range : IsIntf c.args.key = c.intf_key-2.ensures.range in
    ap plain c.set_intfs.ensures ∙ ap (λ (l : List (ℕ × IntfRec)). record (plain c.self.inside.state) { intfs = l }) (list-cut intf_numbering c.self.inside.state.version c.args.key range part change) ∙ ap (λ (e : EditView). record (plain e.state) { intfs = without nat_cmp c.args.key (plain e.state).intfs }) c.self.view_is

pub returns-clause-map : goal.returns-clause-map
returns-clause-map c =
    let version : c.self.inside.forge.version ≡ c.self.inside.state.version = c.self.invariant.forge in
    let key : c.intf_key-2.result ≡ intf_number c.args.key = c.intf_key-2.ensures.key in
    let map : c.intfs-2.result.now ≡ c.self.inside.state.intfs = c.intfs-2.ensures.map in
    let change : IsCut c.self.inside.state.version (intf_number c.args.key) c.self.inside.state.intfs c.in_ok-intfs.intfs = is_cut_of version key map c.in_ok-intfs.ensures.entries c.in_ok-intfs.ensures.nodes (absent_same (at nat_cmp c.intf_key-2.result c.intfs-2.result.now.entries) c.intfs-2.result.now c.in_ok-intfs.intfs c.in_ok-intfs.ensures.absent) in
    let seen : IsCut c.args.self.now.state.version (intf_number c.args.key) c.args.self.now.state.intfs c.in_ok-intfs.intfs = subst (λ (e : EditView). IsCut e.state.version (intf_number c.args.key) e.state.intfs c.in_ok-intfs.intfs) c.self.view_is change in
    subst (λ (s : StateView). IsCut c.args.self.now.state.version (intf_number c.args.key) c.args.self.now.state.intfs s.intfs) (sym c.set_intfs.ensures) seen
