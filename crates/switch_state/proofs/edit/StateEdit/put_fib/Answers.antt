use Rattle.std.proofs.Common.{◌≡◌, sym, ap, ◌∙◌, subst}
use Rattle.keyed.specs.Keyed.{put}
use Rattle.net_types.specs.KeyOrder.{route_cmp}
use Rattle.node_map.specs.Change.{IsPathMade}
use Rattle.node_map.specs.Map.{MapView}
use Rattle.switch_model.specs.declared.record.FibEntry.{FibEntry}
use Rattle.switch_model.specs.contracts.record.FibEntryPartialEq.TheImpl as fib
use Rattle.state_keys.specs.KeyLaws.{fib_numbering}
use Rattle.state_keys.specs.Numbering.{number_of_key}
use Rattle.state_keys.specs.PartKeys.{fib_number, IsFibNumber, IsFib}
use Rattle.switch_state.specs.Edit.{EditView, IsForged, IsPut}
use Rattle.switch_state.specs.EditKeys.{prefix_key}
use Rattle.switch_state.specs.Plain.{fib_entries}
use Rattle.switch_state.specs.StateView.{StateView}
use Rattle.switch_state.specs.Valid.{IsPart}
use Rattle.switch_state.proofs.Changes.{list-put}
use Rattle.switch_state.proofs.Equal.{fib_exact}
use Rattle.switch_state.proofs.Following.{fibs_forged}
use Rattle.switch_state.proofs.Parts.{part_put}
use Rattle.switch_state.proofs.Storing.{is_put_of}
use Rattle.switch_state.proofs.edit.StateEdit.put_fib.Goals as goal

pub set_fibs-requires : goal.set_fibs-requires
set_fibs-requires c =
    let version : c.self.inside.forge.version ≡ c.self.inside.state.version = c.self.invariant.forge in
    let key : c.prefix_key.result ≡ fib_number (prefix_key c.args.key) = c.prefix_key.ensures.key in
    let map : c.fibs.result.now ≡ c.self.inside.state.fibs = c.fibs.ensures.map in
    let change : IsPut c.self.inside.state.version (fib_number (prefix_key c.args.key)) c.args.rec c.self.inside.state.fibs c.in_ok-fibs.fibs = is_put_of (fib.eq-value).it fib_exact version key map c.in_ok-fibs.ensures.entries c.in_ok-fibs.ensures.same c.in_ok-fibs.ensures.nodes in
    let part : IsPart IsFibNumber c.self.inside.state.version c.self.inside.state.fibs = subst (λ (m : MapView FibEntry). IsPart IsFibNumber c.self.inside.state.version m) map c.fibs.ensures.part in
    let range : IsFib (prefix_key c.args.key) = c.prefix_key.ensures.range in
    part_put part (number_of_key fib_numbering (prefix_key c.args.key) range) change

pub invariant_of-self : goal.invariant_of-self
invariant_of-self c =
    let nodes : IsPathMade c.self.inside.forge.version c.prefix_key.result c.self.inside.state.fibs.nodes c.in_ok-fibs.fibs.nodes = subst (λ (m : MapView FibEntry). IsPathMade c.self.inside.forge.version c.prefix_key.result m.nodes c.in_ok-fibs.fibs.nodes) c.fibs.ensures.map c.in_ok-fibs.ensures.nodes in
    subst (λ (s : StateView). IsForged c.self.inside.forge.version (record { base = c.self.inside.base; state = s })) (sym c.set_fibs.ensures) (fibs_forged c.self.invariant nodes)

pub returns-clause-fibs : goal.returns-clause-fibs
returns-clause-fibs c =
    let version : c.self.inside.forge.version ≡ c.self.inside.state.version = c.self.invariant.forge in
    let key : c.prefix_key.result ≡ fib_number (prefix_key c.args.key) = c.prefix_key.ensures.key in
    let map : c.fibs.result.now ≡ c.self.inside.state.fibs = c.fibs.ensures.map in
    let change : IsPut c.self.inside.state.version (fib_number (prefix_key c.args.key)) c.args.rec c.self.inside.state.fibs c.in_ok-fibs.fibs = is_put_of (fib.eq-value).it fib_exact version key map c.in_ok-fibs.ensures.entries c.in_ok-fibs.ensures.same c.in_ok-fibs.ensures.nodes in
    let part : IsPart IsFibNumber c.self.inside.state.version c.self.inside.state.fibs = subst (λ (m : MapView FibEntry). IsPart IsFibNumber c.self.inside.state.version m) map c.fibs.ensures.part in
    let range : IsFib (prefix_key c.args.key) = c.prefix_key.ensures.range in
    ap fib_entries c.set_fibs.ensures ∙ list-put fib_numbering c.self.inside.state.version (prefix_key c.args.key) c.args.rec range part change ∙ ap (λ (e : EditView). put route_cmp (prefix_key c.args.key) c.args.rec (fib_entries e.state)) c.self.view_is

pub returns-clause-map : goal.returns-clause-map
returns-clause-map c =
    let version : c.self.inside.forge.version ≡ c.self.inside.state.version = c.self.invariant.forge in
    let key : c.prefix_key.result ≡ fib_number (prefix_key c.args.key) = c.prefix_key.ensures.key in
    let map : c.fibs.result.now ≡ c.self.inside.state.fibs = c.fibs.ensures.map in
    let change : IsPut c.self.inside.state.version (fib_number (prefix_key c.args.key)) c.args.rec c.self.inside.state.fibs c.in_ok-fibs.fibs = is_put_of (fib.eq-value).it fib_exact version key map c.in_ok-fibs.ensures.entries c.in_ok-fibs.ensures.same c.in_ok-fibs.ensures.nodes in
    let seen : IsPut c.args.self.now.state.version (fib_number (prefix_key c.args.key)) c.args.rec c.args.self.now.state.fibs c.in_ok-fibs.fibs = subst (λ (e : EditView). IsPut e.state.version (fib_number (prefix_key c.args.key)) c.args.rec e.state.fibs c.in_ok-fibs.fibs) c.self.view_is change in
    subst (λ (s : StateView). IsPut c.args.self.now.state.version (fib_number (prefix_key c.args.key)) c.args.rec c.args.self.now.state.fibs s.fibs) (sym c.set_fibs.ensures) seen
