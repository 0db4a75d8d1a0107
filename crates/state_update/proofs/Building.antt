-- Acts one by one.
use Rattle.std.proofs.Common.{◌≡◌, ◌⊎◌, ◌+◌, ◌<◌, ◌≤◌, ℕ, List, [], Option, None, Some, Result, Ok, Err, length, drop, get_or, refl, sym, ap, ◌∙◌, subst, inl, inr}
use Rattle.std.specs.Result.{IfOk}
use Rattle.keyed.specs.Members.{contains_none}
use Rattle.node_map.specs.Map.{MapView}
use Rattle.node_map.specs.Paths.{ArePathsMade}
use Rattle.node_map.specs.TreeNode.{TreeNode}
use Rattle.switch_model.specs.declared.act.Act.{Act}
use Rattle.switch_model.specs.declared.record.FibEntry.{FibEntry}
use Rattle.switch_model.specs.declared.verdict.Reason.{Reason}
use Rattle.switch_model.specs.BuiltLaws.{built_more, built_stops, built_whole}
use Rattle.switch_model.specs.Effect.{effect}
use Rattle.switch_model.specs.PlainState.{PlainState}
use Rattle.switch_model.specs.Reason.{reason_of_act}
use Rattle.switch_model.specs.Built.{built, laid, placed}
use Rattle.switch_model.specs.Touched.{Touched, touched, touched_both, untouched}
use Rattle.switch_state.specs.Edit.{EditView}
use Rattle.switch_state.specs.Paths.{PartsMade}
use Rattle.switch_state.specs.Plain.{plain}
use Rattle.switch_state.specs.StateView.{StateView, no_entries, nothing}
use Rattle.switch_state.proofs.OnPaths.{parts_after, parts_none}
use Rattle.state_update.proofs.Keeping.{new_more, none_new}
use Rattle.state_update.specs.declared.acts.BuildFault.{BuildFault}
use Rattle.state_update.specs.declared.acts.BuildFault.TheVariants.{Invalid, NoMemory}
use Rattle.state_update.specs.declared.update.Applied.{Applied}
use Rattle.state_update.specs.declared.update.Applied.TheVariants as applied
use Rattle.state_update.specs.Applied.{outcome}
use Rattle.state_update.specs.Births.{BornAt, KeepsBirths, NewBirths}
use Rattle.state_update.specs.Made.{AreBornAt, AreMadeAt, IsBornAt, IsMadeAt}

born_none : (version : ℕ) (s : StateView) → BornAt version s s
born_none version s = record { vlans = none_new version s.vlans; ports = none_new version s.ports; intfs = none_new version s.intfs; macs = none_new version s.macs; arps = none_new version s.arps; ndps = none_new version s.ndps; routes = none_new version s.routes; fibs = none_new version s.fibs }

born_after : (version : ℕ) (a b c : StateView) → BornAt version a b → KeepsBirths b c → BornAt version b c → BornAt version a c
born_after version a b c first same step = record { vlans = new_more version a.vlans b.vlans c.vlans first.vlans same.vlans step.vlans; ports = new_more version a.ports b.ports c.ports first.ports same.ports step.ports; intfs = new_more version a.intfs b.intfs c.intfs first.intfs same.intfs step.intfs; macs = new_more version a.macs b.macs c.macs first.macs same.macs step.macs; arps = new_more version a.arps b.arps c.arps first.arps same.arps step.arps; ndps = new_more version a.ndps b.ndps c.ndps first.ndps same.ndps step.ndps; routes = new_more version a.routes b.routes c.routes first.routes same.routes step.routes; fibs = new_more version a.fibs b.fibs c.fibs first.fibs same.fibs step.fibs }

-- the acts before a place are done
pub record IsBuilding (acts : List Act) (index : ℕ) (start now : EditView) : Type 0 where
  pub state : built (plain start.state) acts ≡ laid (plain now.state) (placed index (drop index acts))
  pub version : now.state.version ≡ start.state.version
  pub fibs : now.state.fibs ≡ start.state.fibs
  pub born : BornAt start.state.version start.state now.state
  pub keys : Touched
  pub paths : PartsMade start.state.version keys start.state now.state

pub build_first : (acts : List Act) (start : EditView) → IsBuilding acts 0 start start
build_first acts start = record { state = refl; version = refl; fibs = refl; born = born_none start.state.version start.state; keys = untouched; paths = parts_none start.state.version untouched start.state }

pub build_more : (acts : List Act) (index : ℕ) (start now next : EditView) (act : Act) → index < length acts → act ≡ get_or acts index act → IsBuilding acts index start now → reason_of_act (plain now.state) act ≡ None → plain next.state ≡ effect (plain now.state) act → next.state.version ≡ now.state.version → next.state.fibs ≡ now.state.fibs → PartsMade now.state.version (touched (plain now.state) act) now.state next.state → KeepsBirths now.state next.state → BornAt now.state.version now.state next.state → IsBuilding acts (index + 1) start next
build_more acts index start now next act within there is valid done version fibs paths births born = record {
  state = built_more (plain start.state) (plain now.state) acts index is.state act within there valid
      ∙ ap (λ (m : PlainState). laid m (placed (index + 1) (drop (index + 1) acts))) (sym done);
  version = version ∙ is.version;
  fibs = fibs ∙ is.fibs;
  born = born_after start.state.version start.state now.state next.state is.born births (subst (λ (v : ℕ). BornAt v now.state next.state) is.version born);
  keys = touched_both is.keys (touched (plain now.state) act);
  paths = parts_after start.state.version is.keys (touched (plain now.state) act) start.state now.state next.state is.paths (subst (λ (v : ℕ). PartsMade v (touched (plain now.state) act) now.state next.state) is.version paths);
}

-- all acts are done, or the one at the place is refused
pub build_whole : (acts : List Act) (index : ℕ) (start now : EditView) → IsBuilding acts index start now → length acts ≤ index → built (plain start.state) acts ≡ Ok (plain now.state)
build_whole acts index start now is over = built_whole (plain start.state) (plain now.state) acts index is.state over

pub build_refused : (acts : List Act) (index place : ℕ) (start now : EditView) (act : Act) (reason : Reason) → IsBuilding acts index start now → index < length acts → act ≡ get_or acts index act → (place ≡ index) × (reason_of_act (plain now.state) act ≡ Some reason) → built (plain start.state) acts ≡ Err (place, reason)
build_refused acts index place start now act reason is within there refused =
    built_stops (plain start.state) (plain now.state) acts index is.state act reason within there refused.1
    ∙ ap (λ (n : ℕ). Err (n, reason)) (sym refused.0)

pub born_stop : (acts : List Act) (index : ℕ) (start now next : EditView) → IsBuilding acts index start now → KeepsBirths now.state next.state → BornAt now.state.version now.state next.state → BornAt start.state.version start.state next.state
born_stop acts index start now next is births born = born_after start.state.version start.state now.state next.state is.born births (subst (λ (v : ℕ). BornAt v now.state next.state) is.version born)

-- what has been done, and an act that was refused for want of memory or for a reason after it
pub build_stop : (acts : List Act) (index : ℕ) (start now next : EditView) (t : Touched) → IsBuilding acts index start now → PartsMade now.state.version t now.state next.state → (u : Touched) × PartsMade start.state.version u start.state next.state
build_stop acts index start now next t is paths = (touched_both is.keys t, parts_after start.state.version is.keys t start.state now.state next.state is.paths (subst (λ (v : ℕ). PartsMade v t now.state next.state) is.version paths))

of_none : {T : Type 0} {version : ℕ} {Is : ℕ → Type 0} {new : List (TreeNode T)} → ArePathsMade version Is [] new → IsMadeAt version new
of_none {T} {version} {Is} {new} paths = record { each = λ n h. elim (paths.each n h) [ inl was ↦ absurd (contains_none n was) | inr fresh ↦ fresh.made.at ] }

no_nodes : {T : Type 0} {version : ℕ} → IsMadeAt version (no_entries {T = T}).nodes
no_nodes = record { each = λ n h. absurd (contains_none n h) }

born_new : {T : Type 0} (version : ℕ) (new : MapView T) → NewBirths version no_entries new → IsBornAt version new
born_new version new born = record { each = λ key is some. born key is refl some }

pub born_of_nothing : (version : ℕ) (edited now next : StateView) → edited ≡ record nothing { version = version } → BornAt edited.version edited now → next ≡ now → AreBornAt version next
born_of_nothing version edited now next is born same =
    let b : BornAt version (record nothing { version = version }) now = subst (λ (s : StateView). BornAt s.version s now) is born in
    subst (λ (s : StateView). AreBornAt version s) (sym same) (record { vlans = born_new version now.vlans b.vlans; ports = born_new version now.ports b.ports; intfs = born_new version now.intfs b.intfs; macs = born_new version now.macs b.macs; arps = born_new version now.arps b.arps; ndps = born_new version now.ndps b.ndps; routes = born_new version now.routes b.routes; fibs = born_new version now.fibs b.fibs })

-- all that was made from the state of nothing
pub made_of_nothing : (version : ℕ) (t : Touched) (edited now next : StateView) → edited ≡ record nothing { version = version } → PartsMade edited.version t edited now → now.fibs ≡ edited.fibs → next ≡ now → AreMadeAt version next
made_of_nothing version t edited now next is made fibs same =
    let m : PartsMade version t (record nothing { version = version }) now = subst (λ (s : StateView). PartsMade s.version t s now) is made in
    let none : now.fibs ≡ no_entries = fibs ∙ ap (λ (s : StateView). s.fibs) is in
    subst (λ (s : StateView). AreMadeAt version s) (sym same) (record {
      vlans = of_none m.vlans;
      ports = of_none m.ports;
      intfs = of_none m.intfs;
      macs = of_none m.macs;
      arps = of_none m.arps;
      ndps = of_none m.ndps;
      routes = of_none m.routes;
      fibs = subst (λ (f : MapView FibEntry). IsMadeAt version f.nodes) (sym none) no_nodes;
    })

-- what acts build is one state, or one act is refused
not_both : (o : Result PlainState (ℕ × Reason)) (m : PlainState) (x : ℕ × Reason) → o ≡ Ok m → o ≡ Err x → ⊥
not_both (Ok n) m x is refused = absurd (cc)
not_both (Err y) m x is refused = absurd (cc)

one_refused : (o : Result PlainState (ℕ × Reason)) (x y : ℕ × Reason) → o ≡ Err x → o ≡ Err y → x ≡ y
one_refused (Ok n) x y first second = absurd (cc)
one_refused (Err z) x y first second = let a : z ≡ x = cc in let b : z ≡ y = cc in sym a ∙ b

pub refused_only : {T : Type 0} (m : PlainState) (acts : List Act) (state : T → PlainState) (result : Result T BuildFault) → IfOk result (λ s. built m acts ≡ Ok (state s)) → ((i : ℕ) (r : Reason) → result ≡ Err (Invalid i r) → built m acts ≡ Err (i, r)) → (i : ℕ) (r : Reason) → built m acts ≡ Err (i, r) → (result ≡ Err (Invalid i r)) ⊎ (result ≡ Err NoMemory)
refused_only m acts state (Ok s) is invalid i r refused = absurd (not_both (built m acts) (state s) (i, r) is refused)
refused_only m acts state (Err NoMemory) is invalid i r refused = inr refl
refused_only m acts state (Err (Invalid j s)) is invalid i r refused =
    let one : (j, s) ≡ (i, r) = one_refused (built m acts) (j, s) (i, r) (invalid j s refl) refused in
    inl (ap (λ (p : ℕ × Reason). Err (Invalid p.0 p.1)) one)

-- an update that is invalid has a reason against it
pub invalid_by : (o : Option Reason) (a : Applied) (index place : ℕ) (r reason : Reason) → a ≡ outcome o → a ≡ applied.Invalid r → Invalid index r ≡ Invalid place reason → (place ≡ index) × (o ≡ Some reason)
invalid_by None a index place r reason answer is same = let no : applied.Changed ≡ applied.Invalid r = sym answer ∙ is in absurd (cc)
invalid_by (Some s) a index place r reason answer is same =
    let one : applied.Invalid s ≡ applied.Invalid r = sym answer ∙ is in
    let places : place ≡ index = cc in
    let first : s ≡ r = cc in
    let second : r ≡ reason = cc in
    (places, ap (λ (q : Reason). Some q) (first ∙ second))
