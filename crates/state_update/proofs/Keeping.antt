-- A put and a removal leave each birth as it is.
use Rattle.std.proofs.Common.{◌≡◌, ℕ, List, [], ◌∷◌, map, Option, None, Some, Result, Ok, Err, refl, sym, ap, ◌∙◌, subst, inl, inr}
use Rattle.std.specs.Result.{OnOk, OnErr}
use Rattle.std.specs.List.{Contains}
use Rattle.std.specs.Ordering.{nat_cmp}
use Rattle.keyed.specs.Keyed.{at, put, without, Ascends}
use Rattle.keyed.specs.KeyOrders.{nat_order}
use Rattle.keyed.specs.KeyedLaws.{decide, at-put, at-put_other, at-without, at-without_other}
use Rattle.keyed.specs.Members.{contains_first}
use Rattle.net_types.specs.declared.ip.Ip.{Ip}
use Rattle.net_types.specs.declared.ip.Ip.TheVariants.{V4, V6}
use Rattle.net_types.specs.declared.table.L2Key.{L2Key}
use Rattle.node_core.specs.Node.{NodeView}
use Rattle.node_map.specs.Map.{MapView}
use Rattle.node_map.specs.Paths.{ArePathsMade}
use Rattle.node_map.proofs.Touching.{paths_none, paths_one}
use Rattle.switch_model.specs.declared.act.Act.{Act}
use Rattle.switch_model.specs.declared.key.NeighborKey.{NeighborKey}
use Rattle.switch_model.specs.declared.key.RibKey.{RibKey}
use Rattle.switch_model.specs.PlainState.{PlainState}
use Rattle.switch_model.specs.Touched.{Touched, touched, touched_neighbor, untouched}
use Rattle.state_keys.specs.PartKeys.{vlan_number, port_number, intf_number, station_number, neighbor_number, rib_number}
use Rattle.switch_state.specs.Edit.{EditView, IsCut, IsPut, IsStored}
use Rattle.switch_state.specs.StateView.{StateView}
use Rattle.switch_state.proofs.OnPaths.{parts_none}
use Rattle.state_update.specs.Births.{SameBirths, KeepsRest, NewBirths}
use Rattle.state_update.proofs.Cases.{by_option}

same_node : {T : Type 0} {found : Option (NodeView T)} {was is : NodeView T} → found ≡ Some was → found ≡ Some is → is.born ≡ was.born
same_node {was = was} {is = is} a b = let one : is ≡ was = cc in ap (λ n. n.born) one

pub still_born : {T : Type 0} (m : MapView T) → SameBirths m m
still_born m key was is a b = same_node a b

pub stored_born : {T : Type 0} (version : ℕ) (value : T) (found : Option (NodeView T)) (was new : NodeView T) → found ≡ Some was → IsStored version value found new → new.born ≡ was.born
stored_born version value None was new a stored = absurd (cc)
stored_born version value (Some old) was new a stored =
    let one : old ≡ was = cc in
    let born : old.born ≡ was.born = ap (λ n. n.born) one in
    elim stored [
      | inl kept ↦ ap (λ n. n.born) kept.1 ∙ born
      | inr other ↦ ap (λ n. n.born) other.1 ∙ born
    ]

pub put_births : {T : Type 0} {version key : ℕ} {value : T} {old new : MapView T} → IsPut version key value old new → SameBirths old new
put_births {T} {version} {key} {value} {old} {new} put_is k was is a b =
    let node : NodeView T = put_is.entries.0 in
    let entries : new.entries ≡ put nat_cmp key node old.entries = put_is.entries.2 in
    let here : at nat_cmp k (put nat_cmp key node old.entries) ≡ Some is = ap (at nat_cmp k) (sym entries) ∙ b in
    elim (decide nat_cmp nat_order k key) [
      | inl same ↦
          let first : at nat_cmp key old.entries ≡ Some was = ap (λ (x : ℕ). at nat_cmp x old.entries) (sym same) ∙ a in
          let second : at nat_cmp key (put nat_cmp key node old.entries) ≡ Some is = ap (λ (x : ℕ). at nat_cmp x (put nat_cmp key node old.entries)) (sym same) ∙ here in
          let third : Some node ≡ Some is = sym (at-put nat_cmp nat_order key node old.entries) ∙ second in
          let one : is ≡ node = cc in
          ap (λ n. n.born) one ∙ stored_born version value (at nat_cmp key old.entries) was node first put_is.entries.1
      | inr other ↦ same_node a (sym (at-put_other nat_cmp nat_order k key node old.entries other) ∙ here)
    ]

pub cut_births : {T : Type 0} {version key : ℕ} {old new : MapView T} → Ascends nat_cmp old.entries → IsCut version key old new → SameBirths old new
cut_births {T} {version} {key} {old} {new} ascends cut_is k was is a b =
    let here : at nat_cmp k (without nat_cmp key old.entries) ≡ Some is = ap (at nat_cmp k) (sym cut_is.entries) ∙ b in
    elim (decide nat_cmp nat_order k key) [
      | inl same ↦
          let second : at nat_cmp key (without nat_cmp key old.entries) ≡ Some is = ap (λ (x : ℕ). at nat_cmp x (without nat_cmp key old.entries)) (sym same) ∙ here in
          let none : at nat_cmp key (without nat_cmp key old.entries) ≡ None = at-without nat_cmp nat_order key old.entries ascends in
          absurd (cc)
      | inr other ↦ same_node a (sym (at-without_other nat_cmp nat_order k key old.entries ascends other) ∙ here)
    ]

-- no key is new
pub none_new : {T : Type 0} (version : ℕ) (m : MapView T) → NewBirths version m m
none_new version m key is none some = absurd (cc)

stored_new : {T : Type 0} (version : ℕ) (value : T) (found : Option (NodeView T)) (new : NodeView T) → found ≡ None → IsStored version value found new → new.born ≡ version
stored_new version value None new none stored = ap (λ n. n.born) stored
stored_new version value (Some old) new none stored = absurd (cc)

put_new : {T : Type 0} {version key : ℕ} {value : T} {old new : MapView T} → IsPut version key value old new → NewBirths version old new
put_new {T} {version} {key} {value} {old} {new} put_is k is a b =
    let node : NodeView T = put_is.entries.0 in
    let entries : new.entries ≡ put nat_cmp key node old.entries = put_is.entries.2 in
    let here : at nat_cmp k (put nat_cmp key node old.entries) ≡ Some is = ap (at nat_cmp k) (sym entries) ∙ b in
    elim (decide nat_cmp nat_order k key) [
      | inl same ↦
          let first : at nat_cmp key old.entries ≡ None = ap (λ (x : ℕ). at nat_cmp x old.entries) (sym same) ∙ a in
          let second : at nat_cmp key (put nat_cmp key node old.entries) ≡ Some is = ap (λ (x : ℕ). at nat_cmp x (put nat_cmp key node old.entries)) (sym same) ∙ here in
          let third : Some node ≡ Some is = sym (at-put nat_cmp nat_order key node old.entries) ∙ second in
          let one : is ≡ node = cc in
          ap (λ n. n.born) one ∙ stored_new version value (at nat_cmp key old.entries) node first put_is.entries.1
      | inr other ↦
          let none : at nat_cmp k (put nat_cmp key node old.entries) ≡ None = at-put_other nat_cmp nat_order k key node old.entries other ∙ a in
          absurd (cc)
    ]

cut_new : {T : Type 0} {version key : ℕ} {old new : MapView T} → Ascends nat_cmp old.entries → IsCut version key old new → NewBirths version old new
cut_new {T} {version} {key} {old} {new} ascends cut_is k is a b =
    let here : at nat_cmp k (without nat_cmp key old.entries) ≡ Some is = ap (at nat_cmp k) (sym cut_is.entries) ∙ b in
    elim (decide nat_cmp nat_order k key) [
      | inl same ↦
          let second : at nat_cmp key (without nat_cmp key old.entries) ≡ Some is = ap (λ (x : ℕ). at nat_cmp x (without nat_cmp key old.entries)) (sym same) ∙ here in
          let none : at nat_cmp key (without nat_cmp key old.entries) ≡ None = at-without nat_cmp nat_order key old.entries ascends in
          absurd (cc)
      | inr other ↦
          let none : at nat_cmp k (without nat_cmp key old.entries) ≡ None = at-without_other nat_cmp nat_order k key old.entries ascends other ∙ a in
          absurd (cc)
    ]

-- a step more: what is new is new before or in the step
pub new_more : {T : Type 0} (version : ℕ) (old mid new : MapView T) → NewBirths version old mid → SameBirths mid new → NewBirths version mid new → NewBirths version old new
new_more {T} version old mid new first same step k is a b = by_option (at nat_cmp k mid.entries)
    (λ none. step k is none b)
    (λ was some. same k was is some b ∙ first k was a some)

-- what a change of one part keeps of it: births, and nodes that aren't on the path of a key that is such
pub record KeepsPart {T : Type 0} (version : ℕ) (Is : ℕ → Type 0) (old new : MapView T) : Type 0 where
  pub births : SameBirths old new
  pub paths : ArePathsMade version Is old.nodes new.nodes
  pub born : NewBirths version old new

-- the same where memory may have been refused, which leaves the edit as before
unchanged : {T : Type 0} (part : StateView → MapView T) (version : ℕ) (Is : ℕ → Type 0) (old new : EditView) → new ≡ old → KeepsPart version Is (part old.state) (part new.state)
unchanged part version Is old new same = subst (λ (e : EditView). KeepsPart version Is (part old.state) (part e.state)) (sym same) (record { births = still_born (part old.state); paths = paths_none; born = none_new version (part old.state) })

paths_as_before : {T : Type 0} (part : StateView → MapView T) (version : ℕ) (Is : ℕ → Type 0) (old new : EditView) → new ≡ old → ArePathsMade version Is (part old.state).nodes (part new.state).nodes
paths_as_before part version Is old new same = subst (λ (e : EditView). ArePathsMade version Is (part old.state).nodes (part e.state).nodes) (sym same) paths_none

one_key : (key : ℕ) → Contains (key ∷ []) key
one_key key = contains_first key []

pub put_keeps : {E T : Type 0} (part : StateView → MapView T) (version key : ℕ) (value : T) (old new : EditView) (r : Result (Unit {0}) E) → OnOk r (IsPut version key value (part old.state) (part new.state)) → OnErr r (new ≡ old) → KeepsPart version (Contains (key ∷ [])) (part old.state) (part new.state)
put_keeps part version key value old new (Ok x) put_is same = record { births = put_births put_is; paths = paths_one (one_key key) put_is.nodes; born = put_new put_is }
put_keeps part version key value old new (Err e) put_is same = unchanged part version (Contains (key ∷ [])) old new same

pub cut_keeps : {E T : Type 0} (part : StateView → MapView T) (version key : ℕ) (old new : EditView) (r : Result (Unit {0}) E) → Ascends nat_cmp (part old.state).entries → OnOk r (IsCut version key (part old.state) (part new.state)) → OnErr r (new ≡ old) → KeepsPart version (Contains (key ∷ [])) (part old.state) (part new.state)
cut_keeps part version key old new (Ok x) ascends cut_is same = record { births = cut_births ascends cut_is; paths = paths_one (one_key key) cut_is.nodes; born = cut_new ascends cut_is }
cut_keeps part version key old new (Err e) ascends cut_is same = unchanged part version (Contains (key ∷ [])) old new same

-- a kind of keys that has one alone
pub only_key : (key n : ℕ) → key ≡ n → Contains (key ∷ []) n
only_key key n is = subst (λ (k : ℕ). Contains (key ∷ []) k) is (one_key key)

-- a new key is born where memory may have been refused
pub put_born : {E T : Type 0} (part : StateView → MapView T) (version key : ℕ) (value : T) (old new : EditView) (r : Result (Unit {0}) E) → OnOk r (IsPut version key value (part old.state) (part new.state)) → OnErr r (new ≡ old) → NewBirths version (part old.state) (part new.state)
put_born part version key value old new r put_is same = let kept = put_keeps part version key value old new r put_is same in kept.born

pub cut_born : {E T : Type 0} (part : StateView → MapView T) (version key : ℕ) (old new : EditView) (r : Result (Unit {0}) E) → Ascends nat_cmp (part old.state).entries → OnOk r (IsCut version key (part old.state) (part new.state)) → OnErr r (new ≡ old) → NewBirths version (part old.state) (part new.state)
cut_born part version key old new r ascends cut_is same = let kept = cut_keeps part version key old new r ascends cut_is same in kept.born

-- new nodes are on the path of the one key
pub put_paths : {E T : Type 0} (part : StateView → MapView T) (version key : ℕ) (value : T) (old new : EditView) (r : Result (Unit {0}) E) → OnOk r (IsPut version key value (part old.state) (part new.state)) → OnErr r (new ≡ old) → ArePathsMade version (λ n. key ≡ n) (part old.state).nodes (part new.state).nodes
put_paths part version key value old new (Ok x) put_is same = paths_one refl put_is.nodes
put_paths part version key value old new (Err e) put_is same = paths_as_before part version (λ n. key ≡ n) old new same

pub cut_paths : {E T : Type 0} (part : StateView → MapView T) (version key : ℕ) (old new : EditView) (r : Result (Unit {0}) E) → OnOk r (IsCut version key (part old.state) (part new.state)) → OnErr r (new ≡ old) → ArePathsMade version (λ n. key ≡ n) (part old.state).nodes (part new.state).nodes
cut_paths part version key old new (Ok x) cut_is same = paths_one refl cut_is.nodes
cut_paths part version key old new (Err e) cut_is same = paths_as_before part version (λ n. key ≡ n) old new same

pub rest_still : (t : Touched) (e : EditView) → KeepsRest t e e
rest_still t e = let s = e.state in record {
  base = refl;
  version = refl;
  fibs = refl;
  paths = parts_none s.version t s;
  born = record { vlans = none_new s.version s.vlans; ports = none_new s.version s.ports; intfs = none_new s.version s.intfs; macs = none_new s.version s.macs; arps = none_new s.version s.arps; ndps = none_new s.version s.ndps; routes = none_new s.version s.routes; fibs = none_new s.version s.fibs };
  births = record { vlans = still_born s.vlans; ports = still_born s.ports; intfs = still_born s.intfs; macs = still_born s.macs; arps = still_born s.arps; ndps = still_born s.ndps; routes = still_born s.routes; fibs = still_born s.fibs };
}

-- one part may differ
pub vlans_keep : {keys : List ℕ} (old new : EditView) → new ≡ record old { state = record old.state { vlans = new.state.vlans } } → KeepsPart old.state.version (Contains (map vlan_number keys)) old.state.vlans new.state.vlans → KeepsRest (record untouched { vlans = keys }) old new
vlans_keep {keys} old new others kept = subst (λ (e : EditView). KeepsRest (record untouched { vlans = keys }) old e) (sym others) (record {
  base = refl;
  version = refl;
  fibs = refl;
  paths = record { vlans = kept.paths; ports = paths_none; intfs = paths_none; macs = paths_none; arps = paths_none; ndps = paths_none; routes = paths_none };
  born = record { vlans = kept.born; ports = none_new old.state.version old.state.ports; intfs = none_new old.state.version old.state.intfs; macs = none_new old.state.version old.state.macs; arps = none_new old.state.version old.state.arps; ndps = none_new old.state.version old.state.ndps; routes = none_new old.state.version old.state.routes; fibs = none_new old.state.version old.state.fibs };
  births = record { vlans = kept.births; ports = still_born old.state.ports; intfs = still_born old.state.intfs; macs = still_born old.state.macs; arps = still_born old.state.arps; ndps = still_born old.state.ndps; routes = still_born old.state.routes; fibs = still_born old.state.fibs };
})

pub ports_keep : {keys : List ℕ} (old new : EditView) → new ≡ record old { state = record old.state { ports = new.state.ports } } → KeepsPart old.state.version (Contains (map port_number keys)) old.state.ports new.state.ports → KeepsRest (record untouched { ports = keys }) old new
ports_keep {keys} old new others kept = subst (λ (e : EditView). KeepsRest (record untouched { ports = keys }) old e) (sym others) (record {
  base = refl;
  version = refl;
  fibs = refl;
  paths = record { vlans = paths_none; ports = kept.paths; intfs = paths_none; macs = paths_none; arps = paths_none; ndps = paths_none; routes = paths_none };
  born = record { vlans = none_new old.state.version old.state.vlans; ports = kept.born; intfs = none_new old.state.version old.state.intfs; macs = none_new old.state.version old.state.macs; arps = none_new old.state.version old.state.arps; ndps = none_new old.state.version old.state.ndps; routes = none_new old.state.version old.state.routes; fibs = none_new old.state.version old.state.fibs };
  births = record { vlans = still_born old.state.vlans; ports = kept.births; intfs = still_born old.state.intfs; macs = still_born old.state.macs; arps = still_born old.state.arps; ndps = still_born old.state.ndps; routes = still_born old.state.routes; fibs = still_born old.state.fibs };
})

pub intfs_keep : {keys : List ℕ} (old new : EditView) → new ≡ record old { state = record old.state { intfs = new.state.intfs } } → KeepsPart old.state.version (Contains (map intf_number keys)) old.state.intfs new.state.intfs → KeepsRest (record untouched { intfs = keys }) old new
intfs_keep {keys} old new others kept = subst (λ (e : EditView). KeepsRest (record untouched { intfs = keys }) old e) (sym others) (record {
  base = refl;
  version = refl;
  fibs = refl;
  paths = record { vlans = paths_none; ports = paths_none; intfs = kept.paths; macs = paths_none; arps = paths_none; ndps = paths_none; routes = paths_none };
  born = record { vlans = none_new old.state.version old.state.vlans; ports = none_new old.state.version old.state.ports; intfs = kept.born; macs = none_new old.state.version old.state.macs; arps = none_new old.state.version old.state.arps; ndps = none_new old.state.version old.state.ndps; routes = none_new old.state.version old.state.routes; fibs = none_new old.state.version old.state.fibs };
  births = record { vlans = still_born old.state.vlans; ports = still_born old.state.ports; intfs = kept.births; macs = still_born old.state.macs; arps = still_born old.state.arps; ndps = still_born old.state.ndps; routes = still_born old.state.routes; fibs = still_born old.state.fibs };
})

pub macs_keep : {keys : List L2Key} (old new : EditView) → new ≡ record old { state = record old.state { macs = new.state.macs } } → KeepsPart old.state.version (Contains (map station_number keys)) old.state.macs new.state.macs → KeepsRest (record untouched { macs = keys }) old new
macs_keep {keys} old new others kept = subst (λ (e : EditView). KeepsRest (record untouched { macs = keys }) old e) (sym others) (record {
  base = refl;
  version = refl;
  fibs = refl;
  paths = record { vlans = paths_none; ports = paths_none; intfs = paths_none; macs = kept.paths; arps = paths_none; ndps = paths_none; routes = paths_none };
  born = record { vlans = none_new old.state.version old.state.vlans; ports = none_new old.state.version old.state.ports; intfs = none_new old.state.version old.state.intfs; macs = kept.born; arps = none_new old.state.version old.state.arps; ndps = none_new old.state.version old.state.ndps; routes = none_new old.state.version old.state.routes; fibs = none_new old.state.version old.state.fibs };
  births = record { vlans = still_born old.state.vlans; ports = still_born old.state.ports; intfs = still_born old.state.intfs; macs = kept.births; arps = still_born old.state.arps; ndps = still_born old.state.ndps; routes = still_born old.state.routes; fibs = still_born old.state.fibs };
})

pub arps_keep : {keys : List NeighborKey} (old new : EditView) → new ≡ record old { state = record old.state { arps = new.state.arps } } → KeepsPart old.state.version (Contains (map neighbor_number keys)) old.state.arps new.state.arps → KeepsRest (record untouched { arps = keys }) old new
arps_keep {keys} old new others kept = subst (λ (e : EditView). KeepsRest (record untouched { arps = keys }) old e) (sym others) (record {
  base = refl;
  version = refl;
  fibs = refl;
  paths = record { vlans = paths_none; ports = paths_none; intfs = paths_none; macs = paths_none; arps = kept.paths; ndps = paths_none; routes = paths_none };
  born = record { vlans = none_new old.state.version old.state.vlans; ports = none_new old.state.version old.state.ports; intfs = none_new old.state.version old.state.intfs; macs = none_new old.state.version old.state.macs; arps = kept.born; ndps = none_new old.state.version old.state.ndps; routes = none_new old.state.version old.state.routes; fibs = none_new old.state.version old.state.fibs };
  births = record { vlans = still_born old.state.vlans; ports = still_born old.state.ports; intfs = still_born old.state.intfs; macs = still_born old.state.macs; arps = kept.births; ndps = still_born old.state.ndps; routes = still_born old.state.routes; fibs = still_born old.state.fibs };
})

pub ndps_keep : {keys : List NeighborKey} (old new : EditView) → new ≡ record old { state = record old.state { ndps = new.state.ndps } } → KeepsPart old.state.version (Contains (map neighbor_number keys)) old.state.ndps new.state.ndps → KeepsRest (record untouched { ndps = keys }) old new
ndps_keep {keys} old new others kept = subst (λ (e : EditView). KeepsRest (record untouched { ndps = keys }) old e) (sym others) (record {
  base = refl;
  version = refl;
  fibs = refl;
  paths = record { vlans = paths_none; ports = paths_none; intfs = paths_none; macs = paths_none; arps = paths_none; ndps = kept.paths; routes = paths_none };
  born = record { vlans = none_new old.state.version old.state.vlans; ports = none_new old.state.version old.state.ports; intfs = none_new old.state.version old.state.intfs; macs = none_new old.state.version old.state.macs; arps = none_new old.state.version old.state.arps; ndps = kept.born; routes = none_new old.state.version old.state.routes; fibs = none_new old.state.version old.state.fibs };
  births = record { vlans = still_born old.state.vlans; ports = still_born old.state.ports; intfs = still_born old.state.intfs; macs = still_born old.state.macs; arps = still_born old.state.arps; ndps = kept.births; routes = still_born old.state.routes; fibs = still_born old.state.fibs };
})

pub routes_keep : {keys : List RibKey} (old new : EditView) → new ≡ record old { state = record old.state { routes = new.state.routes } } → KeepsPart old.state.version (Contains (map rib_number keys)) old.state.routes new.state.routes → KeepsRest (record untouched { routes = keys }) old new
routes_keep {keys} old new others kept = subst (λ (e : EditView). KeepsRest (record untouched { routes = keys }) old e) (sym others) (record {
  base = refl;
  version = refl;
  fibs = refl;
  paths = record { vlans = paths_none; ports = paths_none; intfs = paths_none; macs = paths_none; arps = paths_none; ndps = paths_none; routes = kept.paths };
  born = record { vlans = none_new old.state.version old.state.vlans; ports = none_new old.state.version old.state.ports; intfs = none_new old.state.version old.state.intfs; macs = none_new old.state.version old.state.macs; arps = none_new old.state.version old.state.arps; ndps = none_new old.state.version old.state.ndps; routes = kept.born; fibs = none_new old.state.version old.state.fibs };
  births = record { vlans = still_born old.state.vlans; ports = still_born old.state.ports; intfs = still_born old.state.intfs; macs = still_born old.state.macs; arps = still_born old.state.arps; ndps = still_born old.state.ndps; routes = kept.births; fibs = still_born old.state.fibs };
})

-- the same of the same act
pub rest_as : (m : PlainState) (act other : Act) (old new : EditView) → act ≡ other → KeepsRest (touched m other) old new → KeepsRest (touched m act) old new
rest_as m act other old new is kept = subst (λ (a : Act). KeepsRest (touched m a) old new) (sym is) kept

-- a neighbour of that family is touched in its part
pub arp_touched : (intf n : ℕ) (ip : Ip) (old new : EditView) → ip ≡ V4 n → KeepsRest (record untouched { arps = record { intf = intf; ip = ip } ∷ [] }) old new → KeepsRest (touched_neighbor intf ip) old new
arp_touched intf n ip old new is kept = subst (λ (i : Ip). KeepsRest (touched_neighbor intf i) old new) (sym is) (subst (λ (i : Ip). KeepsRest (record untouched { arps = record { intf = intf; ip = i } ∷ [] }) old new) is kept)

pub ndp_touched : (intf n : ℕ) (ip : Ip) (old new : EditView) → ip ≡ V6 n → KeepsRest (record untouched { ndps = record { intf = intf; ip = ip } ∷ [] }) old new → KeepsRest (touched_neighbor intf ip) old new
ndp_touched intf n ip old new is kept = subst (λ (i : Ip). KeepsRest (touched_neighbor intf i) old new) (sym is) (subst (λ (i : Ip). KeepsRest (record untouched { ndps = record { intf = intf; ip = i } ∷ [] }) old new) is kept)
