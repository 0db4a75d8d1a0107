-- What indexes ask of the parts that they are of.
use Rattle.std.proofs.Common.{◌≡◌, ◌||◌, ℕ, Bool, true, false, List, [], Option, refl, sym, ap, ◌∙◌, subst}
use Rattle.std.specs.List.{All, Contains}
use Rattle.std.specs.Option.{option_map}
use Rattle.std.proofs.lemmas.List.Elements.{All-nil}
use Rattle.keyed.specs.Members.{contains_none}
use Rattle.node_core.specs.Node.{NodeView}
use Rattle.node_map.specs.TreeNode.{Entries, TreeNode}
use Rattle.std.specs.Ordering.{nat_cmp}
use Rattle.keyed.specs.Keyed.{at, Ascends}
use Rattle.net_types.specs.Range.{IsIntf}
use Rattle.node_map.specs.Map.{MapView}
use Rattle.switch_model.specs.declared.record.IntfRec.{IntfRec}
use Rattle.state_keys.specs.KeyLaws.{intf_numbering}
use Rattle.state_keys.specs.PartKeys.{intf_number, intf_of, IsIntfNumber}
use Rattle.state_scan.specs.Listed.{listed}
use Rattle.state_scan.proofs.Listing.{ascends-listed, at_listed}
use Rattle.switch_model.specs.Sound.{IsSound}
use Rattle.switch_state.specs.Plain.{plain}
use Rattle.switch_state.specs.StateView.{StateView, nothing}
use Rattle.switch_state.specs.Valid.{IsPart}

-- the interfaces ascend
pub intfs_ascend : {version : ℕ} {m : MapView IntfRec} → IsPart IsIntfNumber version m → Ascends nat_cmp (listed intf_of m.entries)
intfs_ascend {m = m} part = ascends-listed intf_numbering m.entries part.numbers part.ascends

-- the record that was found is the interface's
pub intf_found : {version : ℕ} {seen m : MapView IntfRec} (key made : ℕ) (o : Option IntfRec) → IsPart IsIntfNumber version m → IsIntf key → made ≡ intf_number key → seen ≡ m → o ≡ option_map (λ n. n.value) (at nat_cmp made seen.entries) → at nat_cmp key (listed intf_of m.entries) ≡ o
intf_found {seen = seen} {m = m} key made o part range same_key same_map is =
    at_listed intf_numbering key m.entries range part.numbers
    ∙ ap (λ (k : ℕ). option_map (λ n. n.value) (at nat_cmp k m.entries)) (sym same_key)
    ∙ ap (λ (s : MapView IntfRec). option_map (λ n. n.value) (at nat_cmp made s.entries)) (sym same_map)
    ∙ sym is

-- a map of nothing is a part
pub empty_part : {T : Type 0} (IsNumber : ℕ → Type 0) (version : ℕ) (m : MapView T) → m.entries ≡ [] → m.nodes ≡ [] → IsPart IsNumber version m
empty_part {T} IsNumber version m entries nodes = record {
  made = record { each = λ n has. absurd (contains_none n (subst (λ (l : List (TreeNode T)). Contains l n) nodes has)) };
  numbers = subst (λ (es : Entries T). All (λ e. IsNumber e.0) es) (sym entries) (All-nil (λ (e : ℕ × NodeView T). IsNumber e.0));
  ascends = subst (λ (es : Entries T). Ascends nat_cmp es) (sym entries) tt;
}

-- nothing anywhere is sound
pub sound_nothing : (s : StateView) → s ≡ nothing → IsSound (plain s)
sound_nothing s is = subst (λ (t : StateView). IsSound (plain t)) (sym is) refl

-- an alternative of three whose middle is known
pub or_middle : (a b d : Bool) → b ≡ true → (a || b || d) ≡ true
or_middle true b d h = refl
or_middle false b d h = ap (λ (x : Bool). x || d) h

pub or_outer : (a b d : Bool) → b ≡ false → (a || b || d) ≡ (a || d)
or_outer true b d h = refl
or_outer false b d h = ap (λ (x : Bool). x || d) h
