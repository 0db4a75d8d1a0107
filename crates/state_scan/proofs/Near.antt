-- The stations of a VLAN and the neighbours on an interface stand side by side, so that a walk over these alone tells what one over all would.
use Rattle.std.proofs.Common.{◌≡◌, ◌==◌, ◌&&◌, ◌||◌, ℕ, ◌<◌, ◌+◌, ◌*◌, ◌/◌, ◌^◌, Bool, true, false, List, [], ◌∷◌, refl, sym, ap, ◌∙◌, arith}
use Rattle.std.specs.List.{All, list_any, take_while}
use Rattle.std.specs.Ordering.{nat_cmp}
use Rattle.std.proofs.lemmas.Nat.{pow_pos}
use Rattle.keyed.specs.Cases.{by_bool}
use Rattle.keyed.specs.Keyed.{Ascends}
use Rattle.keyed.specs.Ranges.{onward}
use Rattle.net_types.specs.declared.table.L2Key.{L2Key}
use Rattle.node_core.specs.Node.{NodeView}
use Rattle.node_map.specs.TreeNode.{Entries}
use Rattle.switch_model.specs.declared.record.MacRec.{MacRec}
use Rattle.switch_model.specs.declared.record.NeighborRec.{NeighborRec}
use Rattle.state_keys.specs.PartKeys.{IsArpNumber, IsNdpNumber, IsStationNumber, intf_number, intf_of, station_of, vlan_number}
use Rattle.state_keys.proofs.Ranges.{front_any, rise_entries}
use Rattle.state_scan.specs.Listed.{listed}
use Rattle.state_scan.proofs.Listing.{any_listed}

-- an alternative of which the second half is known
pub or_first : (a b : Bool) → b ≡ false → (a || b) ≡ a
or_first true b h = refl
or_first false b h = h

pub or_second : (a b : Bool) → b ≡ true → (a || b) ≡ true
or_second true b h = refl
or_second false b h = h

-- where all pass, the front alone tells
pub any_front : {A : Type 0} (p : A → Bool) (xs : List A) → list_any (λ x. p x && true) xs ≡ list_any p xs
any_front p [] = refl
any_front p (x ∷ xs) = by_bool (p x) (λ h. rw h refl) (λ h. rw h (any_front p xs))

-- the front of a number
station_front : (n : ℕ) → IsStationNumber n → n / 2 ^ 176 ≡ (station_of n).vlan
station_front n is = let mac = is.key.mac in let same = is.same in omega (arith, mac, same)

arp_front : (n : ℕ) → IsArpNumber n → n / 2 ^ 160 ≡ intf_of n
arp_front n is = let ip = is.key.ip in let same = is.same in omega (arith, ip, same)

ndp_front : (n : ℕ) → IsNdpNumber n → n / 2 ^ 160 ≡ intf_of n
ndp_front n is = let ip = is.key.ip in let same = is.same in omega (arith, ip, same)

pub stations_near : (vlan first : ℕ) (es : Entries MacRec) → first ≡ vlan_number vlan → All (λ e. IsStationNumber e.0) es → Ascends nat_cmp es
    → list_any (λ e. true) (take_while (λ e. (station_of e.0).vlan == vlan) (onward nat_cmp first es)) ≡ list_any (λ e. e.0.vlan == vlan) (listed station_of es)
stations_near vlan first es is numbers asc =
    front_any (λ (e : ℕ × NodeView MacRec). e.0) (λ e. true) (2 ^ 176) vlan first (pow_pos 176) IsStationNumber (λ n. (station_of n).vlan) station_front (omega (arith, is)) es (rise_entries es asc) numbers
    ∙ any_front (λ (e : ℕ × NodeView MacRec). (station_of e.0).vlan == vlan) es
    ∙ sym (any_listed station_of (λ (e : L2Key × MacRec). e.0.vlan == vlan) es)

module _ (t : ℕ × NodeView NeighborRec → Bool) (intf first : ℕ) (es : Entries NeighborRec) (is : first ≡ intf_number intf) (asc : Ascends nat_cmp es) where
  pub arps_near : All (λ e. IsArpNumber e.0) es → list_any t (take_while (λ e. intf_of e.0 == intf) (onward nat_cmp first es)) ≡ list_any (λ e. (intf_of e.0 == intf) && t e) es
  arps_near numbers =
      front_any (λ (e : ℕ × NodeView NeighborRec). e.0) t (2 ^ 160) intf first (pow_pos 160) IsArpNumber intf_of arp_front (omega (arith, is)) es (rise_entries es asc) numbers

  pub ndps_near : All (λ e. IsNdpNumber e.0) es → list_any t (take_while (λ e. intf_of e.0 == intf) (onward nat_cmp first es)) ≡ list_any (λ e. (intf_of e.0 == intf) && t e) es
  ndps_near numbers =
      front_any (λ (e : ℕ × NodeView NeighborRec). e.0) t (2 ^ 160) intf first (pow_pos 160) IsNdpNumber intf_of ndp_front (omega (arith, is)) es (rise_entries es asc) numbers
