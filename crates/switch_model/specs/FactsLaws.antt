-- The other interfaces of a VRF, one by one.
use Rattle.std.proofs.Common.{◌≡◌, ◌&&◌, ◌||◌, ℕ, Bool, true, false, Option, Some, List, [], ◌∷◌, filter, if◌then◌else◌, refl, ap, ◌∙◌}
use Rattle.std.specs.List.{list_any}
use Rattle.net_types.specs.Cidr.{Cidr}
use Rattle.net_types.specs.Prefix.{overlaps}
use Rattle.switch_model.specs.declared.record.IntfRec.{IntfRec}
use Rattle.switch_model.specs.Addresses.{subnets}
use Rattle.switch_model.specs.Facts.{is_other, others_of, overlaps_other}
use Rattle.switch_model.specs.PlainState.{PlainState, intf_at}

module _ {X : Type 0} (passes test : X → Bool) where
  first_passes : (b : Bool) (x : X) (xs : List X) → list_any test (if b then x ∷ xs else xs) ≡ ((b && test x) || list_any test xs)
  first_passes true x xs = refl
  first_passes false x xs = refl

  -- some item of those that pass is one that passes both
  pub any_filter : (xs : List X) → list_any test (filter passes xs) ≡ list_any (λ x. passes x && test x) xs
  any_filter [] = refl
  any_filter (x ∷ xs) = first_passes (passes x) x (filter passes xs) ∙ ap (λ (b : Bool). (passes x && test x) || b) (any_filter xs)

-- the prefix overlaps a subnet of some interface that is another one of the VRF
pub overlaps_other_by_each : (m : PlainState) (intf : ℕ) (prefix : Cidr) (own : IntfRec) → intf_at m intf ≡ Some own
    → overlaps_other m intf prefix ≡ list_any (λ e. is_other intf own.vrf e && list_any (overlaps prefix) (subnets e.1.addrs)) m.intfs
overlaps_other_by_each m intf prefix own is =
    ap (λ (o : Option IntfRec). list_any (λ e. list_any (overlaps prefix) (subnets e.1.addrs)) (others_of m intf o)) is
    ∙ any_filter (is_other intf own.vrf) (λ e. list_any (overlaps prefix) (subnets e.1.addrs)) m.intfs
