-- What updates leave as it is.
use Rattle.std.specs.Prelude.{◌≡◌, List, ◌++◌}
use Rattle.std.specs.List.{Contains}
use Rattle.std.specs.Ordering.{nat_cmp}
use Rattle.std.specs.declared.cmp.Ordering.{Ordering}
use Rattle.keyed.specs.Keyed.{at}
use Rattle.net_types.specs.KeyOrder.{l2_cmp}
use Rattle.switch_model.specs.PlainState.{PlainState}
use Rattle.switch_model.specs.StateKeys.{neighbor_cmp, rib_cmp}
use Rattle.switch_model.specs.Touched.{Touched}

-- under each key but those in the list stands what stood there
abbrev pub SameBeside : {K V : Type 0} → (K → K → Ordering) → List K → List (K × V) → List (K × V) → Type 0
SameBeside {K} cmp keys old new = (key : K) → (Contains keys key → ⊥) → at cmp key new ≡ at cmp key old

-- the states differ under touched keys alone
pub record SameUntouched (t : Touched) (old new : PlainState) : Type 0 where
  pub vlans : SameBeside nat_cmp t.vlans old.vlans new.vlans
  pub ports : SameBeside nat_cmp t.ports old.ports new.ports
  pub intfs : SameBeside nat_cmp t.intfs old.intfs new.intfs
  pub macs : SameBeside l2_cmp t.macs old.macs new.macs
  pub neighbors : SameBeside neighbor_cmp (t.arps ++ t.ndps) old.neighbors new.neighbors
  pub routes : SameBeside rib_cmp t.routes old.routes new.routes
