-- What a step of the descent finds.
use Rattle.std.specs.Prelude.{◌≡◌, ◌<◌, ℕ, None, Some, List}
use Rattle.std.specs.List.Sorted.{IsStrictlySortedBy}
use Rattle.net_types.specs.declared.ip.Ip.{Ip}
use Rattle.net_types.specs.declared.table.RouteKey.{RouteKey}
use Rattle.net_types.specs.KeyOrder.{route_cmp}
use Rattle.route_laws.specs.Descent.{longest_key, ArePrefixKeys, AreUpTo}
use Rattle.rib_descent.specs.declared.descent.Step.{Step}
use Rattle.rib_descent.specs.declared.descent.Step.TheVariants.{Found, Absent, Shorter}

-- the keys ascend and are prefixes
pub record IsKeyTable (keys : List RouteKey) : Type 0 where
  pub ascend : IsStrictlySortedBy route_cmp keys
  pub prefixes : ArePrefixKeys keys

-- the longest match, or that there is none, or a shorter bound past which no key that matches stands
abbrev pub IsStepResult : List RouteKey → ℕ → Ip → ℕ → Step → Type 0
IsStepResult keys vrf ip len (Found key) = longest_key vrf ip keys ≡ Some key
IsStepResult keys vrf ip len Absent = longest_key vrf ip keys ≡ None
IsStepResult keys vrf ip len (Shorter next) = (next < len) × AreUpTo keys vrf ip next
