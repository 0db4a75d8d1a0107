-- The first table whose rows differ.
use Rattle.std.specs.Prelude.{◌≡◌, ◌&&◌, Bool, Option, None, Some, List, [], ◌∷◌, if◌then◌else◌}
use Rattle.std.specs.Bool.{beq}
use Rattle.std.specs.Cmp.Lexicographic.{pointwise}
use Rattle.std.specs.Ordering.{eq_by_cmp}
use Rattle.std.specs.declared.cmp.Ordering.{Ordering}
use Rattle.net_types.specs.Differ.{same_host, same_l2, same_target}
use Rattle.net_types.specs.KeyOrder.{group_cmp, host_cmp, l2_cmp, route_cmp}
use Rattle.net_types.specs.Rows.{Rows}
use Rattle.net_types.specs.declared.table.Table.{Table}
use Rattle.net_types.specs.declared.table.Table.TheVariants.{L2, Host, Group, Route}

-- whether two lists have the same keys in the same order, each with the same row
abbrev pub same_entries : {K V : Type 0} → (K → K → Ordering) → (V → V → Bool) → List (K × V) → List (K × V) → Bool
same_entries cmp same = pointwise (λ x y. eq_by_cmp cmp x.0 y.0 && same x.1 y.1)

-- a table, and whether its rows are the same in both
pub record Comparison : Type 0 where
  pub table : Table
  pub same : Bool

-- the comparison of each table, in the order in which the tables are written
abbrev pub comparisons : Rows → Rows → List Comparison
comparisons a b =
    (record { table = L2; same = same_entries l2_cmp same_l2 a.l2 b.l2 })
    ∷ (record { table = Host; same = same_entries host_cmp same_host a.host b.host })
    ∷ (record { table = Group; same = same_entries group_cmp (pointwise beq) a.group b.group })
    ∷ (record { table = Route; same = same_entries route_cmp same_target a.route b.route })
    ∷ []

-- the first of these tables whose rows aren't the same
abbrev pub first_unlike : List Comparison → Option Table
first_unlike [] = None
first_unlike (c ∷ cs) = if c.same then first_unlike cs else Some c.table

-- the first table, of l2, host, group and route in this order, whose rows differ
abbrev pub first_differing : Rows → Rows → Option Table
first_differing a b = first_unlike (comparisons a b)

-- the table's rows are the same in both
abbrev pub SameIn : Table → Rows → Rows → Type 0
SameIn L2 a b = a.l2 ≡ b.l2
SameIn Host a b = a.host ≡ b.host
SameIn Group a b = a.group ≡ b.group
SameIn Route a b = a.route ≡ b.route

-- and so are those of each table before it
abbrev pub SameBefore : Table → Rows → Rows → Type 0
SameBefore L2 a b = Unit {0}
SameBefore Host a b = SameIn L2 a b
SameBefore Group a b = SameIn L2 a b × SameIn Host a b
SameBefore Route a b = SameIn L2 a b × SameIn Host a b × SameIn Group a b
