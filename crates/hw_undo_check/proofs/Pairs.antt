-- The pairs of hosts of the cases are groups, each with two marks.
use Rattle.std.proofs.Common.{◌≡◌, ◌≤◌, false, None, Some, [], ◌∷◌, refl, arith}
use Rattle.std.specs.List.{IsDistinct}
use Rattle.std.specs.Ordering.{eq_by_cmp}
use Rattle.net_types.specs.KeyOrder.{host_cmp}
use Rattle.net_types.specs.declared.table.HostKey.{HostKey}
use Rattle.chip_core.specs.ChangeLists.{AreGroupChanges, IsGroupChange}
use Rattle.hw_undo_check.specs.Cases.{group_case, live, moved_route_case}
use Rattle.hw_undo_check.specs.Samples.{host}

two : 2 ≤ 2
two = omega arith

most : 2 ≤ 64
most = omega arith

apart : (a b : HostKey) → eq_by_cmp host_cmp a b ≡ false → IsDistinct (eq_by_cmp host_cmp) (a ∷ b ∷ [])
unfolding IsDistinct
apart a b other = ((other, tt), (tt, tt))

comes : (a b : HostKey) → eq_by_cmp host_cmp a b ≡ false → IsGroupChange (a ∷ b ∷ [], None, Some live)
comes a b other = record { length = (two, most); once = apart a b other; old = tt; new = refl }

goes : (a b : HostKey) → eq_by_cmp host_cmp a b ≡ false → IsGroupChange (a ∷ b ∷ [], Some live, None)
goes a b other = record { length = (two, most); once = apart a b other; old = refl; new = tt }

pub are-pairs : AreGroupChanges group_case.changes.group
are-pairs = (comes (host 1) (host 2) refl, (comes (host 1) (host 3) refl, (comes (host 1) (host 4) refl, (comes (host 2) (host 3) refl, tt))))

pub are-two : AreGroupChanges moved_route_case.changes.group
are-two = (goes (host 1) (host 2) refl, (comes (host 2) (host 3) refl, tt))
