use Rattle.std.proofs.Common.{sym, ap, subst, arith}
use Rattle.chip_core.specs.Slots.{IsLowestFree}
use Rattle.chip_core.proofs.TakenLaws.{first_free}
use Rattle.chip_core.proofs.slots.SlotTable.lowest_free.Goals as goal

pub returns-clause-lowest : goal.returns-clause-lowest
returns-clause-lowest g c =
    let is = first_free c.self.inside.slots.items c.self.inside.free.rows c.in-Some.free.now c.self.invariant.gaps (sym c.in-Some.ensures) in
    subst (λ l. IsLowestFree c.in-Some.free.now.0 l) (ap (λ v. v.rows) c.self.view_is) is.1

pub returns-clause-below : goal.returns-clause-below
returns-clause-below g c =
    let is = first_free c.self.inside.slots.items c.self.inside.free.rows c.in-Some.free.now c.self.invariant.gaps (sym c.in-Some.ensures) in
    omega (arith, is.0, c.self.invariant.room, ap (λ v. v.capacity) c.self.view_is)
