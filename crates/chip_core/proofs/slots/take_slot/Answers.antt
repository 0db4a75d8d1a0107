use Rattle.std.proofs.Common.{Some, set, refl, sym, subst, arith}
use Rattle.chip_core.specs.Taken.{AreFree}
use Rattle.chip_core.proofs.TakenLaws.{free_take, is_free, taken-set}
use Rattle.chip_core.proofs.slots.take_slot.Goals as goal

pub cut-requires : goal.cut-requires
cut-requires g c = rw (is_free c.args.slots.now.items c.args.free.now.rows c.requires.free c.args.slot (omega (arith, c.requires.within)) c.requires.empty) refl

pub returns-clause-rows : goal.returns-clause-rows
returns-clause-rows g c = taken-set c.args.slot c.args.value c.args.slots.now.items (omega (arith, c.requires.within))

pub returns-clause-free : goal.returns-clause-free
returns-clause-free g c =
    let slots = c.args.slots.now.items in
    subst (λ l. AreFree (set slots c.args.slot (Some c.args.value)) l) (sym c.cut.ensures.rows) (free_take slots c.args.free.now.rows c.requires.free c.args.slot c.args.value (omega (arith, c.requires.within)) c.requires.empty)
