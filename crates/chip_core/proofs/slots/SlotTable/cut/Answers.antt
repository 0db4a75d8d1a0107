use Rattle.std.proofs.Common.{length, refl, sym, ap, ◌∙◌, subst, arith}
use Rattle.std.specs.Ordering.{nat_cmp}
use Rattle.keyed.specs.Keyed.{at, without}
use Rattle.keyed.specs.KeyOrders.{nat_order}
use Rattle.keyed.specs.KeyedLaws.{length-without}
use Rattle.keyed.specs.Named.{key_of, AreDistinct}
use Rattle.keyed.specs.NamedLaws.{distinct-without}
use Rattle.chip_core.specs.Taken.{taken}
use Rattle.chip_core.proofs.SlotLaws.{finds-without, indexed}
use Rattle.chip_core.proofs.TakenLaws.{are_slotted}
use Rattle.chip_core.proofs.slots.SlotTable.cut.Goals as goal

pub cut-requires : goal.cut-requires
cut-requires g c =
    let slots = c.self.inside.slots.items in
    let was = c.self.invariant in
    let there = indexed g.N.Ord.cmp g.met.V.Named.order g.V.Named.name c.args.slot c.free_slot-value.result c.self.inside.index.rows (taken 0 slots) was.found was.distinct c.free_slot-value.ensures.old in
    rw c.name.ensures (rw there refl)

pub invariant_of-self : goal.invariant_of-self
invariant_of-self g c =
    let cmp = g.N.Ord.cmp in
    let name = g.V.Named.name in
    let order = g.met.V.Named.order in
    let rows = taken 0 c.self.inside.slots.items in
    let index = c.self.inside.index.rows in
    let was = c.self.invariant in
    let v = c.free_slot-value.result in
    let slot = c.args.slot in
    let there = c.free_slot-value.ensures.old in
    let is_index = c.cut.ensures.rows ∙ ap (λ n. without cmp n index) c.name.ensures in
    let is_rows = c.free_slot-value.ensures.rows in
    let found_there = indexed cmp order name slot v index rows was.found was.distinct there in
    record {
      gaps = c.free_slot-value.ensures.free;
      found = λ n. ap (λ l. at cmp n l) is_index ∙ finds-without cmp order name slot v index rows was.found was.ascends was.distinct there n ∙ ap (λ l. key_of cmp name n l) (sym is_rows);
      distinct = subst (λ l. AreDistinct cmp name l) (sym is_rows) (distinct-without nat_cmp nat_order cmp order name slot rows was.distinct);
      ascends = c.cut.ensures.sorted.ascends;
      same_count = omega (arith, ap length is_index, ap length is_rows, was.same_count, length-without cmp order (name v) slot index found_there, length-without nat_cmp nat_order slot v rows there);
      room = omega (arith, c.free_slot-value.ensures.count, was.room, c.free_slot-value.ensures.room);
      same_room = c.cut.ensures.capacity ∙ was.same_room ∙ sym c.free_slot-value.ensures.room;
      small = rw c.free_slot-value.ensures.room was.small;
    }

pub returns-clause-slotted : goal.returns-clause-slotted
returns-clause-slotted g c = are_slotted g.N.Ord.cmp g.V.Named.name c.free_slot-value.new.slots.items c.free_slot-value.new.free.rows c.cut.new.self.rows c.free_slot-value.new.free.capacity c.cut.new.self.capacity (invariant_of-self g c)
