use Rattle.std.proofs.Common.{◌≡◌, ◌+◌, ◌<◌, ℕ, None, length, sym, ap, ◌∙◌, subst, arith}
use Rattle.std.specs.Ordering.{nat_cmp}
use Rattle.keyed.specs.Keyed.{at, put}
use Rattle.keyed.specs.KeyOrders.{nat_order}
use Rattle.keyed.specs.KeyedLaws.{length-put_new}
use Rattle.keyed.specs.Named.{key_of, AreDistinct}
use Rattle.keyed.specs.NamedLaws.{distinct-put}
use Rattle.chip_core.specs.Taken.{taken}
use Rattle.chip_core.proofs.SlotLaws.{finds-put}
use Rattle.chip_core.proofs.TakenLaws.{are_slotted, name_room}
use Rattle.chip_core.proofs.slots.SlotTable.put_back.Given as given
use Rattle.chip_core.proofs.slots.SlotTable.put_back.Goals as goal

pub put-requires-clause-room : goal.put-requires-clause-room
put-requires-clause-room g c =
    let was = c.self.invariant in
    let slots = c.self.inside.slots.items in
    let free = ap (λ v. at nat_cmp c.args.slot v.rows) c.self.view_is ∙ c.requires.free in
    let within : c.args.slot < length slots = omega (arith, c.requires.below, ap (λ v. v.capacity) c.self.view_is, was.room) in
    omega (arith, name_room slots c.self.inside.free.rows was.gaps c.args.slot within free, was.same_count, was.same_room, was.room)

free : (g : given.Over) (c : goal.After-take_slot g) → at nat_cmp c.args.slot (taken 0 c.self.inside.slots.items) ≡ None
free g c = ap (λ v. at nat_cmp c.args.slot v.rows) c.self.view_is ∙ c.requires.free

absent : (g : given.Over) (c : goal.After-take_slot g) → key_of g.N.Ord.cmp g.V.Named.name (g.V.Named.name c.args.value) (taken 0 c.self.inside.slots.items) ≡ None
absent g c = ap (λ v. key_of g.N.Ord.cmp g.V.Named.name (g.V.Named.name c.args.value) v.rows) c.self.view_is ∙ c.requires.absent

pub invariant_of-self : goal.invariant_of-self
invariant_of-self g c =
    let cmp = g.N.Ord.cmp in
    let name = g.V.Named.name in
    let order = g.met.V.Named.order in
    let rows = taken 0 c.self.inside.slots.items in
    let index = c.self.inside.index.rows in
    let was = c.self.invariant in
    let v = c.args.value in
    let slot = c.args.slot in
    let is_index = c.put.ensures.rows ∙ ap (λ n. put cmp n slot index) c.name.ensures in
    let is_rows = c.take_slot.ensures.rows in
    let none = was.found (name v) ∙ absent g c in
    record {
      gaps = c.take_slot.ensures.free;
      found = λ n. ap (λ l. at cmp n l) is_index ∙ finds-put cmp order name slot v index rows was.found (free g c) (absent g c) n ∙ ap (λ l. key_of cmp name n l) (sym is_rows);
      distinct = subst (λ l. AreDistinct cmp name l) (sym is_rows) (distinct-put nat_cmp nat_order cmp order name slot v rows (free g c) (absent g c) was.distinct);
      ascends = c.put.ensures.sorted.ascends;
      same_count = ap length is_index ∙ length-put_new cmp order (name v) slot index none ∙ ap (λ (n : ℕ). n + 1) was.same_count ∙ sym (ap length is_rows ∙ length-put_new nat_cmp nat_order slot v rows (free g c));
      room = omega (arith, c.take_slot.ensures.count, was.room, c.take_slot.ensures.room);
      same_room = c.put.ensures.capacity ∙ was.same_room ∙ sym c.take_slot.ensures.room;
      small = rw c.take_slot.ensures.room was.small;
    }

pub returns-clause-slotted : goal.returns-clause-slotted
returns-clause-slotted g c = are_slotted g.N.Ord.cmp g.V.Named.name c.take_slot.new.slots.items c.take_slot.new.free.rows c.put.new.self.rows c.take_slot.new.free.capacity c.put.new.self.capacity (invariant_of-self g c)
