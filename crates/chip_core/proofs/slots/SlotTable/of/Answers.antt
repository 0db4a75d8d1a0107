use Rattle.std.proofs.Common.{◌<◌, All, length, sym, ap, ◌∙◌, subst, arith}
use Rattle.std.specs.Ordering.{nat_cmp}
use Rattle.keyed.specs.Keyed.{Ascends}
use Rattle.keyed.specs.Named.{key_of, AreDistinct}
use Rattle.chip_core.proofs.Outcomes.{refused}
use Rattle.chip_core.proofs.SlotLaws.{all-below}
use Rattle.chip_core.proofs.TakenLaws.{are_slotted, few_slots}
use Rattle.chip_core.proofs.slots.SlotTable.of.Goals as goal

pub returns-then-not-are_below-clause-none : goal.returns-then-not-are_below-clause-none
returns-then-not-are_below-clause-none g c is slotted =
    let all = all-below c.args.capacity c.args.rows.items slotted.ascends slotted.below in
    refused c.are_below.result c.are_below.ensures.1 c.if-not-are_below.true (subst (λ l. All (λ row. row.0 < c.args.capacity) l) (sym c.as_slice-2.ensures.value) all)

pub index_of-requires : goal.index_of-requires
index_of-requires g c =
    let rows = c.args.rows.items in
    let asc = subst (λ l. Ascends nat_cmp l) c.as_slice.ensures.value (c.ascends.ensures.0 c.if-not-ascends.false) in
    let all = subst (λ l. All (λ row. row.0 < c.args.capacity) l) c.as_slice-2.ensures.value (c.are_below.ensures.0 c.if-not-are_below.false) in
    omega (arith, few_slots rows c.args.capacity asc all, ap length c.as_slice-3.ensures.value)

pub take_slots-requires-clause-below : goal.take_slots-requires-clause-below
take_slots-requires-clause-below g c k d lt =
    let all = subst (λ l. All (λ row. row.0 < c.args.capacity) l) c.as_slice-2.ensures.value (c.are_below.ensures.0 c.if-not-are_below.false) in
    omega (arith, all k d lt, c.in_ok-slots.ensures.count)

pub invariant_of-result : goal.invariant_of-result
invariant_of-result g c =
    let cmp = g.N.Ord.cmp in
    let name = g.V.Named.name in
    let same = c.as_slice-3.ensures.value ∙ sym c.take_slots.ensures.rows in
    let found = rw c.in-Some.is at c.in_ok-index.ensures.found in
    let distinct = rw c.in-Some.is at c.in_ok-index.ensures.distinct in
    let ascends = rw c.in-Some.is at c.in_ok-index.ensures.ascends in
    let capacity = rw c.in-Some.is at c.in_ok-index.ensures.capacity in
    let count = rw c.in-Some.is at c.in_ok-index.ensures.count in
    let free_room = c.take_slots.ensures.room ∙ c.empty_slots.ensures.room ∙ c.in_ok-free.ensures.capacity in
    record {
      gaps = c.take_slots.ensures.free;
      found = λ n. found n ∙ ap (λ l. key_of cmp name n l) same;
      distinct = subst (λ l. AreDistinct cmp name l) same distinct;
      ascends = ascends;
      same_count = count ∙ ap length same;
      room = omega (arith, c.take_slots.ensures.count, c.in_ok-slots.ensures.count, free_room);
      same_room = capacity ∙ sym free_room;
      small = omega (arith, free_room, c.ranges.capacity.fits);
    }

pub returns-clause-slotted : goal.returns-clause-slotted
returns-clause-slotted g c = are_slotted g.N.Ord.cmp g.V.Named.name c.take_slots.new.slots.items c.take_slots.new.free.rows c.in-Some.index.rows c.take_slots.new.free.capacity c.in-Some.index.capacity (invariant_of-result g c)
