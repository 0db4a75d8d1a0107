use Rattle.std.proofs.Common.{◌≡◌, ◌∷◌, ◌++◌, [], append_assoc, sym, ap, subst, ◌∙◌, All, vec_len, ◌<◌, arith}
use Rattle.std.specs.Ordering.{nat_cmp}
use Rattle.std.specs.Vec.Iter.{into_iter_items}
use Rattle.keyed.specs.Keyed.{Ascends}
use Rattle.chip_core.specs.Taken.{taken}
use Rattle.chip_core.proofs.TakenLaws.{next_absent, next_below, next_put}
use Rattle.chip_core.proofs.slots.take_slots.Goals as goal

pub take_slot-requires-clause-empty : goal.take_slot-requires-clause-empty
take_slot-requires-clause-empty g c =
    let rows = taken 0 c.loop-slot.slots.items in
    let rest = into_iter_items c.next.new.self in
    let next : into_iter_items c.loop-slot.slot-iterator ≡ (c.in-Some.slot, c.in-Some.value) ∷ rest = c.in-Some.ensures.steps.0 in
    let all = sym (ap (λ l. rows ++ l) (sym next) ∙ c.loop-slot.invariant.rows) in
    next_absent rows (c.in-Some.slot, c.in-Some.value) rest (subst (λ l. Ascends nat_cmp l) all c.requires.ascends)

pub take_slot-requires-clause-within : goal.take_slot-requires-clause-within
take_slot-requires-clause-within g c =
    let rows = taken 0 c.loop-slot.slots.items in
    let rest = into_iter_items c.next.new.self in
    let next : into_iter_items c.loop-slot.slot-iterator ≡ (c.in-Some.slot, c.in-Some.value) ∷ rest = c.in-Some.ensures.steps.0 in
    let all = sym (ap (λ l. rows ++ l) (sym next) ∙ c.loop-slot.invariant.rows) in
    omega (arith, next_below rows (c.in-Some.slot, c.in-Some.value) rest (vec_len c.args.slots.now) (subst (λ l. All (λ row. row.0 < vec_len c.args.slots.now) l) all c.requires.below), c.loop-slot.invariant.count)

pub loop-slot-preserved : goal.loop-slot-preserved
loop-slot-preserved g c =
    let rows = taken 0 c.loop-slot.slots.items in
    let rest = into_iter_items c.next.new.self in
    let next : into_iter_items c.loop-slot.slot-iterator ≡ (c.in-Some.slot, c.in-Some.value) ∷ rest = c.in-Some.ensures.steps.0 in
    let all = ap (λ l. rows ++ l) (sym next) ∙ c.loop-slot.invariant.rows in
    let more = next_put rows (c.in-Some.slot, c.in-Some.value) rest (subst (λ l. Ascends nat_cmp l) (sym all) c.requires.ascends) in
    record {
      rows = ap (λ l. l ++ rest) (c.take_slot.ensures.rows ∙ more) ∙ append_assoc rows ((c.in-Some.slot, c.in-Some.value) ∷ []) rest ∙ all;
      free = c.take_slot.ensures.free;
      count = c.take_slot.ensures.count ∙ c.loop-slot.invariant.count;
      room = c.take_slot.ensures.room ∙ c.loop-slot.invariant.room;
      can = tt;
      finite = tt;
    }
