use Rattle.std.proofs.Common.{None, set, sym, ap, subst, ◌∙◌, arith}
use Rattle.std.specs.Ordering.{nat_cmp}
use Rattle.keyed.specs.Keyed.{at}
use Rattle.chip_core.specs.Taken.{AreFree, taken}
use Rattle.chip_core.proofs.RawLaws.{none_there}
use Rattle.chip_core.proofs.TakenLaws.{free_give, gap_room, not_free, read-taken, taken-unset, taken_within}
use Rattle.chip_core.proofs.slots.free_slot.Goals as goal

pub put-requires-clause-absent : goal.put-requires-clause-absent
put-requires-clause-absent g c = not_free c.args.slots.now.items c.args.free.now.rows c.requires.free c.args.slot c.requires.taken

pub put-requires-clause-room : goal.put-requires-clause-room
put-requires-clause-room g c = omega (arith, gap_room c.args.slots.now.items c.args.free.now.rows c.requires.free c.args.slot c.requires.taken, c.requires.room)

pub index_mut-requires : goal.index_mut-requires
index_mut-requires g c = omega (arith, taken_within c.args.slot c.args.slots.now.items c.requires.taken)

pub unreachable-requires : goal.unreachable-requires
unreachable-requires g c =
    let slots = c.args.slots.now.items in
    let read = read-taken c.args.slot slots c.index_mut.result.now (taken_within c.args.slot slots c.requires.taken) c.index_mut.ensures.value in
    none_there (at nat_cmp c.args.slot (taken 0 slots)) c.requires.taken (read ∙ sym c.take.ensures.value ∙ c.in-None.is)

pub returns-clause-old : goal.returns-clause-old
returns-clause-old g c =
    let slots = c.args.slots.now.items in
    read-taken c.args.slot slots c.index_mut.result.now (taken_within c.args.slot slots c.requires.taken) c.index_mut.ensures.value ∙ sym c.take.ensures.value ∙ c.in-Some.is

pub returns-clause-rows : goal.returns-clause-rows
returns-clause-rows g c =
    let slots = c.args.slots.now.items in
    ap (λ o. taken 0 (set slots c.args.slot o)) c.take.ensures.after ∙ taken-unset c.args.slot slots (taken_within c.args.slot slots c.requires.taken)

pub returns-clause-free : goal.returns-clause-free
returns-clause-free g c =
    let slots = c.args.slots.now.items in
    let read = read-taken c.args.slot slots c.index_mut.result.now (taken_within c.args.slot slots c.requires.taken) c.index_mut.ensures.value in
    let made = free_give slots c.args.free.now.rows c.requires.free c.args.slot c.in-Some.value (read ∙ sym c.take.ensures.value ∙ c.in-Some.is) in
    subst (λ o. AreFree (set slots c.args.slot o) c.put.new.self.rows) (sym c.take.ensures.after) (subst (λ l. AreFree (set slots c.args.slot None) l) (sym c.put.ensures.rows) made)
