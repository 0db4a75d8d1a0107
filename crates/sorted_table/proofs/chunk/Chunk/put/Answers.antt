use Rattle.std.proofs.Common.{◌≤◌, ◌<◌, ap, length, vec_len, vec_capacity, arith, Result, Ok, Err, IsOk, OnOk}
use Rattle.keyed.specs.ValueLaws.{length-put_most}
use Rattle.sorted_table.specs.Rows.{room}
use Rattle.sorted_table.proofs.chunk.Chunk.put.Goals as goal

on_ok : {T E P : Type 0} (r : Result T E) → IsOk r → OnOk r P → P
on_ok (Ok x) is p = p
on_ok (Err e) is p = absurd (cc)

pub invariant_of-self : goal.invariant_of-self
invariant_of-self g c =
    let more = length-put_most g.K.Ord.cmp c.args.key c.args.value c.args.self.now.rows.items in
    let free : vec_len c.args.self.now.rows < vec_capacity c.args.self.now.rows = omega (arith, c.requires.room, c.args.self.now.has_room) in
    let is = ap length (on_ok c.put.result (c.put.ensures.succeeds free) c.put.ensures.ok) in
    let fits : length c.put.new.entries.items ≤ room = omega (arith, more, is, c.requires.room) in
    record { fits = fits; has_room = omega (arith, c.put.ensures.room free, c.args.self.now.has_room) }
