use Rattle.std.proofs.Common.{◌<◌, ◌++◌, length, sym, ap, subst, ◌∙◌, arith}
use Rattle.keyed.specs.Keyed.{Ascends, put}
use Rattle.sorted_table.proofs.ChunkLaws.{ascends_before, ascends_behind, below_half, put_before, put_behind}
use Rattle.sorted_table.proofs.EditLaws.{length-put}
use Rattle.sorted_table.proofs.edits.put_half.Goals as goal

pub put-requires-clause-ascends : goal.put-requires-clause-ascends
put-requires-clause-ascends g c = ascends_before g.K.Ord.cmp g.met.K.Ord.total c.halve.new.self.rows.items c.halve.new.upper.rows.items (subst (λ l. Ascends g.K.Ord.cmp l) (sym c.halve.ensures.rows) c.requires.ascends)

pub put-requires-else-is_above-clause-ascends : goal.put-requires-else-is_above-clause-ascends
put-requires-else-is_above-clause-ascends g c = ascends_behind g.K.Ord.cmp g.met.K.Ord.total c.halve.new.self.rows.items c.halve.new.upper.rows.items (subst (λ l. Ascends g.K.Ord.cmp l) (sym c.halve.ensures.rows) c.requires.ascends)

pub returns-then-is_above : goal.returns-then-is_above
returns-then-is_above g c =
    let cmp = g.K.Ord.cmp in
    let lower = c.halve.new.self.rows.items in
    let upper = c.halve.new.upper.rows.items in
    record { rows = ap (λ l. l ++ upper) c.put.ensures ∙ sym (put_before cmp g.met.K.Ord.total c.args.key c.args.value lower upper (c.is_above.ensures.above c.if-is_above.true)) ∙ ap (λ l. put cmp c.args.key c.args.value l) c.halve.ensures.rows; lower = omega (arith, ap length c.put.ensures, length-put cmp g.met.K.Ord.total c.args.key c.args.value lower, c.halve.ensures.lower); upper = omega (arith, c.halve.ensures.upper) }

pub returns-else-is_above : goal.returns-else-is_above
returns-else-is_above g c =
    let cmp = g.K.Ord.cmp in
    let lower = c.halve.new.self.rows.items in
    let upper = c.halve.new.upper.rows.items in
    let some : 0 < length upper = omega (arith, c.halve.ensures.upper) in
    let below = below_half cmp g.met.K.Ord.total c.args.key lower upper (subst (λ l. Ascends cmp l) (sym c.halve.ensures.rows) c.requires.ascends) some (c.is_above.ensures.not c.if-is_above.false some) in
    record { rows = ap (λ l. lower ++ l) c.put-else-is_above.ensures ∙ sym (put_behind cmp g.met.K.Ord.total c.args.key c.args.value lower upper below) ∙ ap (λ l. put cmp c.args.key c.args.value l) c.halve.ensures.rows; lower = omega (arith, c.halve.ensures.lower); upper = omega (arith, ap length c.put-else-is_above.ensures, length-put cmp g.met.K.Ord.total c.args.key c.args.value upper, c.halve.ensures.upper) }
