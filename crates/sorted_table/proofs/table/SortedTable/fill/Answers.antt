use Rattle.std.proofs.Common.{◌≡◌, ◌∷◌, ◌++◌, [], append_assoc, sym, ap, subst, ◌∙◌}
use Rattle.std.specs.Vec.Iter.{into_iter_items}
use Rattle.keyed.specs.Keyed.{Ascends}
use Rattle.sorted_table.proofs.ChunkLaws.{next_absent, next_put}
use Rattle.sorted_table.proofs.table.SortedTable.fill.Goals as goal

pub put-requires-clause-absent : goal.put-requires-clause-absent
put-requires-clause-absent g c =
    let rows = c.loop-key.self.rows in
    let rest = into_iter_items c.next.new.self in
    let next : into_iter_items c.loop-key.key-iterator ≡ (c.in-Some.key, c.in-Some.value) ∷ rest = c.in-Some.ensures.steps.0 in
    let all = sym (ap (λ l. rows ++ l) (sym next) ∙ c.loop-key.invariant.rows) in
    next_absent g.K.Ord.cmp g.met.K.Ord.total rows (c.in-Some.key, c.in-Some.value) rest (subst (λ l. Ascends g.K.Ord.cmp l) all c.requires.ascends)

pub loop-key-preserved : goal.loop-key-preserved
loop-key-preserved g c =
    let rows = c.loop-key.self.rows in
    let rest = into_iter_items c.next.new.self in
    let next : into_iter_items c.loop-key.key-iterator ≡ (c.in-Some.key, c.in-Some.value) ∷ rest = c.in-Some.ensures.steps.0 in
    let all = ap (λ l. rows ++ l) (sym next) ∙ c.loop-key.invariant.rows in
    let more = next_put g.K.Ord.cmp g.met.K.Ord.total rows (c.in-Some.key, c.in-Some.value) rest (subst (λ l. Ascends g.K.Ord.cmp l) (sym all) c.requires.ascends) in
    record {
      rows = ap (λ l. l ++ rest) (c.put.ensures.rows ∙ more) ∙ append_assoc rows ((c.in-Some.key, c.in-Some.value) ∷ []) rest ∙ all;
      capacity = c.put.ensures.capacity ∙ c.loop-key.invariant.capacity;
      can = tt;
      finite = tt;
    }
