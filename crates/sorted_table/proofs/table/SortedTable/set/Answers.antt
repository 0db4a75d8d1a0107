use Rattle.std.proofs.Common.{◌≡◌, length, sym, ap, ◌∙◌, arith}
use Rattle.keyed.specs.ValueLaws.{length-put_there}
use Rattle.sorted_table.specs.Chunks.{joined, parts}
use Rattle.sorted_table.proofs.ChunkLaws.{count_parts}
use Rattle.sorted_table.proofs.table.SortedTable.set.Given as given
use Rattle.sorted_table.proofs.table.SortedTable.set.Goals as goal

-- as many rows as before
same : (g : given.Over) (c : goal.After-set_in g) → length (joined (parts c.set_in.new.chunks.items)) ≡ length (joined (parts c.self.inside.chunks.items))
same g c = ap length c.set_in.ensures.rows ∙ length-put_there g.K.Ord.cmp c.args.key.now c.set_in.result c.args.value (joined (parts c.self.inside.chunks.items)) c.set_in.ensures.old

pub invariant_of-self : goal.invariant_of-self
invariant_of-self g c =
    let was = c.self.invariant in
    record {
      parted = c.set_in.ensures.parted;
      empty = was.empty;
      counted = was.counted ∙ sym (same g c);
      fits = was.fits;
      many = omega (arith, was.many, c.set_in.ensures.count, count_parts c.set_in.new.chunks.items, count_parts c.self.inside.chunks.items);
      has_chunks = omega (arith, was.has_chunks, c.set_in.ensures.count, c.set_in.ensures.room, count_parts c.set_in.new.chunks.items, count_parts c.self.inside.chunks.items);
      has_spare = omega (arith, was.has_spare, c.set_in.ensures.count, count_parts c.set_in.new.chunks.items, count_parts c.self.inside.chunks.items);
      small = was.small;
    }

pub returns-clause-sorted : goal.returns-clause-sorted
returns-clause-sorted g c = record { ascends = c.set_in.ensures.parted.ascends; fits = omega (arith, same g c, c.self.invariant.counted, c.self.invariant.fits) }
