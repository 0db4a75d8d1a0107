use Rattle.std.proofs.Common.{◌≡◌, ◌+◌, length, ap, ◌∙◌, arith}
use Rattle.sorted_table.specs.Chunks.{joined, parts}
use Rattle.sorted_table.proofs.ChunkLaws.{count_parts}
use Rattle.sorted_table.proofs.EditLaws.{length-without}
use Rattle.sorted_table.proofs.table.SortedTable.cut.Given as given
use Rattle.sorted_table.proofs.table.SortedTable.cut.Goals as goal

-- one row less than before
less : (g : given.Over) (c : goal.After-cut_from g) → length (joined (parts c.cut_from.new.chunks.items)) + 1 ≡ length (joined (parts c.self.inside.chunks.items))
less g c = ap (λ l. length l + 1) c.cut_from.ensures.rows ∙ length-without g.K.Ord.cmp g.met.K.Ord.total c.args.key.now c.cut_from.result (joined (parts c.self.inside.chunks.items)) c.cut_from.ensures.old

pub invariant_of-self : goal.invariant_of-self
invariant_of-self g c =
    let was = c.self.invariant in
    let now = c.cut_from.ensures in
    record {
      parted = now.parted;
      empty = now.empty;
      counted = omega (arith, was.counted, less g c);
      fits = omega (arith, was.fits);
      many = omega (arith, was.many, now.count, count_parts c.cut_from.new.chunks.items, count_parts c.self.inside.chunks.items);
      has_chunks = omega (arith, was.has_chunks, now.count, now.room, count_parts c.cut_from.new.chunks.items, count_parts c.self.inside.chunks.items);
      has_spare = omega (arith, was.has_spare, now.count, now.spare_room, count_parts c.cut_from.new.chunks.items, count_parts c.self.inside.chunks.items);
      small = was.small;
    }

pub returns-clause-sorted : goal.returns-clause-sorted
returns-clause-sorted g c = record { ascends = c.cut_from.ensures.parted.ascends; fits = omega (arith, less g c, c.self.invariant.counted, c.self.invariant.fits) }
