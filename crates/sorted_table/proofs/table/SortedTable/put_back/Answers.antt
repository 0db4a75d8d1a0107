use Rattle.std.proofs.Common.{◌≡◌, ◌<◌, ◌+◌, length, ap, ◌∙◌, arith}
use Rattle.keyed.specs.Keyed.{at}
use Rattle.sorted_table.specs.Chunks.{joined, parts}
use Rattle.sorted_table.proofs.ChunkLaws.{count_parts}
use Rattle.sorted_table.proofs.EditLaws.{few, length-put_new}
use Rattle.sorted_table.proofs.table.SortedTable.put_back.Given as given
use Rattle.sorted_table.proofs.table.SortedTable.put_back.Goals as goal

pub add_in-requires-clause-spare : goal.add_in-requires-clause-spare
add_in-requires-clause-spare g c =
    let was = c.self.invariant in
    omega (arith, was.many, few (parts c.self.inside.chunks.items) was.parted.filled, ap (λ v. length v.rows) c.self.view_is, ap (λ v. v.capacity) c.self.view_is, c.requires.room)

-- one row more than before
more : (g : given.Over) (c : goal.After-add_in g) → length (joined (parts c.add_in.new.chunks.items)) ≡ length (joined (parts c.self.inside.chunks.items)) + 1
more g c = ap length c.add_in.ensures.rows ∙ length-put_new g.K.Ord.cmp g.met.K.Ord.total c.args.key c.args.value (joined (parts c.self.inside.chunks.items)) (ap (λ v. at g.K.Ord.cmp c.args.key v.rows) c.self.view_is ∙ c.requires.absent)

-- and there is room for it
fits : (g : given.Over) (c : goal.After-add_in g) → c.self.inside.count < c.self.inside.capacity
fits g c = omega (arith, c.self.invariant.counted, ap (λ v. length v.rows) c.self.view_is, ap (λ v. v.capacity) c.self.view_is, c.requires.room)

pub invariant_of-self : goal.invariant_of-self
invariant_of-self g c =
    let was = c.self.invariant in
    let now = c.add_in.ensures in
    record {
      parted = now.parted;
      empty = now.empty;
      counted = omega (arith, was.counted, more g c);
      fits = omega (arith, fits g c);
      many = omega (arith, was.many, now.count, count_parts c.add_in.new.chunks.items, count_parts c.self.inside.chunks.items);
      has_chunks = omega (arith, was.has_chunks, now.count, now.room, count_parts c.add_in.new.chunks.items, count_parts c.self.inside.chunks.items);
      has_spare = omega (arith, was.has_spare, now.count, now.spare_room, count_parts c.add_in.new.chunks.items, count_parts c.self.inside.chunks.items);
      small = was.small;
    }

pub returns-clause-sorted : goal.returns-clause-sorted
returns-clause-sorted g c = record { ascends = c.add_in.ensures.parted.ascends; fits = omega (arith, more g c, c.self.invariant.counted, fits g c) }
