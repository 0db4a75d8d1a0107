use Rattle.std.proofs.Common.{◌≡◌, [], ◌∷◌, length, sym, ap, subst, arith}
use Rattle.sorted_table.specs.Chunks.{IsParted, joined, parts}
use Rattle.sorted_table.proofs.ChunkLaws.{one_empty}
use Rattle.sorted_table.proofs.table.SortedTable.open.Given as given
use Rattle.sorted_table.proofs.table.SortedTable.open.Goals as goal

-- the one chunk that the table begins with
one : (g : given.Over) (c : goal.In_ok-spare g) → parts c.in_ok-chunks.chunks.items ≡ [] ∷ []
one g c = one_empty c.in_ok-chunks.chunks.items c.in_ok-chunks.ensures.count c.in_ok-chunks.ensures.empty

parted : (g : given.Over) (c : goal.In_ok-spare g) → IsParted g.K.Ord.cmp (parts c.in_ok-chunks.chunks.items)
parted g c = subst (λ l. IsParted g.K.Ord.cmp l) (sym (one g c)) (record { ascends = tt; filled = (tt, tt); some = omega arith })

pub invariant_of-result : goal.invariant_of-result
invariant_of-result g c =
    let count = ap length (one g c) in
    record {
      parted = parted g c;
      empty = c.in_ok-spare.ensures.empty;
      counted = sym (ap (λ l. length (joined l)) (one g c));
      fits = omega arith;
      many = omega (arith, count, c.in_ok-spare.ensures.count);
      has_chunks = omega (arith, count, c.in_ok-spare.ensures.count, c.in_ok-chunks.ensures.room);
      has_spare = omega (arith, count, c.in_ok-spare.ensures.count, c.in_ok-spare.ensures.room);
      small = c.ranges.capacity.fits;
    }

pub returns-clause-rows : goal.returns-clause-rows
returns-clause-rows g c = ap joined (one g c)

pub returns-clause-sorted : goal.returns-clause-sorted
returns-clause-sorted g c = record { ascends = (parted g c).ascends; fits = omega (arith, ap (λ l. length (joined l)) (one g c)) }
