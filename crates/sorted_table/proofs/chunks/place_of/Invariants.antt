use Rattle.std.proofs.Common.{◌≤◌, ◌<◌, ◌-◌, drop, length, take}
use Rattle.keyed.specs.Keyed.{IsBelow}
use Rattle.sorted_table.specs.Chunks.{AreBelow, joined, parts}
use Rattle.sorted_table.proofs.chunks.place_of.Given as goal

abbrev pub invariant-loop-high : goal.invariant-loop-high
invariant-loop-high g l = record {
  order : l.low < l.high;
  within : l.high ≤ length l.chunks;
  below : AreBelow g.K.Ord.cmp (joined (take l.low (parts l.chunks))) l.key;
  above : IsBelow g.K.Ord.cmp l.key (joined (drop l.high (parts l.chunks)));
}

abbrev pub decreases-loop-high : goal.decreases-loop-high
decreases-loop-high g l = l.high - l.low
