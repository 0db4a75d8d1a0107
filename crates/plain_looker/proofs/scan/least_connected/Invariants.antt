use Rattle.std.proofs.Common.{◌≡◌, take, flat_map}
use Rattle.keyed.specs.Least.{least_of}
use Rattle.switch_model.specs.LongestMatch.{connected_keys}
use Rattle.plain_looker.proofs.scan.least_connected.Given as goal

abbrev pub invariant-loop-entry : goal.invariant-loop-entry
invariant-loop-entry g l = l.least ≡ least_of g.W.Wanted.cmp (g.W.Wanted.test l.wanted) (flat_map connected_keys (take l.entry-index l.intfs))
