use Rattle.std.proofs.Common.{◌≡◌, take, map}
use Rattle.keyed.specs.Least.{least_of}
use Rattle.switch_model.specs.LongestMatch.{routed_key}
use Rattle.plain_looker.proofs.scan.least_routed.Given as goal

abbrev pub invariant-loop-entry : goal.invariant-loop-entry
invariant-loop-entry g l = l.least ≡ least_of g.W.Wanted.cmp (g.W.Wanted.test l.wanted) (map routed_key (take l.entry-index l.routes))
