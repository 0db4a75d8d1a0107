use Rattle.std.proofs.Common.{flat_map, map}
use Rattle.switch_model.specs.LongestMatch.{connected_keys, routed_key}
use Rattle.plain_looker.specs.ScanLaws.{both_least}
use Rattle.plain_looker.proofs.scan.least_key.Goals as goal

pub returns : goal.returns
returns g c = both_least g.W.Wanted.cmp g.met.W.Wanted.order (g.W.Wanted.test c.args.wanted.now) (flat_map connected_keys c.args.intfs.now) (map routed_key c.args.routes.now) c.least_connected.result c.least_routed.result c.lesser.result c.least_connected.ensures c.least_routed.ensures c.lesser.ensures
