use Rattle.std.proofs.Common.{◌≡◌, ◌++◌, drop}
use Rattle.std.specs.Prelude.{filter_map}
use Rattle.switch_model.specs.Rows.{host_of_hop}
use Rattle.row_sources.proofs.entry.hop_hosts.Given as goal

abbrev pub invariant-loop-hop : goal.invariant-loop-hop
invariant-loop-hop l = l.hosts.items ++ filter_map host_of_hop (drop l.hop-index l.hops) ≡ filter_map host_of_hop l.hops
