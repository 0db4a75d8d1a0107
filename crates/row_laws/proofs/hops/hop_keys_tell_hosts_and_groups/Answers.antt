use Rattle.row_laws.proofs.HopLaws.{group_by_hop, host_by_hop}
use Rattle.row_laws.proofs.hops.hop_keys_tell_hosts_and_groups.Goals as goal

pub returns-clause-host : goal.returns-clause-host
returns-clause-host c = host_by_hop

pub returns-clause-group : goal.returns-clause-group
returns-clause-group c = group_by_hop
