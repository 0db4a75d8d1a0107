use Rattle.route_laws.proofs.RankLaws.{cpu_next, drop_last, hosts_first, none_reached}
use Rattle.route_laws.proofs.fib.hosts_go_before_cpu_and_drop.Goals as goal

pub returns-clause-hosts : goal.returns-clause-hosts
returns-clause-hosts c = hosts_first

pub returns-clause-cpu : goal.returns-clause-cpu
returns-clause-cpu c = cpu_next

pub returns-clause-drop : goal.returns-clause-drop
returns-clause-drop c = drop_last

pub returns-clause-none : goal.returns-clause-none
returns-clause-none c = none_reached
