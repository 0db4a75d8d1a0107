use Rattle.route_laws.proofs.LocalLaws.{fib-local}
use Rattle.route_laws.proofs.fib.entries_are_local.Goals as goal

pub returns : goal.returns
returns c = record { same = fib-local }
