use Rattle.std.proofs.Common.{◌≡◌, IfOk, List, subst}
use Rattle.net_types.specs.declared.table.HopTarget.{HopTarget}
use Rattle.net_types.specs.declared.table.RouteKey.{RouteKey}
use Rattle.row_sources.proofs.RowLaws.{routes_are}
use Rattle.row_sources.proofs.route.route_rows.Goals as goal

pub rows_of_entries-requires : goal.rows_of_entries-requires
rows_of_entries-requires c = c.fibs.ensures.part.numbers

pub returns : goal.returns
returns c = subst (λ (l : List (RouteKey × HopTarget)). IfOk c.rows_of_entries.result (λ list. list.items ≡ l)) (routes_are c.args.state.now c.requires.fib c.fibs.result.now c.fibs.ensures.map) c.rows_of_entries.ensures
