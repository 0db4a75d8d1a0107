use Rattle.std.proofs.Common.{◌≡◌, Bool, IfOk, List, subst}
use Rattle.net_types.specs.Derived.{group-derived}
use Rattle.net_types.specs.declared.table.HostKey.{HostKey}
use Rattle.row_sources.proofs.RowLaws.{group_order-derived, group_rows_are}
use Rattle.row_sources.proofs.group.group_rows.Goals as goal

pub distinct-keys-requires : goal.distinct-keys-requires
distinct-keys-requires c = group_order-derived

pub returns : goal.returns
returns c = subst (λ (l : List (List HostKey × List Bool)). IfOk c.rows_of_groups.result (λ list. list.items ≡ l)) (group_rows_are c.args.state.now c.requires.fib c.fibs.result.now _ group-derived c.in_ok-group_keys.field-0.items c.distinct-keys.result.items c.fibs.ensures.map c.in_ok-group_keys.ensures c.distinct-keys.ensures) c.rows_of_groups.ensures
