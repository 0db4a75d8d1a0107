use Rattle.std.proofs.Common.{◌≡◌, IfOk, List, subst}
use Rattle.net_types.specs.Derived.{host-derived, host_order-derived}
use Rattle.net_types.specs.declared.table.HostKey.{HostKey}
use Rattle.net_types.specs.declared.table.HostRow.{HostRow}
use Rattle.switch_state.specs.Plain.{plain}
use Rattle.row_sources.proofs.HostLaws.{host_rows_are}
use Rattle.row_sources.proofs.host.host_rows.Goals as goal

pub distinct-keys-requires : goal.distinct-keys-requires
distinct-keys-requires c = host_order-derived

pub returns : goal.returns
returns c = subst (λ (l : List (HostKey × HostRow)). IfOk c.rows_of_hosts-list.result (λ list. list.items ≡ l)) (host_rows_are (plain c.args.state.now) _ host-derived c.in_ok-host_keys.field-0.items c.distinct-keys.result.items c.as_slice.result.now c.in_ok-host_keys.ensures c.distinct-keys.ensures c.as_slice.ensures.value) c.rows_of_hosts-list.ensures
