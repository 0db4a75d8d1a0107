use Rattle.std.proofs.Common.{◌∙◌, ap}
use Rattle.keyed.specs.Named.{gathered}
use Rattle.net_types.specs.KeyOrder.{host_cmp}
use Rattle.net_types.specs.declared.table.HostKey.{HostKey}
use Rattle.net_types.specs.declared.table.HostRow.{HostRow}
use Rattle.chip_core.specs.Slots.{Hosts, host_entries}
use Rattle.chip_rows.proofs.RowLaws.{distinct-hosts, rows-joined}
use Rattle.chip_rows.proofs.read.rows_of.Goals as goal

pub host_rows-requires : goal.host_rows-requires
host_rows-requires c = distinct-hosts c.args.tables.now c.requires.consistent c.as_slice.result.now c.as_slice.ensures

pub returns : goal.returns
returns c =
    let raw = c.args.tables.now in
    let host = c.from_vec.ensures ∙ c.in_ok-host.ensures ∙ ap (λ (hosts : Hosts). gathered host_cmp (λ (h : HostKey × HostRow). h) (host_entries hosts)) c.as_slice.ensures in
    record { rows = c.of.ensures ∙ rows-joined raw c.in_ok-l2.l2 c.from_vec.result c.from_vec-2.result c.from_vec-3.result c.in_ok-l2.ensures.same host (c.from_vec-2.ensures ∙ c.in_ok-group.ensures.group) (c.from_vec-3.ensures ∙ c.in_ok-group.ensures.route) }
