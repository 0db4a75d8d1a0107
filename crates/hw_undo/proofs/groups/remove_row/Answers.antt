use Rattle.std.proofs.Common.{Bool, List, ◌∙◌, sym, ap}
use Rattle.net_types.specs.KeyOrder.{group_cmp}
use Rattle.net_types.specs.Rows.{Rows}
use Rattle.net_types.specs.declared.table.HostKey.{HostKey}
use Rattle.chip_core.specs.Chip.{view_of}
use Rattle.hw_undo.proofs.ChangeLaws.{without-absent}
use Rattle.hw_undo.proofs.groups.remove_row.Goals as goal

pub returns-in-None-None-clause-view : goal.returns-in-None-None-clause-view
returns-in-None-None-clause-view g c =
    let rows : Rows = view_of (g.C.HwSwitch.raw c.args.chip.now) in
    rw c.in-None-None.is-1 (ap (λ (l : List (List HostKey × List Bool)). record rows { group = l }) (sym (without-absent group_cmp c.args.keys.now rows.group (c.requires.old ∙ c.in-None-None.is-0))))
