use Rattle.std.proofs.Common.{List, ◌∙◌, sym, ap}
use Rattle.net_types.specs.KeyOrder.{l2_cmp}
use Rattle.net_types.specs.Rows.{Rows}
use Rattle.net_types.specs.declared.table.L2Key.{L2Key}
use Rattle.net_types.specs.declared.table.L2Row.{L2Row}
use Rattle.chip_core.specs.Chip.{view_of}
use Rattle.hw_undo.proofs.ChangeLaws.{without-absent}
use Rattle.hw_undo.proofs.l2.remove_row.Goals as goal

pub returns-in-None-None-clause-view : goal.returns-in-None-None-clause-view
returns-in-None-None-clause-view g c =
    let rows : Rows = view_of (g.C.HwSwitch.raw c.args.chip.now) in
    rw c.in-None-None.is-1 (ap (λ (l : List (L2Key × L2Row)). record rows { l2 = l }) (sym (without-absent l2_cmp c.args.key.now rows.l2 (c.requires.old ∙ c.in-None-None.is-0))))
