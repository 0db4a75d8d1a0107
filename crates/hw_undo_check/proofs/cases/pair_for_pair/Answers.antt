use Rattle.std.proofs.Common.{refl, subst, sym}
use Rattle.chip_core.specs.ChangeLists.{AreGroupChanges}
use Rattle.hw_undo_check.proofs.Pairs.{are-two}
use Rattle.hw_undo_check.proofs.cases.pair_for_pair.Goals as goal

pub group_list_of-requires-clause-ascending : goal.group_list_of-requires-clause-ascending
group_list_of-requires-clause-ascending c =
    let items = rw (c.in_ok-old.ensures, c.in_ok-new.ensures, c.in_ok-marks.ensures, c.in_ok-more.ensures) at c.in_ok-vec.ensures.items in
    rw items (refl, (tt, tt))

pub group_list_of-requires-clause-groups : goal.group_list_of-requires-clause-groups
group_list_of-requires-clause-groups c =
    let items = rw (c.in_ok-old.ensures, c.in_ok-new.ensures, c.in_ok-marks.ensures, c.in_ok-more.ensures) at c.in_ok-vec.ensures.items in
    subst AreGroupChanges (sym items) are-two

pub returns : goal.returns
returns c =
    let items = rw (c.in_ok-old.ensures, c.in_ok-new.ensures, c.in_ok-marks.ensures, c.in_ok-more.ensures) at c.in_ok-vec.ensures.items in
    rw items at c.group_list_of.ensures
