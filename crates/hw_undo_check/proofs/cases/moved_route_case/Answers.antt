use Rattle.std.proofs.Common.{◌∙◌}
use Rattle.hw_undo_check.proofs.May.{may-moved}
use Rattle.hw_undo_check.proofs.Oks.{both_parts, such_parts}
use Rattle.hw_undo_check.proofs.cases.moved_route_case.Goals as goal

pub list_of-requires : goal.list_of-requires
list_of-requires c =
    let items = rw c.in_ok-moved.ensures at c.in_ok-vec.ensures.items in
    rw items (tt, tt)

pub returns-clause-case : goal.returns-clause-case
returns-clause-case c =
    let items = rw c.in_ok-moved.ensures at c.in_ok-vec.ensures.items in
    let routes = c.in_ok-routes.ensures ∙ items in
    both_parts c.repaired.result _ _ c.repaired.ensures.tables (rw routes at c.repaired.ensures.changes)

pub returns-clause-may : goal.returns-clause-may
returns-clause-may c =
    let items = rw c.in_ok-moved.ensures at c.in_ok-vec.ensures.items in
    let routes = c.in_ok-routes.ensures ∙ items in
    such_parts c.repaired.result _ _ c.repaired.ensures.tables (rw routes at c.repaired.ensures.changes) may-moved
