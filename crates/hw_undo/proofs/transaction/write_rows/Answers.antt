use Rattle.std.proofs.Common.{◌≡◌, ◌+◌, ◌≤◌, ◌∙◌, ap, arith, sym}
use Rattle.net_types.specs.KeyOrder.{group_cmp, route_cmp}
use Rattle.net_types.specs.Rows.{Rows}
use Rattle.chip_core.specs.Changes.{adds}
use Rattle.chip_core.specs.Chip.{view_of}
use Rattle.hw_undo.specs.Counts.{additions, new_rows_in, sum_over}
use Rattle.hw_undo.specs.Phases.{AreAscending, with_new}
use Rattle.hw_undo.proofs.RollBack.{noted-any, noted-as, noted-same, noted-then, noted-where, up_to-any, up_to-then, up_to-where}
use Rattle.hw_undo.proofs.Steps.{all-added, all-ascend, err_of, fits, full-group, full-route, group-ahead, groups-added, hosts-added, hosts-ascend, ok_of, route-ahead, routes-ascend}
use Rattle.chip_core.specs.ViewLaws.{sorted-view}
use Rattle.hw_undo.proofs.Whole.{within-view}
use Rattle.hw_undo.proofs.transaction.write_rows.Goals as goal

pub add_rows-requires-2-clause-ascending : goal.add_rows-requires-2-clause-ascending
add_rows-requires-2-clause-ascending g c = hosts-ascend c.as_slice-host.result.now c.as_slice-host.ensures.ascending

pub add_rows-requires-4-clause-ascending : goal.add_rows-requires-4-clause-ascending
add_rows-requires-4-clause-ascending g c = routes-ascend c.as_slice-route.result.now c.as_slice-route.ensures.ascending

pub returns-then-is_err-clause-some : goal.returns-then-is_err-clause-some
returns-then-is_err-clause-some g c =
    let few : 0 + sum_over new_rows_in c.as_slice-l2.result.now ≤ additions c.args.changes.now = omega (arith, ap (sum_over new_rows_in) c.as_slice-l2.ensures.value) in
    up_to-any (up_to-then (additions c.args.changes.now) few (noted-same _) (err_of c.add_rows.result (sym c.is_err.ensures.value ∙ c.if-is_err.true) c.add_rows.ensures.some))

pub returns-then-is_err-2-clause-some : goal.returns-then-is_err-2-clause-some
returns-then-is_err-2-clause-some g c =
    let first = ok_of c.add_rows.result (sym c.is_err.ensures.value ∙ c.if-is_err.false) c.add_rows.ensures.noted in
    let few : sum_over new_rows_in c.as_slice-l2.result.now + sum_over new_rows_in c.as_slice-host.result.now ≤ additions c.args.changes.now = omega (arith, ap (sum_over new_rows_in) c.as_slice-l2.ensures.value, ap (sum_over new_rows_in) c.as_slice-host.ensures.value) in
    up_to-any (up_to-then (additions c.args.changes.now) few first (err_of c.add_rows-2.result (sym c.is_err-2.ensures.value ∙ c.if-is_err-2.true) c.add_rows-2.ensures.some))

pub returns-then-is_err-3-clause-some : goal.returns-then-is_err-3-clause-some
returns-then-is_err-3-clause-some g c =
    let first = ok_of c.add_rows.result (sym c.is_err.ensures.value ∙ c.if-is_err.false) c.add_rows.ensures.noted in
    let second = ok_of c.add_rows-2.result (sym c.is_err-2.ensures.value ∙ c.if-is_err-2.false) c.add_rows-2.ensures.noted in
    let few : sum_over new_rows_in c.as_slice-l2.result.now + sum_over new_rows_in c.as_slice-host.result.now + sum_over new_rows_in c.as_slice-group.result.now ≤ additions c.args.changes.now = omega (arith, ap (sum_over new_rows_in) c.as_slice-l2.ensures.value, ap (sum_over new_rows_in) c.as_slice-host.ensures.value, ap (sum_over new_rows_in) c.as_slice-group.ensures.value) in
    up_to-then (additions c.args.changes.now) few (noted-any (noted-then first second)) (up_to-where (λ groups is. is ∙ sym c.as_slice-group.ensures.value) (err_of c.add_rows-3.result (sym c.is_err-3.ensures.value ∙ c.if-is_err-3.true) c.add_rows-3.ensures.some))

pub returns-then-is_err-4-clause-some : goal.returns-then-is_err-4-clause-some
returns-then-is_err-4-clause-some g c =
    let first = ok_of c.add_rows.result (sym c.is_err.ensures.value ∙ c.if-is_err.false) c.add_rows.ensures.noted in
    let second = ok_of c.add_rows-2.result (sym c.is_err-2.ensures.value ∙ c.if-is_err-2.false) c.add_rows-2.ensures.noted in
    let third = ok_of c.add_rows-3.result (sym c.is_err-3.ensures.value ∙ c.if-is_err-3.false) c.add_rows-3.ensures.noted in
    let few : sum_over new_rows_in c.as_slice-l2.result.now + sum_over new_rows_in c.as_slice-host.result.now + sum_over new_rows_in c.as_slice-group.result.now + sum_over new_rows_in c.as_slice-route.result.now ≤ additions c.args.changes.now = omega (arith, ap (sum_over new_rows_in) c.as_slice-l2.ensures.value, ap (sum_over new_rows_in) c.as_slice-host.ensures.value, ap (sum_over new_rows_in) c.as_slice-group.ensures.value, ap (sum_over new_rows_in) c.as_slice-route.ensures.value) in
    up_to-then (additions c.args.changes.now) few (noted-then (noted-any (noted-then first second)) (noted-where (λ groups is. is ∙ sym c.as_slice-group.ensures.value) third)) (up_to-any (err_of c.add_rows-4.result (sym c.is_err-4.ensures.value ∙ c.if-is_err-4.true) c.add_rows-4.ensures.some))

pub add_rows-requires-3-clause-closed : goal.add_rows-requires-3-clause-closed
add_rows-requires-3-clause-closed g c =
    let changes = c.args.changes.now in
    let rows : Rows = view_of (g.C.HwSwitch.raw c.args.chip.now) in
    let sound = g.met.C.HwSwitch.sound c.args.chip.now in
    let ascending : AreAscending changes = all-ascend changes _ _ _ _ c.as_slice-l2.ensures.value c.as_slice-host.ensures.value c.as_slice-group.ensures.value c.as_slice-route.ensures.value c.as_slice-l2.ensures.ascending (hosts-ascend _ c.as_slice-host.ensures.ascending) c.as_slice-group.ensures.ascending (routes-ascend _ c.as_slice-route.ensures.ascending) in
    let with_l2 = ok_of c.add_rows.result (sym c.is_err.ensures.value ∙ c.if-is_err.false) c.add_rows.ensures.view in
    let with_hosts = ok_of c.add_rows-2.result (sym c.is_err-2.ensures.value ∙ c.if-is_err-2.false) c.add_rows-2.ensures.view in
    group-ahead changes _ _ _ _ c.as_slice-l2.ensures.value c.as_slice-host.ensures.value c.as_slice-group.ensures.value c.as_slice-route.ensures.value rows _ _ rows rows with_l2 with_hosts ascending (sorted-view _ sound.rows) c.requires.ready c.requires.closed

pub add_rows-requires-4-clause-closed : goal.add_rows-requires-4-clause-closed
add_rows-requires-4-clause-closed g c =
    let changes = c.args.changes.now in
    let rows : Rows = view_of (g.C.HwSwitch.raw c.args.chip.now) in
    let with_l2 = ok_of c.add_rows.result (sym c.is_err.ensures.value ∙ c.if-is_err.false) c.add_rows.ensures.view in
    let with_hosts = ok_of c.add_rows-2.result (sym c.is_err-2.ensures.value ∙ c.if-is_err-2.false) c.add_rows-2.ensures.view in
    let with_groups = ok_of c.add_rows-3.result (sym c.is_err-3.ensures.value ∙ c.if-is_err-3.false) c.add_rows-3.ensures.view in
    route-ahead changes _ _ _ _ c.as_slice-l2.ensures.value c.as_slice-host.ensures.value c.as_slice-group.ensures.value c.as_slice-route.ensures.value rows _ _ _ rows with_l2 with_hosts with_groups c.requires.closed

pub returns-then-is_err-3-clause-first : goal.returns-then-is_err-3-clause-first
returns-then-is_err-3-clause-first g c =
    let changes = c.args.changes.now in
    let rows : Rows = view_of (g.C.HwSwitch.raw c.args.chip.now) in
    let with_l2 = ok_of c.add_rows.result (sym c.is_err.ensures.value ∙ c.if-is_err.false) c.add_rows.ensures.view in
    let with_hosts = ok_of c.add_rows-2.result (sym c.is_err-2.ensures.value ∙ c.if-is_err-2.false) c.add_rows-2.ensures.view in
    let first = ok_of c.add_rows.result (sym c.is_err.ensures.value ∙ c.if-is_err.false) c.add_rows.ensures.noted in
    let second = ok_of c.add_rows-2.result (sym c.is_err-2.ensures.value ∙ c.if-is_err-2.false) c.add_rows-2.ensures.noted in
    let same = second.caps ∙ first.caps in
    let now : Rows = view_of (g.C.HwSwitch.raw c.add_rows-2.new.chip) in
    let reached = hosts-added changes _ _ _ _ c.as_slice-l2.ensures.value c.as_slice-host.ensures.value c.as_slice-group.ensures.value c.as_slice-route.ensures.value rows _ now rows rows with_l2 with_hosts in
    let table = ap (λ x. adds group_cmp x now.group) c.as_slice-group.ensures.value ∙ ap (λ (r : Rows). adds group_cmp changes.group r.group) reached in
    sym (full-group (g.C.HwSwitch.caps c.args.chip.now) (with_new changes rows) _ _ now same table (within-view _ _ _ (g.met.C.HwSwitch.sound c.add_rows-2.new.chip) same) (ap (λ (r : Rows). r.l2) reached) (ap (λ (r : Rows). r.host) reached) (err_of c.add_rows-3.result (sym c.is_err-3.ensures.value ∙ c.if-is_err-3.true) c.add_rows-3.ensures.full))

pub returns-then-is_err-4-clause-first : goal.returns-then-is_err-4-clause-first
returns-then-is_err-4-clause-first g c =
    let changes = c.args.changes.now in
    let rows : Rows = view_of (g.C.HwSwitch.raw c.args.chip.now) in
    let with_l2 = ok_of c.add_rows.result (sym c.is_err.ensures.value ∙ c.if-is_err.false) c.add_rows.ensures.view in
    let with_hosts = ok_of c.add_rows-2.result (sym c.is_err-2.ensures.value ∙ c.if-is_err-2.false) c.add_rows-2.ensures.view in
    let with_groups = ok_of c.add_rows-3.result (sym c.is_err-3.ensures.value ∙ c.if-is_err-3.false) c.add_rows-3.ensures.view in
    let first = ok_of c.add_rows.result (sym c.is_err.ensures.value ∙ c.if-is_err.false) c.add_rows.ensures.noted in
    let second = ok_of c.add_rows-2.result (sym c.is_err-2.ensures.value ∙ c.if-is_err-2.false) c.add_rows-2.ensures.noted in
    let third = ok_of c.add_rows-3.result (sym c.is_err-3.ensures.value ∙ c.if-is_err-3.false) c.add_rows-3.ensures.noted in
    let same = third.caps ∙ second.caps ∙ first.caps in
    let now : Rows = view_of (g.C.HwSwitch.raw c.add_rows-3.new.chip) in
    let reached = groups-added changes _ _ _ _ c.as_slice-l2.ensures.value c.as_slice-host.ensures.value c.as_slice-group.ensures.value c.as_slice-route.ensures.value rows _ _ now rows with_l2 with_hosts with_groups in
    let table = ap (λ x. adds route_cmp x now.route) c.as_slice-route.ensures.value ∙ ap (λ (r : Rows). adds route_cmp changes.route r.route) reached in
    sym (full-route (g.C.HwSwitch.caps c.args.chip.now) (with_new changes rows) _ _ now same table (within-view _ _ _ (g.met.C.HwSwitch.sound c.add_rows-3.new.chip) same) (ap (λ (r : Rows). r.l2) reached) (ap (λ (r : Rows). r.host) reached) (ap (λ (r : Rows). r.group) reached) (err_of c.add_rows-4.result (sym c.is_err-4.ensures.value ∙ c.if-is_err-4.true) c.add_rows-4.ensures.full))

pub returns-clause-first : goal.returns-clause-first
returns-clause-first g c =
    let changes = c.args.changes.now in
    let rows : Rows = view_of (g.C.HwSwitch.raw c.args.chip.now) in
    let with_l2 = ok_of c.add_rows.result (sym c.is_err.ensures.value ∙ c.if-is_err.false) c.add_rows.ensures.view in
    let with_hosts = ok_of c.add_rows-2.result (sym c.is_err-2.ensures.value ∙ c.if-is_err-2.false) c.add_rows-2.ensures.view in
    let with_groups = ok_of c.add_rows-3.result (sym c.is_err-3.ensures.value ∙ c.if-is_err-3.false) c.add_rows-3.ensures.view in
    let whole = ok_of c.add_rows-4.result (sym c.is_err-4.ensures.value ∙ c.if-is_err-4.false) c.add_rows-4.ensures.view in
    let first = ok_of c.add_rows.result (sym c.is_err.ensures.value ∙ c.if-is_err.false) c.add_rows.ensures.noted in
    let second = ok_of c.add_rows-2.result (sym c.is_err-2.ensures.value ∙ c.if-is_err-2.false) c.add_rows-2.ensures.noted in
    let third = ok_of c.add_rows-3.result (sym c.is_err-3.ensures.value ∙ c.if-is_err-3.false) c.add_rows-3.ensures.noted in
    let fourth = ok_of c.add_rows-4.result (sym c.is_err-4.ensures.value ∙ c.if-is_err-4.false) c.add_rows-4.ensures.noted in
    let same = fourth.caps ∙ third.caps ∙ second.caps ∙ first.caps in
    let reached = all-added changes _ _ _ _ c.as_slice-l2.ensures.value c.as_slice-host.ensures.value c.as_slice-group.ensures.value c.as_slice-route.ensures.value rows _ _ _ _ with_l2 with_hosts with_groups whole in
    sym (fits (g.C.HwSwitch.caps c.args.chip.now) (with_new changes rows) _ (within-view _ _ _ (g.met.C.HwSwitch.sound c.add_rows-4.new.chip) same) reached)

pub returns-clause-noted : goal.returns-clause-noted
returns-clause-noted g c =
    let first = ok_of c.add_rows.result (sym c.is_err.ensures.value ∙ c.if-is_err.false) c.add_rows.ensures.noted in
    let second = ok_of c.add_rows-2.result (sym c.is_err-2.ensures.value ∙ c.if-is_err-2.false) c.add_rows-2.ensures.noted in
    let third = ok_of c.add_rows-3.result (sym c.is_err-3.ensures.value ∙ c.if-is_err-3.false) c.add_rows-3.ensures.noted in
    let fourth = ok_of c.add_rows-4.result (sym c.is_err-4.ensures.value ∙ c.if-is_err-4.false) c.add_rows-4.ensures.noted in
    let sum : additions c.args.changes.now ≡ sum_over new_rows_in c.as_slice-l2.result.now + sum_over new_rows_in c.as_slice-host.result.now + sum_over new_rows_in c.as_slice-group.result.now + sum_over new_rows_in c.as_slice-route.result.now = omega (arith, ap (sum_over new_rows_in) c.as_slice-l2.ensures.value, ap (sum_over new_rows_in) c.as_slice-host.ensures.value, ap (sum_over new_rows_in) c.as_slice-group.ensures.value, ap (sum_over new_rows_in) c.as_slice-route.ensures.value) in
    noted-as (additions c.args.changes.now) sum (noted-then (noted-then (noted-any (noted-then first second)) (noted-where (λ groups is. is ∙ sym c.as_slice-group.ensures.value) third)) (noted-any fourth))
