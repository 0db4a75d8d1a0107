use Rattle.std.proofs.Common.{subst, sym, ◌∙◌}
use Rattle.switch_model.specs.declared.key.RibKey.{RibKey}
use Rattle.switch_model.specs.declared.record.RouteRec.{RouteRec}
use Rattle.fib_refresh.specs.Affected.{IsScanned}
use Rattle.fib_refresh.proofs.ScanLaws.{scan-end, scan-more, scan-number, scan-start, scan-stop}
use Rattle.fib_refresh.proofs.affected.scan_vrf.Goals as goal

pub loop-number-init : goal.loop-number-init
loop-number-init c = scan-start c.args.routes.now.entries c.into_iter-number-iterator.result c.args.keys.now c.args.vrf c.vrf_key.result c.args.level.now c.vrf_key.ensures (c.into_iter-number-iterator.ensures.into_iter_gives ∙ c.walk_from-number-items.ensures) c.requires c.shape.ensures.ascends

pub returns-then-not-is_in_vrf : goal.returns-then-not-is_in_vrf
returns-then-not-is_in_vrf c = scan-stop c.args.routes.now.entries c.loop-number.number-iterator c.next.new.self c.args.keys.now c.args.vrf c.args.level.now c.loop-number.level (c.in-Some.number.now, c.in-Some.node.now) c.in-Some.ensures.steps c.loop-number.invariant (sym c.is_in_vrf.ensures ∙ c.if-not-is_in_vrf.true)

pub rib_of-requires : goal.rib_of-requires
rib_of-requires c = scan-number c.args.routes.now.entries c.loop-number.number-iterator c.next.new.self c.args.keys.now c.args.vrf c.args.level.now c.loop-number.level (c.in-Some.number.now, c.in-Some.node.now) c.in-Some.ensures.steps c.loop-number.invariant

pub loop-number-preserved : goal.loop-number-preserved
loop-number-preserved c =
    let keys = c.args.keys.now in
    let level = c.loop-number.level in
    let next = c.add_dependent.new.level in
    let scanned = subst (λ (k : RibKey). IsScanned keys k c.in-Some.node.now.value level next) c.rib_of.ensures (subst (λ (r : RouteRec). IsScanned keys c.rib_of.result r level next) c.value.ensures c.in_ok-add_dependent.ensures) in
    scan-more c.args.routes.now.entries c.loop-number.number-iterator c.next.new.self keys c.args.vrf c.args.level.now level (c.in-Some.number.now, c.in-Some.node.now) c.in-Some.ensures.steps c.loop-number.invariant next scanned

pub returns : goal.returns
returns c = scan-end c.args.routes.now.entries c.loop-number.number-iterator c.args.keys.now c.args.vrf c.args.level.now c.loop-number.level c.in-None.ensures.steps.0 c.loop-number.invariant
