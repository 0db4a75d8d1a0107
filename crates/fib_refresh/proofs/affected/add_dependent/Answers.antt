use Rattle.std.proofs.Common.{◌≡◌, true, false, ap, refl, sym, ◌∙◌}
use Rattle.std.specs.List.{list_any}
use Rattle.fib_refresh.specs.Affected.{lies_in}
use Rattle.fib_refresh.proofs.ScanLaws.{scanned-new, scanned-not, scanned-there}
use Rattle.fib_refresh.proofs.affected.add_dependent.Goals as goal

pub returns-then-not-any_lies_in : goal.returns-then-not-any_lies_in
returns-then-not-any_lies_in c = scanned-not c.args.keys.now c.args.key.now c.args.route.now c.args.level.now c.any_lies_in.result (c.any_lies_in.ensures ∙ ap (list_any (lies_in c.args.keys.now c.args.key.now.vrf)) c.hops_of.ensures) c.if-not-any_lies_in.true

pub returns-then-contains : goal.returns-then-contains
returns-then-contains c = scanned-there c.args.keys.now c.args.key.now c.args.route.now c.args.level.now (c.contains.ensures.0 c.if-contains.true)

pub returns : goal.returns
returns c = scanned-new c.args.keys.now c.args.key.now c.args.route.now c.args.level.now _ c.in_ok-level.ensures refl (λ has. let no : true ≡ false = sym (c.contains.ensures.1 has) ∙ c.if-contains.false in cc)
