use Rattle.std.proofs.Common.{◌≡◌, true, false, refl, sym, ◌∙◌}
use Rattle.nexthop_resolve.proofs.GatherLaws.{grows_known, grows_route}
use Rattle.nexthop_resolve.proofs.gather.visit.Goals as goal

pub returns-then-contains : goal.returns-then-contains
returns-then-contains c = grows_known c.args.vrf c.args.all.now c.args.prefix.now c.fib_key-key.result c.fib_key-key.ensures.key c.fib_key-key.ensures.range (c.contains.ensures.0 c.if-contains.true)

pub returns : goal.returns
returns c = grows_route c.args.vrf c.args.all.now _ c.args.prefix.now c.fib_key-key.result c.fib_key-key.ensures.key c.fib_key-key.ensures.range c.in_ok-all.ensures c.in_ok-push.ensures.items refl refl refl (λ has. let no : true ≡ false = sym (c.contains.ensures.1 has) ∙ c.if-contains.false in cc)
