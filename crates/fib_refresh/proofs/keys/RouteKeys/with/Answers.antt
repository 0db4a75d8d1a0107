use Rattle.std.proofs.Common.{ℕ, List, map, sym, ap, ◌∙◌, subst}
use Rattle.std.specs.List.{All}
use Rattle.std.specs.Ordering.{nat_cmp}
use Rattle.keyed.specs.Sets.{insert}
use Rattle.net_types.specs.KeyOrder.{route_cmp}
use Rattle.state_keys.specs.KeyLaws.{fib_numbering}
use Rattle.state_keys.specs.Numbering.{number_of_key}
use Rattle.state_keys.specs.PartKeys.{fib_number, fib_of, IsFibNumber}
use Rattle.subnet_index.proofs.Numbered.{all_insert, insert_numbered}
use Rattle.fib_refresh.proofs.keys.RouteKeys.with.Goals as goal

pub invariant_of-result : goal.invariant_of-result
invariant_of-result c = subst (λ (xs : List ℕ). All IsFibNumber xs) (sym (c.in_ok-keys.ensures ∙ ap (λ z. insert nat_cmp z c.self.inside.keys) c.fib_key.ensures.key)) (all_insert IsFibNumber (fib_number c.args.key.now) c.self.inside.keys (number_of_key fib_numbering c.args.key.now c.fib_key.ensures.range) c.self.invariant)

pub returns : goal.returns
returns c = ap (map fib_of) (c.in_ok-keys.ensures ∙ ap (λ z. insert nat_cmp z c.self.inside.keys) c.fib_key.ensures.key) ∙ insert_numbered fib_numbering c.args.key.now c.self.inside.keys c.fib_key.ensures.range c.self.invariant ∙ ap (insert route_cmp c.args.key.now) c.self.view_is
