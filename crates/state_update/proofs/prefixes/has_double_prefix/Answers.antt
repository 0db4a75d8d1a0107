use Rattle.std.proofs.Common.{◌≡◌, ℕ, length, map, nat_lt, vec_len, sym, ap, ◌∙◌, arith}
use Rattle.net_types.specs.Cidr.{Cidr}
use Rattle.net_types.specs.KeyOrder.{prefix_cmp, prefix_order}
use Rattle.switch_model.specs.declared.via.Via.{Via}
use Rattle.switch_model.specs.Hops.{has_double}
use Rattle.state_update.proofs.Doubles.{doubles, length-map}
use Rattle.state_update.proofs.prefixes.has_double_prefix.Goals as goal

pub returns : goal.returns
returns c =
    let few : nat_lt (length c.in_ok-prefixes.prefixes.items) (length (map (λ r. r.0) c.args.routes.now)) ≡ has_double prefix_cmp (map (λ r. r.0) c.args.routes.now) = doubles prefix_cmp prefix_order c.in_ok-prefixes.prefixes.items (map (λ r. r.0) c.args.routes.now) c.in_ok-prefixes.ensures.ascending c.in_ok-prefixes.ensures.same in
    let count : vec_len c.in_ok-prefixes.prefixes ≡ length c.in_ok-prefixes.prefixes.items = omega (arith, c.in_ok-prefixes.prefixes.ok.0) in
    ap (λ (n : ℕ). nat_lt n (length c.args.routes.now)) (c.len.ensures ∙ count)
    ∙ ap (λ (n : ℕ). nat_lt (length c.in_ok-prefixes.prefixes.items) n) (sym (length-map (λ (r : Cidr × Via). r.0) c.args.routes.now))
    ∙ few
