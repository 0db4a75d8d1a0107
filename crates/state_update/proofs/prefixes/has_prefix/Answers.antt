use Rattle.std.proofs.Common.{rules, ◌∙◌}
use Rattle.std.proofs.lemmas.Fn.{always_returns_same}
use Rattle.keyed.specs.SetPlaces.{searched_keys}
use Rattle.net_types.specs.KeyOrder.{prefix_cmp, prefix_order}
use Rattle.state_update.proofs.Doubles.{found_any}
use Rattle.state_update.proofs.prefixes.has_prefix.Goals as goal

pub returns : goal.returns
returns c =
    let by_prefix = c.binary_search_by.ensures.position (λ p. prefix_cmp p c.args.prefix.now) (always_returns_same _ _ _ (λ a r f' called. search rules)) in
    c.is_ok.ensures.value ∙ found_any prefix_cmp prefix_order c.args.prefix.now c.args.prefixes.now c.binary_search_by.result (searched_keys prefix_cmp prefix_order.total c.args.prefix.now c.args.prefixes.now c.binary_search_by.result c.requires c.binary_search_by.ensures.bound by_prefix)
