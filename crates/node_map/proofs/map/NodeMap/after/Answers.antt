use Rattle.std.proofs.Common.{◌∙◌, ap}
use Rattle.std.specs.Ordering.{nat_cmp}
use Rattle.keyed.specs.Ranges.{head_of, past}
use Rattle.node_map.proofs.Links.{view_entries}
use Rattle.node_map.proofs.Order.{after_past}
use Rattle.node_map.proofs.map.NodeMap.after.Goals as goal

pub returns-in-Some : goal.returns-in-Some
returns-in-Some g c =
    let key = c.args.key.now in
    c.after.ensures
    ∙ after_past key c.deref.result.now.entries
    ∙ ap (λ v. head_of (past nat_cmp key v.entries)) c.deref.ensures
    ∙ ap (λ es. head_of (past nat_cmp key es)) (view_entries c.self.inside.root c.self.view_is c.in-Some.is)
