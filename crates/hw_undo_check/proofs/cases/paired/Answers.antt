use Rattle.std.proofs.Common.{◌∷◌, ◌∙◌, [], List, ap}
use Rattle.net_types.specs.declared.group.Member.{Member}
use Rattle.hw_undo_check.proofs.cases.paired.Goals as goal

pub returns : goal.returns
returns c =
    let hosts = c.from_vec.ensures ∙ (rw (c.host_of-first.ensures, c.host_of-second.ensures, c.host_row-row.ensures) at c.in_ok-vec.ensures.items) in
    let members = c.from_vec-2.ensures ∙ c.in_ok-pair.ensures.items ∙ c.members.ensures in
    let groups = c.from_vec-3.ensures ∙ c.in_ok-vec-2.ensures.items ∙ ap (λ (m : List Member). (0, m) ∷ []) members in
    let routes = c.from_vec-4.ensures ∙ (rw c.route_of-route.ensures at c.in_ok-vec-3.ensures.items) in
    λ i. record { l2 = c.new.ensures i; host = hosts i; group = groups i; route = routes i }
