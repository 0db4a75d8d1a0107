use Rattle.std.proofs.Common.{Ok, Err, rules, is_eq, sym, ap, ◌∙◌}
use Rattle.std.proofs.lemmas.Fn.{always_returns_same}
use Rattle.std.specs.List.{list_any}
use Rattle.keyed.specs.SetPlaces.{searched_keys}
use Rattle.net_types.specs.KeyOrder.{prefix_cmp}
use Rattle.switch_model.specs.Addresses.{addr_cmp, addr_total, same_addr}
use Rattle.switch_model.proofs.AnyAtPlace.{any_at_place, none_at_gap, same_ip}
use Rattle.switch_model.proofs.addrs.AddrList.has_addr.Goals as goal

pub returns-in-Ok : goal.returns-in-Ok
returns-in-Ok c =
    let wanted = c.args.wanted.now in
    let by_ip = c.in-Ok.ensures.position (λ a. addr_cmp a wanted) (always_returns_same _ _ _ (λ a r f' called. search rules)) in
    let place = rw c.deref.ensures.value at (searched_keys addr_cmp addr_total wanted c.deref.result.now (Ok c.in-Ok.place) (rw c.deref.ensures.value c.self.invariant) c.in-Ok.ensures.bound by_ip) in
    c.is_eq.ensures
    ∙ ap is_eq (c.compare_addrs.ensures ∙ ap (prefix_cmp wanted) c.index.ensures)
    ∙ sym (any_at_place addr_cmp addr_total wanted (same_addr wanted) (same_ip wanted) c.self.inside.addrs.items c.in-Ok.place c.index.result.now c.self.invariant place)
    ∙ ap (list_any (same_addr wanted)) c.self.view_is

pub returns-in-Err : goal.returns-in-Err
returns-in-Err c =
    let wanted = c.args.wanted.now in
    let by_ip = c.in-Err.ensures.position (λ a. addr_cmp a wanted) (always_returns_same _ _ _ (λ a r f' called. search rules)) in
    let place = rw c.deref.ensures.value at (searched_keys addr_cmp addr_total wanted c.deref.result.now (Err c.in-Err.field-0) (rw c.deref.ensures.value c.self.invariant) c.in-Err.ensures.bound by_ip) in
    sym (none_at_gap addr_cmp addr_total wanted (same_addr wanted) (same_ip wanted) c.self.inside.addrs.items c.in-Err.field-0 place)
    ∙ ap (list_any (same_addr wanted)) c.self.view_is
