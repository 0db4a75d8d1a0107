use Rattle.std.proofs.Common.{Ok, Err, rules, ap, ◌∙◌}
use Rattle.std.proofs.lemmas.Fn.{always_returns_same}
use Rattle.keyed.specs.SetLaws.{ascends-insert}
use Rattle.keyed.specs.SetPlaces.{searched_keys, insert_place, insert_gap}
use Rattle.keyed.specs.Sets.{insert}
use Rattle.switch_model.specs.Addresses.{addr_cmp, addr_total}
use Rattle.switch_model.proofs.addrs.AddrList.put.Goals as goal

pub returns-in-Ok-clause-ok : goal.returns-in-Ok-clause-ok
returns-in-Ok-clause-ok c =
    let by_ip = c.in-Ok.ensures.position (λ a. addr_cmp a c.args.addr) (always_returns_same _ _ _ (λ a r f' called. search rules)) in
    let place = rw c.deref.ensures.value at (searched_keys addr_cmp addr_total c.args.addr c.deref.result.now (Ok c.in-Ok.place) (rw c.deref.ensures.value c.self.invariant) c.in-Ok.ensures.bound by_ip) in
    insert_place addr_cmp addr_total c.args.addr c.self.inside.addrs.items c.in-Ok.place c.self.invariant place ∙ ap (insert addr_cmp c.args.addr) c.self.view_is

pub invariant_of-self : goal.invariant_of-self
invariant_of-self c =
    let by_ip = c.in-Ok.ensures.position (λ a. addr_cmp a c.args.addr) (always_returns_same _ _ _ (λ a r f' called. search rules)) in
    let place = rw c.deref.ensures.value at (searched_keys addr_cmp addr_total c.args.addr c.deref.result.now (Ok c.in-Ok.place) (rw c.deref.ensures.value c.self.invariant) c.in-Ok.ensures.bound by_ip) in
    rw (insert_place addr_cmp addr_total c.args.addr c.self.inside.addrs.items c.in-Ok.place c.self.invariant place) (ascends-insert addr_cmp addr_total c.args.addr c.self.inside.addrs.items c.self.invariant)

pub returns-in_ok-insert-in-Err-clause-ok : goal.returns-in_ok-insert-in-Err-clause-ok
returns-in_ok-insert-in-Err-clause-ok c =
    let by_ip = c.in-Err.ensures.position (λ a. addr_cmp a c.args.addr) (always_returns_same _ _ _ (λ a r f' called. search rules)) in
    let place = rw c.deref.ensures.value at (searched_keys addr_cmp addr_total c.args.addr c.deref.result.now (Err c.in-Err.place) (rw c.deref.ensures.value c.self.invariant) c.in-Err.ensures.bound by_ip) in
    c.in_ok-insert-in-Err.ensures.items ∙ insert_gap addr_cmp addr_total c.args.addr c.self.inside.addrs.items c.in-Err.place place ∙ ap (insert addr_cmp c.args.addr) c.self.view_is

pub invariant_of-self-in-Continue-1 : goal.invariant_of-self-in-Continue-1
invariant_of-self-in-Continue-1 c =
    let by_ip = c.in-Err.ensures.position (λ a. addr_cmp a c.args.addr) (always_returns_same _ _ _ (λ a r f' called. search rules)) in
    let place = rw c.deref.ensures.value at (searched_keys addr_cmp addr_total c.args.addr c.deref.result.now (Err c.in-Err.place) (rw c.deref.ensures.value c.self.invariant) c.in-Err.ensures.bound by_ip) in
    rw (c.in_ok-insert-in-Err.ensures.items ∙ insert_gap addr_cmp addr_total c.args.addr c.self.inside.addrs.items c.in-Err.place place) (ascends-insert addr_cmp addr_total c.args.addr c.self.inside.addrs.items c.self.invariant)
