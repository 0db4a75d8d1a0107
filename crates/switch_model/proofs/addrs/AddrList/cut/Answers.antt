use Rattle.std.proofs.Common.{◌≡◌, ℕ, List, Result, Ok, Err, rules, refl, ap, sym, ◌∙◌}
use Rattle.std.proofs.lemmas.Fn.{always_returns_same}
use Rattle.keyed.specs.SetLaws.{ascends-delete}
use Rattle.keyed.specs.SetPlaces.{IsKeyPlace, searched_keys, delete_place, delete_gap}
use Rattle.keyed.specs.Sets.{delete}
use Rattle.net_types.specs.Cidr.{Cidr}
use Rattle.switch_model.specs.Addresses.{addr_cmp, addr_total}
use Rattle.switch_model.proofs.addrs.AddrList.cut.Goals as goal

nowhere : (addr : Cidr) (l : List Cidr) (r : Result ℕ ℕ) → ((x : ℕ) → r ≡ Ok x → ⊥) → IsKeyPlace addr_cmp addr l r → l ≡ delete addr_cmp addr l
nowhere addr l (Ok n) not place = absurd (not n refl)
nowhere addr l (Err n) not place = delete_gap addr_cmp addr_total addr l n place

pub returns-in-Ok : goal.returns-in-Ok
returns-in-Ok c =
    let by_ip = c.in-Ok.ensures.position (λ a. addr_cmp a c.args.addr.now) (always_returns_same _ _ _ (λ a r f' called. search rules)) in
    let place = rw c.deref.ensures.value at (searched_keys addr_cmp addr_total c.args.addr.now c.deref.result.now (Ok c.in-Ok.place) (rw c.deref.ensures.value c.self.invariant) c.in-Ok.ensures.bound by_ip) in
    c.remove.ensures.items ∙ delete_place addr_cmp addr_total c.args.addr.now c.self.inside.addrs.items c.in-Ok.place c.self.invariant place ∙ ap (delete addr_cmp c.args.addr.now) c.self.view_is

pub invariant_of-self : goal.invariant_of-self
invariant_of-self c =
    let by_ip = c.in-Ok.ensures.position (λ a. addr_cmp a c.args.addr.now) (always_returns_same _ _ _ (λ a r f' called. search rules)) in
    let place = rw c.deref.ensures.value at (searched_keys addr_cmp addr_total c.args.addr.now c.deref.result.now (Ok c.in-Ok.place) (rw c.deref.ensures.value c.self.invariant) c.in-Ok.ensures.bound by_ip) in
    rw (c.remove.ensures.items ∙ delete_place addr_cmp addr_total c.args.addr.now c.self.inside.addrs.items c.in-Ok.place c.self.invariant place) (ascends-delete addr_cmp addr_total c.args.addr.now c.self.inside.addrs.items c.self.invariant)

pub returns-in_default : goal.returns-in_default
returns-in_default c =
    let by_ip = c.binary_search_by.ensures.position (λ a. addr_cmp a c.args.addr.now) (always_returns_same _ _ _ (λ a r f' called. search rules)) in
    let place = rw c.deref.ensures.value at (searched_keys addr_cmp addr_total c.args.addr.now c.deref.result.now c.binary_search_by.result (rw c.deref.ensures.value c.self.invariant) c.binary_search_by.ensures.bound by_ip) in
    sym c.self.view_is ∙ nowhere c.args.addr.now c.self.inside.addrs.items c.binary_search_by.result c.in_default.not-Ok place ∙ ap (delete addr_cmp c.args.addr.now) c.self.view_is
