use Rattle.std.proofs.Common.{rules, ◌∙◌, sym, ap, ℕ, Some}
use Rattle.std.specs.Ordering.{nat_cmp}
use Rattle.std.proofs.lemmas.Fn.{always_returns_same}
use Rattle.net_types.specs.declared.table.HostKey.{HostKey}
use Rattle.net_types.specs.declared.table.HostRow.{HostRow}
use Rattle.chip_core.proofs.EntryPlaces.{at_none, at_place}
use Rattle.chip_core.proofs.shape.host_in.Goals as goal

pub returns-in-Ok : goal.returns-in-Ok
returns-in-Ok c =
    let entry : ℕ × HostKey × HostRow → ℕ × (HostKey × HostRow) = λ h. (h.0, (h.1, h.2)) in
    let found = c.in-Ok.ensures.position (λ host. nat_cmp host.0 c.args.slot) (always_returns_same _ _ _ (λ a r f' called. search rules)) in
    ap (λ (host : ℕ × HostKey × HostRow). Some (host.1, host.2)) c.index-hosts-at.is ∙ sym (at_place entry c.args.slot c.args.hosts.now c.in-Ok.at c.index-hosts-at.result c.requires c.in-Ok.ensures.bound found)

pub returns-in-Err : goal.returns-in-Err
returns-in-Err c =
    let entry : ℕ × HostKey × HostRow → ℕ × (HostKey × HostRow) = λ h. (h.0, (h.1, h.2)) in
    let found = c.in-Err.ensures.position (λ host. nat_cmp host.0 c.args.slot) (always_returns_same _ _ _ (λ a r f' called. search rules)) in
    sym (at_none entry c.args.slot c.args.hosts.now c.in-Err.field-0 c.requires c.in-Err.ensures.bound found)
