use Rattle.std.proofs.Common.{rules, ℕ}
use Rattle.std.specs.Ordering.{is_lt, nat_cmp}
use Rattle.std.proofs.lemmas.Fn.{always_returns_same}
use Rattle.net_types.specs.declared.table.HostKey.{HostKey}
use Rattle.net_types.specs.declared.table.HostRow.{HostRow}
use Rattle.chip_core.proofs.EntryPlaces.{all-entries, ascends_test, entries-all}
use Rattle.chip_core.proofs.Outcomes.{never, refused}
use Rattle.chip_core.proofs.ImageLaws.{slots-all, slots_from}
use Rattle.chip_core.proofs.shape.are_host_slots.Goals as goal

pub returns-then-not-is_sorted_by : goal.returns-then-not-is_sorted_by
returns-then-not-is_sorted_by c =
    let entry : ℕ × HostKey × HostRow → ℕ × (HostKey × HostRow) = λ h. (h.0, (h.1, h.2)) in
    let test = ascends_test entry c.args.hosts.now c.is_sorted_by.result (c.is_sorted_by.ensures.cases (λ x y. is_lt (nat_cmp x.0 y.0)) (always_returns_same _ _ _ (λ a r f' called. search rules))) in
    ((λ h. never h), (λ slots. absurd (refused c.is_sorted_by.result test.1 c.if-not-is_sorted_by.true slots.ascends)))

pub returns : goal.returns
returns c =
    let hosts = c.args.hosts.now in
    let high = c.args.capacity in
    let entry : ℕ × HostKey × HostRow → ℕ × (HostKey × HostRow) = λ h. (h.0, (h.1, h.2)) in
    let test = ascends_test entry hosts c.is_sorted_by.result (c.is_sorted_by.ensures.cases (λ x y. is_lt (nat_cmp x.0 y.0)) (always_returns_same _ _ _ (λ a r f' called. search rules))) in
    let ascends = test.0 c.if-not-is_sorted_by.false in
    ((λ h. slots_from high _ ascends (all-entries entry high hosts (c.are_hosts_below.ensures.0 h))), (λ slots. c.are_hosts_below.ensures.1 (entries-all entry high hosts (slots-all high _ slots))))
