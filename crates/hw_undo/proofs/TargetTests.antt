-- Targets that pass the test are one.
use Rattle.std.proofs.Common.{◌≡◌, Bool, true, false, List, refl, sym, ap, ◌∙◌}
use Rattle.std.specs.Cmp.Lexicographic.{lists_ties, pointwise}
use Rattle.std.specs.Ordering.{eq_by_cmp, is_eq}
use Rattle.std.specs.declared.cmp.Ordering.{Ordering}
use Rattle.std.specs.declared.cmp.Ordering.TheVariants.{Less, Equal, Greater}
use Rattle.net_types.specs.Derived.{host-derived}
use Rattle.net_types.specs.KeyOrder.{group_cmp, group_order, host_cmp, host_order}
use Rattle.net_types.specs.contracts.table.HopTargetPartialEq.TheImpl as target_eq
use Rattle.net_types.specs.contracts.table.HostKeyOrd.TheImpl.Laws as key_laws
use Rattle.net_types.specs.contracts.table.HostKeyPartialEq.TheImpl as key_eq
use Rattle.net_types.specs.declared.table.HopTarget.{HopTarget}
use Rattle.net_types.specs.declared.table.HopTarget.TheVariants.{Host, Group, ToCpu, Discard}
use Rattle.net_types.specs.declared.table.HostKey.{HostKey}

is_equal : (o : Ordering) → is_eq o ≡ true → o ≡ Equal
is_equal Less e = absurd (cc)
is_equal Equal e = refl
is_equal Greater e = absurd (cc)

host_same : (a b : HostKey) → (key_eq.eq-value).it a b ≡ eq_by_cmp host_cmp a b
host_same a b = key_laws.lawful.matches_eq a b ∙ ap (λ (c : HostKey → HostKey → Ordering). eq_by_cmp c a b) host-derived

hosts_same : (xs ys : List HostKey) → pointwise (key_eq.eq-value).it xs ys ≡ eq_by_cmp group_cmp xs ys
hosts_same = lists_ties host_cmp host_same

pub target_exact : (a b : HopTarget) → (target_eq.eq-value).it a b ≡ true → a ≡ b
target_exact (Host a) (Host b) e = ap Host (host_order.exact a b (is_equal (host_cmp a b) (sym (host_same a b) ∙ e)))
target_exact (Host a) (Group b) e = absurd (cc)
target_exact (Host a) ToCpu e = absurd (cc)
target_exact (Host a) Discard e = absurd (cc)
target_exact (Group a) (Host b) e = absurd (cc)
target_exact (Group a) (Group b) e = ap Group (group_order.exact a b (is_equal (group_cmp a b) (sym (hosts_same a b) ∙ e)))
target_exact (Group a) ToCpu e = absurd (cc)
target_exact (Group a) Discard e = absurd (cc)
target_exact ToCpu (Host b) e = absurd (cc)
target_exact ToCpu (Group b) e = absurd (cc)
target_exact ToCpu ToCpu e = refl
target_exact ToCpu Discard e = absurd (cc)
target_exact Discard (Host b) e = absurd (cc)
target_exact Discard (Group b) e = absurd (cc)
target_exact Discard ToCpu e = absurd (cc)
target_exact Discard Discard e = refl
