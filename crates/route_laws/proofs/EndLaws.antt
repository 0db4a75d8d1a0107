-- An entry depends on what is reached alone.
use Rattle.std.proofs.Common.{◌≡◌, ◌↔◌, ℕ, Bool, true, Option, Some, List, length, take, refl, ap, ◌∙◌, subst}
use Rattle.std.specs.List.{Contains, filter_map, list_any}
use Rattle.std.specs.Cmp.{both_ways}
use Rattle.std.specs.declared.cmp.Ordering.{Ordering}
use Rattle.keyed.specs.Keyed.{IsKeyOrder}
use Rattle.keyed.specs.Members.{contains_filter_map, filter_map_contains}
use Rattle.keyed.specs.SetLaws.{ascends-set_of, set_of_contains, contains_set_of, is_set_of}
use Rattle.keyed.specs.Sets.{set_of}
use Rattle.net_types.specs.KeyOrder.{host_cmp, host_order}
use Rattle.net_types.specs.declared.table.HostKey.{HostKey}
use Rattle.switch_model.specs.Fib.{direct_of, direct_hosts, is_to_cpu, is_dropped, entry_of_ends, entry_of_leads}
use Rattle.net_types.specs.Cidr.{Cidr}
use Rattle.switch_model.specs.PlainState.{Rib}
use Rattle.switch_model.specs.Reach.{Lead, direct, onward, to_cpu, dropped, nothing, reached_within}
use Rattle.switch_model.specs.ReachLaws.{reached-exact}
use Rattle.route_laws.specs.Ends.{HasEnds}
use Rattle.route_laws.proofs.Finds.{any_has, has_any}

abbrev pub SameItems : {A : Type 0} → List A → List A → Type 0
SameItems {A} xs ys = (x : A) → Contains xs x ↔ Contains ys x

set_of_same : {K : Type 0} (cmp : K → K → Ordering) → IsKeyOrder cmp → (xs ys : List K) → SameItems xs ys → set_of cmp xs ≡ set_of cmp ys
set_of_same cmp order xs ys same = is_set_of cmp order (set_of cmp xs) ys (ascends-set_of cmp order.total xs) (λ k. (
  (λ has. (same k).0 (contains_set_of cmp order xs k has)),
  (λ has. set_of_contains cmp order xs k ((same k).1 has)),
))

any_same : {A : Type 0} (test : A → Bool) (xs ys : List A) → SameItems xs ys → list_any test xs ≡ list_any test ys
any_same test xs ys same = both_ways (list_any test xs) (list_any test ys)
    (λ holds. let at = any_has test xs holds in has_any test ys at.0 ((same at.0).0 at.1) at.2)
    (λ holds. let at = any_has test ys holds in has_any test xs at.0 ((same at.0).1 at.1) at.2)

filter_map_same : {A B : Type 0} (f : A → Option B) (xs ys : List A) → SameItems xs ys → SameItems (filter_map f xs) (filter_map f ys)
filter_map_same f xs ys same = λ y. (
  (λ has. let at = contains_filter_map f xs y has in filter_map_contains f ys at.0 y ((same at.0).0 at.1) at.2),
  (λ has. let at = contains_filter_map f ys y has in filter_map_contains f xs at.0 y ((same at.0).1 at.1) at.2),
)

pub end_of-same : (xs ys : List Lead) → SameItems xs ys → entry_of_leads xs ≡ entry_of_leads ys
end_of-same xs ys same =
    let hosts : direct_hosts xs ≡ direct_hosts ys = set_of_same host_cmp host_order (filter_map direct_of xs) (filter_map direct_of ys) (filter_map_same direct_of xs ys same) in
    ap (λ (l : List HostKey). entry_of_ends (take 64 l) (list_any is_to_cpu xs) (list_any is_dropped xs)) hosts
    ∙ ap (λ (b : Bool). entry_of_ends (take 64 (direct_hosts ys)) b (list_any is_dropped xs)) (any_same is_to_cpu xs ys same)
    ∙ ap (λ (b : Bool). entry_of_ends (take 64 (direct_hosts ys)) (list_any is_to_cpu ys) b) (any_same is_dropped xs ys same)

-- each prefix has its ends
is_direct : (lead : Lead) (host : HostKey) → direct_of lead ≡ Some host → lead ≡ direct host
is_direct (direct h) host is = let same : h ≡ host = cc in ap direct same
is_direct (onward p) host is = absurd (cc)
is_direct to_cpu host is = absurd (cc)
is_direct dropped host is = absurd (cc)
is_direct nothing host is = absurd (cc)

is_cpu : (lead : Lead) → is_to_cpu lead ≡ true → lead ≡ to_cpu
is_cpu (direct h) is = absurd (cc)
is_cpu (onward p) is = absurd (cc)
is_cpu to_cpu is = refl
is_cpu dropped is = absurd (cc)
is_cpu nothing is = absurd (cc)

is_drop : (lead : Lead) → is_dropped lead ≡ true → lead ≡ dropped
is_drop (direct h) is = absurd (cc)
is_drop (onward p) is = absurd (cc)
is_drop to_cpu is = absurd (cc)
is_drop dropped is = refl
is_drop nothing is = absurd (cc)

pub ends-had : (rib : Rib) (vrf : ℕ) (prefix : Cidr) → HasEnds rib vrf prefix
ends-had rib vrf prefix =
    let reached : List Lead = reached_within rib vrf (length rib.routes) prefix in
    let P : Lead → Type 0 = λ m. Contains reached m in
    record {
      hosts = filter_map direct_of reached;
      cpu = list_any is_to_cpu reached;
      drop = list_any is_dropped reached;
      are = record {
        by_host = λ host. (
          (λ has. let at = contains_filter_map direct_of reached host has in (reached-exact rib vrf prefix (direct host)).0 (subst P (is_direct at.0 host at.2) at.1)),
          (λ r. filter_map_contains direct_of reached (direct host) host ((reached-exact rib vrf prefix (direct host)).1 r) refl),
        );
        by_cpu = (
          (λ holds. let at = any_has is_to_cpu reached holds in (reached-exact rib vrf prefix to_cpu).0 (subst P (is_cpu at.0 at.2) at.1)),
          (λ r. has_any is_to_cpu reached to_cpu ((reached-exact rib vrf prefix to_cpu).1 r) refl),
        );
        by_drop = (
          (λ holds. let at = any_has is_dropped reached holds in (reached-exact rib vrf prefix dropped).0 (subst P (is_drop at.0 at.2) at.1)),
          (λ r. has_any is_dropped reached dropped ((reached-exact rib vrf prefix dropped).1 r) refl),
        );
      };
    }
