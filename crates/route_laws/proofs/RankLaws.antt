-- Hosts go before the CPU, and the CPU before drop.
use Rattle.std.proofs.Common.{◌≡◌, ℕ, Bool, true, false, Option, None, Some, List, [], ◌∷◌, map, take, refl, sym, ap, ◌∙◌, subst}
use Rattle.std.specs.List.{Contains}
use Rattle.std.specs.Prelude.{IsTrue}
use Rattle.keyed.specs.Members.{contains_first, contains_none}
use Rattle.keyed.specs.SetLaws.{set_of_contains}
use Rattle.keyed.specs.Sets.{set_of}
use Rattle.net_types.specs.declared.client.Client.{Client}
use Rattle.net_types.specs.declared.hop.Hop.{Hop}
use Rattle.net_types.specs.declared.table.HostKey.{HostKey}
use Rattle.net_types.specs.Cidr.{Cidr}
use Rattle.net_types.specs.KeyOrder.{host_cmp, host_order}
use Rattle.switch_model.specs.declared.record.FibEntry.{FibEntry}
use Rattle.switch_model.specs.declared.record.FibEntry.TheVariants.{Discard, ToCpu}
use Rattle.switch_model.specs.declared.record.RouteRec.TheVariants.{Hops}
use Rattle.switch_model.specs.BestRoute.{learnt, best}
use Rattle.switch_model.specs.Fib.{entry_of_ends, fib, hop_of_host}
use Rattle.switch_model.specs.FibLaws.{fib-by_ends}
use Rattle.switch_model.specs.PlainState.{Rib}
use Rattle.switch_model.specs.Reach.{direct, dropped, to_cpu, Reaches}
use Rattle.route_laws.proofs.EndLaws.{ends-had}
use Rattle.route_laws.specs.Ends.{HasEnds, IsForward}

forwards : (hosts : List HostKey) (cpu drop : Bool) (host : HostKey) → Contains hosts host → IsForward (entry_of_ends (take 64 hosts) cpu drop)
forwards [] cpu drop host has = absurd (contains_none host has)
forwards (h ∷ hosts) cpu drop host has = record { hops = map hop_of_host (h ∷ take 63 hosts); is = refl }

without_hosts : (hosts : List HostKey) → ((host : HostKey) → Contains hosts host → ⊥) → hosts ≡ []
without_hosts [] none = refl
without_hosts (h ∷ hosts) none = absurd (none h (contains_first h hosts))

is_false : (b : Bool) → (IsTrue b → ⊥) → b ≡ false
is_false true fails = absurd (fails refl)
is_false false fails = refl

module _ (rib : Rib) (vrf : ℕ) (prefix : Cidr) (client : Client) (hops : List Hop) (route : best rib vrf prefix ≡ Some (learnt client (Hops hops))) where
  by_ends : (e : HasEnds rib vrf prefix) → fib rib vrf prefix ≡ entry_of_ends (take 64 (set_of host_cmp e.hosts)) e.cpu e.drop
  by_ends e = sym (fib-by_ends rib vrf prefix client hops e.hosts e.cpu e.drop (sym route) e.are)

  without : (e : HasEnds rib vrf prefix) → ((host : HostKey) → Reaches rib vrf prefix (direct host) → ⊥) → fib rib vrf prefix ≡ entry_of_ends [] e.cpu e.drop
  without e none = by_ends e ∙ ap (λ (l : List HostKey). entry_of_ends (take 64 (set_of host_cmp l)) e.cpu e.drop) (without_hosts e.hosts (λ host has. none host ((e.are.by_host host).0 has)))

  pub hosts_first : (host : HostKey) → Reaches rib vrf prefix (direct host) → IsForward (fib rib vrf prefix)
  hosts_first host reaches =
      let e = ends-had rib vrf prefix in
      subst (λ (o : Option FibEntry). IsForward o) (sym (by_ends e)) (forwards (set_of host_cmp e.hosts) e.cpu e.drop host (set_of_contains host_cmp host_order e.hosts host ((e.are.by_host host).1 reaches)))

  pub cpu_next : ((host : HostKey) → Reaches rib vrf prefix (direct host) → ⊥) → Reaches rib vrf prefix to_cpu → fib rib vrf prefix ≡ Some ToCpu
  cpu_next none reaches =
      let e = ends-had rib vrf prefix in
      let cpu : e.cpu ≡ true = e.are.by_cpu.1 reaches in
      without e none ∙ ap (λ (b : Bool). entry_of_ends [] b e.drop) cpu

  pub drop_last : ((host : HostKey) → Reaches rib vrf prefix (direct host) → ⊥) → (Reaches rib vrf prefix to_cpu → ⊥) → Reaches rib vrf prefix dropped → fib rib vrf prefix ≡ Some Discard
  drop_last none no_cpu reaches =
      let e = ends-had rib vrf prefix in
      let cpu : e.cpu ≡ false = is_false e.cpu (λ holds. no_cpu (e.are.by_cpu.0 holds)) in
      let drop : e.drop ≡ true = e.are.by_drop.1 reaches in
      without e none ∙ ap (λ (b : Bool). entry_of_ends [] b e.drop) cpu ∙ ap (λ (b : Bool). entry_of_ends [] false b) drop

  pub none_reached : ((host : HostKey) → Reaches rib vrf prefix (direct host) → ⊥) → (Reaches rib vrf prefix to_cpu → ⊥) → (Reaches rib vrf prefix dropped → ⊥) → fib rib vrf prefix ≡ None
  none_reached none no_cpu no_drop =
      let e = ends-had rib vrf prefix in
      let cpu : e.cpu ≡ false = is_false e.cpu (λ holds. no_cpu (e.are.by_cpu.0 holds)) in
      let drop : e.drop ≡ false = is_false e.drop (λ holds. no_drop (e.are.by_drop.0 holds)) in
      without e none ∙ ap (λ (b : Bool). entry_of_ends [] b e.drop) cpu ∙ ap (λ (b : Bool). entry_of_ends [] false b) drop
