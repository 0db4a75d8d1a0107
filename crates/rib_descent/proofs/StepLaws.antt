-- What a step finds.
use Rattle.std.proofs.Common.{◌≡◌, ◌≢◌, ◌≤◌, ◌<◌, ℕ, ◌==◌, not, Bool, true, false, None, Some, List, ◌∙◌, sym, ap, subst}
use Rattle.std.specs.List.Sorted.{IsStrictlySortedBy}
use Rattle.std.proofs.lemmas.Bool.{true_from_ne_false}
use Rattle.std.proofs.lemmas.Bool.Decides.{Decides-eqb}
use Rattle.net_types.specs.declared.ip.Ip.{Ip}
use Rattle.net_types.specs.declared.table.RouteKey.{RouteKey}
use Rattle.net_types.specs.Address.{ip_width}
use Rattle.net_types.specs.KeyOrder.{route_cmp, route_order}
use Rattle.net_types.specs.Prefix.{contains}
use Rattle.route_laws.proofs.DescentLaws.{same_vrf, same_family, longest_last, next_bound, shorter_bound, longest_key-is, longest_key-none}
use Rattle.route_laws.proofs.LastLaws.{last-is, last-none}
use Rattle.route_laws.specs.Descent.{bound, last_to, longest_key, ArePrefixKeys, AreUpTo, IsCommon, IsLastTo, Matches}

-- what a test of two numbers says
pub differ : (a b : ℕ) (test : Bool) → test ≡ not (a == b) → test ≡ true → a ≢ b
differ a b test is holds same = let no : false ≡ true = ap not (sym ((Decides-eqb a b).1 same)) ∙ sym is ∙ holds in cc

pub same_number : (a b : ℕ) (test : Bool) → test ≡ not (a == b) → test ≡ false → a ≡ b
same_number a b test is fails = (Decides-eqb a b).0 (true_from_ne_false (a == b) (λ no. let bad : true ≡ false = ap not (sym no) ∙ sym is ∙ fails in cc))

module _ (keys : List RouteKey) (asc : IsStrictlySortedBy route_cmp keys) (are : ArePrefixKeys keys) (vrf : ℕ) (ip : Ip) (len : ℕ) (within : len ≤ ip_width ip) (up : AreUpTo keys vrf ip len) (to : RouteKey) (to_is : to ≡ bound vrf ip len) where
  pub step-none : None ≡ last_to to keys → longest_key vrf ip keys ≡ None
  step-none is = longest_key-none keys vrf ip (λ key has m. last-none route_cmp route_order (bound vrf ip len) keys asc (ap (λ b. last_to b keys) (sym to_is) ∙ sym is) key has (up.up_to key has m))

  module _ (key : RouteKey) (is : Some key ≡ last_to to keys) where
    last : IsLastTo route_cmp (bound vrf ip len) keys key
    last = last-is route_cmp route_order (bound vrf ip len) keys key asc (ap (λ b. last_to b keys) (sym to_is) ∙ sym is)

    pub step-other_vrf : key.vrf ≢ vrf → longest_key vrf ip keys ≡ None
    step-other_vrf other = longest_key-none keys vrf ip (λ k has m. other (same_vrf keys are vrf ip len within up key last k has m))

    pub step-other_family : (of_key : Ip) → of_key ≡ key.prefix.ip → ip_width of_key ≢ ip_width ip → longest_key vrf ip keys ≡ None
    step-other_family of_key of_is differ =
        let other : ip_width key.prefix.ip ≢ ip_width ip = λ same. differ (ap ip_width of_is ∙ same) in
        longest_key-none keys vrf ip (λ k has m. other (same_family keys are vrf ip len within up key last k has m))

    pub step-found : key.vrf ≡ vrf → contains key.prefix ip ≡ true → longest_key vrf ip keys ≡ Some key
    step-found vrf_is inside =
        let m : Matches vrf ip key = record { vrf_is = vrf_is; inside = inside } in
        longest_key-is keys are vrf ip key last.among m (longest_last keys are vrf ip len within up key last m)

    pub step-shorter : key.vrf ≡ vrf → (of_key : Ip) (common : ℕ) → of_key ≡ key.prefix.ip → IsCommon of_key ip common → contains key.prefix ip ≡ false → (common < len) × AreUpTo keys vrf ip common
    step-shorter vrf_is of_key common of_is as_common outside =
        let shares : IsCommon key.prefix.ip ip common = subst (λ (a : Ip). IsCommon a ip common) of_is as_common in (shorter_bound keys are vrf ip len within up key last vrf_is shares.family common shares outside, next_bound keys are vrf ip len within up key last vrf_is shares.family common shares)
