-- Each step of the search for the longest key.
use Rattle.std.proofs.Common.{◌≡◌, ◌≤◌, ◌<◌, ℕ, ◌==◌, ◌&&◌, true, false, Option, None, Some, List, refl, sym, ap, ◌∙◌, subst, inl, inr, arith}
use Rattle.std.specs.List.{Contains, filter}
use Rattle.std.specs.Ordering.{is_le}
use Rattle.std.proofs.lemmas.Bool.{cases_lt, and_parts, and_from}
use Rattle.std.proofs.lemmas.Bool.Decides.{Decides-eqb}
use Rattle.keyed.specs.Members.{contains_filter, filter_contains}
use Rattle.net_types.specs.declared.ip.Ip.{Ip}
use Rattle.net_types.specs.declared.table.RouteKey.{RouteKey}
use Rattle.net_types.specs.Address.{ip_width, ip_number}
use Rattle.net_types.specs.Cidr.{Cidr}
use Rattle.net_types.specs.KeyOrder.{route_cmp}
use Rattle.net_types.specs.Prefix.{network, contains}
use Rattle.route_laws.proofs.Floors.{cleared, cleared-below, cleared_rises, network-number, network-width, prefix_cleared, agreed-shorter, agreed-squeezed, agreed-above}
use Rattle.route_laws.proofs.Orders.{AtMost, at_most, at_most-from}
use Rattle.switch_model.specs.LongestMatch.{best_keys}
use Rattle.switch_model.specs.PlainState.{Rib}
use Rattle.route_laws.proofs.BestLaws.{best_keys-has}
use Rattle.route_laws.specs.Match.{ArePrefixes}
use Rattle.route_laws.proofs.MatchLaws.{reduce-longest, reduce-none}
use Rattle.route_laws.proofs.Prefixes.{Agreed, agreed, agree-from, one_of_length}
use Rattle.route_laws.specs.Descent.{bound, longest_key, IsLastTo, ArePrefixKeys, Matches, AreUpTo, IsCommon}

-- the ip of a key that matches is the given one with the bits past the key's length cleared
record IsNetwork (vrf : ℕ) (ip : Ip) (key : RouteKey) : Type 0 where
  vrf_is : key.vrf ≡ vrf
  family : ip_width key.prefix.ip ≡ ip_width ip
  number : ip_number key.prefix.ip ≡ cleared (ip_width ip) key.prefix.len (ip_number ip)
  within : key.prefix.len ≤ ip_width ip

module _ (keys : List RouteKey) (are : ArePrefixKeys keys) (vrf : ℕ) (ip : Ip) where
  network_of : (key : RouteKey) → Contains keys key → Matches vrf ip key → IsNetwork vrf ip key
  network_of key has m =
      let is = are.prefix key has in
      let family : ip_width key.prefix.ip ≡ ip_width ip = (agreed key.prefix.len key.prefix.ip ip m.inside).family in
      record { vrf_is = m.vrf_is; family = family; number = prefix_cleared key.prefix ip is m.inside; within = subst (λ (w : ℕ). key.prefix.len ≤ w) family is.0 }

  -- a key that matches is at most the bound of each length that isn't shorter
  up_to_longer : (key : RouteKey) (len : ℕ) → IsNetwork vrf ip key → key.prefix.len ≤ len → len ≤ ip_width ip → is_le (route_cmp key (bound vrf ip len)) ≡ true
  up_to_longer key len f shorter within = at_most-from key (bound vrf ip len) (record {
    vrf = omega (arith, f.vrf_is);
    family = λ _. omega (arith, f.family, network-width len ip);
    number = λ _ _. omega (arith, f.number, network-number len ip, cleared_rises (ip_width ip) key.prefix.len len (ip_number ip) shorter within);
    len = λ _ _ _. shorter;
  })

  -- at first no key that matches stands past the ip itself
  pub first_bound : AreUpTo keys vrf ip (ip_width ip)
  first_bound = record { up_to = λ key has m. let f = network_of key has m in up_to_longer key (ip_width ip) f f.within (omega arith) }

  module _ (len : ℕ) (within : len ≤ ip_width ip) (are_up_to : AreUpTo keys vrf ip len) (e : RouteKey) (last : IsLastTo route_cmp (bound vrf ip len) keys e) where
    -- the last key up to the bound is past each key that matches
    at_most_last : (key : RouteKey) → Contains keys key → Matches vrf ip key → AtMost key e
    at_most_last key has m = at_most key e (last.last key has (are_up_to.up_to key has m))

    at_most_bound : AtMost e (bound vrf ip len)
    at_most_bound = at_most e (bound vrf ip len) last.below

    -- if it is of another VRF or another family, none matches
    pub same_vrf : (key : RouteKey) → Contains keys key → Matches vrf ip key → e.vrf ≡ vrf
    same_vrf key has m = omega (arith, m.vrf_is, (at_most_last key has m).vrf, at_most_bound.vrf)

    pub same_family : (key : RouteKey) → Contains keys key → Matches vrf ip key → ip_width e.prefix.ip ≡ ip_width ip
    same_family key has m =
        let vrf_is : e.vrf ≡ vrf = same_vrf key has m in
        let f = network_of key has m in
        let above : ip_width key.prefix.ip ≤ ip_width e.prefix.ip = (at_most_last key has m).family (m.vrf_is ∙ sym vrf_is) in
        let below : ip_width e.prefix.ip ≤ ip_width (network len ip) = at_most_bound.family vrf_is in
        omega (arith, f.family, above, below, network-width len ip)

    -- if it contains the ip, it is the longest
    pub longest_last : Matches vrf ip e → (key : RouteKey) → Contains keys key → Matches vrf ip key → key.prefix.len ≤ e.prefix.len
    longest_last inside key has m =
        let f = network_of key has m in
        let g = network_of e last.among inside in
        let most = at_most_last key has m in
        let vrf_is : key.vrf ≡ e.vrf = m.vrf_is ∙ sym inside.vrf_is in
        let family : ip_width key.prefix.ip ≡ ip_width e.prefix.ip = f.family ∙ sym g.family in
        elim (cases_lt e.prefix.len key.prefix.len) [
          | inl shorter ↦
              let rises : cleared (ip_width ip) e.prefix.len (ip_number ip) ≤ cleared (ip_width ip) key.prefix.len (ip_number ip) = cleared_rises (ip_width ip) e.prefix.len key.prefix.len (ip_number ip) (omega (arith, shorter)) f.within in
              let le = most.number vrf_is family in
              most.len vrf_is family (omega (arith, rises, le, f.number, g.number))
          | inr longer ↦ longer
        ]

    -- if it doesn't, each key that matches is at most as long as what it shares with the ip, and that is shorter than the bound
    module _ (vrf_is : e.vrf ≡ vrf) (family : ip_width e.prefix.ip ≡ ip_width ip) (common : ℕ) (is : IsCommon e.prefix.ip ip common) where
      number_below : ip_number e.prefix.ip ≤ cleared (ip_width ip) len (ip_number ip)
      number_below = let le = at_most_bound.number vrf_is (family ∙ sym (network-width len ip)) in omega (arith, le, network-number len ip)

      pub next_bound : AreUpTo keys vrf ip common
      next_bound = record {
        up_to = λ key has m.
            let f = network_of key has m in
            let above : ip_number key.prefix.ip ≤ ip_number e.prefix.ip = (at_most_last key has m).number (m.vrf_is ∙ sym vrf_is) (f.family ∙ sym family) in
            let shares : Agreed key.prefix.len e.prefix.ip ip = agreed-squeezed key.prefix.len e.prefix.ip ip family (omega (arith, above, f.number)) (omega (arith, number_below, cleared-below (ip_width ip) len (ip_number ip))) in
            let shorter : key.prefix.len ≤ common = is.most key.prefix.len (omega (arith, f.within, family)) (agree-from key.prefix.len e.prefix.ip ip shares) in
            up_to_longer key common f shorter (omega (arith, is.within, family));
      }

      pub shorter_bound : contains e.prefix ip ≡ false → common < len
      shorter_bound outside = elim (cases_lt common len) [
        | inl less ↦ less
        | inr more ↦
            let shared : Agreed common e.prefix.ip ip = agreed common e.prefix.ip ip is.shared in
            let shared_len : Agreed len e.prefix.ip ip = agreed-shorter len common e.prefix.ip ip more is.within shared in
            let above : cleared (ip_width ip) len (ip_number ip) ≤ ip_number e.prefix.ip = agreed-above len e.prefix.ip ip shared_len in
            let number : ip_number e.prefix.ip ≡ ip_number (network len ip) = omega (arith, above, number_below, network-number len ip) in
            let short : e.prefix.len ≤ len = at_most_bound.len vrf_is (family ∙ sym (network-width len ip)) number in
            let inside : contains e.prefix ip ≡ true = agree-from e.prefix.len e.prefix.ip ip (agreed-shorter e.prefix.len common e.prefix.ip ip (omega (arith, short, more)) is.within shared) in
            let no : true ≡ false = sym inside ∙ outside in
            absurd (cc)
      ]

-- the keys that match, as a list and one by one
matching_of : (vrf : ℕ) (ip : Ip) (keys : List RouteKey) (key : RouteKey) → Contains (filter (λ k. (k.vrf == vrf) && contains k.prefix ip) keys) key → Contains keys key × Matches vrf ip key
matching_of vrf ip keys key has =
    let found = contains_filter (λ k. (k.vrf == vrf) && contains k.prefix ip) keys key has in
    let parts = and_parts (key.vrf == vrf) (contains key.prefix ip) found.1 in
    (found.0, record { vrf_is = (Decides-eqb key.vrf vrf).0 parts.0; inside = parts.1 })

of_matching : (vrf : ℕ) (ip : Ip) (keys : List RouteKey) (key : RouteKey) → Contains keys key → Matches vrf ip key → Contains (filter (λ k. (k.vrf == vrf) && contains k.prefix ip) keys) key
of_matching vrf ip keys key has m = filter_contains (λ k. (k.vrf == vrf) && contains k.prefix ip) keys key has (and_from (key.vrf == vrf) (contains key.prefix ip) ((Decides-eqb key.vrf vrf).1 m.vrf_is) m.inside)

pub longest_key-is : (keys : List RouteKey) → ArePrefixKeys keys → (vrf : ℕ) (ip : Ip) (key : RouteKey) → Contains keys key → Matches vrf ip key → ((other : RouteKey) → Contains keys other → Matches vrf ip other → other.prefix.len ≤ key.prefix.len) → longest_key vrf ip keys ≡ Some key
longest_key-is keys are vrf ip key has m longest = by (longest_key vrf ip keys) refl
  where
    by : (o : Option RouteKey) → longest_key vrf ip keys ≡ o → longest_key vrf ip keys ≡ Some key
    by None is = absurd (reduce-none (filter (λ k. (k.vrf == vrf) && contains k.prefix ip) keys) is key (of_matching vrf ip keys key has m))
    by (Some other) is =
        let l = reduce-longest (filter (λ k. (k.vrf == vrf) && contains k.prefix ip) keys) other is in
        let n = matching_of vrf ip keys other l.among in
        let le : other.prefix.len ≤ key.prefix.len = longest other n.0 n.1 in
        let ge : key.prefix.len ≤ other.prefix.len = l.longest key (of_matching vrf ip keys key has m) in
        let prefix : other.prefix ≡ key.prefix = one_of_length other.prefix key.prefix ip (are.prefix other n.0) (are.prefix key has) n.1.inside m.inside (omega (arith, le, ge)) in
        let vrf_is : other.vrf ≡ key.vrf = n.1.vrf_is ∙ sym m.vrf_is in
        is ∙ ap Some (ap (λ (p : Cidr). record other { prefix = p }) prefix ∙ ap (λ (v : ℕ). record key { vrf = v }) vrf_is)

pub longest_key-none : (keys : List RouteKey) (vrf : ℕ) (ip : Ip) → ((key : RouteKey) → Contains keys key → Matches vrf ip key → ⊥) → longest_key vrf ip keys ≡ None
longest_key-none keys vrf ip none = by (longest_key vrf ip keys) refl
  where
    by : (o : Option RouteKey) → longest_key vrf ip keys ≡ o → longest_key vrf ip keys ≡ None
    by None is = is
    by (Some key) is = let n = matching_of vrf ip keys key (reduce-longest (filter (λ k. (k.vrf == vrf) && contains k.prefix ip) keys) key is).among in absurd (none key n.0 n.1)

-- keys that have best routes are prefixes
pub keys-prefixes : (rib : Rib) → ArePrefixes rib → ArePrefixKeys (best_keys rib)
keys-prefixes rib are = record { prefix = λ key has. are.prefixes key.vrf key.prefix (best_keys-has rib key has) }
