-- The functions of texts with an ip in front give a value exactly where the form spells it.
use Rattle.std.proofs.Common.{◌≡◌, ◌==◌, ℕ, Option, Some, None, List, [], ◌∷◌, ◌++◌, Bool, true, false, cond, refl, sym, ap, subst, ◌∙◌, arith, inl, inr, ◌⊎◌}
use Rattle.std.specs.Prelude.{option_map, option_and_then}
use Rattle.std.specs.Option.{option_or}
use Rattle.std.proofs.lemmas.List.{append-nil}
use Rattle.std.proofs.lemmas.Bool.{cond-true, cond-false, eq-eqb, ne_eqb, eqb-true}
use Rattle.net_types.specs.declared.ip.Ip.{Ip}
use Rattle.net_types.specs.declared.ip.Ip.TheVariants.{V4, V6}
use Rattle.net_types.specs.declared.hop.Hop.{Hop}
use Rattle.net_types.specs.Address.{ip_width}
use Rattle.net_types.specs.Cidr.{Cidr}
use Rattle.net_types.specs.Prefix.{host_bits}
use Rattle.ip_text.specs.Place.{CanBegin}
use Rattle.ip_text.specs.Numerals.{IsHex, IsNumber}
use Rattle.ip_text.specs.Ipv6.{IsIpv6}
use Rattle.ip_text.specs.AddressText.{IsIp, IsAddr, IsPrefix, IsMac, IsHop, IsHopBy}
use Rattle.ip_text.specs.Values.{Computes, number_of, hex_of, quad_of, ipv6_of, ip_of, cut_at, cidr_of, addr_of, prefix_of, mac_of, hop_to, hop_by, hop_of}
use Rattle.ip_text.proofs.ScanLaws.{Lacks}
use Rattle.ip_text.proofs.PartLaws.{hex_lacks}
use Rattle.ip_text.proofs.ColonLaws.{begun_no_quad, ip_lacks, slash, at_sign}
use Rattle.ip_text.proofs.ValueLaws.{tested, mapped_some, then_some, number_computes, hex_computes, row_computes}
use Rattle.ip_text.proofs.GroupValues.{or_some, none_of, quad_computes, ipv6_computes}

pub ip_computes : Computes IsIp ip_of
unfolding ip_of
ip_computes = record { spells = spells; found = found }
  where
    spells : (a : Ip) (text : List ℕ) → option_or (option_map V4 (quad_of text)) (option_map V6 (ipv6_of text)) ≡ Some a → IsIp a text
    spells a text e = elim (or_some (option_map V4 (quad_of text)) (option_map V6 (ipv6_of text)) a e) [
      | inl four ↦ let it = mapped_some V4 (quad_of text) a four in subst (λ (x : Ip). IsIp x text) it.2 (quad_computes.spells it.0 text it.1)
      | inr six ↦ let it = mapped_some V6 (ipv6_of text) a six.1 in subst (λ (x : Ip). IsIp x text) it.2 (ipv6_computes.spells it.0 text it.1)
    ]

    found : (a : Ip) (text : List ℕ) → IsIp a text → option_or (option_map V4 (quad_of text)) (option_map V6 (ipv6_of text)) ≡ Some a
    found (V4 n) text is = ap (λ o. option_or (option_map V4 o) (option_map V6 (ipv6_of text))) (quad_computes.found n text is)
    found (V6 n) text is =
        let begins : CanBegin IsIpv6 text = record { value = n; rest = []; spelled = subst (λ (t : List ℕ). IsIpv6 n t) (sym (append-nil text)) is } in
        let no_quad : quad_of text ≡ None = none_of (quad_of text) (λ q e. begun_no_quad q text begins (quad_computes.spells q text e)) in
        ap (λ o. option_or (option_map V4 o) (option_map V6 (ipv6_of text))) no_quad ∙ ap (option_map V6) (ipv6_computes.found n text is)

abbrev Cut : Type 0
Cut = List ℕ × List ℕ

abbrev moved : ℕ → Cut → Cut
moved b cut = (b ∷ cut.0, cut.1)

abbrev cut_here : List ℕ → Cut
cut_here text = ([], text)

either_test : {A : Type 0} (test : Bool) (x : A) (o : Option A) (a : A) → cond test (Some x) o ≡ Some a → ((test ≡ true) × (x ≡ a)) ⊎ (o ≡ Some a)
either_test true x o a e = inl (refl, cc)
either_test false x o a e = inr e

cut_spells : (s : ℕ) (t : List ℕ) (cut : Cut) → cut_at s t ≡ Some cut → t ≡ cut.0 ++ s ∷ cut.1
unfolding cut_at
cut_spells s [] cut e = absurd cc
cut_spells s (b ∷ text) cut e = elim (either_test (b == s) (cut_here text) (option_map (moved b) (cut_at s text)) cut e) [
  | inl here ↦ ap (λ (n : ℕ). n ∷ text) (eqb-true b s here.0) ∙ ap (λ (p : Cut). p.0 ++ s ∷ p.1) here.1
  | inr later ↦
      let it = mapped_some (moved b) (cut_at s text) cut later in
      ap (λ (l : List ℕ). b ∷ l) (cut_spells s text it.0 it.1) ∙ ap (λ (p : Cut). p.0 ++ s ∷ p.1) it.2
]

cut_found : (s : ℕ) (u w : List ℕ) → Lacks s u → (let cut : Cut = (u, w) in cut_at s (u ++ s ∷ w) ≡ Some cut)
unfolding cut_at
cut_found s [] w lacks = cond-true (s == s) (Some (cut_here w)) (option_map (moved s) (cut_at s w)) (eq-eqb s s refl)
cut_found s (b ∷ u) w lacks =
    cond-false (b == s) (Some (cut_here (u ++ s ∷ w))) (option_map (moved b) (cut_at s (u ++ s ∷ w))) (ne_eqb b s lacks.0) ∙ ap (option_map (moved b)) (cut_found s u w lacks.1)

cut_none : (s : ℕ) (t : List ℕ) → Lacks s t → cut_at s t ≡ None
unfolding cut_at
cut_none s [] lacks = refl
cut_none s (b ∷ text) lacks = cond-false (b == s) (Some (cut_here text)) (option_map (moved b) (cut_at s text)) (ne_eqb b s lacks.0) ∙ ap (option_map (moved b)) (cut_none s text lacks.1)

len_computes : (ip : Ip) → Computes (IsNumber 0 (ip_width ip)) (number_of 0 (ip_width ip))
len_computes (V4 n) = number_computes 0 32 (omega arith)
len_computes (V6 n) = number_computes 0 128 (omega arith)

abbrev addr_by : Cut → Option Cidr
addr_by cut = option_and_then (λ ip. option_map (cidr_of ip) (number_of 0 (ip_width ip) cut.1)) (ip_of cut.0)

pub addr_computes : Computes IsAddr addr_of
unfolding addr_of
addr_computes = record {
  spells = λ a text e.
      let cut = then_some addr_by (cut_at 47 text) a e in
      let ip = then_some (λ ip. option_map (cidr_of ip) (number_of 0 (ip_width ip) cut.0.1)) (ip_of cut.0.0) a cut.2 in
      let len = mapped_some (cidr_of ip.0) (number_of 0 (ip_width ip.0) cut.0.1) a ip.2 in
      subst (λ (c : Cidr). IsAddr c text) len.2 (record {
        ip = cut.0.0;
        len = cut.0.1;
        is_ip = ip_computes.spells ip.0 cut.0.0 ip.1;
        is_len = (len_computes ip.0).spells len.0 cut.0.1 len.1;
        whole = cut_spells 47 text cut.0 cut.1;
      });
  found = λ a text is.
      let cut : Cut = (is.ip, is.len) in
      ap (λ (t : List ℕ). option_and_then addr_by (cut_at 47 t)) is.whole ∙ ap (option_and_then addr_by) (cut_found 47 is.ip is.len (ip_lacks 47 slash a.ip is.ip is.is_ip))
      ∙ ap (option_and_then (λ ip. option_map (cidr_of ip) (number_of 0 (ip_width ip) is.len))) (ip_computes.found a.ip is.ip is.is_ip)
      ∙ ap (option_map (cidr_of a.ip)) ((len_computes a.ip).found a.len is.len is.is_len);
}

pub prefix_computes : Computes IsPrefix prefix_of
unfolding prefix_of
prefix_computes = record {
  spells = λ a text e.
      let addr = then_some (λ c. cond (host_bits c == 0) (Some c) None) (addr_of text) a e in
      let it = tested (host_bits addr.0 == 0) addr.0 a addr.2 in
      subst (λ (c : Cidr). IsPrefix c text) it.1 (addr_computes.spells addr.0 text addr.1, eqb-true (host_bits addr.0) 0 it.0);
  found = λ a text is.
      ap (option_and_then (λ c. cond (host_bits c == 0) (Some c) None)) (addr_computes.found a text is.0) ∙ cond-true (host_bits a == 0) (Some a) None (eq-eqb (host_bits a) 0 is.1);
}

pub mac_computes : Computes IsMac mac_of
unfolding mac_of
mac_computes = row_computes (IsHex 2 2) (hex_of 2 2) 58 256 6 (omega arith) (hex_computes 2 2) (λ a t is. hex_lacks 58 t refl is.digits)

intf_computes : Computes (IsNumber 1 4294967295) (number_of 1 4294967295)
intf_computes = number_computes 1 4294967295 (omega arith)

abbrev bare : Ip → Hop
bare ip = hop_to ip None

abbrev hop_of_intf : Ip → ℕ → Hop
hop_of_intf ip intf = hop_to ip (Some intf)

hop_spells : (text : List ℕ) (o : Option Cut) (a : Hop) → cut_at 64 text ≡ o → hop_by text o ≡ Some a → IsHop a text
unfolding hop_by
hop_spells text None a at e = let it = mapped_some bare (ip_of text) a e in subst (λ (h : Hop). IsHop h text) it.2 (ip_computes.spells it.0 text it.1)
hop_spells text (Some cut) a at e =
    let ip = then_some (λ ip. option_map (hop_of_intf ip) (number_of 1 4294967295 cut.1)) (ip_of cut.0) a e in
    let intf = mapped_some (hop_of_intf ip.0) (number_of 1 4294967295 cut.1) a ip.2 in
    subst (λ (h : Hop). IsHop h text) intf.2 (record {
      front = cut.0;
      back = cut.1;
      is_ip = ip_computes.spells ip.0 cut.0 ip.1;
      is_intf = intf_computes.spells intf.0 cut.1 intf.1;
      whole = cut_spells 64 text cut at;
    })

hop_found : (ip : Ip) (intf : Option ℕ) (text : List ℕ) → IsHopBy ip intf text → hop_of text ≡ Some (hop_to ip intf)
unfolding hop_by hop_of
hop_found ip None text is = ap (hop_by text) (cut_none 64 text (ip_lacks 64 at_sign ip text is)) ∙ ap (option_map bare) (ip_computes.found ip text is)
hop_found ip (Some intf) text is =
    ap (λ (t : List ℕ). hop_by text (cut_at 64 t)) is.whole ∙ ap (hop_by text) (cut_found 64 is.front is.back (ip_lacks 64 at_sign ip is.front is.is_ip))
    ∙ ap (option_and_then (λ x. option_map (hop_of_intf x) (number_of 1 4294967295 is.back))) (ip_computes.found ip is.front is.is_ip)
    ∙ ap (option_map (hop_of_intf ip)) (intf_computes.found intf is.back is.is_intf)

pub hop_computes : Computes IsHop hop_of
unfolding hop_of
hop_computes = record {
  spells = λ a text e. hop_spells text (cut_at 64 text) a refl e;
  found = λ a text is. hop_found a.ip a.intf text is;
}
