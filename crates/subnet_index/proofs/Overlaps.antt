-- The subnets of other interfaces that overlap a prefix are found by their keys: those within it stand side by side, and one around it is the prefix at a shorter length.
use Rattle.std.proofs.Common.{◌≡◌, ◌≢◌, ℕ, ◌<◌, ◌≤◌, ◌+◌, ◌*◌, ◌/◌, ◌%◌, ◌^◌, ◌-◌, ◌==◌, ◌&&◌, ◌||◌, not, Bool, true, false, min, List, [], ◌∷◌, map, refl, sym, ap, ◌∙◌, subst, inl, inr, ◌⊎◌, arith}
use Rattle.std.specs.Prelude.{nat_lt}
use Rattle.std.specs.Cmp.Derive.{both_true}
use Rattle.std.specs.List.{All, Contains, list_any, take_while}
use Rattle.std.specs.List.Sorted.{IsStrictlySortedBy}
use Rattle.std.specs.Ordering.{nat_cmp}
use Rattle.std.proofs.Math.Nat.{div-mul-le_self, mod-add-div', mul-div_cancel}
use Rattle.std.proofs.lemmas.Bool.{and_parts, both_ways, cases_lt, le-ltb}
use Rattle.std.proofs.lemmas.Bool.Decides.{Decides-eqb}
use Rattle.std.proofs.lemmas.List.Elements.{All-contains, All-head, All-tail}
use Rattle.std.proofs.lemmas.Nat.{le-div, pow_pos}
use Rattle.keyed.specs.Cases.{by_bool}
use Rattle.keyed.specs.Members.{contains_map}
use Rattle.keyed.specs.ListLaws.{any_false, any_true, false_any, true_any}
use Rattle.keyed.specs.Ranges.{keys_onward}
use Rattle.net_types.specs.declared.ip.Ip.{Ip}
use Rattle.net_types.specs.declared.ip.Ip.TheVariants.{V4, V6}
use Rattle.net_types.specs.declared.prefix.PrefixFault.{PrefixFault}
use Rattle.net_types.specs.declared.prefix.PrefixFault.TheVariants.{Length}
use Rattle.net_types.specs.Address.{agree, first_bits, ip_number, ip_width}
use Rattle.net_types.specs.Cidr.{Cidr}
use Rattle.net_types.specs.Prefix.{IsPrefix, IsPrefixFault, ShareAnIp, contains, network, overlaps, subnet_of}
use Rattle.net_types.proofs.Overlaps.{overlap-shared}
use Rattle.net_types.proofs.Prefixes.{network-is_prefix}
use Rattle.state_keys.specs.Bits.{field}
use Rattle.state_keys.specs.KeyLaws.{within}
use Rattle.state_keys.specs.PartKeys.{family, fib_number, ip_of}
use Rattle.state_keys.proofs.Ranges.{range_any, rise_keys}
use Rattle.subnet_index.specs.declared.key.Subnet.{Subnet}
use Rattle.subnet_index.specs.Overlapping.{IsAroundFound, IsNoneBelow, first_number, is_other_at, is_other_within, overlaps_another, shortened}
use Rattle.subnet_index.specs.SubnetKey.{IsSubnet, IsSubnetNumber, subnet_at, subnet_number}

-- a test of numbers and subnets
any_at : (G : ℕ → Subnet → Bool) (ks : List ℕ) → All IsSubnetNumber ks → list_any (λ k. G k (subnet_at k)) ks ≡ list_any (λ s. G (subnet_number s) s) (map subnet_at ks)
any_at G [] all = refl
any_at G (k ∷ ks) all =
    let here : IsSubnetNumber k = All-head IsSubnetNumber k ks all in
    ap (λ (b : Bool). b || list_any (λ x. G x (subnet_at x)) ks) (ap (λ (n : ℕ). G n (subnet_at k)) (sym here.same))
    ∙ ap (λ (b : Bool). G (subnet_number (subnet_at k)) (subnet_at k) || b) (any_at G ks (All-tail IsSubnetNumber k ks all))

div_mono : (a b d : ℕ) → 0 < d → a ≤ b → a / d ≤ b / d
div_mono a b d pos le = le-div (a / d) b d pos (omega (arith, div-mul-le_self a d, le))

-- keys with one VRF and one prefix stand side by side
module _ (bound : ℕ) where
  at_beside : (j k : ℕ) → bound ≤ j → j < k → (k / 2 ^ 39 == bound / 2 ^ 39) ≡ true → (j / 2 ^ 39 == bound / 2 ^ 39) ≡ true
  at_beside j k low lt h =
      let same : k / 2 ^ 39 ≡ bound / 2 ^ 39 = (Decides-eqb (k / 2 ^ 39) (bound / 2 ^ 39)).0 h in
      (Decides-eqb (j / 2 ^ 39) (bound / 2 ^ 39)).1 (omega (arith, same, low, lt))

pub at_found : (intf vrf : ℕ) (p : Cidr) (first : ℕ) (ks : List ℕ) (subs : List Subnet) → first ≡ first_number vrf p → subs ≡ map subnet_at ks → All IsSubnetNumber ks → IsStrictlySortedBy nat_cmp ks
    → list_any (λ k. not (field 153 32 k == intf)) (take_while (λ k. k / 2 ^ 39 == first / 2 ^ 39) (keys_onward nat_cmp first ks)) ≡ list_any (is_other_at intf vrf p) subs
at_found intf vrf p first ks subs is seen numbers asc =
    let bound : ℕ = first_number vrf p in
    let P : ℕ → Bool = λ k. k / 2 ^ 39 == bound / 2 ^ 39 in
    let t : ℕ → Bool = λ k. not (field 153 32 k == intf) in
    let G : ℕ → Subnet → Bool = λ n s. not (nat_lt n bound) && ((n / 2 ^ 39 == bound / 2 ^ 39) && not (s.intf == intf)) in
    ap (λ (n : ℕ). list_any (λ k. not (field 153 32 k == intf)) (take_while (λ k. k / 2 ^ 39 == n / 2 ^ 39) (keys_onward nat_cmp n ks))) is
    ∙ range_any (λ (x : ℕ). x) P t bound IsSubnetNumber (λ j k is_j is_k low lt h. at_beside bound j k low lt h) ks (rise_keys ks asc) numbers
    ∙ any_at G ks numbers
    ∙ ap (list_any (is_other_at intf vrf p)) (sym seen)

-- the parts of a subnet's number
record Bounds (s : Subnet) : Type 0 where
  vrf : s.vrf < 2 ^ 16
  bit : family s.prefix.ip < 2 ^ 1
  number : ip_number s.prefix.ip < 2 ^ 128
  short : s.prefix.len < 2 ^ 8
  intf : s.intf < 2 ^ 32

bounds : (s : Subnet) → IsSubnet s → Bounds s
bounds s is =
    let most = within s.prefix.ip s.prefix.len is.ip is.prefix.0 in
    let last = is.intf.1 in
    record { vrf = is.vrf; bit = most.bit; number = most.number; short = most.short; intf = omega (arith, last) }

same_family : (a b : Ip) → ip_width a ≡ ip_width b → family a ≡ family b
same_family (V4 n) (V4 m) is = refl
same_family (V4 n) (V6 m) is = absurd (omega (arith, is))
same_family (V6 n) (V4 m) is = absurd (omega (arith, is))
same_family (V6 n) (V6 m) is = refl

same_width : (a b : Ip) → family a ≡ family b → ip_width a ≡ ip_width b
same_width (V4 n) (V4 m) is = refl
same_width (V4 n) (V6 m) is = absurd (omega (arith, is))
same_width (V6 n) (V4 m) is = absurd (omega (arith, is))
same_width (V6 n) (V6 m) is = refl

same_ip : (a b : Ip) → family a ≡ family b → ip_number a ≡ ip_number b → a ≡ b
same_ip (V4 n) (V4 m) is number = ap V4 number
same_ip (V4 n) (V6 m) is number = absurd (omega (arith, is))
same_ip (V6 n) (V4 m) is number = absurd (omega (arith, is))
same_ip (V6 n) (V6 m) is number = ap V6 number

-- two that agree in their first bits
record Agreed (len : ℕ) (a b : Ip) : Type 0 where
  width : ip_width a ≡ ip_width b
  bits : first_bits len a ≡ first_bits len b

agreed : (len : ℕ) (a b : Ip) → agree len a b ≡ true → Agreed len a b
agreed len a b h =
    let parts = and_parts (ip_width a == ip_width b) (first_bits len a == first_bits len b) h in
    record { width = (Decides-eqb (ip_width a) (ip_width b)).0 parts.0; bits = (Decides-eqb (first_bits len a) (first_bits len b)).0 parts.1 }

to_agree : (len : ℕ) (a b : Ip) → ip_width a ≡ ip_width b → first_bits len a ≡ first_bits len b → agree len a b ≡ true
to_agree len a b width bits = both_true ((Decides-eqb (ip_width a) (ip_width b)).1 width) ((Decides-eqb (first_bits len a) (first_bits len b)).1 bits)

-- what a prefix keeps to beside its own invariant
abbrev IsInRange : Cidr → Type 0
IsInRange p = ip_number p.ip < 2 ^ ip_width p.ip

-- subnets whose ip a prefix contains stand side by side
module _ (vrf : ℕ) (p : Cidr) (prefix : IsPrefix p) (range : IsInRange p) (small : vrf < 2 ^ 16) where
  beside : (a b : Subnet) → IsSubnet a → IsSubnet b → first_number vrf p ≤ subnet_number a → subnet_number a < subnet_number b → ((b.vrf == vrf) && contains p b.prefix.ip) ≡ true → ((a.vrf == vrf) && contains p a.prefix.ip) ≡ true
  beside a b is_a is_b low lt h =
      let parts = and_parts (b.vrf == vrf) (contains p b.prefix.ip) h in
      let v : b.vrf ≡ vrf = (Decides-eqb b.vrf vrf).0 parts.0 in
      let g = agreed p.len p.ip b.prefix.ip parts.1 in
      let f : family p.ip ≡ family b.prefix.ip = same_family p.ip b.prefix.ip g.width in
      let most = within p.ip p.len range prefix.0 in
      let ba = bounds a is_a in
      let bb = bounds b is_b in
      let order = cases (vrf) (family p.ip) (ip_number p.ip) p.len a.vrf (family a.prefix.ip) (ip_number a.prefix.ip) a.prefix.len a.intf b.vrf (family b.prefix.ip) (ip_number b.prefix.ip) b.prefix.len b.intf most.bit most.number most.short ba.vrf ba.bit ba.number ba.short ba.intf bb.bit bb.number bb.short bb.intf v f low lt in
      let d : ℕ = 2 ^ (ip_width p.ip - p.len) in
      let width : ip_width p.ip ≡ ip_width a.prefix.ip = same_width p.ip a.prefix.ip order.1.0 in
      let same_d : 2 ^ (ip_width a.prefix.ip - p.len) ≡ d = ap (λ (w : ℕ). 2 ^ (w - p.len)) (sym width) in
      let same_e : 2 ^ (ip_width b.prefix.ip - p.len) ≡ d = ap (λ (w : ℕ). 2 ^ (w - p.len)) (sym g.width) in
      let pos : 0 < d = pow_pos (ip_width p.ip - p.len) in
      let up : ip_number p.ip / d ≤ ip_number a.prefix.ip / d = div_mono (ip_number p.ip) (ip_number a.prefix.ip) d pos order.1.1.0 in
      let down : ip_number a.prefix.ip / d ≤ ip_number b.prefix.ip / d = div_mono (ip_number a.prefix.ip) (ip_number b.prefix.ip) d pos order.1.1.1 in
      let end : ip_number p.ip / d ≡ ip_number b.prefix.ip / d = g.bits ∙ ap (λ (e : ℕ). ip_number b.prefix.ip / e) same_e in
      let met : ip_number p.ip / d ≡ ip_number a.prefix.ip / d = omega (arith, up, down, end) in
      both_true ((Decides-eqb a.vrf vrf).1 order.0) (to_agree p.len p.ip a.prefix.ip width (met ∙ ap (λ (e : ℕ). ip_number a.prefix.ip / e) (sym same_d)))
    where
      cases : (v f n l av af an al ai bv bf bn bl bi : ℕ) → f < 2 → n < 2 ^ 128 → l < 2 ^ 8 → av < 2 ^ 16 → af < 2 → an < 2 ^ 128 → al < 2 ^ 8 → ai < 2 ^ 32 → bf < 2 → bn < 2 ^ 128 → bl < 2 ^ 8 → bi < 2 ^ 32 → bv ≡ v → f ≡ bf
          → v * 2 ^ 176 + (f * 2 ^ 175 + (n * 2 ^ 47 + (l * 2 ^ 39 + 0))) ≤ av * 2 ^ 176 + (af * 2 ^ 175 + (an * 2 ^ 47 + (al * 2 ^ 39 + (ai * 2 ^ 7 + 0))))
          → av * 2 ^ 176 + (af * 2 ^ 175 + (an * 2 ^ 47 + (al * 2 ^ 39 + (ai * 2 ^ 7 + 0)))) < bv * 2 ^ 176 + (bf * 2 ^ 175 + (bn * 2 ^ 47 + (bl * 2 ^ 39 + (bi * 2 ^ 7 + 0))))
          → (av ≡ v) × ((f ≡ af) × ((n ≤ an) × (an ≤ bn)))
      cases v f n l av af an al ai bv bf bn bl bi a1 a2 a3 a4 a5 a6 a7 a8 a9 b1 b2 b3 same_v same_f low lt = (omega arith, (omega arith, (omega arith, omega arith)))

  within_beside : (j k : ℕ) → IsSubnetNumber j → IsSubnetNumber k → first_number vrf p ≤ j → j < k → ((field 0 16 k == vrf) && contains p (ip_of k)) ≡ true → ((field 0 16 j == vrf) && contains p (ip_of j)) ≡ true
  within_beside j k is_j is_k low lt h =
      let low_at : first_number vrf p ≤ subnet_number (subnet_at j) = subst (λ (n : ℕ). first_number vrf p ≤ n) (sym is_j.same) low in
      let lt_j : subnet_number (subnet_at j) < k = subst (λ (n : ℕ). n < k) (sym is_j.same) lt in
      let lt_at : subnet_number (subnet_at j) < subnet_number (subnet_at k) = subst (λ (n : ℕ). subnet_number (subnet_at j) < n) (sym is_k.same) lt_j in
      beside (subnet_at j) (subnet_at k) is_j.key is_k.key low_at lt_at h

  pub within_found : (intf first : ℕ) (ks : List ℕ) (subs : List Subnet) → first ≡ first_number vrf p → subs ≡ map subnet_at ks → All IsSubnetNumber ks → IsStrictlySortedBy nat_cmp ks
      → list_any (λ k. not (field 153 32 k == intf)) (take_while (λ k. (field 0 16 k == vrf) && contains p (ip_of k)) (keys_onward nat_cmp first ks)) ≡ list_any (is_other_within intf vrf p) subs
  within_found intf first ks subs is seen numbers asc =
      let bound : ℕ = first_number vrf p in
      let P : ℕ → Bool = λ k. (field 0 16 k == vrf) && contains p (ip_of k) in
      let t : ℕ → Bool = λ k. not (field 153 32 k == intf) in
      let G : ℕ → Subnet → Bool = λ n s. not (nat_lt n bound) && (((s.vrf == vrf) && contains p s.prefix.ip) && not (s.intf == intf)) in
      ap (λ (n : ℕ). list_any t (take_while P (keys_onward nat_cmp n ks))) is
      ∙ range_any (λ (x : ℕ). x) P t bound IsSubnetNumber within_beside ks (rise_keys ks asc) numbers
      ∙ any_at G ks numbers
      ∙ ap (list_any (is_other_within intf vrf p)) (sym seen)

-- a number with its lowest bits cleared
aligned : (n d : ℕ) → n % d ≡ 0 → n / d * d ≡ n
aligned n d none = omega (arith, mod-add-div' n d, none)

prefix_number : (p : Cidr) → IsPrefix p → ip_number p.ip / 2 ^ (ip_width p.ip - p.len) * 2 ^ (ip_width p.ip - p.len) ≡ ip_number p.ip
prefix_number p is = aligned (ip_number p.ip) (2 ^ (ip_width p.ip - p.len)) is.1

network_number : (len : ℕ) (ip : Ip) → ip_number (network len ip) ≡ ip_number ip / 2 ^ (ip_width ip - len) * 2 ^ (ip_width ip - len)
network_number len (V4 n) = refl
network_number len (V6 n) = refl

network_family : (len : ℕ) (ip : Ip) → family (network len ip) ≡ family ip
network_family len (V4 n) = refl
network_family len (V6 n) = refl

network_width : (len : ℕ) (ip : Ip) → ip_width (network len ip) ≡ ip_width ip
network_width len (V4 n) = refl
network_width len (V6 n) = refl

network_bits : (len : ℕ) (ip : Ip) → first_bits len (network len ip) ≡ first_bits len ip
network_bits len (V4 n) = mul-div_cancel (n / 2 ^ (32 - len)) (pow_pos (32 - len))
network_bits len (V6 n) = mul-div_cancel (n / 2 ^ (128 - len)) (pow_pos (128 - len))

-- an ip lies in a prefix with its first bits, and each prefix has its own ip
own_ip : (p : Cidr) → contains p p.ip ≡ true
own_ip p = to_agree p.len p.ip p.ip refl refl

in_shortened : (p : Cidr) (len : ℕ) → contains (shortened p len) p.ip ≡ true
in_shortened p len = to_agree len (network len p.ip) p.ip (network_width len p.ip) (network_bits len p.ip)

shared : (p q : Cidr) (ip : Ip) → IsPrefix p → IsPrefix q → contains p ip ≡ true → contains q ip ≡ true → overlaps p q ≡ true
shared p q ip is is2 in_p in_q = (overlap-shared p q is.0 is2.0 (overlaps p q) refl).1 (ip, in_p, in_q)

-- another interface's subnet of the VRF
record IsOther (intf vrf : ℕ) (s : Subnet) : Type 0 where
  vrf_is : s.vrf ≡ vrf
  intf_not : not (s.intf == intf) ≡ true

to_another : (intf vrf : ℕ) (p : Cidr) (s : Subnet) → IsOther intf vrf s → overlaps p s.prefix ≡ true → overlaps_another intf vrf p s ≡ true
to_another intf vrf p s is h = both_true (both_true is.intf_not ((Decides-eqb s.vrf vrf).1 is.vrf_is)) h

of_another : (intf vrf : ℕ) (p : Cidr) (s : Subnet) → overlaps_another intf vrf p s ≡ true → IsOther intf vrf s × (overlaps p s.prefix ≡ true)
of_another intf vrf p s h =
    let parts = and_parts (not (s.intf == intf) && (s.vrf == vrf)) (overlaps p s.prefix) h in
    let first = and_parts (not (s.intf == intf)) (s.vrf == vrf) parts.0 in
    (record { vrf_is = (Decides-eqb s.vrf vrf).0 first.1; intf_not = first.0 }, parts.1)

not_below : (n bound : ℕ) → bound ≤ n → not (nat_lt n bound) ≡ true
not_below n bound le = rw (le-ltb n bound le) refl

-- one within, and one around
within_overlaps : (intf vrf : ℕ) (p : Cidr) (s : Subnet) → IsPrefix p → IsSubnet s → is_other_within intf vrf p s ≡ true → overlaps_another intf vrf p s ≡ true
within_overlaps intf vrf p s prefix is h =
    let rest = and_parts (not (nat_lt (subnet_number s) (first_number vrf p))) (((s.vrf == vrf) && contains p s.prefix.ip) && not (s.intf == intf)) h in
    let parts = and_parts ((s.vrf == vrf) && contains p s.prefix.ip) (not (s.intf == intf)) rest.1 in
    let first = and_parts (s.vrf == vrf) (contains p s.prefix.ip) parts.0 in
    to_another intf vrf p s (record { vrf_is = (Decides-eqb s.vrf vrf).0 first.0; intf_not = parts.1 }) (shared p s.prefix s.prefix.ip prefix is.prefix first.1 (own_ip s.prefix))

numbers_order : (v f n l m k i : ℕ) → n ≤ m → l ≤ k → v * 2 ^ 176 + (f * 2 ^ 175 + (n * 2 ^ 47 + (l * 2 ^ 39 + 0))) ≤ v * 2 ^ 176 + (f * 2 ^ 175 + (m * 2 ^ 47 + (k * 2 ^ 39 + (i * 2 ^ 7 + 0))))
numbers_order v f n l m k i le le2 = omega (arith, le, le2)

overlaps_within : (intf vrf : ℕ) (p : Cidr) (s : Subnet) → IsPrefix p → IsSubnet s → p.len ≤ s.prefix.len → overlaps_another intf vrf p s ≡ true → is_other_within intf vrf p s ≡ true
overlaps_within intf vrf p s prefix is longer h =
    let other = of_another intf vrf p s h in
    let least : min p.len s.prefix.len ≡ p.len = omega (arith, longer) in
    let in_p : contains p s.prefix.ip ≡ true = subst (λ (n : ℕ). agree n p.ip s.prefix.ip ≡ true) least other.1 in
    let g = agreed p.len p.ip s.prefix.ip in_p in
    let d : ℕ = 2 ^ (ip_width p.ip - p.len) in
    let same_d : 2 ^ (ip_width s.prefix.ip - p.len) ≡ d = ap (λ (w : ℕ). 2 ^ (w - p.len)) (sym g.width) in
    let front : ip_number p.ip / d ≡ ip_number s.prefix.ip / d = g.bits ∙ ap (λ (e : ℕ). ip_number s.prefix.ip / e) same_d in
    let up : ip_number p.ip ≤ ip_number s.prefix.ip = subst (λ (n : ℕ). n ≤ ip_number s.prefix.ip) (ap (λ (n : ℕ). n * d) (sym front) ∙ prefix_number p prefix) (div-mul-le_self (ip_number s.prefix.ip) d) in
    let low : first_number vrf p ≤ subnet_number (record s { vrf = vrf }) = subst (λ (f : ℕ). first_number vrf p ≤ vrf * 2 ^ 176 + (f * 2 ^ 175 + (ip_number s.prefix.ip * 2 ^ 47 + (s.prefix.len * 2 ^ 39 + (s.intf * 2 ^ 7 + 0))))) (same_family p.ip s.prefix.ip g.width) (numbers_order vrf (family p.ip) (ip_number p.ip) p.len (ip_number s.prefix.ip) s.prefix.len s.intf up longer) in
    let low_s : first_number vrf p ≤ subnet_number s = subst (λ (v : ℕ). first_number vrf p ≤ subnet_number (record s { vrf = v })) (sym other.0.vrf_is) low in
    both_true (not_below (subnet_number s) (first_number vrf p) low_s) (both_true (both_true ((Decides-eqb s.vrf vrf).1 other.0.vrf_is) in_p) other.0.intf_not)

-- a subnet with a prefix's own key is of that prefix
parts_same : (v f n l av af an al ai : ℕ) → f < 2 → n < 2 ^ 128 → l < 2 ^ 8 → af < 2 → an < 2 ^ 128 → al < 2 ^ 8 → ai < 2 ^ 32
    → (av * 2 ^ 176 + (af * 2 ^ 175 + (an * 2 ^ 47 + (al * 2 ^ 39 + (ai * 2 ^ 7 + 0))))) / 2 ^ 39 ≡ (v * 2 ^ 176 + (f * 2 ^ 175 + (n * 2 ^ 47 + (l * 2 ^ 39 + 0)))) / 2 ^ 39
    → (av ≡ v) × ((af ≡ f) × ((an ≡ n) × (al ≡ l)))
parts_same v f n l av af an al ai a1 a2 a3 b1 b2 b3 b4 is = (omega arith, (omega arith, (omega arith, omega arith)))

prefix_same : (p q : Cidr) → p.ip ≡ q.ip → p.len ≡ q.len → p ≡ q
prefix_same p q ip len = ap (λ (i : Ip). record { ip = i; len = p.len }) ip ∙ ap (λ (n : ℕ). record q { len = n }) len

at_parts : (intf vrf : ℕ) (q : Cidr) (s : Subnet) → IsPrefix q → IsInRange q → IsSubnet s → is_other_at intf vrf q s ≡ true → IsOther intf vrf s × (s.prefix ≡ q)
at_parts intf vrf q s prefix range is h =
    let rest = and_parts (not (nat_lt (subnet_number s) (first_number vrf q))) ((subnet_number s / 2 ^ 39 == first_number vrf q / 2 ^ 39) && not (s.intf == intf)) h in
    let parts = and_parts (subnet_number s / 2 ^ 39 == first_number vrf q / 2 ^ 39) (not (s.intf == intf)) rest.1 in
    let front : subnet_number s / 2 ^ 39 ≡ first_number vrf q / 2 ^ 39 = (Decides-eqb (subnet_number s / 2 ^ 39) (first_number vrf q / 2 ^ 39)).0 parts.0 in
    let most = within q.ip q.len range prefix.0 in
    let b = bounds s is in
    let same = parts_same vrf (family q.ip) (ip_number q.ip) q.len s.vrf (family s.prefix.ip) (ip_number s.prefix.ip) s.prefix.len s.intf most.bit most.number most.short b.bit b.number b.short b.intf front in
    (record { vrf_is = same.0; intf_not = parts.1 }, prefix_same s.prefix q (same_ip s.prefix.ip q.ip same.1.0 same.1.1.0) same.1.1.1)

parts_at : (intf vrf : ℕ) (s : Subnet) → IsSubnet s → IsOther intf vrf s → is_other_at intf vrf s.prefix s ≡ true
parts_at intf vrf s is other =
    let b = bounds s is in
    let front : subnet_number (record s { vrf = vrf }) / 2 ^ 39 ≡ first_number vrf s.prefix / 2 ^ 39 = last_bits vrf (family s.prefix.ip) (ip_number s.prefix.ip) s.prefix.len s.intf b.intf in
    let front_s : subnet_number s / 2 ^ 39 ≡ first_number vrf s.prefix / 2 ^ 39 = subst (λ (v : ℕ). subnet_number (record s { vrf = v }) / 2 ^ 39 ≡ first_number vrf s.prefix / 2 ^ 39) (sym other.vrf_is) front in
    let low_s : first_number vrf s.prefix ≤ subnet_number s = subst (λ (v : ℕ). first_number vrf s.prefix ≤ subnet_number (record s { vrf = v })) (sym other.vrf_is) (numbers_order vrf (family s.prefix.ip) (ip_number s.prefix.ip) s.prefix.len (ip_number s.prefix.ip) s.prefix.len s.intf (omega arith) (omega arith)) in
    both_true (not_below (subnet_number s) (first_number vrf s.prefix) low_s) (both_true ((Decides-eqb (subnet_number s / 2 ^ 39) (first_number vrf s.prefix / 2 ^ 39)).1 front_s) other.intf_not)
  where
    last_bits : (v f n l i : ℕ) → i < 2 ^ 32 → (v * 2 ^ 176 + (f * 2 ^ 175 + (n * 2 ^ 47 + (l * 2 ^ 39 + (i * 2 ^ 7 + 0))))) / 2 ^ 39 ≡ (v * 2 ^ 176 + (f * 2 ^ 175 + (n * 2 ^ 47 + (l * 2 ^ 39 + 0)))) / 2 ^ 39
    last_bits v f n l i fits = omega (arith, fits)

-- a shorter prefix around the prefix is the prefix at that length
shortened_range : (p : Cidr) (len : ℕ) → IsInRange p → IsInRange (shortened p len)
shortened_range p len range =
    let le : ip_number p.ip / 2 ^ (ip_width p.ip - len) * 2 ^ (ip_width p.ip - len) ≤ ip_number p.ip = div-mul-le_self (ip_number p.ip) (2 ^ (ip_width p.ip - len)) in
    let number : ip_number (network len p.ip) ≤ ip_number p.ip = subst (λ (n : ℕ). n ≤ ip_number p.ip) (sym (network_number len p.ip)) le in
    let fits : ip_number (network len p.ip) < 2 ^ ip_width p.ip = omega (arith, number, range) in
    subst (λ (w : ℕ). ip_number (network len p.ip) < 2 ^ w) (sym (network_width len p.ip)) fits

around_is : (p : Cidr) (q : Cidr) → IsPrefix q → q.len < p.len → overlaps p q ≡ true → q ≡ shortened p q.len
around_is p q is shorter h =
    let least : min p.len q.len ≡ q.len = omega (arith, shorter) in
    let g = agreed q.len p.ip q.ip (subst (λ (n : ℕ). agree n p.ip q.ip ≡ true) least h) in
    let d : ℕ = 2 ^ (ip_width q.ip - q.len) in
    let same_d : 2 ^ (ip_width p.ip - q.len) ≡ d = ap (λ (w : ℕ). 2 ^ (w - q.len)) g.width in
    let number : ip_number q.ip ≡ ip_number (network q.len p.ip) = sym (prefix_number q is) ∙ ap (λ (n : ℕ). n * d) (sym g.bits) ∙ ap (λ (e : ℕ). ip_number p.ip / 2 ^ (ip_width p.ip - q.len) * e) (sym same_d) ∙ sym (network_number q.len p.ip) in
    let kind : family q.ip ≡ family (network q.len p.ip) = sym (same_family p.ip q.ip g.width) ∙ sym (network_family q.len p.ip) in
    prefix_same q (shortened p q.len) (same_ip q.ip (network q.len p.ip) kind number) refl

abbrev AreSubnets : List Subnet → Type 0
AreSubnets subs = (s : Subnet) → Contains subs s → IsSubnet s

-- what is found within overlaps, and where nothing is, what is found around is all that does
pub inside_found : (intf vrf : ℕ) (p : Cidr) (subs : List Subnet) → IsPrefix p → AreSubnets subs → list_any (is_other_within intf vrf p) subs ≡ true → list_any (overlaps_another intf vrf p) subs ≡ true
inside_found intf vrf p subs prefix are h =
    let one = any_true (is_other_within intf vrf p) subs h in
    true_any (overlaps_another intf vrf p) subs one.0 one.1 (within_overlaps intf vrf p one.0 prefix (are one.0 one.1) one.2)

pub around_found : (intf vrf : ℕ) (p : Cidr) (subs : List Subnet) (around : Bool) → IsPrefix p → IsInRange p → AreSubnets subs → list_any (is_other_within intf vrf p) subs ≡ false → IsAroundFound intf vrf p subs around → around ≡ list_any (overlaps_another intf vrf p) subs
around_found intf vrf p subs true prefix range are none found =
    let s = found.0 in
    let len = found.2.0 in
    let lt : len < p.len = found.2.1 in
    let shorter : IsPrefix (shortened p len) = network-is_prefix len p.ip (omega (arith, lt, prefix.0)) in
    let at = at_parts intf vrf (shortened p len) s shorter (shortened_range p len range) (are s found.1) found.2.2 in
    let over : overlaps p s.prefix ≡ true = subst (λ (q : Cidr). overlaps p q ≡ true) (sym at.1) (shared p (shortened p len) p.ip prefix shorter (own_ip p) (in_shortened p len)) in
    sym (true_any (overlaps_another intf vrf p) subs s found.1 (to_another intf vrf p s at.0 over))
around_found intf vrf p subs false prefix range are none found = sym (false_any (overlaps_another intf vrf p) subs (λ s there. by_bool (overlaps_another intf vrf p s)
    (λ h. elim (cases_lt s.prefix.len p.len) [
      | inl lt ↦
          let other = of_another intf vrf p s h in
          let same : s.prefix ≡ shortened p s.prefix.len = around_is p s.prefix (are s there).prefix lt other.1 in
          let at : is_other_at intf vrf (shortened p s.prefix.len) s ≡ true = subst (λ (q : Cidr). is_other_at intf vrf q s ≡ true) same (parts_at intf vrf s (are s there) other.0) in
          absurd (both_ways (is_other_at intf vrf (shortened p s.prefix.len) s) (found s there s.prefix.len lt) at)
      | inr le ↦ absurd (both_ways (is_other_within intf vrf p s) (any_false (is_other_within intf vrf p) subs none s there) (overlaps_within intf vrf p s prefix (are s there) le h))
    ])
    (λ h. h)))

-- the subnets of keys
pub are_subnets : (ks : List ℕ) (subs : List Subnet) → subs ≡ map subnet_at ks → All IsSubnetNumber ks → AreSubnets subs
are_subnets ks subs seen numbers s has =
    let found = contains_map subnet_at ks s (subst (λ (l : List Subnet). Contains l s) seen has) in
    subst (λ (x : Subnet). IsSubnet x) found.2 (All-contains IsSubnetNumber ks found.0 numbers found.1).key

-- length by length
pub none_first : (intf vrf : ℕ) (p : Cidr) (subs : List Subnet) → IsNoneBelow intf vrf p subs 0
none_first intf vrf p subs s has len lt = absurd (omega (arith, lt))

pub none_more : (intf vrf : ℕ) (p q : Cidr) (subs : List Subnet) (len : ℕ) (found : Bool) → q ≡ shortened p len → found ≡ list_any (is_other_at intf vrf q) subs → found ≡ false → IsNoneBelow intf vrf p subs len → IsNoneBelow intf vrf p subs (len + 1)
none_more intf vrf p q subs len found same is none before s has l lt = elim (cases_lt l len) [
  | inl less ↦ before s has l less
  | inr le ↦
      let here : is_other_at intf vrf (shortened p len) s ≡ false = subst (λ (c : Cidr). is_other_at intf vrf c s ≡ false) same (any_false (is_other_at intf vrf q) subs (sym is ∙ none) s has) in
      let last : len ≡ l = omega (arith, lt, le) in
      subst (λ (n : ℕ). is_other_at intf vrf (shortened p n) s ≡ false) last here
]

pub none_last : (intf vrf : ℕ) (p : Cidr) (subs : List Subnet) (len end : ℕ) → end ≤ len → IsNoneBelow intf vrf p subs len → IsNoneBelow intf vrf p subs end
none_last intf vrf p subs len end le before s has l lt = before s has l (omega (arith, le, lt))

pub some_at : (intf vrf : ℕ) (p q : Cidr) (subs : List Subnet) (len : ℕ) (found : Bool) → q ≡ shortened p len → len < p.len → found ≡ list_any (is_other_at intf vrf q) subs → found ≡ true → IsAroundFound intf vrf p subs true
some_at intf vrf p q subs len found same lt is yes_found =
    let one = any_true (is_other_at intf vrf q) subs (sym is ∙ yes_found) in
    (one.0, one.1, (len, lt, subst (λ (c : Cidr). is_other_at intf vrf c one.0 ≡ true) same one.2))

-- a shorter length is within the width
pub not_too_long : (fault : PrefixFault) (ip : Ip) (len : ℕ) (p : Cidr) → (fault ≡ Length) × IsPrefixFault fault (record { ip = ip; len = len }) → ip ≡ p.ip → len ≤ p.len → p.len ≤ ip_width p.ip → ⊥
not_too_long fault ip len p is same le range =
    let long : ip_width ip < len = subst (λ (f : PrefixFault). IsPrefixFault f (record { ip = ip; len = len })) is.0 is.1 in
    let long_p : ip_width p.ip < len = subst (λ (i : Ip). ip_width i < len) same long in
    omega (arith, long_p, le, range)
