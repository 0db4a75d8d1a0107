-- What is printed spells the value.
use Rattle.std.proofs.Common.{◌≡◌, ◌≤◌, ◌<◌, ◌+◌, ◌-◌, ◌*◌, ◌/◌, ◌%◌, ◌^◌, ◌==◌, ℕ, suc, zero, List, [], ◌∷◌, ◌++◌, take, drop, map, replicate, true, false, cond, nat_lt, refl, sym, ap, subst, ◌∙◌, arith, ◌⊎◌, inl, inr, length-append, Some, None}
use Rattle.std.proofs.lemmas.Bool.{cases_lt, cases_eq, cond-true, cond-false, lt-ltb, and_from, and_parts, eq-eqb, ne_eqb}
use Rattle.std.proofs.lemmas.Bool.Decides.{nat_tests}
use Rattle.std.proofs.lemmas.List.{take-append-drop, drop-drop, append-nil}
use Rattle.std.proofs.lemmas.Fmt.{hex_one_digit}
use Rattle.std.proofs.Math.Nat.{pow-succ'}
use Rattle.std.specs.Fmt.{decimal, digits, digit_glyph}
use Rattle.std.specs.List.{join_with_byte, AllByRecursion}
use Rattle.net_types.specs.declared.ip.Ip.{Ip}
use Rattle.net_types.specs.declared.ip.Ip.TheVariants.{V4, V6}
use Rattle.net_types.specs.Address.{ip_number, ip_width}
use Rattle.net_types.specs.Cidr.{Cidr}
use Rattle.ip_text.specs.Numerals.{is_hex, hex, all_hex, hex_on, IsHex, IsNumber, Joined}
use Rattle.ip_text.specs.Ipv6.{IsGroup, Groups, Compressed}
use Rattle.ip_text.specs.AddressText.{IsIp, IsAddr, IsMac, IsHopBy}
use Rattle.ip_text.specs.Printed.{places, zeros_before, Run, longest_run, group_text, groups_text, compressed_text, ip_text, addr_text, pair_text, mac_text, intf_text}
use Rattle.ip_text.specs.Runs.{zeros_at}
use Rattle.ip_text.proofs.HexDigits.{hex_step}
use Rattle.ip_text.proofs.PlaceLaws.{places_value, places_length, places_below}
use Rattle.ip_text.proofs.RunLaws.{longest_is}

record IsGlyph (d : ℕ) : Type 0 where
  digit : is_hex (digit_glyph false d) ≡ true
  value : hex (digit_glyph false d) ≡ d

glyph_is : (d : ℕ) → d < 16 → IsGlyph d
glyph_is d small = record { digit = grind (arith, nat_tests); value = grind (arith, nat_tests) }

pair_is : (v : ℕ) → v < 256 → IsHex 2 2 v (pair_text v)
pair_is v small =
    let p = glyph_is (v / 16) (omega arith) in
    let q = glyph_is (v % 16) (omega arith) in
    record { enough = omega arith; short = omega arith; digits = and_from _ _ p.digit (and_from _ _ q.digit refl); spelled = omega (arith, p.value, q.value) }

one_hex : (g : ℕ) → g < 16 → IsHex 1 1 g (digits 16 false g)
one_hex g small =
    let p = glyph_is g small in
    subst (λ (t : List ℕ). IsHex 1 1 g t) (sym (hex_one_digit false g small)) (record { enough = omega arith; short = omega arith; digits = and_from _ _ p.digit refl; spelled = omega (arith, p.value) })

all_hex-append : (t : List ℕ) (c : ℕ) → all_hex t ≡ true → is_hex c ≡ true → all_hex (t ++ c ∷ []) ≡ true
all_hex-append [] c all is = and_from _ _ is refl
all_hex-append (b ∷ bs) c all is = let parts = and_parts (is_hex b) (all_hex bs) all in and_from _ _ parts.0 (all_hex-append bs c parts.1 is)

hex_on-append : (n : ℕ) (t : List ℕ) (c : ℕ) → hex_on n (t ++ c ∷ []) ≡ 16 * hex_on n t + hex c
hex_on-append n [] c = refl
hex_on-append n (b ∷ bs) c = hex_on-append (16 * n + hex b) bs c

next_hex : (high v d : ℕ) (t : List ℕ) → IsHex 1 high v t → d < 16 → IsHex 1 (suc high) (16 * v + d) (t ++ digit_glyph false d ∷ [])
next_hex high v d t is small =
    let p = glyph_is d small in
    record {
      enough = omega (arith, is.enough, length-append t (digit_glyph false d ∷ []));
      short = omega (arith, is.short, length-append t (digit_glyph false d ∷ []));
      digits = all_hex-append t (digit_glyph false d) is.digits p.digit;
      spelled = omega (arith, hex_on-append 0 t (digit_glyph false d), is.spelled, p.value);
    }

wider_hex : (low high v : ℕ) (t : List ℕ) → low ≤ high → IsHex 1 low v t → IsHex 1 high v t
wider_hex low high v t le is = record { enough = is.enough; short = omega (arith, is.short); digits = is.digits; spelled = is.spelled }

hexes : (k g : ℕ) → g < 16 ^ suc k → g < 2 ^ 64 → IsHex 1 (suc k) g (digits 16 false g)
hexes zero g small fits = one_hex g small
hexes (suc k) g small fits = elim (cases_lt g 16) [
  | inl one ↦ wider_hex 1 (suc (suc k)) g (digits 16 false g) (omega arith) (one_hex g one)
  | inr more ↦
      let front = hexes k (g / 16) (omega (arith, pow-succ' 16 (suc k))) (omega arith) in
      let whole = next_hex (suc k) (g / 16) (g % 16) (digits 16 false (g / 16)) front (omega arith) in
      let same : 16 * (g / 16) + g % 16 ≡ g = omega arith in
      subst (λ (t : List ℕ). IsHex 1 (suc (suc k)) g t) (sym (hex_step g more fits)) (subst (λ (n : ℕ). IsHex 1 (suc (suc k)) n (digits 16 false (g / 16) ++ digit_glyph false (g % 16) ∷ [])) same whole)
]

group_is : (g : ℕ) → g < 65536 → IsGroup g (group_text g)
group_is g small = hexes 3 g small (omega arith)

-- a row of printed values
row_is : (Is : ℕ → List ℕ → Type 0) (piece : ℕ → List ℕ) (s bound : ℕ) (vs : List ℕ) → ((v : ℕ) → v < bound → Is v (piece v)) → AllByRecursion (λ v. v < bound) vs → Joined Is s vs (join_with_byte s (map piece vs))
row_is Is piece s bound [] each small = refl
row_is Is piece s bound (v ∷ []) each small = each v small.0
row_is Is piece s bound (v ∷ w ∷ vs) each small = (piece v, join_with_byte s (map piece (w ∷ vs)), each v small.0, row_is Is piece s bound (w ∷ vs) each small.1, refl)

abbrev AllGroups : List ℕ → Type 0
AllGroups groups = AllByRecursion (λ v. v < 65536) groups

groups_is : (gs : List ℕ) → AllGroups gs → Groups gs (groups_text gs)
groups_is [] small = refl
groups_is (g ∷ []) small = group_is g small.0
groups_is (g ∷ h ∷ gs) small = inl (group_text g, groups_text (h ∷ gs), group_is g small.0, groups_is (h ∷ gs) small.1, refl)

small_take : (n : ℕ) (gs : List ℕ) → AllGroups gs → AllGroups (take n gs)
small_take zero gs small = tt
small_take (suc n) [] small = tt
small_take (suc n) (g ∷ gs) small = (small.0, small_take n gs small.1)

small_drop : (n : ℕ) (gs : List ℕ) → AllGroups gs → AllGroups (drop n gs)
small_drop zero gs small = small
small_drop (suc n) [] small = tt
small_drop (suc n) (g ∷ gs) small = small_drop n gs small.1

zeros_split : (gs : List ℕ) → gs ≡ replicate (zeros_before gs) 0 ++ drop (zeros_before gs) gs
zeros_split [] = refl
zeros_split (g ∷ gs) = elim (cases_eq g 0) [
  | inl same ↦
      let n : zeros_before (g ∷ gs) ≡ suc (zeros_before gs) = cond-true (g == 0) _ _ (eq-eqb g 0 same) ∙ omega arith in
      subst (λ (k : ℕ). g ∷ gs ≡ replicate k 0 ++ drop k (g ∷ gs)) (sym n) (ap (λ (x : ℕ). x ∷ gs) same ∙ ap (λ (l : List ℕ). 0 ∷ l) (zeros_split gs))
  | inr other ↦
      let n : zeros_before (g ∷ gs) ≡ 0 = cond-false (g == 0) _ _ (ne_eqb g 0 other) in
      subst (λ (k : ℕ). g ∷ gs ≡ replicate k 0 ++ drop k (g ∷ gs)) (sym n) refl
]

-- the run between what stands before it and after it
run_split : (gs : List ℕ) (start count : ℕ) → zeros_at gs start ≡ count → gs ≡ take start gs ++ (replicate count 0 ++ drop (start + count) gs)
run_split gs start count here =
    let tail : drop start gs ≡ replicate count 0 ++ drop (start + count) gs =
    zeros_split (drop start gs) ∙ ap (λ (k : ℕ). replicate k 0 ++ drop k (drop start gs)) here ∙ ap (λ (l : List ℕ). replicate count 0 ++ l) (drop-drop count start gs) in
    sym (take-append-drop start gs) ∙ ap (λ (l : List ℕ). take start gs ++ l) tail

by_test : (g n : ℕ) (P : List ℕ → Type 0) (x y : List ℕ) → (g < n → P x) → (n ≤ g → P y) → P (cond (nat_lt g n) x y)
by_test g n P x y below above = elim (cases_lt g n) [
  | inl less ↦ subst P (sym (cond-true (nat_lt g n) x y (lt-ltb g n less))) (below less)
  | inr le ↦ subst P (sym (cond-false (nat_lt g n) x y (grind (arith, nat_tests)))) (above le)
]

compressed_is : (gs : List ℕ) (start count : ℕ) → AllGroups gs → zeros_at gs start ≡ count → (let run : Run = record { start = start; count = count } in Groups gs (compressed_text gs run) ⊎ Compressed gs (compressed_text gs run))
compressed_is gs start count small here =
    by_test count 2 (λ (t : List ℕ). Groups gs t ⊎ Compressed gs t) (groups_text gs) (groups_text (take start gs) ++ 58 ∷ 58 ∷ groups_text (drop (start + count) gs)) (λ few. inl (groups_is gs small)) (λ many. inr record {
      left = take start gs;
      zeros = count - 1;
      right = drop (start + count) gs;
      before = groups_text (take start gs);
      behind = groups_text (drop (start + count) gs);
      whole = subst (λ (k : ℕ). gs ≡ take start gs ++ (replicate k 0 ++ drop (start + count) gs)) (omega arith) (run_split gs start count here);
      joined = row_is IsGroup group_text 58 65536 (take start gs) group_is (small_take start gs small);
      rest = groups_is (drop (start + count) gs) (small_drop (start + count) gs small);
      spelled = refl;
    })

octet_is : (v : ℕ) → v < 256 → IsNumber 0 255 v (decimal v)
octet_is v small = record { enough = omega arith; within = omega arith; spelled = refl }

pub ip_is : (ip : Ip) → ip_number ip < 2 ^ ip_width ip → IsIp ip (ip_text ip)
ip_is (V4 n) small = record {
  parts = places 256 4 n;
  number = places_length 256 4 n;
  joined = row_is (IsNumber 0 255) decimal 46 256 (places 256 4 n) octet_is (places_below 256 4 n (omega arith));
  spelled = places_value 256 4 n small;
}
ip_is (V6 n) small =
    let groups = places 65536 8 n in
    let run = longest_run groups in
    record {
      groups = groups;
      eight = places_length 65536 8 n;
      number = places_value 65536 8 n small;
      spelled = compressed_is groups run.start run.count (places_below 65536 8 n (omega arith)) (longest_is groups).here;
    }

pub addr_is : (addr : Cidr) → ip_number addr.ip < 2 ^ ip_width addr.ip → addr.len ≤ ip_width addr.ip → IsAddr addr (addr_text addr)
addr_is addr small le = record {
  ip = ip_text addr.ip;
  len = decimal addr.len;
  is_ip = ip_is addr.ip small;
  is_len = record { enough = omega arith; within = le; spelled = refl };
  whole = refl;
}

pub mac_is : (mac : ℕ) → mac < 2 ^ 48 → IsMac mac (mac_text mac)
mac_is mac small = record {
  parts = places 256 6 mac;
  number = places_length 256 6 mac;
  joined = row_is (IsHex 2 2) pair_text 58 256 (places 256 6 mac) pair_is (places_below 256 6 mac (omega arith));
  spelled = places_value 256 6 mac small;
}

pub hop_is_bare : (ip : Ip) → ip_number ip < 2 ^ ip_width ip → IsHopBy ip None (ip_text ip ++ intf_text None)
hop_is_bare ip small = subst (λ (t : List ℕ). IsIp ip t) (sym (append-nil (ip_text ip))) (ip_is ip small)

pub hop_is_by : (ip : Ip) (intf : ℕ) → ip_number ip < 2 ^ ip_width ip → 1 ≤ intf → intf ≤ 4294967295 → IsHopBy ip (Some intf) (ip_text ip ++ intf_text (Some intf))
hop_is_by ip intf small some within = record {
  front = ip_text ip;
  back = decimal intf;
  is_ip = ip_is ip small;
  is_intf = record { enough = some; within = within; spelled = refl };
  whole = refl;
}
