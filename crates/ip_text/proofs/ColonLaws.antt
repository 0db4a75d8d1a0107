-- An IPv6 text has a colon where a dotted quad has a point; and no ip has a slash or an at sign.
use Rattle.std.proofs.Common.{◌≡◌, ◌<◌, ◌+◌, ◌*◌, ℕ, List, [], ◌∷◌, ◌++◌, length, true, false, refl, sym, ap, subst, ◌∙◌, arith, append_assoc, ◌⊎◌, inl, inr}
use Rattle.net_types.specs.declared.ip.Ip.{Ip}
use Rattle.net_types.specs.declared.ip.Ip.TheVariants.{V4, V6}
use Rattle.ip_text.specs.Place.{CanBegin}
use Rattle.ip_text.specs.Numerals.{Joined, IsNumber, is_hex, all_hex}
use Rattle.ip_text.specs.Ipv4.{IsQuad}
use Rattle.ip_text.specs.Ipv6.{IsGroup, Groups, Compressed, IsIpv6}
use Rattle.ip_text.specs.AddressText.{IsIp}
use Rattle.ip_text.proofs.ScanLaws.{Lacks}
use Rattle.ip_text.proofs.Numbers.{number_lacks}
use Rattle.ip_text.proofs.PartLaws.{hex_lacks}
use Rattle.ip_text.proofs.GroupLaws.{lacks_append, group_lacks_other, quad_lacks_other}

-- digits of a group, a colon, and more
record HasColon (t : List ℕ) : Type 0 where
  before : List ℕ
  behind : List ℕ
  digits : all_hex before ≡ true
  whole : t ≡ before ++ 58 ∷ behind

groups_colon : (groups t : List ℕ) → length groups ≡ 8 → Groups groups t → HasColon t
groups_colon [] t eight is = absurd (omega arith)
groups_colon (g ∷ []) t eight is = absurd (omega arith)
groups_colon (g ∷ h ∷ gs) t eight (inl more) = record { before = more.0; behind = more.1; digits = more.2.digits; whole = more.4 }
groups_colon (g ∷ h ∷ gs) t eight (inr quad) = absurd (omega (arith, ap length quad.0))

joined_colon : (left before behind t : List ℕ) → Joined IsGroup 58 left before → t ≡ before ++ 58 ∷ 58 ∷ behind → HasColon t
joined_colon [] before behind t joined e = record { before = []; behind = 58 ∷ behind; digits = refl; whole = e ∙ ap (λ (l : List ℕ). l ++ 58 ∷ 58 ∷ behind) joined }
joined_colon (g ∷ []) before behind t joined e = record { before = before; behind = 58 ∷ behind; digits = joined.digits; whole = e }
joined_colon (g ∷ h ∷ gs) before behind t joined e = record {
  before = joined.0;
  behind = joined.1 ++ 58 ∷ 58 ∷ behind;
  digits = joined.2.digits;
  whole = e ∙ ap (λ (l : List ℕ). l ++ 58 ∷ 58 ∷ behind) joined.4 ∙ append_assoc joined.0 (58 ∷ joined.1) (58 ∷ 58 ∷ behind);
}

form_colon : (groups t : List ℕ) → length groups ≡ 8 → Groups groups t ⊎ Compressed groups t → HasColon t
form_colon groups t eight (inl is) = groups_colon groups t eight is
form_colon groups t eight (inr short) = joined_colon short.left short.before short.behind t short.joined short.spelled

-- bytes without a colon, a point, and more
record HasPoint (t : List ℕ) : Type 0 where
  before : List ℕ
  behind : List ℕ
  plain : Lacks 58 before
  whole : t ≡ before ++ 46 ∷ behind

parts_point : (parts t : List ℕ) → length parts ≡ 4 → Joined (IsNumber 0 255) 46 parts t → HasPoint t
parts_point [] t four is = absurd (omega arith)
parts_point (x ∷ []) t four is = absurd (omega arith)
parts_point (x ∷ y ∷ zs) t four is = record { before = is.0; behind = is.1; plain = number_lacks 0 255 58 x is.0 (omega arith) (inr (omega arith)) is.2; whole = is.4 }

same_first : (a b : ℕ) (x y : List ℕ) → a ∷ x ≡ b ∷ y → a ≡ b
same_first a b x y e = cc

apart : (u x w y : List ℕ) → Lacks 46 u → Lacks 58 x → u ++ 58 ∷ w ≡ x ++ 46 ∷ y → ⊥
apart [] [] w y lu lx e = absurd (omega (arith, same_first 58 46 w y e))
apart [] (b ∷ bs) w y lu lx e = lx.0 cc
apart (a ∷ us) [] w y lu lx e = lu.0 cc
apart (a ∷ us) (b ∷ bs) w y lu lx e = let tails : us ++ 58 ∷ w ≡ bs ++ 46 ∷ y = cc in apart us bs w y lu.1 lx.1 tails

-- what begins an IPv6 text is no dotted quad
pub begun_no_quad : (q : ℕ) (front : List ℕ) → CanBegin IsIpv6 front → IsQuad q front → ⊥
begun_no_quad q front can is =
    let text = can.spelled in
    let colon = form_colon text.groups (front ++ can.rest) text.eight text.spelled in
    let point = parts_point is.parts front is.number is.joined in
    apart colon.before point.before colon.behind (point.behind ++ can.rest) (hex_lacks 46 colon.before refl colon.digits) point.plain
    (sym colon.whole ∙ ap (λ (l : List ℕ). l ++ can.rest) point.whole ∙ append_assoc point.before (46 ∷ point.behind) can.rest)

-- a byte that stands in no ip
pub record IsOutside (s : ℕ) : Type 0 where
  pub no_hex : is_hex s ≡ false
  pub no_digit : (s < 48) ⊎ (57 < s)
  pub no_point : 46 ≡ s → ⊥
  pub no_colon : 58 ≡ s → ⊥

pub slash : IsOutside 47
slash = record { no_hex = refl; no_digit = inl (omega arith); no_point = λ e. absurd (omega arith); no_colon = λ e. absurd (omega arith) }

pub at_sign : IsOutside 64
at_sign = record { no_hex = refl; no_digit = inr (omega arith); no_point = λ e. absurd (omega arith); no_colon = λ e. absurd (omega arith) }

groups_lack : (s : ℕ) (groups t : List ℕ) → IsOutside s → Groups groups t → Lacks s t
groups_lack s [] t out is = subst (λ (l : List ℕ). Lacks s l) (sym is) tt
groups_lack s (g ∷ []) t out is = group_lacks_other s g t out.no_hex is
groups_lack s (g ∷ h ∷ gs) t out (inl more) = subst (λ (l : List ℕ). Lacks s l) (sym more.4) (lacks_append s more.0 (58 ∷ more.1) (group_lacks_other s g more.0 out.no_hex more.2) (out.no_colon, groups_lack s (h ∷ gs) more.1 out more.3))
groups_lack s (g ∷ h ∷ gs) t out (inr quad) = quad_lacks_other s (65536 * g + h) t out.no_digit out.no_point quad.2

joined_lack : (s : ℕ) (groups t : List ℕ) → IsOutside s → Joined IsGroup 58 groups t → Lacks s t
joined_lack s [] t out is = subst (λ (l : List ℕ). Lacks s l) (sym is) tt
joined_lack s (g ∷ []) t out is = group_lacks_other s g t out.no_hex is
joined_lack s (g ∷ h ∷ gs) t out is = subst (λ (l : List ℕ). Lacks s l) (sym is.4) (lacks_append s is.0 (58 ∷ is.1) (group_lacks_other s g is.0 out.no_hex is.2) (out.no_colon, joined_lack s (h ∷ gs) is.1 out is.3))

form_lacks : (s : ℕ) (groups t : List ℕ) → IsOutside s → Groups groups t ⊎ Compressed groups t → Lacks s t
form_lacks s groups t out (inl is) = groups_lack s groups t out is
form_lacks s groups t out (inr short) = subst (λ (l : List ℕ). Lacks s l) (sym short.spelled)
    (lacks_append s short.before (58 ∷ 58 ∷ short.behind) (joined_lack s short.left short.before out short.joined) (out.no_colon, (out.no_colon, groups_lack s short.right short.behind out short.rest)))

pub ip_lacks : (s : ℕ) → IsOutside s → (ip : Ip) (t : List ℕ) → IsIp ip t → Lacks s t
ip_lacks s out (V4 n) t is = quad_lacks_other s n t out.no_digit out.no_point is
ip_lacks s out (V6 n) t is = form_lacks s is.groups t out is.spelled
