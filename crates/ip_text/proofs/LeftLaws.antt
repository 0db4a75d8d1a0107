-- The groups before the two colons.
use Rattle.std.proofs.Common.{◌≡◌, ◌≤◌, ◌<◌, ◌+◌, ◌-◌, ◌*◌, ◌^◌, ℕ, suc, zero, List, [], ◌∷◌, ◌++◌, length, replicate, Option, refl, sym, ap, subst, ◌∙◌, arith, append_assoc, ◌⊎◌, inl, inr, length-append, ◌/◌, ◌%◌}
use Rattle.std.proofs.lemmas.List.{length-replicate}
use Rattle.std.proofs.Math.Nat.{add-mul, mul_assoc, mul_left_comm, pow-succ'}
use Rattle.std.specs.Prelude.{option_map}
use Rattle.ip_text.specs.Scans.{Scans}
use Rattle.ip_text.specs.Numerals.{Joined, in_base}
use Rattle.ip_text.specs.Ipv6.{IsGroup, Groups, Compressed}
use Rattle.ip_text.specs.Ipv4.{IsQuad}
use Rattle.ip_text.specs.Unread.{IsBehind, Colon, Gap, IsLeft, IsHigh}
use Rattle.ip_text.proofs.ScanLaws.{Then, scans_map, behinds}
use Rattle.ip_text.proofs.RowLaws.{joined_cons}
use Rattle.ip_text.proofs.GroupLaws.{IsOne, IsLastQuad, groups_cons, group_lacks, quad_lacks}

-- no group begins with a colon
pub group_first : (g : ℕ) (t u x : List ℕ) → IsGroup g u → 58 ∷ t ≡ u ++ x → ⊥
group_first g t [] x is e = omega (arith, is.enough)
group_first g t (b ∷ bs) x is e = (group_lacks g (b ∷ bs) is).0 cc

pub groups_first : (t gs : List ℕ) → 0 < length gs → Groups gs (58 ∷ t) → ⊥
groups_first t [] some is = omega arith
groups_first t (g ∷ []) some is = (group_lacks g (58 ∷ t) is).0 refl
groups_first t (g ∷ h ∷ gs) some (inl more) = group_first g t more.0 (58 ∷ more.1) more.2 more.4
groups_first t (g ∷ h ∷ gs) some (inr quad) = (quad_lacks (65536 * g + h) (58 ∷ t) quad.2).0 refl

pub joined_first : (t gs u x : List ℕ) → 0 < length gs → Joined IsGroup 58 gs u → 58 ∷ t ≡ u ++ x → ⊥
joined_first t [] u x some is e = omega arith
joined_first t (g ∷ []) u x some is e = group_first g t u x is e
joined_first t (g ∷ h ∷ gs) u x some is e = group_first g t is.0 (58 ∷ is.1 ++ x) is.2 (e ∙ ap (λ (l : List ℕ). l ++ x) is.4 ∙ append_assoc is.0 (58 ∷ is.1) x)

split_step : (before d p a b x q : ℕ) → a ≡ (65536 * before + d) * p + x → b ≡ (65536 * 0 + d) * p + x → q ≡ 65536 * p → a ≡ before * q + b
split_step before d p a b x q e f g =
    let zero_d : 65536 * 0 + d ≡ d = omega arith in
    omega (arith, e, f, ap (λ n. before * n) g, add-mul (65536 * before) d p, mul_assoc 65536 before p, mul_left_comm before 65536 p, ap (λ n. n * p) zero_d)

-- the value of digits behind a number
pub in_base_split : (before : ℕ) (ds : List ℕ) → in_base 65536 before ds ≡ before * 65536 ^ length ds + in_base 65536 0 ds
in_base_split before [] = omega arith
in_base_split before (d ∷ ds) =
    split_step before d (65536 ^ length ds) (in_base 65536 (65536 * before + d) ds) (in_base 65536 (65536 * 0 + d) ds) (in_base 65536 0 ds) (65536 ^ suc (length ds)) (in_base_split (65536 * before + d) ds) (in_base_split (65536 * 0 + d) ds) (pow-succ' 65536 (length ds))

pub zeros_value : (n : ℕ) (gs : List ℕ) → in_base 65536 0 (replicate n 0 ++ gs) ≡ in_base 65536 0 gs
zeros_value zero gs = refl
zeros_value (suc n) gs = zeros_value n gs

-- the zeros and what follows them
zeros_count : (zeros count : ℕ) (parts right : List ℕ) → length parts ≡ count → parts ≡ replicate (zeros + 1) 0 ++ right → (zeros + 1) + length right ≡ count
zeros_count zeros count parts right number whole = omega (arith, ap length whole, length-append (replicate (zeros + 1) 0) right, length-replicate {A = ℕ} (zeros + 1) 0)

high_value : (count before zeros v : ℕ) (parts right : List ℕ) → length parts ≡ count → parts ≡ replicate (zeros + 1) 0 ++ right → v ≡ in_base 65536 before parts → v ≡ before * 65536 ^ count + in_base 65536 0 right
high_value count before zeros v parts right number whole spelled =
    spelled ∙ in_base_split before parts ∙ ap (λ (n : ℕ). before * 65536 ^ n + in_base 65536 0 parts) number ∙ ap (λ (n : ℕ). before * 65536 ^ count + n) (ap (in_base 65536 0) whole ∙ zeros_value (zeros + 1) right)

to_colon : (count before v : ℕ) (t : List ℕ) → 1 ≤ count → IsHigh count before v t → IsLeft count before v (58 ∷ t)
to_colon count before v t some high =
    let right = high.1 in
    let zeros = count - length right.parts - 1 in
    let parts = replicate (zeros + 1) 0 ++ right.parts in
    let number : length parts ≡ count = omega (arith, right.few, length-append (replicate (zeros + 1) 0) right.parts, length-replicate {A = ℕ} (zeros + 1) 0) in
    record {
      parts = parts;
      number = number;
      spelled = high.2 ∙ ap (λ (n : ℕ). before * 65536 ^ count + n) right.spelled ∙ sym (high_value count before zeros _ parts right.parts number refl refl);
      form = inr (inl record { zeros = zeros; right = right.parts; behind = t; whole = refl; rest = right.joined; spelled = refl });
    }

from_colon_form : (count before v : ℕ) (t parts : List ℕ) → 1 ≤ count → length parts ≡ count → v ≡ in_base 65536 before parts → Groups parts (58 ∷ t) ⊎ (Colon parts (58 ∷ t) ⊎ Gap parts (58 ∷ t)) → IsHigh count before v t
from_colon_form count before v t parts some number spelled (inl groups) = absurd (groups_first t parts (omega arith) groups)
from_colon_form count before v t parts some number spelled (inr (inl colon)) =
    let n = zeros_count colon.zeros count parts colon.right number colon.whole in
    let same : t ≡ colon.behind = cc (colon.spelled) in
    (in_base 65536 0 colon.right, record { parts = colon.right; few = omega (arith, n); joined = subst (λ (x : List ℕ). Groups colon.right x) (sym same) colon.rest; spelled = refl }, high_value count before colon.zeros v parts colon.right number colon.whole spelled)
from_colon_form count before v t parts some number spelled (inr (inr gap)) = absurd (joined_first t gap.short.left gap.short.before (58 ∷ 58 ∷ gap.short.behind) gap.some gap.short.joined gap.short.spelled)

-- the second colon
pub left_colon : (count before : ℕ) (bytes next rest : List ℕ) (v w : Option ℕ) → 1 ≤ count → bytes ≡ 58 ∷ next → Scans (IsBehind (count - 1)) next v rest → w ≡ option_map (λ low. before * 65536 ^ count + low) v → Scans (IsLeft count before) bytes w rest
left_colon count before bytes next rest v w some split scans same =
    subst (λ (l : List ℕ). Scans (IsLeft count before) l w rest) (sym split)
    (behinds 58 (λ a t high. to_colon count before a t some high) (λ a t left. from_colon_form count before a t left.parts some left.number left.spelled left.form)
    (scans_map (λ low. before * 65536 ^ count + low) (IsBehind (count - 1)) next rest v w same scans))

abbrev pub IsTail : ℕ → ℕ → ℕ → List ℕ → Type 0
IsTail count before = Then IsGroup 58 (λ g. IsLeft (count - 1) (65536 * before + g))

-- a text of the form that begins with a colon
abbrev pub Begun : ℕ → ℕ → ℕ → List ℕ → Type 0
Begun count before v t = (w : List ℕ) × (t ≡ 58 ∷ w) × IsLeft count before v t

abbrev pub LeftItems : ℕ → ℕ → ℕ → List ℕ → Type 0
LeftItems count before v t = (((count ≡ 1) × IsOne before v t) ⊎ ((2 ≤ count) × IsTail count before v t)) ⊎ (((count ≡ 2) × IsLastQuad before v t) ⊎ Begun count before v t)

gap_cons : (g : ℕ) (gs u w : List ℕ) → IsGroup g u → (s : Compressed gs w) → 0 < length s.left → Gap (g ∷ gs) (u ++ 58 ∷ w)
gap_cons g gs u w is s some = record {
  short = record {
    left = g ∷ s.left;
    zeros = s.zeros;
    right = s.right;
    before = u ++ 58 ∷ s.before;
    behind = s.behind;
    whole = ap (λ (l : List ℕ). g ∷ l) s.whole;
    joined = joined_cons IsGroup 58 (length s.left - 1) g s.left u s.before (omega arith) is s.joined;
    rest = s.rest;
    spelled = ap (λ (l : List ℕ). u ++ 58 ∷ l) s.spelled ∙ sym (append_assoc u (58 ∷ s.before) (58 ∷ 58 ∷ s.behind));
  };
  some = omega arith;
}

tail_form : (g : ℕ) (gs u w : List ℕ) → 0 < length gs → IsGroup g u → Groups gs w ⊎ (Colon gs w ⊎ Gap gs w) → Groups (g ∷ gs) (u ++ 58 ∷ w) ⊎ (Colon (g ∷ gs) (u ++ 58 ∷ w) ⊎ Gap (g ∷ gs) (u ++ 58 ∷ w))
tail_form g gs u w some is (inl groups) = inl (groups_cons g gs u w some is groups)
tail_form g gs u w some is (inr (inl colon)) = inr (inr record {
  short = record {
    left = g ∷ [];
    zeros = colon.zeros;
    right = colon.right;
    before = u;
    behind = colon.behind;
    whole = ap (λ (l : List ℕ). g ∷ l) colon.whole;
    joined = is;
    rest = colon.rest;
    spelled = ap (λ (l : List ℕ). u ++ 58 ∷ l) colon.spelled;
  };
  some = omega arith;
})
tail_form g gs u w some is (inr (inr gap)) = inr (inr (gap_cons g gs u w is gap.short gap.some))

to_tail : (count before v : ℕ) (t : List ℕ) → 2 ≤ count → IsTail count before v t → IsLeft count before v t
to_tail count before v t two it =
    let tail = it.4 in
    let form = tail_form it.0 tail.parts it.1 it.2 (omega (arith, tail.number)) it.3 tail.form in
    record {
      parts = it.0 ∷ tail.parts;
      number = omega (arith, tail.number);
      spelled = tail.spelled;
      form = subst (λ (x : List ℕ). Groups (it.0 ∷ tail.parts) x ⊎ (Colon (it.0 ∷ tail.parts) x ⊎ Gap (it.0 ∷ tail.parts) x)) (sym it.5) form;
    }

to_quad : (before v : ℕ) (t : List ℕ) → IsLastQuad before v t → IsLeft 2 before v t
to_quad before v t quad =
    let q = quad.0 in
    let same : q ≡ 65536 * (q / 65536) + q % 65536 = omega arith in
    record {
      parts = q / 65536 ∷ q % 65536 ∷ [];
      number = omega arith;
      spelled = omega (arith, quad.2, same);
      form = inl (inr (refl, omega arith, subst (λ n. IsQuad n t) same quad.1));
    }

pub to_left : (count before v : ℕ) (t : List ℕ) → LeftItems count before v t → IsLeft count before v t
to_left count before v t (inl (inl one)) = record { parts = one.1.0 ∷ []; number = omega (arith, one.0); spelled = one.1.2; form = inl one.1.1 }
to_left count before v t (inl (inr tail)) = to_tail count before v t tail.0 tail.1
to_left count before v t (inr (inl quad)) = subst (λ (n : ℕ). IsLeft n before v t) (sym quad.0) (to_quad before v t quad.1)
to_left count before v t (inr (inr begun)) = begun.2

pub from_groups : (count before v : ℕ) (t parts : List ℕ) → 1 ≤ count → length parts ≡ count → v ≡ in_base 65536 before parts → Groups parts t → LeftItems count before v t
from_groups count before v t [] some number spelled groups = absurd (omega arith)
from_groups count before v t (g ∷ []) some number spelled groups = inl (inl (omega arith, (g, groups, spelled)))
from_groups count before v t (g ∷ h ∷ gs) some number spelled (inl more) = inl (inr (omega arith, (g, more.0, more.1, more.2, record { parts = h ∷ gs; number = omega arith; spelled = spelled; form = inl more.3 }, more.4)))
from_groups count before v t (g ∷ h ∷ gs) some number spelled (inr quad) =
    let last : v ≡ in_base 65536 before (g ∷ h ∷ []) = subst (λ (l : List ℕ). v ≡ in_base 65536 before (g ∷ h ∷ l)) quad.0 spelled in
    inr (inl (omega (arith, ap length quad.0), (65536 * g + h, quad.2, omega (arith, last))))

pub from_gap : (count before v filled : ℕ) (t parts left right u behind : List ℕ) → length parts ≡ count → v ≡ in_base 65536 before parts → 0 < length left → parts ≡ left ++ (replicate (filled + 1) 0 ++ right) → Joined IsGroup 58 left u → Groups right behind → t ≡ u ++ 58 ∷ 58 ∷ behind → LeftItems count before v t
from_gap count before v filled t parts [] right u behind number spelled some whole joined rest e = absurd (omega arith)
from_gap count before v filled t parts (g ∷ []) right u behind number spelled some whole joined rest e =
    let tail = replicate (filled + 1) 0 ++ right in
    let n : 1 + length tail ≡ count = omega (arith, ap length whole) in
    let m = length-append (replicate (filled + 1) 0) right in
    inl (inr (omega (arith, n, m, length-replicate {A = ℕ} (filled + 1) 0), (g, u, 58 ∷ behind, joined, record { parts = tail; number = omega (arith, n); spelled = spelled ∙ ap (in_base 65536 before) whole; form = inr (inl record { zeros = filled; right = right; behind = behind; whole = refl; rest = rest; spelled = refl }) }, e)))
from_gap count before v filled t parts (g ∷ h ∷ gs) right u behind number spelled some whole joined rest e =
    let tail = h ∷ gs ++ (replicate (filled + 1) 0 ++ right) in
    let n : 1 + length tail ≡ count = omega (arith, ap length whole) in
    inl (inr (omega (arith, n), (g, joined.0, joined.1 ++ 58 ∷ 58 ∷ behind, joined.2, record { parts = tail; number = omega (arith, n); spelled = spelled ∙ ap (in_base 65536 before) whole; form = inr (inr record { short = record { left = h ∷ gs; zeros = filled; right = right; before = joined.1; behind = behind; whole = refl; joined = joined.3; rest = rest; spelled = refl }; some = omega arith }) }, e ∙ ap (λ (l : List ℕ). l ++ 58 ∷ 58 ∷ behind) joined.4 ∙ append_assoc joined.0 (58 ∷ joined.1) (58 ∷ 58 ∷ behind))))

from_form : (count before v : ℕ) (t parts : List ℕ) → 1 ≤ count → length parts ≡ count → v ≡ in_base 65536 before parts → Groups parts t ⊎ (Colon parts t ⊎ Gap parts t) → LeftItems count before v t
from_form count before v t parts some number spelled (inl groups) = from_groups count before v t parts some number spelled groups
from_form count before v t parts some number spelled (inr (inl colon)) = inr (inr (colon.behind, colon.spelled, record { parts = parts; number = number; spelled = spelled; form = inr (inl colon) }))
from_form count before v t parts some number spelled (inr (inr gap)) = from_gap count before v gap.short.zeros t parts gap.short.left gap.short.right gap.short.before gap.short.behind number spelled gap.some gap.short.whole gap.short.joined gap.short.rest gap.short.spelled

pub from_left : (count before v : ℕ) (t : List ℕ) → 1 ≤ count → IsLeft count before v t → LeftItems count before v t
from_left count before v t some left = from_form count before v t left.parts some left.number left.spelled left.form

pub left_high : (count before : ℕ) (bytes next rest : List ℕ) (v : Option ℕ) → 1 ≤ count → bytes ≡ 58 ∷ next → Scans (IsHigh count before) next v rest → Scans (IsLeft count before) bytes v rest
left_high count before bytes next rest v some split scans =
    subst (λ (l : List ℕ). Scans (IsLeft count before) l v rest) (sym split)
    (behinds 58 (λ a t high. to_colon count before a t some high) (λ a t left. from_colon_form count before a t left.parts some left.number left.spelled left.form) scans)
