-- Groups, one at a time.
use Rattle.std.proofs.Common.{◌≡◌, ◌≤◌, ◌<◌, ◌+◌, ◌-◌, ◌*◌, ◌/◌, ◌%◌, ◌&&◌, ℕ, List, [], ◌∷◌, ◌++◌, length, Bool, true, false, refl, sym, ap, subst, ◌∙◌, arith, ◌⊎◌, inl, inr}
use Rattle.std.proofs.lemmas.Bool.{and_parts, false≢true}
use Rattle.ip_text.specs.Numerals.{Joined, in_base, IsNumber, is_hex, all_hex}
use Rattle.ip_text.specs.Ipv6.{IsGroup, Groups}
use Rattle.ip_text.specs.Ipv4.{IsQuad}
use Rattle.ip_text.specs.Unread.{IsRight}
use Rattle.ip_text.proofs.ScanLaws.{Lacks, Then, Mapped}
use Rattle.ip_text.proofs.Numbers.{number_lacks}
use Rattle.ip_text.proofs.PartLaws.{hex_lacks}

abbrev pub IsOne : ℕ → ℕ → List ℕ → Type 0
IsOne before = Mapped (λ g. 65536 * before + g) IsGroup

abbrev pub IsLastQuad : ℕ → ℕ → List ℕ → Type 0
IsLastQuad before = Mapped (λ q. 4294967296 * before + q) IsQuad

abbrev pub IsMore : ℕ → ℕ → ℕ → List ℕ → Type 0
IsMore most before = Then IsGroup 58 (λ g. IsRight (most - 1) (65536 * before + g))

abbrev pub Items : ℕ → ℕ → ℕ → List ℕ → Type 0
Items most before v t = (IsOne before v t ⊎ IsMore most before v t) ⊎ IsLastQuad before v t

pub groups_cons : (g : ℕ) (gs u w : List ℕ) → 0 < length gs → IsGroup g u → Groups gs w → Groups (g ∷ gs) (u ++ 58 ∷ w)
groups_cons g [] u w some is more = absurd (omega arith)
groups_cons g (h ∷ hs) u w some is more = inl (u, w, is, more, refl)

pub to_right : (most before v : ℕ) (t : List ℕ) → 2 ≤ most → Items most before v t → IsRight most before v t
to_right most before v t two (inl (inl one)) = record { parts = one.0 ∷ []; some = omega arith; few = omega arith; joined = one.1; spelled = one.2 }
to_right most before v t two (inl (inr more)) =
    let tail = more.4 in
    record {
      parts = more.0 ∷ tail.parts;
      some = omega arith;
      few = omega (arith, tail.few);
      joined = subst (λ (x : List ℕ). Groups (more.0 ∷ tail.parts) x) (sym more.5) (groups_cons more.0 tail.parts more.1 more.2 tail.some more.3 tail.joined);
      spelled = tail.spelled;
    }
to_right most before v t two (inr quad) =
    let q = quad.0 in
    let same : q ≡ 65536 * (q / 65536) + q % 65536 = omega arith in
    record {
      parts = q / 65536 ∷ q % 65536 ∷ [];
      some = omega arith;
      few = omega arith;
      joined = inr (refl, omega arith, subst (λ n. IsQuad n t) same quad.1);
      spelled = omega (arith, quad.2, same);
    }

from_parts : (most before v : ℕ) (t parts : List ℕ) → 0 < length parts → length parts ≤ most → Groups parts t → v ≡ in_base 65536 before parts → Items most before v t
from_parts most before v t [] some few joined e = absurd (omega arith)
from_parts most before v t (g ∷ []) some few joined e = inl (inl (g, joined, e))
from_parts most before v t (g ∷ h ∷ gs) some few (inl more) e = inl (inr (g, more.0, more.1, more.2, record { parts = h ∷ gs; some = omega arith; few = omega arith; joined = more.3; spelled = e }, more.4))
from_parts most before v t (g ∷ h ∷ gs) some few (inr quad) e =
    let last : v ≡ in_base 65536 before (g ∷ h ∷ []) = subst (λ (l : List ℕ). v ≡ in_base 65536 before (g ∷ h ∷ l)) quad.0 e in
    inr (65536 * g + h, quad.2, omega (arith, last))

pub from_right : (most before v : ℕ) (t : List ℕ) → IsRight most before v t → Items most before v t
from_right most before v t is = from_parts most before v t is.parts is.some is.few is.joined is.spelled

pub group_lacks : (a : ℕ) (t : List ℕ) → IsGroup a t → Lacks 58 t
group_lacks a t is = hex_lacks 58 t refl is.digits

pub group_lacks_other : (s a : ℕ) (t : List ℕ) → is_hex s ≡ false → IsGroup a t → Lacks s t
group_lacks_other s a t other is = hex_lacks s t other is.digits

pub hex_front : (u r : List ℕ) → all_hex (u ++ r) ≡ true → all_hex u ≡ true
hex_front [] r all = refl
hex_front (b ∷ bs) r all = let parts = and_parts (is_hex b) _ all in ap (λ (x : Bool). x && all_hex bs) parts.0 ∙ hex_front bs r parts.1

hex_no_dot : (u w : List ℕ) → all_hex (u ++ 46 ∷ w) ≡ true → ⊥
hex_no_dot [] w all = false≢true (and_parts (is_hex 46) (all_hex w) all).0
hex_no_dot (b ∷ bs) w all = hex_no_dot bs w (and_parts (is_hex b) _ all).1

quad_parts : (t parts : List ℕ) → length parts ≡ 4 → Joined (IsNumber 0 255) 46 parts t → all_hex t ≡ true → ⊥
quad_parts t [] len joined all = omega arith
quad_parts t (x ∷ []) len joined all = omega arith
quad_parts t (x ∷ y ∷ zs) len joined all = hex_no_dot joined.0 joined.1 (ap all_hex (sym joined.4) ∙ all)

pub quad_no_hex : (q : ℕ) (t : List ℕ) → IsQuad q t → all_hex t ≡ true → ⊥
quad_no_hex q t is all = quad_parts t is.parts is.number is.joined all

pub lacks_append : (s : ℕ) (u w : List ℕ) → Lacks s u → Lacks s w → Lacks s (u ++ w)
lacks_append s [] w lu lw = lw
lacks_append s (b ∷ bs) w lu lw = (lu.0, lacks_append s bs w lu.1 lw)

octet_lacks : (s x : ℕ) (t : List ℕ) → (s < 48) ⊎ (57 < s) → IsNumber 0 255 x t → Lacks s t
octet_lacks s x t outside is = number_lacks 0 255 s x t (omega arith) outside is

octets_lack : (s : ℕ) (t parts : List ℕ) → (s < 48) ⊎ (57 < s) → (46 ≡ s → ⊥) → Joined (IsNumber 0 255) 46 parts t → Lacks s t
octets_lack s t [] outside other joined = subst (λ (l : List ℕ). Lacks s l) (sym joined) tt
octets_lack s t (x ∷ []) outside other joined = octet_lacks s x t outside joined
octets_lack s t (x ∷ y ∷ zs) outside other joined = subst (λ (l : List ℕ). Lacks s l) (sym joined.4) (lacks_append s joined.0 (46 ∷ joined.1) (octet_lacks s x joined.0 outside joined.2) (other, octets_lack s joined.1 (y ∷ zs) outside other joined.3))

-- a dotted quad has no byte but digits and points
pub quad_lacks_other : (s q : ℕ) (t : List ℕ) → (s < 48) ⊎ (57 < s) → (46 ≡ s → ⊥) → IsQuad q t → Lacks s t
quad_lacks_other s q t outside other is = octets_lack s t is.parts outside other is.joined

pub quad_lacks : (q : ℕ) (t : List ℕ) → IsQuad q t → Lacks 58 t
quad_lacks q t is = quad_lacks_other 58 q t (inr (omega arith)) (λ e. absurd (omega arith)) is
