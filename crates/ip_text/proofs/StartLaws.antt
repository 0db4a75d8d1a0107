-- Groups behind two colons, perhaps none, and a whole IPv6 text.
use Rattle.std.proofs.Common.{◌≡◌, ◌≤◌, ◌<◌, ◌+◌, ◌-◌, ℕ, List, [], ◌∷◌, ◌++◌, length, replicate, Option, Some, None, refl, sym, ap, subst, ◌∙◌, arith, ◌⊎◌, inl, inr, length-append}
use Rattle.std.proofs.lemmas.List.{length-replicate}
use Rattle.ip_text.specs.Scans.{Scans}
use Rattle.ip_text.specs.Numerals.{Joined, in_base, IsNumber}
use Rattle.ip_text.specs.Ipv6.{IsGroup, Groups, Compressed, IsIpv6}
use Rattle.ip_text.specs.Unread.{IsRight, IsBehind, Colon, Gap}
use Rattle.ip_text.proofs.ScanLaws.{scans_is, behind, behinds, either_left, either_further}
use Rattle.ip_text.proofs.ItemLaws.{swapped}
use Rattle.ip_text.proofs.LeftLaws.{IsTail, LeftItems, to_left, from_groups, from_gap, groups_first, joined_first, group_first, zeros_value}
use Rattle.ip_text.proofs.LeftScans.{either_begun}

abbrev pub IsEmpty : ℕ → List ℕ → Type 0
IsEmpty value text = (text ≡ []) × (value ≡ 0)

unfoldable pub empty_scan : (bytes : List ℕ) → Scans IsEmpty bytes (Some 0) bytes
empty_scan bytes = record {
  front = [];
  split = refl;
  scan = record {
    begins = record { value = 0; rest = []; spelled = (refl, refl) };
    longest = λ b more e can. absurd (cc (can.spelled.0));
    found = λ a e. (refl, cc);
    only = λ a is. ap Some (sym is.1);
  };
}

no_row : (parts : List ℕ) → length parts ≡ 4 → Joined (IsNumber 0 255) 46 parts [] → ⊥
no_row [] len joined = omega arith
no_row (x ∷ []) len joined = omega arith
no_row (x ∷ y ∷ zs) len joined = omega (arith, ap length joined.4, length-append joined.0 (46 ∷ joined.1))

pub no_groups : (gs : List ℕ) → 0 < length gs → Groups gs [] → ⊥
no_groups [] some is = omega arith
no_groups (g ∷ []) some is = omega (arith, is.enough)
no_groups (g ∷ h ∷ gs) some (inl more) = omega (arith, ap length more.4, length-append more.0 (58 ∷ more.1))
no_groups (g ∷ h ∷ gs) some (inr quad) = no_row quad.2.parts quad.2.number quad.2.joined

to_behind : (most a : ℕ) (t : List ℕ) → IsRight most 0 a t ⊎ IsEmpty a t → IsBehind most a t
to_behind most a t (inl right) = record { parts = right.parts; few = right.few; joined = right.joined; spelled = right.spelled }
to_behind most a t (inr none) = record { parts = []; few = omega arith; joined = none.0; spelled = none.1 }

from_behind_parts : (most a : ℕ) (t parts : List ℕ) → length parts ≤ most → Groups parts t → a ≡ in_base 65536 0 parts → IsRight most 0 a t ⊎ IsEmpty a t
from_behind_parts most a t [] few joined spelled = inr (joined, spelled)
from_behind_parts most a t (g ∷ gs) few joined spelled = inl record { parts = g ∷ gs; some = omega arith; few = few; joined = joined; spelled = spelled }

from_behind : (most a : ℕ) (t : List ℕ) → IsBehind most a t → IsRight most 0 a t ⊎ IsEmpty a t
from_behind most a t is = from_behind_parts most a t is.parts is.few is.joined is.spelled

pub behind_some : (most : ℕ) (bytes rest : List ℕ) (v : Option ℕ) → Scans (IsRight most 0) bytes v rest → length rest < length bytes → Scans (IsBehind most) bytes v rest
behind_some most bytes rest v scans less = scans_is (to_behind most) (from_behind most) (either_further scans (empty_scan bytes) less)

pub behind_none : (most : ℕ) (bytes rest : List ℕ) (v : Option ℕ) → Scans (IsRight most 0) bytes v rest → length bytes ≤ length rest → Scans (IsBehind most) bytes (Some 0) bytes
unfolding empty_scan
behind_none most bytes rest v scans le = scans_is (to_behind most) (from_behind most) (swapped (either_left (empty_scan bytes) scans le (λ a is. no_groups is.parts is.some is.joined)))

only_empty : (a : ℕ) (t parts : List ℕ) → length parts ≤ 0 → Groups parts t → a ≡ in_base 65536 0 parts → IsEmpty a t
only_empty a t [] few joined spelled = (joined, spelled)
only_empty a t (g ∷ gs) few joined spelled = absurd (omega arith)

pub behind_zero : (bytes : List ℕ) → Scans (IsBehind 0) bytes (Some 0) bytes
behind_zero bytes = scans_is (λ a t none. to_behind 0 a t (inr none)) (λ a t is. only_empty a t is.parts is.few is.joined is.spelled) (empty_scan bytes)

-- two colons, and at most seven groups
abbrev pub IsColons : ℕ → List ℕ → Type 0
IsColons v t = (w : List ℕ) × (t ≡ 58 ∷ 58 ∷ w) × IsBehind 7 v w

ip6_colons : (v : ℕ) (w : List ℕ) → IsBehind 7 v w → IsIpv6 v (58 ∷ 58 ∷ w)
ip6_colons v w right =
    let zeros = 7 - length right.parts in
    record {
      groups = replicate (zeros + 1) 0 ++ right.parts;
      eight = omega (arith, right.few, length-append (replicate (zeros + 1) 0) right.parts, length-replicate {A = ℕ} (zeros + 1) 0);
      number = right.spelled ∙ sym (zeros_value (zeros + 1) right.parts);
      spelled = inr record { left = []; zeros = zeros; right = right.parts; before = []; behind = w; whole = refl; joined = refl; rest = right.joined; spelled = refl };
    }

of_items : (v : ℕ) (t : List ℕ) → LeftItems 8 0 v t → ((w : List ℕ) → t ≡ 58 ∷ w → ⊥) → IsTail 8 0 v t
of_items v t (inl (inl one)) no_colon = absurd (omega (arith, one.0))
of_items v t (inl (inr tail)) no_colon = tail.1
of_items v t (inr (inl quad)) no_colon = absurd (omega (arith, quad.0))
of_items v t (inr (inr begun)) no_colon = absurd (no_colon begun.0 begun.1)

left_ip6 : (v : ℕ) (t parts : List ℕ) → length parts ≡ 8 → v ≡ in_base 65536 0 parts → Groups parts t ⊎ (Colon parts t ⊎ Gap parts t) → ((w : List ℕ) → t ≡ 58 ∷ w → ⊥) → IsIpv6 v t
left_ip6 v t parts eight number (inl groups) no_colon = record { groups = parts; eight = eight; number = number; spelled = inl groups }
left_ip6 v t parts eight number (inr (inl colon)) no_colon = absurd (no_colon colon.behind colon.spelled)
left_ip6 v t parts eight number (inr (inr gap)) no_colon = record { groups = parts; eight = eight; number = number; spelled = inr gap.short }

colons_of : (v zeros : ℕ) (t groups left right before behind : List ℕ) → length groups ≡ 8 → v ≡ in_base 65536 0 groups → groups ≡ left ++ (replicate (zeros + 1) 0 ++ right) → Joined IsGroup 58 left before → Groups right behind → t ≡ before ++ 58 ∷ 58 ∷ behind → IsTail 8 0 v t ⊎ IsColons v t
colons_of v zeros t groups [] right before behind eight number whole joined rest e =
    inr (behind, e ∙ ap (λ (l : List ℕ). l ++ 58 ∷ 58 ∷ behind) joined, record { parts = right; few = omega (arith, ap length whole, length-append (replicate (zeros + 1) 0) right, length-replicate {A = ℕ} (zeros + 1) 0); joined = rest; spelled = number ∙ ap (in_base 65536 0) whole ∙ zeros_value (zeros + 1) right })
colons_of v zeros t groups (g ∷ gs) right before behind eight number whole joined rest e =
    inl (of_items v t (from_gap 8 0 v zeros t groups (g ∷ gs) right before behind eight number (omega arith) whole joined rest e) (λ w f. joined_first w (g ∷ gs) before (58 ∷ 58 ∷ behind) (omega arith) joined (sym f ∙ e)))

from_ip6_form : (v : ℕ) (t groups : List ℕ) → length groups ≡ 8 → v ≡ in_base 65536 0 groups → Groups groups t ⊎ Compressed groups t → IsTail 8 0 v t ⊎ IsColons v t
from_ip6_form v t groups eight number (inl is) = inl (of_items v t (from_groups 8 0 v t groups (omega arith) eight number is) (λ w f. groups_first w groups (omega arith) (subst (λ (x : List ℕ). Groups groups x) f is)))
from_ip6_form v t groups eight number (inr s) = colons_of v s.zeros t groups s.left s.right s.before s.behind eight number s.whole s.joined s.rest s.spelled

to_ip6 : (v : ℕ) (t : List ℕ) → IsTail 8 0 v t ⊎ IsColons v t → IsIpv6 v t
to_ip6 v t (inl tail) =
    let left = to_left 8 0 v t (inl (inr (omega arith, tail))) in
    left_ip6 v t left.parts left.number left.spelled left.form (λ w f. group_first tail.0 w tail.1 (58 ∷ tail.2) tail.3 (sym f ∙ tail.5))
to_ip6 v t (inr colons) = subst (λ (x : List ℕ). IsIpv6 v x) (sym colons.1) (ip6_colons v colons.0 colons.2)

from_ip6 : (v : ℕ) (t : List ℕ) → IsIpv6 v t → IsTail 8 0 v t ⊎ IsColons v t
from_ip6 v t is = from_ip6_form v t is.groups is.eight is.number is.spelled

-- a group stands first
pub ip6_group : (bytes rest : List ℕ) (v : Option ℕ) → ((w : List ℕ) → bytes ≡ 58 ∷ w → ⊥) → Scans (IsTail 8 0) bytes v rest → Scans IsIpv6 bytes v rest
ip6_group bytes rest v no_colon scans = scans_is to_ip6 from_ip6 (either_begun (λ a t is. (58 ∷ is.0, is.1)) no_colon scans)

colons_back : (v : ℕ) (w : List ℕ) → IsTail 8 0 v (58 ∷ w) ⊎ IsColons v (58 ∷ w) → IsColons v (58 ∷ w)
colons_back v w (inl tail) = absurd (group_first tail.0 w tail.1 (58 ∷ tail.2) tail.3 tail.5)
colons_back v w (inr is) = is

inner : (v : ℕ) (w : List ℕ) → IsColons v (58 ∷ 58 ∷ w) → IsBehind 7 v w
inner v w is = let same : is.0 ≡ w = cc (is.1) in subst (λ (x : List ℕ). IsBehind 7 v x) same is.2

-- two colons stand first
pub ip6_colons_first : (bytes next more rest : List ℕ) (v : Option ℕ) → bytes ≡ 58 ∷ next → next ≡ 58 ∷ more → Scans (IsBehind 7) more v rest → Scans IsIpv6 bytes v rest
ip6_colons_first bytes next more rest v first second scans =
    subst (λ (l : List ℕ). Scans IsIpv6 l v rest) (sym (first ∙ ap (λ (l : List ℕ). 58 ∷ l) second))
    (behinds {Is = λ a t. IsIpv6 a (58 ∷ t)} 58 (λ a t is. is) (λ a t is. is)
    (behinds {Js = λ a t. IsIpv6 a (58 ∷ t)} 58 (λ a t is. ip6_colons a t is) (λ a t is. inner a t (colons_back a (58 ∷ t) (from_ip6 a (58 ∷ 58 ∷ t) is))) scans))

-- one colon alone
pub ip6_colon_alone : (bytes next : List ℕ) → bytes ≡ 58 ∷ next → ((more : List ℕ) → next ≡ 58 ∷ more → ⊥) → Scans IsIpv6 bytes None next
ip6_colon_alone bytes next first alone = record {
  front = 58 ∷ [];
  split = first;
  scan = record {
    begins = record { value = 0; rest = 58 ∷ []; spelled = ip6_colons 0 [] (record { parts = []; few = omega arith; joined = refl; spelled = refl }) };
    longest = λ b more e can. let it = colons_back can.value (b ∷ can.rest) (from_ip6 can.value (58 ∷ b ∷ can.rest) can.spelled) in let same : b ≡ 58 = cc (it.1) in alone more (e ∙ ap (λ (c : ℕ). c ∷ more) same);
    found = λ a e. absurd cc;
    only = λ a is. let it = colons_back a [] (from_ip6 a (58 ∷ []) is) in absurd (cc (it.1));
  };
}
