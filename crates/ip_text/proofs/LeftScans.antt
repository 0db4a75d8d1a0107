-- The scans of the groups before the two colons.
use Rattle.std.proofs.Common.{◌≡◌, ◌≤◌, ◌<◌, ◌+◌, ◌-◌, ◌*◌, ℕ, suc, zero, List, [], ◌∷◌, ◌++◌, length, Option, Some, None, refl, sym, ap, subst, ◌∙◌, arith, ◌⊎◌, inl, inr, length-append}
use Rattle.std.specs.Prelude.{option_map}
use Rattle.ip_text.specs.Place.{CanBegin}
use Rattle.ip_text.specs.Scans.{Scans}
use Rattle.ip_text.specs.Ipv6.{IsGroup}
use Rattle.ip_text.specs.Ipv4.{IsQuad}
use Rattle.ip_text.specs.Unread.{IsLeft}
use Rattle.ip_text.proofs.ScanLaws.{scans_is, either_longer, either_left, either_further, then_stops, front_lacks}
use Rattle.ip_text.proofs.Hex.{hex_begins}
use Rattle.ip_text.proofs.GroupLaws.{IsOne, IsLastQuad, group_lacks, quad_lacks, quad_no_hex, hex_front}
use Rattle.ip_text.proofs.ItemLaws.{one_group, last_quad, swapped, colon_after, thens_more}
use Rattle.ip_text.proofs.LeftLaws.{IsTail, Begun, LeftItems, to_left, from_left}

begun_not : (b : ℕ) (more front rest w r : List ℕ) → rest ≡ b ∷ more → (front ++ b ∷ []) ++ r ≡ 58 ∷ w → ((x : List ℕ) → front ++ rest ≡ 58 ∷ x → ⊥) → ⊥
begun_not b more [] rest w r e same no_colon = no_colon more (let heads : b ≡ 58 = cc in e ∙ ap (λ (c : ℕ). c ∷ more) heads)
begun_not b more (c ∷ cs) rest w r e same no_colon = no_colon (cs ++ rest) (let heads : c ≡ 58 = cc in ap (λ (d : ℕ). d ∷ cs ++ rest) heads)

-- a form whose texts begin with a colon adds nothing where none stands there
pub either_begun : {P Q : ℕ → List ℕ → Type 0} {bytes rest : List ℕ} {v : Option ℕ} → ((a : ℕ) (t : List ℕ) → Q a t → (w : List ℕ) × (t ≡ 58 ∷ w)) → ((w : List ℕ) → bytes ≡ 58 ∷ w → ⊥) → Scans P bytes v rest → Scans (λ a t. P a t ⊎ Q a t) bytes v rest
either_begun {rest = rest} begins no_colon scans =
    let here : (x : List ℕ) → scans.front ++ rest ≡ 58 ∷ x → ⊥ = λ x e. no_colon x (scans.split ∙ e) in
    record {
      front = scans.front;
      split = scans.split;
      scan = either_longer scans.scan (λ a is. let it = begins a scans.front is in absurd (here (it.0 ++ rest) (ap (λ (l : List ℕ). l ++ rest) it.1)))
          (λ b more e can. let it = begins can.value ((scans.front ++ b ∷ []) ++ can.rest) can.spelled in begun_not b more scans.front rest it.0 can.rest e it.1 here);
    }

-- one form of two
only_first : {P Q : Type 0} → P ⊎ Q → (Q → ⊥) → P
only_first (inl p) none = p
only_first (inr q) none = absurd (none q)

three_to : (count before v : ℕ) (t : List ℕ) → 3 ≤ count → IsTail count before v t ⊎ Begun count before v t → IsLeft count before v t
three_to count before v t many (inl tail) = to_left count before v t (inl (inr (omega arith, tail)))
three_to count before v t many (inr begun) = begun.2

three_from_items : (count before v : ℕ) (t : List ℕ) → 3 ≤ count → LeftItems count before v t → IsTail count before v t ⊎ Begun count before v t
three_from_items count before v t many (inl (inl one)) = absurd (omega (arith, one.0))
three_from_items count before v t many (inl (inr tail)) = inl tail.1
three_from_items count before v t many (inr (inl quad)) = absurd (omega (arith, quad.0))
three_from_items count before v t many (inr (inr begun)) = inr begun

two_to : (before v : ℕ) (t : List ℕ) → (IsTail 2 before v t ⊎ IsLastQuad before v t) ⊎ Begun 2 before v t → IsLeft 2 before v t
two_to before v t (inl (inl tail)) = to_left 2 before v t (inl (inr (omega arith, tail)))
two_to before v t (inl (inr quad)) = to_left 2 before v t (inr (inl (refl, quad)))
two_to before v t (inr begun) = begun.2

two_from_items : (before v : ℕ) (t : List ℕ) → LeftItems 2 before v t → (IsTail 2 before v t ⊎ IsLastQuad before v t) ⊎ Begun 2 before v t
two_from_items before v t (inl (inl one)) = absurd (omega (arith, one.0))
two_from_items before v t (inl (inr tail)) = inl (inl tail.1)
two_from_items before v t (inr (inl quad)) = inl (inr quad.1)
two_from_items before v t (inr (inr begun)) = inr begun

one_to : (before v : ℕ) (t : List ℕ) → IsOne before v t ⊎ Begun 1 before v t → IsLeft 1 before v t
one_to before v t (inl one) = to_left 1 before v t (inl (inl (refl, one)))
one_to before v t (inr begun) = begun.2

one_from_items : (before v : ℕ) (t : List ℕ) → LeftItems 1 before v t → IsOne before v t ⊎ Begun 1 before v t
one_from_items before v t (inl (inl one)) = inl one.1
one_from_items before v t (inl (inr tail)) = absurd (omega (arith, tail.0))
one_from_items before v t (inr (inl quad)) = absurd (omega (arith, quad.0))
one_from_items before v t (inr (inr begun)) = inr begun

begun_begins : (count before : ℕ) (a : ℕ) (t : List ℕ) → Begun count before a t → (w : List ℕ) × (t ≡ 58 ∷ w)
begun_begins count before a t begun = (begun.0, begun.1)

-- three groups or more
pub left_many : (count before : ℕ) (bytes rest : List ℕ) (v : Option ℕ) → 3 ≤ count → ((w : List ℕ) → bytes ≡ 58 ∷ w → ⊥) → Scans (IsTail count before) bytes v rest → Scans (IsLeft count before) bytes v rest
left_many count before bytes rest v many no_colon scans =
    scans_is (λ a t is. three_to count before a t many is) (λ a t is. three_from_items count before a t many (from_left count before a t (omega arith) is)) (either_begun (begun_begins count before) no_colon scans)

-- two groups, or a quad
pub left_two : (before : ℕ) (bytes rest : List ℕ) (v : Option ℕ) → ((w : List ℕ) → bytes ≡ 58 ∷ w → ⊥) → Scans (λ a t. IsTail 2 before a t ⊎ IsLastQuad before a t) bytes v rest → Scans (IsLeft 2 before) bytes v rest
left_two before bytes rest v no_colon scans =
    scans_is (λ a t is. two_to before a t is) (λ a t is. two_from_items before a t (from_left 2 before a t (omega arith) is)) (either_begun (begun_begins 2 before) no_colon scans)

-- one group
pub left_one : (before : ℕ) (bytes rest : List ℕ) (g v : Option ℕ) → ((w : List ℕ) → bytes ≡ 58 ∷ w → ⊥) → Scans IsGroup bytes g rest → v ≡ option_map (λ x. 65536 * before + x) g → Scans (IsLeft 1 before) bytes v rest
left_one before bytes rest g v no_colon scans same =
    scans_is (λ a t is. one_to before a t is) (λ a t is. one_from_items before a t (from_left 1 before a t (omega arith) is)) (either_begun (begun_begins 1 before) no_colon (subst (λ (x : Option ℕ). Scans (IsOne before) bytes x rest) (sym same) (one_group before bytes rest g scans)))

left_begins : (n before : ℕ) → CanBegin (IsLeft (suc n) before) []
left_begins zero before =
    let one = hex_begins 1 4 (omega arith) in
    record { value = 65536 * before + one.value; rest = one.rest; spelled = to_left 1 before (65536 * before + one.value) one.rest (inl (inl (refl, (one.value, one.spelled, refl)))) }
left_begins (suc n) before =
    let one = hex_begins 1 4 (omega arith) in
    let more = left_begins n (65536 * before + one.value) in
    let pred : suc n ≡ suc (suc n) - 1 = omega arith in
    record {
      value = more.value;
      rest = one.rest ++ 58 ∷ more.rest;
      spelled = to_left (suc (suc n)) before more.value (one.rest ++ 58 ∷ more.rest) (inl (inr (omega arith, (one.value, one.rest, more.rest, one.spelled, subst (λ (k : ℕ). IsLeft k (65536 * before + one.value) more.value more.rest) pred more.spelled, refl))));
    }

some_left : (count before : ℕ) → 1 ≤ count → CanBegin (IsLeft count before) []
some_left zero before some = absurd (omega arith)
some_left (suc n) before some = left_begins n before

pub tail_on : (count before g : ℕ) (bytes more next rest : List ℕ) (v : Option ℕ) → Scans IsGroup bytes (Some g) more → more ≡ 58 ∷ next → Scans (IsLeft (count - 1) (65536 * before + g)) next v rest → Scans (IsTail count before) bytes v rest
tail_on count before g bytes more next rest v group split tail = thens_more IsGroup 58 (λ x. IsLeft (count - 1) (65536 * before + x)) g bytes more next rest v group_lacks group split tail

pub tail_stops : (count before : ℕ) (bytes more : List ℕ) (g : Option ℕ) → 2 ≤ count → (group : Scans IsGroup bytes g more) → ((next : List ℕ) (a : ℕ) → more ≡ 58 ∷ next → g ≡ Some a → ⊥) → Scans (IsTail count before) bytes None more
tail_stops count before bytes more g many group stops = record { front = group.front; split = group.split; scan = then_stops IsGroup 58 (λ x. IsLeft (count - 1) (65536 * before + x)) group.front more g group_lacks (λ x. some_left (count - 1) (65536 * before + x) (omega arith)) group.scan stops }

-- a group and a colon, where a quad goes no further
pub two_on : (before g : ℕ) (bytes more next rest end : List ℕ) (v w : Option ℕ) → ((x : List ℕ) → bytes ≡ 58 ∷ x → ⊥) → Scans IsGroup bytes (Some g) more → more ≡ 58 ∷ next → Scans (IsLeft 1 (65536 * before + g)) next v rest → Scans IsQuad bytes w end → length more ≤ length end → Scans (IsLeft 2 before) bytes v rest
two_on before g bytes more next rest end v w no_colon group split tail quad le =
    left_two before bytes rest v no_colon (either_further (tail_on 2 before g bytes more next rest v group split (subst (λ (k : ℕ). Scans (IsLeft k (65536 * before + g)) next v rest) (omega arith) tail)) (last_quad before bytes end w quad) (omega (arith, le, ap length split, ap length tail.split, length-append tail.front rest)))

-- a quad, which goes further than a group
pub two_quad : (before : ℕ) (bytes more end : List ℕ) (g w v : Option ℕ) → ((x : List ℕ) → bytes ≡ 58 ∷ x → ⊥) → Scans IsGroup bytes g more → Scans IsQuad bytes w end → length end < length more → v ≡ option_map (λ q. 4294967296 * before + q) w → Scans (IsLeft 2 before) bytes v end
two_quad before bytes more end g w v no_colon group quad less same =
    let stops : (next : List ℕ) (a : ℕ) → more ≡ 58 ∷ next → g ≡ Some a → ⊥ = λ next a e some. colon_after group.front quad.front next end more e (sym group.split ∙ quad.split) (front_lacks IsQuad 58 quad.front quad_lacks quad.scan.begins) less in
    subst (λ (x : Option ℕ). Scans (IsLeft 2 before) bytes x end) (sym same) (left_two before bytes end _ no_colon (swapped (either_further (last_quad before bytes end w quad) (tail_stops 2 before bytes more g (omega arith) group stops) less)))

-- neither goes on
pub two_stops : (before : ℕ) (bytes more end : List ℕ) (g w : Option ℕ) → ((x : List ℕ) → bytes ≡ 58 ∷ x → ⊥) → (group : Scans IsGroup bytes g more) → ((next : List ℕ) (a : ℕ) → more ≡ 58 ∷ next → g ≡ Some a → ⊥) → Scans IsQuad bytes w end → length more ≤ length end → Scans (IsLeft 2 before) bytes None more
unfolding tail_stops
two_stops before bytes more end g w no_colon group stops quad le =
    let hex = hex_front group.front group.scan.begins.rest group.scan.begins.spelled.digits in
    left_two before bytes more None no_colon (either_left (tail_stops 2 before bytes more g (omega arith) group stops) (last_quad before bytes end w quad) le (λ a it. quad_no_hex it.0 group.front it.1 hex))
