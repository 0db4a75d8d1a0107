-- The functions of IPv6 texts give a value exactly where the form spells it.
use Rattle.std.proofs.Common.{◌≡◌, ◌≤◌, ◌<◌, ◌+◌, ◌*◌, ◌-◌, ◌/◌, ◌%◌, ◌==◌, ◌&&◌, nat_le, ℕ, Option, Some, None, List, [], ◌∷◌, ◌++◌, length, replicate, Bool, true, false, cond, refl, sym, ap, subst, ◌∙◌, arith, inl, inr, ◌⊎◌, append_assoc, length-append}
use Rattle.std.specs.Prelude.{option_map, option_and_then}
use Rattle.std.specs.List.{join_with_byte}
use Rattle.std.specs.Option.{option_or}
use Rattle.std.proofs.lemmas.List.{append-nil, length-replicate}
use Rattle.std.proofs.lemmas.Bool.{cond-true, cond-false, and_parts, eq-eqb, eqb-true}
use Rattle.std.proofs.lemmas.Bool.Decides.{nat_tests}
use Rattle.ip_text.specs.Numerals.{IsNumber, Joined, in_base}
use Rattle.ip_text.specs.Ipv4.{IsQuad}
use Rattle.ip_text.specs.Ipv6.{IsGroup, Groups, Compressed, IsIpv6}
use Rattle.ip_text.specs.Values.{Computes, number_of, words_of, quad_of, group_of, last_of, groups_of, gap_of, left_of, right_of, eight_of, filled_of, compressed_of, ipv6_by, ipv6_of}
use Rattle.ip_text.proofs.ScanLaws.{Lacks}
use Rattle.ip_text.proofs.Numbers.{number_lacks}
use Rattle.ip_text.proofs.GroupLaws.{groups_cons, group_lacks, quad_lacks, quad_no_hex}
use Rattle.ip_text.proofs.LeftLaws.{groups_first, joined_first}
use Rattle.ip_text.proofs.StartLaws.{no_groups}
use Rattle.ip_text.proofs.ValueLaws.{tested, mapped_some, then_some, number_computes, hex_computes, row_computes, words_one, words_more, words_joined, joined_words, joined_of_words}

-- one of two
pub or_some : {A : Type 0} (o p : Option A) (a : A) → option_or o p ≡ Some a → (o ≡ Some a) ⊎ ((o ≡ None) × (p ≡ Some a))
or_some None p a e = inr (refl, e)
or_some (Some x) p a e = inl e

pub none_of : {A : Type 0} (o : Option A) → ((a : A) → o ≡ Some a → ⊥) → o ≡ None
none_of None no_value = refl
none_of (Some x) no_value = absurd (no_value x refl)

pub quad_computes : Computes IsQuad quad_of
unfolding quad_of
quad_computes = row_computes (IsNumber 0 255) (number_of 0 255) 46 256 4 (omega arith) (number_computes 0 255 (omega arith)) (λ a t is. number_lacks 0 255 46 a t (omega arith) (inl (omega arith)) is)

group_computes : Computes IsGroup group_of
unfolding group_of
group_computes = hex_computes 1 4

abbrev one_group : ℕ → List ℕ
one_group g = g ∷ []

abbrev two_groups : ℕ → List ℕ
two_groups q = (q / 65536) ∷ (q % 65536) ∷ []

quad_groups : (q : ℕ) (w : List ℕ) → IsQuad q w → Groups (two_groups q) w
quad_groups q w is =
    let same : q ≡ 65536 * (q / 65536) + q % 65536 = omega arith in
    inr (refl, omega arith, subst (λ (n : ℕ). IsQuad n w) same is)

last_spells : (w groups : List ℕ) → last_of w ≡ Some groups → Groups groups w
unfolding last_of
last_spells w groups e = elim (or_some (option_map one_group (group_of w)) (option_map two_groups (quad_of w)) groups e) [
  | inl one ↦ let it = mapped_some one_group (group_of w) groups one in subst (λ (l : List ℕ). Groups l w) it.2 (group_computes.spells it.0 w it.1)
  | inr two ↦ let it = mapped_some two_groups (quad_of w) groups two.1 in subst (λ (l : List ℕ). Groups l w) it.2 (quad_groups it.0 w (quad_computes.spells it.0 w it.1))
]

last_some : (w groups : List ℕ) → last_of w ≡ Some groups → 0 < length groups
unfolding last_of
last_some w groups e = elim (or_some (option_map one_group (group_of w)) (option_map two_groups (quad_of w)) groups e) [
  | inl one ↦ let it = mapped_some one_group (group_of w) groups one in omega (arith, ap length it.2)
  | inr two ↦ let it = mapped_some two_groups (quad_of w) groups two.1 in omega (arith, ap length it.2)
]

last_one : (g : ℕ) (w : List ℕ) → IsGroup g w → last_of w ≡ Some (g ∷ [])
unfolding last_of
last_one g w is = ap (λ o. option_or (option_map one_group o) (option_map two_groups (quad_of w))) (group_computes.found g w is)

last_two : (g h : ℕ) (w : List ℕ) → h < 65536 → IsQuad (65536 * g + h) w → last_of w ≡ Some (g ∷ h ∷ [])
unfolding last_of
last_two g h w small is =
    let no_group : group_of w ≡ None = none_of (group_of w) (λ a e. quad_no_hex (65536 * g + h) w is (group_computes.spells a w e).digits) in
    let high : (65536 * g + h) / 65536 ≡ g = omega arith in
    let low : (65536 * g + h) % 65536 ≡ h = omega arith in
    ap (λ o. option_or (option_map one_group o) (option_map two_groups (quad_of w))) no_group ∙ ap (option_map two_groups) (quad_computes.found (65536 * g + h) w is)
    ∙ ap (λ n. Some (n ∷ ((65536 * g + h) % 65536) ∷ [])) high ∙ ap (λ n. Some (g ∷ n ∷ [])) low

groups_some : (words : List (List ℕ)) (groups : List ℕ) → groups_of words ≡ Some groups → 0 < length groups
unfolding groups_of
groups_some [] groups e = absurd cc
groups_some (w ∷ []) groups e = last_some w groups e
groups_some (w ∷ x ∷ ws) groups e =
    let it = then_some (λ g. option_map (λ l. g ∷ l) (groups_of (x ∷ ws))) (group_of w) groups e in
    let more = mapped_some (λ l. it.0 ∷ l) (groups_of (x ∷ ws)) groups it.2 in
    omega (arith, ap length more.2)

groups_spell : (words : List (List ℕ)) (groups : List ℕ) → groups_of words ≡ Some groups → Groups groups (join_with_byte 58 words)
unfolding groups_of
groups_spell [] groups e = absurd cc
groups_spell (w ∷ []) groups e = last_spells w groups e
groups_spell (w ∷ x ∷ ws) groups e =
    let it = then_some (λ g. option_map (λ l. g ∷ l) (groups_of (x ∷ ws))) (group_of w) groups e in
    let more = mapped_some (λ l. it.0 ∷ l) (groups_of (x ∷ ws)) groups it.2 in
    subst (λ (l : List ℕ). Groups l (w ++ 58 ∷ join_with_byte 58 (x ∷ ws))) more.2
    (groups_cons it.0 more.0 w (join_with_byte 58 (x ∷ ws)) (groups_some (x ∷ ws) more.0 more.1) (group_computes.spells it.0 w it.1) (groups_spell (x ∷ ws) more.0 more.1))

groups_next : (u : List ℕ) (ws : List (List ℕ)) (g : ℕ) (gs : List ℕ) → group_of u ≡ Some g → groups_of ws ≡ Some gs → groups_of (u ∷ ws) ≡ Some (g ∷ gs)
unfolding groups_of
groups_next u [] g gs e f = absurd cc
groups_next u (x ∷ xs) g gs e f = ap (option_and_then (λ n. option_map (λ l. n ∷ l) (groups_of (x ∷ xs)))) e ∙ ap (option_map (λ l. g ∷ l)) f

groups_last : (w groups : List ℕ) → last_of w ≡ Some groups → groups_of (w ∷ []) ≡ Some groups
unfolding groups_of
groups_last w groups e = e

groups_found : (groups t : List ℕ) → 0 < length groups → Groups groups t → groups_of (words_of 58 t) ≡ Some groups
groups_found [] t some is = absurd (omega arith)
groups_found (g ∷ []) t some is = ap groups_of (words_one 58 t (group_lacks g t is)) ∙ groups_last t (g ∷ []) (last_one g t is)
groups_found (g ∷ h ∷ gs) t some (inl more) =
    ap (λ l. groups_of (words_of 58 l)) more.4 ∙ ap groups_of (words_more 58 more.0 more.1 (group_lacks g more.0 more.2))
    ∙ groups_next more.0 (words_of 58 more.1) g (h ∷ gs) (group_computes.found g more.0 more.2) (groups_found (h ∷ gs) more.1 (omega arith) more.3)
groups_found (g ∷ h ∷ gs) t some (inr quad) =
    ap groups_of (words_one 58 t (quad_lacks (65536 * g + h) t quad.2)) ∙ groups_last t (g ∷ h ∷ []) (last_two g h t quad.1 quad.2) ∙ ap (λ l. Some (g ∷ h ∷ l)) (sym quad.0)

groups_of_text : (t groups : List ℕ) → groups_of (words_of 58 t) ≡ Some groups → Groups groups t
groups_of_text t groups e = subst (λ (l : List ℕ). Groups groups l) (words_joined 58 t) (groups_spell (words_of 58 t) groups e)

-- texts that may have no group
same_list : (x y : List ℕ) → Some x ≡ Some y → x ≡ y
same_list x y e = cc

left_spells : (t groups : List ℕ) → left_of t ≡ Some groups → Joined IsGroup 58 groups t
unfolding left_of
left_spells [] groups e = subst (λ (l : List ℕ). Joined IsGroup 58 l []) (same_list [] groups e) refl
left_spells (b ∷ t) groups e = joined_of_words IsGroup group_of 58 group_computes (b ∷ t) groups e

right_spells : (t groups : List ℕ) → right_of t ≡ Some groups → Groups groups t
unfolding right_of
right_spells [] groups e = subst (λ (l : List ℕ). Groups l []) (same_list [] groups e) refl
right_spells (b ∷ t) groups e = groups_of_text (b ∷ t) groups e

no_joined : (groups : List ℕ) → 0 < length groups → Joined IsGroup 58 groups [] → ⊥
no_joined [] some joined = omega arith
no_joined (g ∷ []) some joined = omega (arith, joined.enough)
no_joined (g ∷ h ∷ gs) some joined = omega (arith, ap length joined.4, length-append joined.0 (58 ∷ joined.1))

left_found : (groups t : List ℕ) → Joined IsGroup 58 groups t → left_of t ≡ Some groups
unfolding left_of
left_found [] t joined = ap left_of joined
left_found (g ∷ gs) [] joined = absurd (no_joined (g ∷ gs) (omega arith) joined)
left_found (g ∷ gs) (b ∷ t) joined = joined_words IsGroup group_of 58 group_computes group_lacks (g ∷ gs) (b ∷ t) (omega arith) joined

right_found : (groups t : List ℕ) → Groups groups t → right_of t ≡ Some groups
unfolding right_of
right_found [] t is = ap right_of is
right_found (g ∷ gs) [] is = absurd (no_groups (g ∷ gs) (omega arith) is)
right_found (g ∷ gs) (b ∷ t) is = groups_found (g ∷ gs) (b ∷ t) (omega arith) is

-- the two colons
either_test : {A : Type 0} (test : Bool) (x : A) (o : Option A) (a : A) → cond test (Some x) o ≡ Some a → ((test ≡ true) × (x ≡ a)) ⊎ (o ≡ Some a)
either_test true x o a e = inl (refl, cc)
either_test false x o a e = inr e

abbrev Parts : Type 0
Parts = List ℕ × List ℕ

abbrev moved : ℕ → Parts → Parts
moved b parts = (b ∷ parts.0, parts.1)

abbrev colons_at : List ℕ → Parts
colons_at text = ([], text)

gap_spells : (t : List ℕ) (gap : Parts) → gap_of t ≡ Some gap → t ≡ gap.0 ++ 58 ∷ 58 ∷ gap.1
unfolding gap_of
gap_spells [] gap e = absurd cc
gap_spells (b ∷ []) gap e = absurd cc
gap_spells (b ∷ c ∷ text) gap e = elim (either_test ((b == 58) && (c == 58)) (colons_at text) (option_map (moved b) (gap_of (c ∷ text))) gap e) [
  | inl here ↦
      let tests = and_parts (b == 58) (c == 58) here.0 in
      ap (λ (n : ℕ). n ∷ c ∷ text) (eqb-true b 58 tests.0) ∙ ap (λ (n : ℕ). 58 ∷ n ∷ text) (eqb-true c 58 tests.1) ∙ ap (λ (p : Parts). p.0 ++ 58 ∷ 58 ∷ p.1) here.1
  | inr later ↦
      let it = mapped_some (moved b) (gap_of (c ∷ text)) gap later in
      ap (λ (l : List ℕ). b ∷ l) (gap_spells (c ∷ text) it.0 it.1) ∙ ap (λ (p : Parts). p.0 ++ 58 ∷ 58 ∷ p.1) it.2
]

gap_skip : (b c : ℕ) (text : List ℕ) → ((b == 58) && (c == 58)) ≡ false → gap_of (b ∷ c ∷ text) ≡ option_map (moved b) (gap_of (c ∷ text))
unfolding gap_of
gap_skip b c text no_colons = cond-false ((b == 58) && (c == 58)) (Some (colons_at text)) (option_map (moved b) (gap_of (c ∷ text))) no_colons

gap_behind : (b : ℕ) (rest : List ℕ) (o : Option Parts) → (b ≡ 58 → (w : List ℕ) → rest ≡ 58 ∷ w → ⊥) → gap_of rest ≡ o → gap_of (b ∷ rest) ≡ option_map (moved b) o
unfolding gap_of
gap_behind b [] o apart e = ap (option_map (moved b)) e
gap_behind b (c ∷ text) o apart e = gap_skip b c text (not_both b c (λ x y. apart x text (ap (λ (n : ℕ). n ∷ text) y))) ∙ ap (option_map (moved b)) e
  where
    not_both : (b c : ℕ) → (b ≡ 58 → c ≡ 58 → ⊥) → ((b == 58) && (c == 58)) ≡ false
    not_both b c none = by_test (b == 58) (c == 58) (λ x y. none (eqb-true b 58 x) (eqb-true c 58 y))
      where
        by_test : (x y : Bool) → (x ≡ true → y ≡ true → ⊥) → (x && y) ≡ false
        by_test true true none = absurd (none refl refl)
        by_test true false none = refl
        by_test false y none = refl

gap_plain : (u rest : List ℕ) (gap : Parts) → Lacks 58 u → gap_of rest ≡ Some gap → (let parts : Parts = (u ++ gap.0, gap.1) in gap_of (u ++ rest) ≡ Some parts)
gap_plain [] rest gap lacks e = e
gap_plain (b ∷ u) rest gap lacks e = gap_behind b (u ++ rest) (Some (u ++ gap.0, gap.1)) (λ same w f. lacks.0 same) (gap_plain u rest gap lacks.1 e)

no_gap_plain : (u rest : List ℕ) → Lacks 58 u → gap_of rest ≡ None → gap_of (u ++ rest) ≡ None
no_gap_plain [] rest lacks e = e
no_gap_plain (b ∷ u) rest lacks e = gap_behind b (u ++ rest) None (λ same w f. lacks.0 same) (no_gap_plain u rest lacks.1 e)

gap_here : (text : List ℕ) → gap_of (58 ∷ 58 ∷ text) ≡ Some (colons_at text)
unfolding gap_of
gap_here text = refl

no_gap_nil : gap_of [] ≡ None
unfolding gap_of
no_gap_nil = refl

gap_found : (left before behind : List ℕ) → Joined IsGroup 58 left before → (let parts : Parts = (before, behind) in gap_of (before ++ 58 ∷ 58 ∷ behind) ≡ Some parts)
gap_found [] before behind joined = ap (λ (l : List ℕ). gap_of (l ++ 58 ∷ 58 ∷ behind)) joined ∙ gap_here behind ∙ ap (λ (l : List ℕ). let p : Parts = (l, behind) in Some p) (sym joined)
gap_found (g ∷ []) before behind joined = gap_plain before (58 ∷ 58 ∷ behind) (colons_at behind) (group_lacks g before joined) (gap_here behind) ∙ ap (λ (l : List ℕ). let p : Parts = (l, behind) in Some p) (append-nil before)
gap_found (g ∷ h ∷ gs) before behind joined =
    let rest = joined.1 ++ 58 ∷ 58 ∷ behind in
    let apart : (w : List ℕ) → rest ≡ 58 ∷ w → ⊥ = λ w e. joined_first w (h ∷ gs) joined.1 (58 ∷ 58 ∷ behind) (omega arith) joined.3 (sym e) in
    let found : Parts = (58 ∷ joined.1, behind) in
    let next : gap_of (58 ∷ rest) ≡ Some found = gap_behind 58 rest (Some (joined.1, behind)) (λ same. apart) (gap_found (h ∷ gs) joined.1 behind joined.3) in
    ap (λ (l : List ℕ). gap_of (l ++ 58 ∷ 58 ∷ behind)) joined.4 ∙ ap gap_of (append_assoc joined.0 (58 ∷ joined.1) (58 ∷ 58 ∷ behind))
    ∙ gap_plain joined.0 (58 ∷ rest) found (group_lacks g joined.0 joined.2) next
    ∙ ap (λ (l : List ℕ). let p : Parts = (l, behind) in Some p) (sym joined.4)

no_gap : (groups t : List ℕ) → Groups groups t → gap_of t ≡ None
no_gap [] t is = ap gap_of is ∙ no_gap_nil
no_gap (g ∷ []) t is = ap gap_of (sym (append-nil t)) ∙ no_gap_plain t [] (group_lacks g t is) no_gap_nil
no_gap (g ∷ h ∷ gs) t (inl more) =
    let apart : (w : List ℕ) → more.1 ≡ 58 ∷ w → ⊥ = λ w e. groups_first w (h ∷ gs) (omega arith) (subst (λ (l : List ℕ). Groups (h ∷ gs) l) e more.3) in
    ap gap_of more.4 ∙ no_gap_plain more.0 (58 ∷ more.1) (group_lacks g more.0 more.2) (gap_behind 58 more.1 None (λ same. apart) (no_gap (h ∷ gs) more.1 more.3))
no_gap (g ∷ h ∷ gs) t (inr quad) = ap gap_of (sym (append-nil t)) ∙ no_gap_plain t [] (quad_lacks (65536 * g + h) t quad.2) no_gap_nil

eight_spells : (groups : List ℕ) (a : ℕ) → eight_of groups ≡ Some a → (length groups ≡ 8) × (a ≡ in_base 65536 0 groups)
unfolding eight_of
eight_spells groups a e = let it = tested (length groups == 8) (in_base 65536 0 groups) a e in (eqb-true (length groups) 8 it.0, sym it.1)

eight_found : (groups : List ℕ) → length groups ≡ 8 → eight_of groups ≡ Some (in_base 65536 0 groups)
unfolding eight_of
eight_found groups eight = cond-true (length groups == 8) (Some (in_base 65536 0 groups)) None (eq-eqb (length groups) 8 eight)

only_true : {A : Type 0} (test : Bool) (o : Option A) (a : A) → cond test o None ≡ Some a → (test ≡ true) × (o ≡ Some a)
only_true true o a e = (refl, e)
only_true false o a e = absurd cc

le_of : (n m : ℕ) → nat_le n m ≡ true → n ≤ m
le_of n m e = grind (arith, nat_tests)

of_le : (n m : ℕ) → n ≤ m → nat_le n m ≡ true
of_le n m e = grind (arith, nat_tests)

abbrev filled : List ℕ → List ℕ → List ℕ
filled left right = left ++ (replicate (8 - (length left + length right)) 0 ++ right)

filled_spells : (left right : List ℕ) (a : ℕ) → filled_of left right ≡ Some a → (length left + length right ≤ 7) × (length (filled left right) ≡ 8) × (a ≡ in_base 65536 0 (filled left right))
unfolding filled_of
filled_spells left right a e =
    let it = only_true (nat_le (length left + length right) 7) (eight_of (filled left right)) a e in
    let eight = eight_spells (filled left right) a it.1 in
    (le_of (length left + length right) 7 it.0, eight.0, eight.1)

filled_found : (left right : List ℕ) → length left + length right ≤ 7 → length (filled left right) ≡ 8 → filled_of left right ≡ Some (in_base 65536 0 (filled left right))
unfolding filled_of
filled_found left right few eight = cond-true (nat_le (length left + length right) 7) (eight_of (filled left right)) None (of_le (length left + length right) 7 few) ∙ eight_found (filled left right) eight

compressed_found : (before behind left right : List ℕ) (o : Option ℕ) → left_of before ≡ Some left → right_of behind ≡ Some right → filled_of left right ≡ o → compressed_of before behind ≡ o
unfolding compressed_of
compressed_found before behind left right o e f g =
    ap (option_and_then (λ l. option_and_then (λ r. filled_of l r) (right_of behind))) e ∙ ap (option_and_then (λ r. filled_of left r)) f ∙ g

compressed_spells : (before behind : List ℕ) (a : ℕ) → compressed_of before behind ≡ Some a → IsIpv6 a (before ++ 58 ∷ 58 ∷ behind)
unfolding compressed_of
compressed_spells before behind a e =
    let l = then_some (λ x. option_and_then (λ r. filled_of x r) (right_of behind)) (left_of before) a e in
    let r = then_some (λ x. filled_of l.0 x) (right_of behind) a l.2 in
    let is = filled_spells l.0 r.0 a r.2 in
    let few : length l.0 + length r.0 ≤ 7 = is.0 in
    let zeros : 8 - (length l.0 + length r.0) ≡ 7 - (length l.0 + length r.0) + 1 = omega arith in
    record {
      groups = filled l.0 r.0;
      eight = is.1;
      number = is.2;
      spelled = inr record {
        left = l.0;
        zeros = 7 - (length l.0 + length r.0);
        right = r.0;
        before = before;
        behind = behind;
        whole = ap (λ (n : ℕ). l.0 ++ (replicate n 0 ++ r.0)) zeros;
        joined = left_spells before l.0 l.1;
        rest = right_spells behind r.0 r.1;
        spelled = refl;
      };
    }

ipv6_spells : (text : List ℕ) (o : Option Parts) (a : ℕ) → gap_of text ≡ o → ipv6_by text o ≡ Some a → IsIpv6 a text
unfolding ipv6_by
ipv6_spells text None a gap e =
    let it = then_some eight_of (groups_of (words_of 58 text)) a e in
    let eight = eight_spells it.0 a it.2 in
    record { groups = it.0; eight = eight.0; number = eight.1; spelled = inl (groups_of_text text it.0 it.1) }
ipv6_spells text (Some parts) a gap e = subst (λ (t : List ℕ). IsIpv6 a t) (sym (gap_spells text parts gap)) (compressed_spells parts.0 parts.1 a e)

written_found : (groups text : List ℕ) → length groups ≡ 8 → Groups groups text → ipv6_by text None ≡ Some (in_base 65536 0 groups)
unfolding ipv6_by
written_found groups text eight is = ap (option_and_then eight_of) (groups_found groups text (omega arith) is) ∙ eight_found groups eight

gap_by : (text : List ℕ) (gap : Parts) (o : Option ℕ) → compressed_of gap.0 gap.1 ≡ o → ipv6_by text (Some gap) ≡ o
unfolding ipv6_by
gap_by text gap o e = e

form_found : (groups text : List ℕ) → length groups ≡ 8 → Groups groups text ⊎ Compressed groups text → ipv6_of text ≡ Some (in_base 65536 0 groups)
unfolding ipv6_of
form_found groups text eight (inl is) = ap (ipv6_by text) (no_gap groups text is) ∙ written_found groups text eight is
form_found groups text eight (inr short) =
    let count : length short.left + (short.zeros + 1 + length short.right) ≡ 8 =
    omega (arith, eight, ap length short.whole, length-append short.left (replicate (short.zeros + 1) 0 ++ short.right), length-append (replicate (short.zeros + 1) 0) short.right, length-replicate {A = ℕ} (short.zeros + 1) 0) in
    let zeros : short.zeros + 1 ≡ 8 - (length short.left + length short.right) = omega arith in
    let whole : groups ≡ filled short.left short.right = short.whole ∙ ap (λ (n : ℕ). short.left ++ (replicate n 0 ++ short.right)) zeros in
    let gap : Parts = (short.before, short.behind) in
    let found = filled_found short.left short.right (omega arith) (sym (ap length whole) ∙ eight) in
    ap (λ (t : List ℕ). ipv6_by text (gap_of t)) short.spelled ∙ ap (ipv6_by text) (gap_found short.left short.before short.behind short.joined)
    ∙ gap_by text gap (Some (in_base 65536 0 (filled short.left short.right))) (compressed_found short.before short.behind short.left short.right (Some (in_base 65536 0 (filled short.left short.right))) (left_found short.left short.before short.joined) (right_found short.right short.behind short.rest) found)
    ∙ ap (λ (l : List ℕ). Some (in_base 65536 0 l)) (sym whole)

pub ipv6_computes : Computes IsIpv6 ipv6_of
unfolding ipv6_of
ipv6_computes = record {
  spells = λ a text e. ipv6_spells text (gap_of text) a refl e;
  found = λ a text is. form_found is.groups text is.eight is.spelled ∙ ap Some (sym is.number);
}
