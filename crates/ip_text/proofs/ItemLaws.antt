-- Groups behind the two colons: the scan of one item, and of what follows it.
use Rattle.std.proofs.Common.{◌≡◌, ◌≤◌, ◌<◌, ◌+◌, ◌-◌, ◌*◌, ℕ, List, [], ◌∷◌, ◌++◌, length, Option, Some, None, true, refl, sym, ap, subst, ◌∙◌, arith, append_assoc, ◌⊎◌, inl, inr, length-append}
use Rattle.std.specs.Prelude.{option_map}
use Rattle.ip_text.specs.Place.{CanBegin}
use Rattle.ip_text.specs.Scans.{Scan, Scans}
use Rattle.ip_text.specs.Unread.{IsRight}
use Rattle.ip_text.specs.Numerals.{in_base, all_hex}
use Rattle.ip_text.specs.Ipv6.{IsGroup, Groups}
use Rattle.ip_text.specs.Ipv4.{IsQuad}
use Rattle.ip_text.proofs.ScanLaws.{Lacks, Then, scans_is, scans_map, then_more, then_stops, either_left, either_further, lacks_in, longer, front_lacks, same_length}
use Rattle.ip_text.proofs.Hex.{hex_begins}
use Rattle.ip_text.proofs.GroupLaws.{IsOne, IsMore, IsLastQuad, to_right, from_right, group_lacks, quad_lacks, quad_no_hex, hex_front}

right_begins : (most before : ℕ) → 1 ≤ most → CanBegin (IsRight most before) []
right_begins most before some =
    let one = hex_begins 1 4 (omega arith) in
    record { value = 65536 * before + one.value; rest = one.rest; spelled = record { parts = one.value ∷ []; some = omega arith; few = omega arith; joined = one.spelled; spelled = refl } }

group_front : {bytes rest : List ℕ} {v : Option ℕ} → (scans : Scans IsGroup bytes v rest) → (all_hex scans.front ≡ true) × Lacks 58 scans.front
group_front scans = (hex_front scans.front scans.scan.begins.rest scans.scan.begins.spelled.digits, front_lacks IsGroup 58 scans.front group_lacks scans.scan.begins)

pub thens_more : {A B : Type 0} (P : A → List ℕ → Type 0) (s : ℕ) (Q : A → B → List ℕ → Type 0) (a : A) (bytes more next rest : List ℕ) (v : Option B) → ((a : A) (t : List ℕ) → P a t → Lacks s t) → Scans P bytes (Some a) more → more ≡ s ∷ next → Scans (Q a) next v rest → Scans (Then P s Q) bytes v rest
thens_more P s Q a bytes more next rest v lacks first split second =
    let after : more ≡ s ∷ second.front ++ rest = split ∙ ap (λ (l : List ℕ). s ∷ l) second.split in
    record {
      front = first.front ++ s ∷ second.front;
      split = first.split ∙ ap (λ (l : List ℕ). first.front ++ l) after ∙ sym (append_assoc first.front (s ∷ second.front) rest);
      scan = then_more P s Q a first.front second.front rest v lacks (subst (λ (l : List ℕ). Scan P first.front l (Some a)) after first.scan) second.scan;
    }

pub one_group : (before : ℕ) (bytes rest : List ℕ) (v : Option ℕ) → Scans IsGroup bytes v rest → Scans (IsOne before) bytes (option_map (λ g. 65536 * before + g) v) rest
one_group before bytes rest v scans = scans_map (λ g. 65536 * before + g) IsGroup bytes rest v _ refl scans

pub last_quad : (before : ℕ) (bytes rest : List ℕ) (v : Option ℕ) → Scans IsQuad bytes v rest → Scans (IsLastQuad before) bytes (option_map (λ q. 4294967296 * before + q) v) rest
last_quad before bytes rest v scans = scans_map (λ q. 4294967296 * before + q) IsQuad bytes rest v _ refl scans

swap_sum : {P Q : Type 0} → P ⊎ Q → Q ⊎ P
swap_sum (inl p) = inr p
swap_sum (inr q) = inl q

pub swapped : {P Q : ℕ → List ℕ → Type 0} {bytes rest : List ℕ} {v : Option ℕ} → Scans (λ a t. P a t ⊎ Q a t) bytes v rest → Scans (λ a t. Q a t ⊎ P a t) bytes v rest
swapped scans = scans_is (λ a t is. swap_sum is) (λ a t is. swap_sum is) scans

to_scan : (most before : ℕ) (bytes rest : List ℕ) (v : Option ℕ) → 2 ≤ most → Scans (λ a t. (IsOne before a t ⊎ IsMore most before a t) ⊎ IsLastQuad before a t) bytes v rest → Scans (IsRight most before) bytes v rest
to_scan most before bytes rest v two scans = scans_is (λ a t is. to_right most before a t two is) (λ a t is. from_right most before a t is) scans

-- a group, a colon and more
pub items_on : (most before g : ℕ) (bytes more next rest end : List ℕ) (v w : Option ℕ) → 2 ≤ most → Scans IsGroup bytes (Some g) more → more ≡ 58 ∷ next → Scans IsQuad bytes w end → length more ≤ length end → Scans (IsRight (most - 1) (65536 * before + g)) next v rest → Scans (IsRight most before) bytes v rest
items_on most before g bytes more next rest end v w two group split quad le tail =
    let shorter : length rest < length more = omega (arith, ap length split, ap length tail.split, length-append tail.front rest) in
    let then = thens_more IsGroup 58 (λ x. IsRight (most - 1) (65536 * before + x)) g bytes more next rest v group_lacks group split tail in
    let part = swapped (either_further then (one_group before bytes more (Some g) group) shorter) in
    to_scan most before bytes rest v two (either_further part (last_quad before bytes end w quad) (omega arith))

group_only : (most before : ℕ) (bytes more : List ℕ) (g : Option ℕ) → 2 ≤ most → Scans IsGroup bytes g more → ((next : List ℕ) (a : ℕ) → more ≡ 58 ∷ next → g ≡ Some a → ⊥) → (both : Scans (λ a t. IsOne before a t ⊎ IsMore most before a t) bytes (option_map (λ x. 65536 * before + x) g) more) × (all_hex both.front ≡ true)
unfolding either_left scans_map one_group
group_only most before bytes more g two group stops =
    let none = then_stops IsGroup 58 (λ x. IsRight (most - 1) (65536 * before + x)) group.front more g group_lacks (λ x. right_begins (most - 1) (65536 * before + x) (omega arith)) group.scan stops in
    (either_left (one_group before bytes more g group) (record { front = group.front; split = group.split; scan = none }) (omega arith) (λ a it. lacks_in 58 it.1 it.2 (subst (λ (t : List ℕ). Lacks 58 t) it.5 (group_front group).1)), (group_front group).0)

-- a group that no colon follows
pub items_stop : (most before : ℕ) (bytes more end : List ℕ) (g w v : Option ℕ) → 2 ≤ most → Scans IsGroup bytes g more → ((next : List ℕ) (a : ℕ) → more ≡ 58 ∷ next → g ≡ Some a → ⊥) → Scans IsQuad bytes w end → length more ≤ length end → v ≡ option_map (λ x. 65536 * before + x) g → Scans (IsRight most before) bytes v more
items_stop most before bytes more end g w v two group stops quad le same =
    let both = group_only most before bytes more g two group stops in
    subst (λ (x : Option ℕ). Scans (IsRight most before) bytes x more) (sym same) (to_scan most before bytes more _ two (either_left both.0 (last_quad before bytes end w quad) le (λ a it. quad_no_hex it.0 both.0.front it.1 both.1)))

pub colon_after : (u f next end more : List ℕ) → more ≡ 58 ∷ next → u ++ more ≡ f ++ end → Lacks 58 f → length end < length more → ⊥
colon_after u f next end more e same lacks less =
    let it = longer 58 u f next end lacks (ap (λ (l : List ℕ). u ++ l) (sym e) ∙ same) in
    omega (arith, same_length u f more end same, ap length it.1, length-append f it.0)

-- a quad, which goes further than a group
pub items_quad : (most before : ℕ) (bytes more end : List ℕ) (g w v : Option ℕ) → 2 ≤ most → Scans IsGroup bytes g more → Scans IsQuad bytes w end → length end < length more → v ≡ option_map (λ q. 4294967296 * before + q) w → Scans (IsRight most before) bytes v end
items_quad most before bytes more end g w v two group quad less same =
    let stops : (next : List ℕ) (a : ℕ) → more ≡ 58 ∷ next → g ≡ Some a → ⊥ = λ next a e some. colon_after group.front quad.front next end more e (sym group.split ∙ quad.split) (front_lacks IsQuad 58 quad.front quad_lacks quad.scan.begins) less in
    let both = group_only most before bytes more g two group stops in
    subst (λ (x : Option ℕ). Scans (IsRight most before) bytes x end) (sym same) (to_scan most before bytes end _ two (swapped (either_further (last_quad before bytes end w quad) both.0 less)))

only_one : (before a : ℕ) (t parts : List ℕ) → 0 < length parts → length parts ≤ 1 → Groups parts t → a ≡ in_base 65536 before parts → IsOne before a t
only_one before a t [] some few joined e = absurd (omega arith)
only_one before a t (x ∷ []) some few joined e = (x, joined, e)
only_one before a t (x ∷ y ∷ zs) some few joined e = absurd (omega arith)

-- the last that can stand
pub items_last : (before : ℕ) (bytes more : List ℕ) (g v : Option ℕ) → Scans IsGroup bytes g more → v ≡ option_map (λ x. 65536 * before + x) g → Scans (IsRight 1 before) bytes v more
items_last before bytes more g v group same =
    subst (λ (x : Option ℕ). Scans (IsRight 1 before) bytes x more) (sym same)
    (scans_is (λ a t one. record { parts = one.0 ∷ []; some = omega arith; few = omega arith; joined = one.1; spelled = one.2 })
    (λ a t is. only_one before a t is.parts is.some is.few is.joined is.spelled) (one_group before bytes more g group))

-- the same at a count that goes up
pub next_items : (most done before g : ℕ) (bytes more next rest end : List ℕ) (v w : Option ℕ) → done + 1 < most → Scans IsGroup bytes (Some g) more → more ≡ 58 ∷ next → Scans IsQuad bytes w end → length more ≤ length end → Scans (IsRight (most - (done + 1)) (65536 * before + g)) next v rest → Scans (IsRight (most - done) before) bytes v rest
next_items most done before g bytes more next rest end v w two group split quad le tail =
    items_on (most - done) before g bytes more next rest end v w (omega arith) group split quad le (subst (λ (n : ℕ). Scans (IsRight n (65536 * before + g)) next v rest) (omega arith) tail)

pub last_items : (most done before : ℕ) (bytes more : List ℕ) (g v : Option ℕ) → done < most → most ≤ done + 1 → Scans IsGroup bytes g more → v ≡ option_map (λ x. 65536 * before + x) g → Scans (IsRight (most - done) before) bytes v more
last_items most done before bytes more g v less le group same = subst (λ (n : ℕ). Scans (IsRight n before) bytes v more) (omega arith) (items_last before bytes more g v group same)

pub some_mapped : (f : ℕ → ℕ) (a b : ℕ) (o : Option ℕ) → b ≡ a → o ≡ Some a → Some (f b) ≡ option_map f o
some_mapped f a b o same some = ap (λ x. Some (f x)) same ∙ ap (option_map f) (sym some)

pub none_mapped : (f : ℕ → ℕ) (o : Option ℕ) → o ≡ None → None ≡ option_map f o
none_mapped f o none = ap (option_map f) (sym none)
