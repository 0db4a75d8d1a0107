-- Scans of forms made of forms.
use Rattle.std.proofs.Common.{◌≡◌, ◌≤◌, ◌<◌, ◌+◌, ℕ, suc, zero, List, [], ◌∷◌, ◌++◌, length, take, Option, Some, None, refl, sym, ap, subst, ◌∙◌, inl, inr, ◌⊎◌, arith, append_assoc, length-append}
use Rattle.std.specs.Prelude.{option_map}
use Rattle.std.proofs.lemmas.Bool.{cases_eq, cases_lt}
use Rattle.std.proofs.lemmas.List.{take_at, append-nil}
use Rattle.ip_text.specs.Place.{CanBegin, IsPlace}
use Rattle.ip_text.specs.Scans.{Scan, Scans}

-- no byte of the text is this one
abbrev pub Lacks : ℕ → List ℕ → Type 0
Lacks s [] = Unit {0}
Lacks s (b ∷ bs) = (b ≡ s → ⊥) × Lacks s bs

pub lacks_front : (s : ℕ) (u r : List ℕ) → Lacks s (u ++ r) → Lacks s u
lacks_front s [] r lacks = tt
lacks_front s (b ∷ bs) r lacks = (lacks.0, lacks_front s bs r lacks.1)

pub split_once : (s : ℕ) (p u x y : List ℕ) → Lacks s p → Lacks s u → p ++ s ∷ x ≡ u ++ s ∷ y → (p ≡ u) × (x ≡ y)
split_once s [] [] x y lp lu e = (refl, cc)
split_once s [] (b ∷ us) x y lp lu e = absurd (lu.0 cc)
split_once s (a ∷ ps) [] x y lp lu e = absurd (lp.0 cc)
split_once s (a ∷ ps) (b ∷ us) x y lp lu e =
    let heads : a ≡ b = cc in
    let tails : ps ++ s ∷ x ≡ us ++ s ∷ y = cc in
    let more = split_once s ps us x y lp.1 lu.1 tails in
    (cc (heads, more.0), more.1)

-- a text that lacks the byte and begins what has it, begins what stands before it
pub longer : (s : ℕ) (p u q r : List ℕ) → Lacks s u → p ++ s ∷ q ≡ u ++ r → (t : List ℕ) × (p ≡ u ++ t)
longer s p [] q r lacks e = (p, refl)
longer s [] (b ∷ us) q r lacks e = absurd (lacks.0 cc)
longer s (a ∷ ps) (b ∷ us) q r lacks e =
    let heads : a ≡ b = cc in
    let tails : ps ++ s ∷ q ≡ us ++ r = cc in
    let more = longer s ps us q r lacks.1 tails in
    (more.0, cc (heads, more.1))

pub begin_is : {A : Type 0} {Is Js : A → List ℕ → Type 0} {front : List ℕ} → ((a : A) (t : List ℕ) → Is a t → Js a t) → CanBegin Is front → CanBegin Js front
begin_is {front = front} to can = record { value = can.value; rest = can.rest; spelled = to can.value (front ++ can.rest) can.spelled }

pub scan_is : {A : Type 0} {Is Js : A → List ℕ → Type 0} {front rest : List ℕ} {value : Option A} → ((a : A) (t : List ℕ) → Is a t → Js a t) → ((a : A) (t : List ℕ) → Js a t → Is a t) → Scan Is front rest value → Scan Js front rest value
scan_is {front = front} to from scan = record {
  begins = begin_is to scan.begins;
  longest = λ b more e can. scan.longest b more e (begin_is from can);
  found = λ a e. to a front (scan.found a e);
  only = λ a is. scan.only a (from a front is);
}

pub lacks_snoc : (s : ℕ) (u : List ℕ) (b : ℕ) → Lacks s u → (b ≡ s → ⊥) → Lacks s (u ++ b ∷ [])
lacks_snoc s [] b lacks other = (other, tt)
lacks_snoc s (c ∷ cs) b lacks other = (lacks.0, lacks_snoc s cs b lacks.1 other)

pub lacks_in : (s : ℕ) (u w : List ℕ) → Lacks s (u ++ s ∷ w) → ⊥
lacks_in s [] w lacks = lacks.0 refl
lacks_in s (b ∷ bs) w lacks = lacks_in s bs w lacks.1

-- a text, a byte that it lacks, and a text of a form that the first value names
abbrev pub Then : {A B : Type 0} → (A → List ℕ → Type 0) → ℕ → (A → B → List ℕ → Type 0) → B → List ℕ → Type 0
Then {A} P s Q b text = (a : A) × (u : List ℕ) × (w : List ℕ) × P a u × Q a b w × (text ≡ u ++ s ∷ w)

pub front_lacks : {A : Type 0} (P : A → List ℕ → Type 0) (s : ℕ) (u : List ℕ) → ((a : A) (t : List ℕ) → P a t → Lacks s t) → CanBegin P u → Lacks s u
front_lacks P s u lacks can = lacks_front s u can.rest (lacks can.value (u ++ can.rest) can.spelled)

pub then_more : {A B : Type 0} (P : A → List ℕ → Type 0) (s : ℕ) (Q : A → B → List ℕ → Type 0) (a : A) (u w rest : List ℕ) (v : Option B) → ((a : A) (t : List ℕ) → P a t → Lacks s t) →
    Scan P u (s ∷ w ++ rest) (Some a) → Scan (Q a) w rest v → Scan (Then P s Q) (u ++ s ∷ w) rest v
then_more {A} {B} P s Q a u w rest v lacks first second =
    let here : P a u = first.found a refl in
    let lu : Lacks s u = lacks a u here in
    record {
      begins = record {
        value = second.begins.value;
        rest = second.begins.rest;
        spelled = (a, u, w ++ second.begins.rest, here, second.begins.spelled, append_assoc u (s ∷ w) second.begins.rest);
      };
      longest = λ b more e can.
          let it = can.spelled in
          let same = split_once s it.1 u it.2 (w ++ (b ∷ can.rest)) (lacks it.0 it.1 it.3) lu (sym it.5 ∙ append_assoc (u ++ s ∷ w) (b ∷ []) can.rest ∙ append_assoc u (s ∷ w) (b ∷ can.rest)) in
          let is : Some a ≡ Some it.0 = first.only it.0 (subst (λ (t : List ℕ). P it.0 t) same.0 it.3) in
          let a_is : it.0 ≡ a = cc in
          second.longest b more e (record { value = can.value; rest = can.rest; spelled = subst (λ (c : A). Q c can.value ((w ++ b ∷ []) ++ can.rest)) a_is (subst (λ (t : List ℕ). Q it.0 can.value t) (same.1 ∙ sym (append_assoc w (b ∷ []) can.rest)) it.4) });
      found = λ b e. (a, u, w, here, second.found b e, refl);
      only = λ b it.
          let same = split_once s it.1 u it.2 w (lacks it.0 it.1 it.3) lu (sym it.5) in
          let is : Some a ≡ Some it.0 = first.only it.0 (subst (λ (t : List ℕ). P it.0 t) same.0 it.3) in
          let a_is : it.0 ≡ a = cc in
          second.only b (subst (λ (c : A). Q c b w) a_is (subst (λ (t : List ℕ). Q it.0 b t) same.1 it.4));
    }

pub then_stops : {A B : Type 0} (P : A → List ℕ → Type 0) (s : ℕ) (Q : A → B → List ℕ → Type 0) (u rest : List ℕ) (v : Option A) → ((a : A) (t : List ℕ) → P a t → Lacks s t) → ((a : A) → CanBegin (Q a) []) →
    Scan P u rest v → ((more : List ℕ) (a : A) → rest ≡ s ∷ more → v ≡ Some a → ⊥) → Scan (Then P s Q) u rest None
then_stops {A} {B} P s Q u rest v lacks some first stops =
    let lu = front_lacks P s u lacks first.begins in
    let next = some first.begins.value in
    record {
      begins = record {
        value = next.value;
        rest = first.begins.rest ++ s ∷ next.rest;
        spelled = (first.begins.value, u ++ first.begins.rest, next.rest, first.begins.spelled, next.spelled, sym (append_assoc u first.begins.rest (s ∷ next.rest)));
      };
      longest = λ b more e can.
          let it = can.spelled in
          let same = sym it.5 ∙ append_assoc u (b ∷ []) can.rest in
          elim (cases_eq b s) [
            | inl at ↦
                let at_s : it.1 ++ s ∷ it.2 ≡ u ++ s ∷ can.rest = same ∙ ap (λ (c : ℕ). u ++ c ∷ can.rest) at in
                let is = split_once s it.1 u it.2 can.rest (lacks it.0 it.1 it.3) lu at_s in
                stops more it.0 (e ∙ ap (λ (c : ℕ). c ∷ more) at) (first.only it.0 (subst (λ (t : List ℕ). P it.0 t) is.0 it.3))
            | inr other ↦
                let part = longer s it.1 (u ++ b ∷ []) it.2 can.rest (lacks_snoc s u b lu other) (sym it.5) in
                first.longest b more e (record { value = it.0; rest = part.0; spelled = subst (λ (t : List ℕ). P it.0 t) part.1 it.3 })
          ];
      found = λ b e. absurd cc;
      only = λ b it. absurd (lacks_in s it.1 it.2 (subst (λ (t : List ℕ). Lacks s t) it.5 lu));
    }

-- one more byte before
pub behind : {A : Type 0} {Is Js : A → List ℕ → Type 0} (b : ℕ) {u rest : List ℕ} {v : Option A} → ((a : A) (t : List ℕ) → Is a t → Js a (b ∷ t)) → ((a : A) (t : List ℕ) → Js a (b ∷ t) → Is a t) → Scan Is u rest v → Scan Js (b ∷ u) rest v
behind b {u = u} to from scan = record {
  begins = record { value = scan.begins.value; rest = scan.begins.rest; spelled = to scan.begins.value (u ++ scan.begins.rest) scan.begins.spelled };
  longest = λ c more e can. scan.longest c more e (record { value = can.value; rest = can.rest; spelled = from can.value ((u ++ c ∷ []) ++ can.rest) can.spelled });
  found = λ a e. to a u (scan.found a e);
  only = λ a is. scan.only a (from a u is);
}

pub behinds : {A : Type 0} {Is Js : A → List ℕ → Type 0} (b : ℕ) {bytes rest : List ℕ} {v : Option A} → ((a : A) (t : List ℕ) → Is a t → Js a (b ∷ t)) → ((a : A) (t : List ℕ) → Js a (b ∷ t) → Is a t) → Scans Is bytes v rest → Scans Js (b ∷ bytes) v rest
behinds b to from scans = record { front = b ∷ scans.front; split = ap (λ (l : List ℕ). b ∷ l) scans.split; scan = behind b to from scans.scan }

-- the longer of two fronts, and what either spells
pub either_longer : {A : Type 0} {Is Js : A → List ℕ → Type 0} {u rest : List ℕ} {v : Option A} → Scan Is u rest v → ((a : A) → Js a u → v ≡ Some a) → ((b : ℕ) (more : List ℕ) → rest ≡ b ∷ more → CanBegin Js (u ++ b ∷ []) → ⊥) → Scan (λ a t. Is a t ⊎ Js a t) u rest v
either_longer {u = u} scan none shorter = record {
  begins = record { value = scan.begins.value; rest = scan.begins.rest; spelled = inl scan.begins.spelled };
  longest = λ b more e can. elim can.spelled [
    | inl is ↦ scan.longest b more e (record { value = can.value; rest = can.rest; spelled = is })
    | inr js ↦ shorter b more e (record { value = can.value; rest = can.rest; spelled = js })
  ];
  found = λ a e. inl (scan.found a e);
  only = λ a is. elim is [ inl x ↦ scan.only a x | inr y ↦ none a y ];
}

reach : (u rest : List ℕ) (n : ℕ) → length u < n → n ≤ length (u ++ rest) → (b : ℕ) × (more : List ℕ) × (t : List ℕ) × (rest ≡ b ∷ more) × (take n (u ++ rest) ≡ u ++ b ∷ t)
reach [] [] n more le = absurd (omega arith)
reach [] (b ∷ bs) zero more le = absurd (omega arith)
reach [] (b ∷ bs) (suc n) more le = (b, bs, take n bs, refl, refl)
reach (c ∷ cs) rest zero more le = absurd (omega arith)
reach (c ∷ cs) rest (suc n) more le = let it = reach cs rest n (omega arith) (omega arith) in (it.0, it.1, it.2, it.3, ap (λ (l : List ℕ). c ∷ l) it.4)

no_longer : {A : Type 0} (Is : A → List ℕ → Type 0) (u rest : List ℕ) (v : Option A) (n : ℕ) → Scan Is u rest v → n ≤ length (u ++ rest) → CanBegin Is (take n (u ++ rest)) → n ≤ length u
no_longer Is u rest v n scan le can = elim (cases_lt (length u) n) [
  | inr here ↦ here
  | inl past ↦
      let it = reach u rest n past le in
      absurd (scan.longest it.0 it.1 it.3 (record { value = can.value; rest = it.2 ++ can.rest; spelled = subst (λ (t : List ℕ). Is can.value t) (ap (λ (t : List ℕ). t ++ can.rest) it.4 ∙ append_assoc u (it.0 ∷ it.2) can.rest ∙ sym (append_assoc u (it.0 ∷ []) (it.2 ++ can.rest))) can.spelled }))
]

-- a front that begins a text is no longer than the scan's
pub scan_place : {A : Type 0} (Is : A → List ℕ → Type 0) (u rest : List ℕ) (v : Option A) → Scan Is u rest v → IsPlace Is (u ++ rest) (length u)
scan_place Is u rest v scan = record {
  within = omega (arith, length-append u rest);
  begins = rw (take_at u rest (length u) refl) scan.begins;
  longest = λ n le can. no_longer Is u rest v n scan le can;
}

pub same_length : (u f more end : List ℕ) → u ++ more ≡ f ++ end → length u + length more ≡ length f + length end
same_length u f more end e = omega (arith, length-append u more, length-append f end, ap length e)

-- what begins a text of the form is no longer than the scan's front
pub no_further : {A : Type 0} {Is : A → List ℕ → Type 0} {bytes rest : List ℕ} {v : Option A} → Scans Is bytes v rest → (u more : List ℕ) → bytes ≡ u ++ more → CanBegin Is u → length rest ≤ length more
no_further {Is = Is} {rest = rest} {v = v} scans u more e can =
    let same : scans.front ++ rest ≡ u ++ more = sym scans.split ∙ e in
    let there : take (length u) (scans.front ++ rest) ≡ u = ap (take (length u)) same ∙ take_at u more (length u) refl in
    let fits : length u ≤ length (scans.front ++ rest) = omega (arith, length-append u more, ap length same) in
    let le = no_longer Is scans.front rest v (length u) scans.scan fits (subst (λ (t : List ℕ). CanBegin Is t) (sym there) can) in
    omega (arith, le, same_length scans.front u rest more same)

-- of two forms, the one that goes further
unfoldable pub either_left : {A : Type 0} {P Q : A → List ℕ → Type 0} {bytes rest end : List ℕ} {v w : Option A} → (first : Scans P bytes v rest) → Scans Q bytes w end → length rest ≤ length end → ((a : A) → Q a first.front → ⊥) → Scans (λ a t. P a t ⊎ Q a t) bytes v rest
either_left {P = P} {Q = Q} {rest = rest} first second le none = record {
  front = first.front;
  split = first.split;
  scan = either_longer first.scan (λ a is. absurd (none a is)) (λ b more e can.
      let there = first.split ∙ ap (λ (l : List ℕ). first.front ++ l) e ∙ sym (append_assoc first.front (b ∷ []) more) in
      let far = no_further second (first.front ++ b ∷ []) more there can in
      omega (arith, far, ap length e));
}

pub either_further : {A : Type 0} {P Q : A → List ℕ → Type 0} {bytes rest end : List ℕ} {v w : Option A} → (first : Scans P bytes v rest) → Scans Q bytes w end → length rest < length end → Scans (λ a t. P a t ⊎ Q a t) bytes v rest
either_further {P = P} {Q = Q} {rest = rest} first second less = either_left first second (omega arith) (λ a is.
    let far = no_further second first.front rest first.split (record { value = a; rest = []; spelled = subst (λ (t : List ℕ). Q a t) (sym (append-nil first.front)) is }) in
    omega (arith, far))

pub scans_is : {A : Type 0} {Is Js : A → List ℕ → Type 0} {bytes rest : List ℕ} {v : Option A} → ((a : A) (t : List ℕ) → Is a t → Js a t) → ((a : A) (t : List ℕ) → Js a t → Is a t) → Scans Is bytes v rest → Scans Js bytes v rest
scans_is to from scans = record { front = scans.front; split = scans.split; scan = scan_is to from scans.scan }

pub mapped : {A B : Type 0} (f : A → B) (v : Option A) (b : B) → option_map f v ≡ Some b → (a : A) × (v ≡ Some a) × (f a ≡ b)
mapped f None b e = absurd cc
mapped f (Some a) b e = (a, refl, cc)

-- another value for each
abbrev pub Mapped : {A B : Type 0} → (A → B) → (A → List ℕ → Type 0) → B → List ℕ → Type 0
Mapped {A} f Is b text = (a : A) × Is a text × (b ≡ f a)

unfoldable pub scans_map : {A B : Type 0} (f : A → B) (Is : A → List ℕ → Type 0) (bytes rest : List ℕ) (v : Option A) (w : Option B) → w ≡ option_map f v → Scans Is bytes v rest → Scans (Mapped f Is) bytes w rest
scans_map f Is bytes rest v w same scans = record {
  front = scans.front;
  split = scans.split;
  scan = record {
    begins = record { value = f scans.scan.begins.value; rest = scans.scan.begins.rest; spelled = (scans.scan.begins.value, scans.scan.begins.spelled, refl) };
    longest = λ b more e can. scans.scan.longest b more e (record { value = can.spelled.0; rest = can.rest; spelled = can.spelled.1 });
    found = λ b e. let it = mapped f v b (sym same ∙ e) in (it.0, scans.scan.found it.0 it.1, sym it.2);
    only = λ b is. same ∙ ap (option_map f) (scans.scan.only is.0 is.1) ∙ ap Some (sym is.2);
  };
}
