-- From a scan to an answer.
use Rattle.std.proofs.Common.{Result, Ok, Err, ◌≡◌, ◌+◌, ◌≤◌, ℕ, List, [], ◌∷◌, length, Option, Some, None, refl, sym, ap, subst, ◌∙◌, arith, length-append}
use Rattle.std.proofs.lemmas.List.{append-nil}
use Rattle.std.specs.Prelude.{MatchResult}
use Rattle.std.specs.Result.{result_ok}
use Rattle.ip_text.specs.Values.{Computes}
use Rattle.ip_text.specs.declared.fault.TextFault.{TextFault}
use Rattle.ip_text.specs.Reads.{Reads, ReadsWithin}
use Rattle.ip_text.specs.Place.{IsPlace}
use Rattle.ip_text.specs.Scans.{Scans}
use Rattle.ip_text.proofs.ScanLaws.{scan_place, no_further}

pub read_ok : {A : Type 0} (Is : A → List ℕ → Type 0) (text rest : List ℕ) (v : Option A) (a : A) → Scans Is text v rest → v ≡ Some a → length rest ≡ 0 → Is a text × ((b : A) → Is b text → b ≡ a)
read_ok Is text [] v a scans some none =
    let whole : text ≡ scans.front = scans.split ∙ append-nil scans.front in
    (subst (λ (t : List ℕ). Is a t) (sym whole) (scans.scan.found a some), λ b is. let same = scans.scan.only b (subst (λ (t : List ℕ). Is b t) whole is) in cc (same, some))
read_ok Is text (b ∷ bs) v a scans some none = absurd (omega arith)

-- the text is no text of the form
no_text : {A : Type 0} (Is : A → List ℕ → Type 0) (text rest : List ℕ) (v : Option A) (a : A) → Scans Is text v rest → (length rest ≡ 0 → v ≡ None) → Is a text → ⊥
no_text Is text [] v a scans none is =
    let whole : text ≡ scans.front = scans.split ∙ append-nil scans.front in
    let some = scans.scan.only a (subst (λ (t : List ℕ). Is a t) whole is) in
    cc (some, none refl)
no_text Is text (b ∷ bs) v a scans none is =
    let far = no_further scans text [] (sym (append-nil text)) (record { value = a; rest = []; spelled = subst (λ (t : List ℕ). Is a t) (sym (append-nil text)) is }) in
    omega (arith, far)

pub read_err : {A : Type 0} (Is : A → List ℕ → Type 0) (text rest : List ℕ) (v : Option A) (at : ℕ) → Scans Is text v rest → (length rest ≡ 0 → v ≡ None) → at + length rest ≡ length text → ((a : A) → Is a text → ⊥) × IsPlace Is text at
read_err Is text rest v at scans none place =
    let here : length scans.front ≡ at = omega (arith, ap length scans.split, length-append scans.front rest) in
    (λ a is. no_text Is text rest v a scans none is, subst (λ (n : ℕ). IsPlace Is text n) here (subst (λ (t : List ℕ). IsPlace Is t (length scans.front)) (sym scans.split) (scan_place Is scans.front rest v scans.scan)))

-- what was found of the whole text, or where reading stopped
abbrev pub WholeOf : {A : Type 0} → List ℕ → Option A → List ℕ → Result A TextFault → Type 0
WholeOf text value rest result = MatchResult result (λ found. (value ≡ Some found) × (length rest ≡ 0)) (λ fault. (length rest ≡ 0 → value ≡ None) × (fault.at + length rest ≡ length text))

pub reads_whole : {A : Type 0} (Is : A → List ℕ → Type 0) (text rest : List ℕ) (v : Option A) (result : Result A TextFault) → Scans Is text v rest → WholeOf text v rest result → Reads Is text result
reads_whole Is text rest v (Ok a) scans whole = read_ok Is text rest v a scans whole.0 whole.1
reads_whole Is text rest v (Err fault) scans whole = read_err Is text rest v fault.at scans whole.0 whole.1

pub fits : {A : Type 0} {Is : A → List ℕ → Type 0} (text rest : List ℕ) (v : Option A) → Scans Is text v rest → length rest ≤ length text
fits text rest v scans = omega (arith, ap length scans.split, length-append scans.front rest)

-- what the text spells is what the reader answers
pub reads_back : {A : Type 0} (Wider Is : A → List ℕ → Type 0) (text : List ℕ) (result : Result A TextFault) (a : A) → Is a text → ReadsWithin Wider Is text result → result ≡ Ok a
reads_back Wider Is text (Ok b) a is reads = ap Ok (sym (reads.1 a is))
reads_back Wider Is text (Err fault) a is reads = absurd (reads.0 a is)

-- the value that the function of the form gives is what was read
pub value_read : {A : Type 0} (Wider Is : A → List ℕ → Type 0) (value_of : List ℕ → Option A) (text : List ℕ) (result : Result A TextFault) → Computes Is value_of → ReadsWithin Wider Is text result → result_ok result ≡ value_of text
value_read Wider Is value_of text (Ok a) computes reads = sym (computes.found a text reads.0)
value_read Wider Is value_of text (Err fault) computes reads = no_value (value_of text) (λ a e. reads.0 a (computes.spells a text e))
  where
    no_value : {A : Type 0} (o : Option A) → ((a : A) → o ≡ Some a → ⊥) → None ≡ o
    no_value None none = refl
    no_value (Some x) none = absurd (none x refl)
