-- Rows of values, one value at a time.
use Rattle.std.proofs.Common.{◌≡◌, ◌≤◌, ◌<◌, ◌+◌, ◌-◌, ◌*◌, ℕ, suc, zero, List, [], ◌∷◌, ◌++◌, length, Option, Some, None, refl, sym, ap, subst, ◌∙◌, arith, append_assoc}
use Rattle.std.specs.Prelude.{option_map}
use Rattle.ip_text.specs.Place.{CanBegin}
use Rattle.ip_text.specs.Scans.{Scan, Scans}
use Rattle.ip_text.specs.Numerals.{Joined, in_base, IsRow}
use Rattle.ip_text.specs.Unread.{IsRowOn}
use Rattle.ip_text.proofs.ScanLaws.{Lacks, Then, scan_is, scans_is, then_more, then_stops}

-- what can stand in a row
pub record IsItem (Is : ℕ → List ℕ → Type 0) (s : ℕ) : Type 0 where
  pub lacks : (a : ℕ) (t : List ℕ) → Is a t → Lacks s t
  pub some : CanBegin Is []

pub joined_cons : (Is : ℕ → List ℕ → Type 0) (s n a : ℕ) (vs u w : List ℕ) → length vs ≡ suc n → Is a u → Joined Is s vs w → Joined Is s (a ∷ vs) (u ++ s ∷ w)
joined_cons Is s n a [] u w e is more = absurd (omega arith)
joined_cons Is s n a (v ∷ vs) u w e is more = (u, w, is, more, refl)

to_row : (Is : ℕ → List ℕ → Type 0) (s base n before b : ℕ) (t : List ℕ) → 1 < n → Then Is s (λ a. IsRowOn Is s base (n - 1) (base * before + a)) b t → IsRowOn Is s base n before b t
to_row Is s base n before b t more it =
    let row = it.4 in
    record {
      parts = it.0 ∷ row.parts;
      number = omega (arith, row.number);
      joined = subst (λ (x : List ℕ). Joined Is s (it.0 ∷ row.parts) x) (sym it.5) (joined_cons Is s (n - 2) it.0 row.parts it.1 it.2 (omega (arith, row.number)) it.3 row.joined);
      spelled = row.spelled;
    }

from_parts : (Is : ℕ → List ℕ → Type 0) (s base n before b : ℕ) (t parts : List ℕ) → 1 < n → length parts ≡ n → Joined Is s parts t → b ≡ in_base base before parts → Then Is s (λ a. IsRowOn Is s base (n - 1) (base * before + a)) b t
from_parts Is s base n before b t [] more len joined e = absurd (omega arith)
from_parts Is s base n before b t (x ∷ []) more len joined e = absurd (omega arith)
from_parts Is s base n before b t (x ∷ y ∷ zs) more len joined e = (x, joined.0, joined.1, joined.2, record { parts = y ∷ zs; number = omega arith; joined = joined.3; spelled = e }, joined.4)

from_row : (Is : ℕ → List ℕ → Type 0) (s base n before b : ℕ) (t : List ℕ) → 1 < n → IsRowOn Is s base n before b t → Then Is s (λ a. IsRowOn Is s base (n - 1) (base * before + a)) b t
from_row Is s base n before b t more row = from_parts Is s base n before b t row.parts more row.number row.joined row.spelled

pub row_begins : (Is : ℕ → List ℕ → Type 0) (s base n before : ℕ) → CanBegin Is [] → CanBegin (IsRowOn Is s base (suc n) before) []
row_begins Is s base zero before some = record { value = base * before + some.value; rest = some.rest; spelled = record { parts = some.value ∷ []; number = omega arith; joined = some.spelled; spelled = refl } }
row_begins Is s base (suc n) before some =
    let more = row_begins Is s base n (base * before + some.value) some in
    record {
      value = more.value;
      rest = some.rest ++ s ∷ more.rest;
      spelled = record {
        parts = some.value ∷ more.spelled.parts;
        number = omega (arith, more.spelled.number);
        joined = joined_cons Is s n some.value more.spelled.parts some.rest more.rest more.spelled.number some.spelled more.spelled.joined;
        spelled = more.spelled.spelled;
      };
    }

some_rows : (Is : ℕ → List ℕ → Type 0) (s base n before : ℕ) → CanBegin Is [] → 0 < n → CanBegin (IsRowOn Is s base n before) []
some_rows Is s base zero before some many = absurd (omega arith)
some_rows Is s base (suc n) before some many = row_begins Is s base n before some

-- a value, the byte between, and the rest of the row
pub row_more : (Is : ℕ → List ℕ → Type 0) (s base n before a : ℕ) (bytes more next rest : List ℕ) (v : Option ℕ) → IsItem Is s → 1 < n → Scans Is bytes (Some a) more → more ≡ s ∷ next → Scans (IsRowOn Is s base (n - 1) (base * before + a)) next v rest → Scans (IsRowOn Is s base n before) bytes v rest
row_more Is s base n before a bytes more next rest v item many first split second =
    let after : more ≡ s ∷ second.front ++ rest = split ∙ ap (λ (l : List ℕ). s ∷ l) second.split in
    record {
      front = first.front ++ s ∷ second.front;
      split = first.split ∙ ap (λ (l : List ℕ). first.front ++ l) after ∙ sym (append_assoc first.front (s ∷ second.front) rest);
      scan = scan_is (λ b t it. to_row Is s base n before b t many it) (λ b t it. from_row Is s base n before b t many it)
          (then_more Is s (λ x. IsRowOn Is s base (n - 1) (base * before + x)) a first.front second.front rest v item.lacks (subst (λ (l : List ℕ). Scan Is first.front l (Some a)) after first.scan) second.scan);
    }

-- the row goes on no further
pub row_stops : (Is : ℕ → List ℕ → Type 0) (s base n before : ℕ) (bytes rest : List ℕ) (v : Option ℕ) → IsItem Is s → 1 < n → Scans Is bytes v rest → ((next : List ℕ) (a : ℕ) → rest ≡ s ∷ next → v ≡ Some a → ⊥) → Scans (IsRowOn Is s base n before) bytes None rest
row_stops Is s base n before bytes rest v item many first stops = record {
  front = first.front;
  split = first.split;
  scan = scan_is (λ b t it. to_row Is s base n before b t many it) (λ b t it. from_row Is s base n before b t many it)
      (then_stops Is s (λ x. IsRowOn Is s base (n - 1) (base * before + x)) first.front rest v item.lacks (λ x. some_rows Is s base (n - 1) (base * before + x) item.some (omega arith)) first.scan stops);
}

one_value : (Is : ℕ → List ℕ → Type 0) (s base before b : ℕ) (t parts : List ℕ) → length parts ≡ 1 → Joined Is s parts t → b ≡ in_base base before parts → (a : ℕ) × Is a t × (b ≡ base * before + a)
one_value Is s base before b t [] len joined e = absurd (omega arith)
one_value Is s base before b t (x ∷ []) len joined e = (x, joined, e)
one_value Is s base before b t (x ∷ y ∷ zs) len joined e = absurd (omega arith)

mapped : (f : ℕ → ℕ) (v : Option ℕ) (b : ℕ) → option_map f v ≡ Some b → (a : ℕ) × (v ≡ Some a) × (f a ≡ b)
mapped f None b e = absurd cc
mapped f (Some a) b e = (a, refl, cc)

-- the last value
pub row_one : (Is : ℕ → List ℕ → Type 0) (s base before : ℕ) (bytes rest : List ℕ) (v w : Option ℕ) → Scans Is bytes v rest → w ≡ option_map (λ a. base * before + a) v → Scans (IsRowOn Is s base 1 before) bytes w rest
row_one Is s base before bytes rest v w scans same = record {
  front = scans.front;
  split = scans.split;
  scan = record {
    begins = record { value = base * before + scans.scan.begins.value; rest = scans.scan.begins.rest; spelled = record { parts = scans.scan.begins.value ∷ []; number = omega arith; joined = scans.scan.begins.spelled; spelled = refl } };
    longest = λ b more e can.
        let row = can.spelled in
        let it = one_value Is s base before can.value ((scans.front ++ b ∷ []) ++ can.rest) row.parts row.number row.joined row.spelled in
        scans.scan.longest b more e (record { value = it.0; rest = can.rest; spelled = it.1 });
    found = λ b e. let it = mapped (λ a. base * before + a) v b (sym same ∙ e) in record { parts = it.0 ∷ []; number = omega arith; joined = scans.scan.found it.0 it.1; spelled = sym it.2 };
    only = λ b row.
        let it = one_value Is s base before b scans.front row.parts row.number row.joined row.spelled in
        same ∙ ap (option_map (λ a. base * before + a)) (scans.scan.only it.0 it.1) ∙ ap Some (sym it.2);
  };
}

-- the same at a count that goes down to the last
pub row_next : (Is : ℕ → List ℕ → Type 0) (s base count done before a : ℕ) (bytes more next rest : List ℕ) (v : Option ℕ) → IsItem Is s → done + 1 < count → Scans Is bytes (Some a) more → more ≡ s ∷ next → Scans (IsRowOn Is s base (count - (done + 1)) (base * before + a)) next v rest → Scans (IsRowOn Is s base (count - done) before) bytes v rest
row_next Is s base count done before a bytes more next rest v item some first split second =
    row_more Is s base (count - done) before a bytes more next rest v item (omega arith) first split (subst (λ (n : ℕ). Scans (IsRowOn Is s base n (base * before + a)) next v rest) (omega arith) second)

pub row_last : (Is : ℕ → List ℕ → Type 0) (s base count done before : ℕ) (bytes rest : List ℕ) (v w : Option ℕ) → done < count → count ≤ done + 1 → Scans Is bytes v rest → w ≡ option_map (λ a. base * before + a) v → Scans (IsRowOn Is s base (count - done) before) bytes w rest
row_last Is s base count done before bytes rest v w less le scans same =
    subst (λ (n : ℕ). Scans (IsRowOn Is s base n before) bytes w rest) (omega arith) (row_one Is s base before bytes rest v w scans same)

pub row_breaks : (Is : ℕ → List ℕ → Type 0) (s base count done before : ℕ) (bytes rest : List ℕ) (v : Option ℕ) → IsItem Is s → done + 1 < count → Scans Is bytes v rest → ((next : List ℕ) (a : ℕ) → rest ≡ s ∷ next → v ≡ Some a → ⊥) → Scans (IsRowOn Is s base (count - done) before) bytes None rest
row_breaks Is s base count done before bytes rest v item some scans stops = row_stops Is s base (count - done) before bytes rest v item (omega arith) scans stops

-- values behind none
pub row_start : (Is : ℕ → List ℕ → Type 0) (s base count : ℕ) (bytes rest : List ℕ) (v : Option ℕ) → Scans (IsRowOn Is s base (count - 0) 0) bytes v rest → Scans (IsRow Is s base count) bytes v rest
row_start Is s base count bytes rest v scans = scans_is
    (λ a t is. record { parts = is.parts; number = omega (arith, is.number); joined = is.joined; spelled = is.spelled })
    (λ a t is. record { parts = is.parts; number = omega (arith, is.number); joined = is.joined; spelled = is.spelled })
    scans
