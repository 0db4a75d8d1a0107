-- What the one caller of a script was told.
use Rattle.std.proofs.Common.{◌≡◌, ◌≤◌, ◌==◌, eq-eqb, ne_eqb, ℕ, Bool, cond, List, [], ◌∷◌, ◌++◌, length, map, filter, Contains, refl, ap, sym, ◌∙◌, subst, arith}
use Rattle.std.proofs.lemmas.List.{append-nil, map-append}
use Rattle.std.specs.List.{AllByRecursion, flat_map, range_with_len}
use native.Mathlib.Decide.{ℕ_discrete}
use mathlib.Core.Logic.{dite}
use Rattle.journal_laws.specs.Worlds.{numbered}
use Rattle.net_types.specs.Capacity.{Fits}
use Rattle.script_text.specs.declared.script.Line.{Line}
use Rattle.script_text.specs.declared.script.Script.{Script}
use Rattle.switch_model.specs.declared.act.Submission.{Submission}
use Rattle.switch_model.specs.Journal.{Journal, Opening, len, own, strip}
use Rattle.switch_model.specs.Rows.{rows}
use Rattle.told_laws.specs.Course.{Course, solo}
use Rattle.told_laws.specs.Keeping.{HasTold}
use Rattle.told_laws.specs.Serving.{sight}
use Rattle.told_laws.specs.Told.{AreCounted, ArePumped, AreRefused, AreTrue, IsSolo, NeverFall, Rise, Told, ToldLine, ToldOne, all_of, by_line, fates, in_order, of_caller, taken}
use Rattle.told_laws.proofs.ClosingLaws.{caller_settled, told_closes, told_one}
use Rattle.told_laws.proofs.LineLaws.{in_line}
use Rattle.told_laws.proofs.RunLaws.{IsKept, phases_kept, started_kept}

-- all of one caller's

own_is : (i : ℕ) (xs : List Submission) → AllByRecursion (λ s. s.caller ≡ i) xs → own i xs ≡ xs
own_is i [] all = refl
own_is i (x ∷ xs) all =
    ap (λ (b : Bool). cond b (x ∷ own i xs) (own i xs)) (eq-eqb x.caller i all.0) ∙ ap (λ (l : List Submission). x ∷ l) (own_is i xs all.1)

own_none : (i k : ℕ) (xs : List Submission) → (i ≡ k → ⊥) → AllByRecursion (λ s. s.caller ≡ i) xs → own k xs ≡ []
own_none i k [] apart all = refl
own_none i k (x ∷ xs) apart all =
    ap (λ (b : Bool). cond b (x ∷ own k xs) (own k xs)) (ne_eqb x.caller k (λ e. apart (sym all.0 ∙ e))) ∙ own_none i k xs apart all.1

all_front : (P : Submission → Type 0) (xs ys : List Submission) → AllByRecursion P (xs ++ ys) → AllByRecursion P xs
all_front P [] ys all = tt
all_front P (x ∷ xs) ys all = (all.0, all_front P xs ys all.1)

-- lines of one caller, and of others

abbrev AreLinesOf : ℕ → List (List Line) → Type 0
AreLinesOf i = AllByRecursion (AllByRecursion (λ l. l.caller ≡ i))

filter_own : (i : ℕ) (xs : List ToldLine) → AllByRecursion (λ l. l.caller ≡ i) (map (λ a. a.line) xs) → filter (λ a. a.line.caller == i) xs ≡ xs
filter_own i [] all = refl
filter_own i (x ∷ xs) all =
    ap (λ (b : Bool). cond b (x ∷ filter (λ (a : ToldLine). a.line.caller == i) xs) (filter (λ (a : ToldLine). a.line.caller == i) xs)) (eq-eqb x.line.caller i all.0)
    ∙ ap (λ (l : List ToldLine). x ∷ l) (filter_own i xs all.1)

filter_other : (i k : ℕ) (xs : List ToldLine) → (i ≡ k → ⊥) → AllByRecursion (λ l. l.caller ≡ i) (map (λ a. a.line) xs) → filter (λ a. a.line.caller == k) xs ≡ []
filter_other i k [] apart all = refl
filter_other i k (x ∷ xs) apart all =
    ap (λ (b : Bool). cond b (x ∷ filter (λ (a : ToldLine). a.line.caller == k) xs) (filter (λ (a : ToldLine). a.line.caller == k) xs)) (ne_eqb x.line.caller k (λ e. apart (sym all.0 ∙ e)))
    ∙ filter_other i k xs apart all.1

own_lines : (i : ℕ) (told : List (List ToldLine)) → AreLinesOf i (map (map (λ a. a.line)) told) → of_caller i told ≡ told
own_lines i [] all = refl
own_lines i (p ∷ ps) all = ap (λ (x : List ToldLine). x ∷ of_caller i ps) (filter_own i p all.0) ∙ ap (λ (l : List (List ToldLine)). p ∷ l) (own_lines i ps all.1)

-- phases in which nothing was told
abbrev blank : List (List ToldLine) → List (List ToldLine)
blank [] = []
blank (p ∷ ps) = [] ∷ blank ps

other_lines : (i k : ℕ) (told : List (List ToldLine)) → (i ≡ k → ⊥) → AreLinesOf i (map (map (λ a. a.line)) told) → of_caller k told ≡ blank told
other_lines i k [] apart all = refl
other_lines i k (p ∷ ps) apart all = ap (λ (x : List ToldLine). x ∷ of_caller k ps) (filter_other i k p apart all.0) ∙ ap (λ (l : List (List ToldLine)). [] ∷ l) (other_lines i k ps apart all.1)

blank_all : (ps : List (List ToldLine)) → all_of (blank ps) ≡ []
blank_all [] = refl
blank_all (p ∷ ps) = blank_all ps

blank_order : (ps : List (List ToldLine)) → in_order (blank ps) ≡ []
blank_order [] = refl
blank_order (p ∷ ps) = blank_order ps

blank_counts : (ps : List (List ToldLine)) → AllByRecursion (AreCounted 0) (blank ps)
blank_counts [] = tt
blank_counts (p ∷ ps) = (tt, blank_counts ps)

-- a number that isn't a caller's was told nothing
pub stranger : (full : Type 0) (mine : List Submission) (j : Journal) (rounds : List ℕ) (i : ℕ) (told : List (List ToldLine)) → mine ≡ [] → ToldOne full mine j rounds i (blank told)
stranger full mine j rounds i told nothing = record {
  updates = nothing ∙ ap (λ (l : List ToldLine). numbered i 0 (taken l)) (sym (blank_all told));
  refused = subst (λ (l : List ToldLine). AreRefused full (fates l)) (sym (blank_all told)) tt;
  each = subst (AreTrue j i 0) (sym (blank_all told)) tt;
  fronts = subst (NeverFall 0) (sym (blank_order told)) tt;
  counts = blank_counts told;
  marks = [];
  pumps = subst (ArePumped j rounds i (len j) 0 0 []) (sym (blank_order told)) tt;
}

-- the rounds are all caller i's
abbrev all_rounds : ℕ → Journal → ℕ → List ℕ
all_rounds i j k = cond (k == i) (range_with_len 0 (length j.rounds)) []

rounds_own : (i : ℕ) (j : Journal) → all_rounds i j i ≡ range_with_len 0 (length j.rounds)
rounds_own i j = ap (λ (b : Bool). cond b (range_with_len 0 (length j.rounds)) []) (eq-eqb i i refl)

no_number : (n : ℕ) → Contains [] n → ⊥
no_number n h = omega (arith, h.1)

rounds_of : (i : ℕ) (j : Journal) (k n : ℕ) → Contains (all_rounds i j k) n → k ≡ i
rounds_of i j k n h = dite (ℕ_discrete k i) (λ e. e) (λ ne. absurd (no_number n (subst (λ (l : List ℕ). Contains l n) (ap (λ (b : Bool). cond b (range_with_len 0 (length j.rounds)) []) (ne_eqb k i ne)) h)))

-- the run of a script of one caller
pub solo_kept : (script : Script) (opening : Opening) → Fits (rows opening.state) opening.caps → IsSolo script → IsKept script.limit 0 opening (solo script opening) script.phases []
solo_kept script opening fits is = phases_kept script.limit 0 opening script.phases _ [] is.callers (started_kept script.limit 0 opening fits)

pub solo_opening : (script : Script) (opening : Opening) → Fits (rows opening.state) opening.caps → IsSolo script → (solo script opening).journal.opening ≡ opening
solo_opening script opening fits is = (solo_kept script opening fits is).opening_is

-- all that was submitted is settled at the end
pub solo_all : (script : Script) (opening : Opening) → Fits (rows opening.state) opening.caps → IsSolo script → strip (solo script opening).journal ≡ (solo script opening).sent
solo_all script opening fits is =
    let c : Course = solo script opening in
    let k = solo_kept script opening fits is in
    let h = told_one script.limit 0 (sight 0 c) c.tickets c.replies script.phases k.keeps in
    let p = k.course.may_come.settled in
    let done : own 0 (strip c.journal) ≡ own 0 c.sent = caller_settled (script.limit ≤ length c.sent) (sight 0 c) c.sent c.journal script.phases c.replies h (refl, ([], sym (append-nil c.journal.rounds))) refl p in
    let ours : AllByRecursion (λ s. s.caller ≡ 0) (strip c.journal) = all_front (λ s. s.caller ≡ 0) (strip c.journal) p.0 (subst (λ (l : List Submission). AllByRecursion (λ s. s.caller ≡ 0) l) p.1 k.course.callers) in
    sym (own_is 0 (strip c.journal) ours) ∙ done ∙ own_is 0 c.sent k.course.callers

-- what it was told is true of its journal
pub solo_has_told : (script : Script) (opening : Opening) → Fits (rows opening.state) opening.caps → IsSolo script →
    HasTold (len (solo script opening).journal ≡ script.limit) (own 0 (strip (solo script opening).journal)) (solo script opening).journal (range_with_len 0 (length (solo script opening).journal.rounds)) 0 script.phases (solo script opening).replies
solo_has_told script opening fits is =
    let c : Course = solo script opening in
    let k = solo_kept script opening fits is in
    let h = told_one script.limit 0 (sight 0 c) c.tickets c.replies script.phases k.keeps in
    told_closes script.limit (sight 0 c) c.sent c.journal script.phases c.replies h ([], sym (append-nil c.sent)) (refl, ([], sym (append-nil c.journal.rounds))) refl k.course.few (solo_all script opening fits is)

lines_of_all : (told : List (List ToldLine)) → map (λ a. a.line) (all_of told) ≡ flat_map (λ p. p) (map (map (λ a. a.line)) told)
lines_of_all [] = refl
lines_of_all (p ∷ ps) = map-append (λ (a : ToldLine). a.line) p (all_of ps) ∙ ap (λ (l : List Line). map (λ (a : ToldLine). a.line) p ++ l) (lines_of_all ps)

pub solo_told : (script : Script) (opening : Opening) → Fits (rows opening.state) opening.caps → IsSolo script → Told script (solo script opening).journal (by_line (solo script opening).replies)
solo_told script opening fits is =
    let c : Course = solo script opening in
    let j : Journal = c.journal in
    let h = solo_has_told script opening fits is in
    let k = solo_kept script opening fits is in
    let whole : strip j ≡ c.sent = solo_all script opening fits is in
    let callers : AreLinesOf 0 (map (map (λ (a : ToldLine). a.line)) h.told) = subst (AreLinesOf 0) (sym h.lines) is.callers in
    let rise : Rise 0 (map (λ (a : ToldLine). a.line) (all_of h.told)) = subst (Rise 0) (sym (lines_of_all h.told ∙ ap (flat_map (λ (p : List Line). p)) h.lines)) is.rise in
    record {
      told = h.told;
      rounds = all_rounds 0 j;
      lines = h.lines;
      under = sym (in_line h.told 0 rise) ∙ ap by_line h.replies;
      callers = λ i. dite (ℕ_discrete 0 i)
          (λ e. subst (λ (n : ℕ). ToldOne (len j ≡ script.limit) (own n (strip j)) j (all_rounds 0 j n) n (of_caller n h.told)) e
          (subst (λ (l : List (List ToldLine)). ToldOne (len j ≡ script.limit) (own 0 (strip j)) j (all_rounds 0 j 0) 0 l) (sym (own_lines 0 h.told callers)) h.one))
          (λ ne. subst (λ (l : List (List ToldLine)). ToldOne (len j ≡ script.limit) (own i (strip j)) j (all_rounds 0 j i) i l) (sym (other_lines 0 i h.told ne callers))
          (stranger (len j ≡ script.limit) (own i (strip j)) j (all_rounds 0 j i) i h.told (ap (own i) whole ∙ own_none 0 i c.sent ne k.course.callers)));
      apart = λ a b n lt first second. rounds_of 0 j a n first ∙ sym (rounds_of 0 j b n second);
    }
