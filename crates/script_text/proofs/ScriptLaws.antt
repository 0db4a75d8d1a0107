-- The lines of a script, one after another: bytes are one script at most, and then have no fault.
use Rattle.std.proofs.Common.{◌≡◌, ◌+◌, ◌-◌, ◌≤◌, ℕ, suc, List, [], ◌∷◌, ◌++◌, length, Bool, true, false, Some, None, Result, Ok, Err, ◌⊎◌, inl, inr, refl, sym, ap, subst, ◌∙◌, arith, append_assoc, length-append}
use Rattle.std.proofs.lemmas.List.{append-nil}
use Rattle.std.specs.Prelude.{IfOk, IfErr, MatchResult}
use Rattle.script_words.specs.declared.fault.ReadFault.{ReadFault}
use Rattle.script_words.specs.declared.fault.ReadFault.TheVariants.{Left}
use Rattle.script_words.specs.Words.{words}
use Rattle.script_words.specs.Lines.{lines, all_allowed, is_skipped}
use Rattle.script_words.specs.Faults.{IsFault, IsBadAt}
use Rattle.script_text.specs.declared.script.Script.{Script}
use Rattle.script_text.specs.declared.entries.Entry.{Entry}
use Rattle.script_text.specs.declared.entries.Entry.TheVariants.{Starts, Limits, Calls, Bases, NewPhase, Does}
use Rattle.script_text.specs.declared.entries.Stage.{Stage}
use Rattle.script_text.specs.declared.entries.Stage.TheVariants.{Opening, Started, Limited, Called, InPhase}
use Rattle.script_text.specs.declared.fault.ScriptFault.{ScriptFault}
use Rattle.script_text.specs.declared.fault.ScriptFault.TheVariants.{Byte, Word, NoMemory}
use Rattle.script_text.specs.declared.whole.Draft.{Draft}
use Rattle.script_text.specs.declared.whole.Draft.TheVariants as drafts
use Rattle.script_text.specs.Script.{IsStage, IsEntry, IsAllowed, behind, AreEntries, IsScript, IsHead, IsFirstBad, IsBadWord, EndsEarly, IsScriptFault, script_entries}
use Rattle.script_text.specs.Draft.{with_entry, draft_entries, IsAt, IsBehind, IsBadLine, finished}
use Rattle.script_text.specs.Ranges.{IsInRange, in_range}
use Rattle.script_text.proofs.EntryLaws.{entry_again}
use Rattle.script_text.proofs.DraftLaws.{grows, finished_is, unfinished_is, same_script}

called_good : (cold : Bool) (n c : ℕ) (ws : List (List ℕ)) → IsEntry (Limited cold) n (Calls c) ws → IsStage (Called cold c)
called_good cold n c [] is = absurd is
called_good cold n c (a ∷ []) is = absurd is.1
called_good cold n c (a ∷ b ∷ ws) is = is.1.0.0

pub stage_good : (s : Stage) (n : ℕ) (e : Entry) (ws : List (List ℕ)) → IsStage s → IsEntry s n e ws → IsStage (behind s e)
stage_good Opening n (Starts s) ws in_range is = tt
stage_good (Started cold) n (Limits m) ws in_range is = tt
stage_good (Limited cold) n (Calls c) ws in_range is = called_good cold n c ws is
stage_good (Called cold c) n (Bases m a) ws in_range is = in_range
stage_good (Called cold c) n NewPhase ws in_range is = in_range
stage_good (InPhase c) n NewPhase ws in_range is = in_range
stage_good (InPhase c) n (Does l) ws in_range is = in_range
stage_good Opening n (Limits m) ws in_range is = absurd is
stage_good Opening n (Calls d) ws in_range is = absurd is
stage_good Opening n (Bases m a) ws in_range is = absurd is
stage_good Opening n NewPhase ws in_range is = absurd is
stage_good Opening n (Does l) ws in_range is = absurd is
stage_good (Started cold) n (Starts x) ws in_range is = absurd is
stage_good (Started cold) n (Calls d) ws in_range is = absurd is
stage_good (Started cold) n (Bases m a) ws in_range is = absurd is
stage_good (Started cold) n NewPhase ws in_range is = absurd is
stage_good (Started cold) n (Does l) ws in_range is = absurd is
stage_good (Limited cold) n (Starts x) ws in_range is = absurd is
stage_good (Limited cold) n (Limits m) ws in_range is = absurd is
stage_good (Limited cold) n (Bases m a) ws in_range is = absurd is
stage_good (Limited cold) n NewPhase ws in_range is = absurd is
stage_good (Limited cold) n (Does l) ws in_range is = absurd is
stage_good (Called cold c) n (Starts x) ws in_range is = absurd is
stage_good (Called cold c) n (Limits m) ws in_range is = absurd is
stage_good (Called cold c) n (Calls d) ws in_range is = absurd is
stage_good (Called cold c) n (Does l) ws in_range is = absurd is
stage_good (InPhase c) n (Starts x) ws in_range is = absurd is
stage_good (InPhase c) n (Limits m) ws in_range is = absurd is
stage_good (InPhase c) n (Calls d) ws in_range is = absurd is
stage_good (InPhase c) n (Bases m a) ws in_range is = absurd is

one_more : (front : List (List ℕ)) (n m : ℕ) (s t : Stage) (es : List Entry) (l : List ℕ) (e : Entry) → m ≡ n + length front → AreEntries s n front es t → all_allowed l ≡ true → is_skipped (words l) ≡ false → IsEntry t m e (words l) → AreEntries s n (front ++ (l ∷ [])) (es ++ (e ∷ [])) (behind t e)
one_more [] n m s t es l e place good a u is =
    let here : m ≡ n = omega (arith, place) in
    (a, inr (e, [], u, subst (λ (k : ℕ). IsEntry s k e (words l)) here (subst (λ (r : Stage). IsEntry r m e (words l)) good.1 is), (refl, ap (λ (r : Stage). behind r e) good.1), ap (λ (x : List Entry). x ++ (e ∷ [])) good.0))
one_more (f ∷ front) n m s t es l e place (b, inl x) a u is = (b, inl (x.0, one_more front (n + 1) m s t es l e (omega (arith, place)) x.1 a u is))
one_more (f ∷ front) n m s t es l e place (b, inr x) a u is = (b, inr (x.0, x.1 ++ (e ∷ []), x.2, x.3, one_more front (n + 1) m (behind s x.0) t x.1 l e (omega (arith, place)) x.4 a u is, ap (λ (y : List Entry). y ++ (e ∷ [])) x.5))

one_skipped : (front : List (List ℕ)) (n : ℕ) (s t : Stage) (es : List Entry) (l : List ℕ) → AreEntries s n front es t → all_allowed l ≡ true → is_skipped (words l) ≡ true → AreEntries s n (front ++ (l ∷ [])) es t
one_skipped [] n s t es l good a u = (a, inl (u, good))
one_skipped (f ∷ front) n s t es l (b, inl x) a u = (b, inl (x.0, one_skipped front (n + 1) s t es l x.1 a u))
one_skipped (f ∷ front) n s t es l (b, inr x) a u = (b, inr (x.0, x.1, x.2, x.3, one_skipped front (n + 1) (behind s x.0) t x.1 l x.4 a u, x.5))

-- what a loop over the lines keeps: the lines so far are good, and the draft says what they said
pub record Good (text rest : List (List ℕ)) (draft : Draft) (stage : Stage) (n : ℕ) : Type 0 where
  pub front : List (List ℕ)
  pub parts : text ≡ front ++ rest
  pub entries : AreEntries Opening 1 front (draft_entries draft) stage
  pub place : n ≡ length front + 1
  pub at : IsAt draft stage
  pub in_range : IsStage stage

regroup : (text front rest more : List (List ℕ)) (l : List ℕ) → text ≡ front ++ rest → rest ≡ l ∷ more → text ≡ (front ++ (l ∷ [])) ++ more
regroup text front rest more l e cut = e ∙ ap (λ (x : List (List ℕ)). front ++ x) cut ∙ sym (append_assoc front (l ∷ []) more)

with_line : (text rest more : List (List ℕ)) (l : List ℕ) (d : Draft) (s : Stage) (n : ℕ) (e : Entry) → Good text rest d s n → rest ≡ l ∷ more → all_allowed l ≡ true → is_skipped (words l) ≡ false → IsEntry s n e (words l) → Good text more (with_entry d e) (behind s e) (n + 1)
with_line text rest more l d s n e good cut a u is =
    let more_said = grows d s n e (words l) good.at is in
    let count : n ≡ 1 + length good.front = omega (arith, good.place) in
    record {
      front = good.front ++ (l ∷ []);
      parts = regroup text good.front rest more l good.parts cut;
      entries = subst (λ (x : List Entry). AreEntries Opening 1 (good.front ++ (l ∷ [])) x (behind s e)) (sym more_said.0) (one_more good.front 1 n Opening s (draft_entries d) l e count good.entries a u is);
      place = omega (arith, good.place, length-append good.front (l ∷ []));
      at = more_said.1;
      in_range = stage_good s n e (words l) good.in_range is;
    }

with_read : (text rest more : List (List ℕ)) (l : List ℕ) (old new : Draft) (s t : Stage) (n : ℕ) (e : Entry) → Good text rest old s n → rest ≡ l ∷ more → all_allowed l ≡ true → is_skipped (words l) ≡ false → IsEntry s n e (words l) → new ≡ with_entry old e → t ≡ behind s e → Good text more new t (n + 1)
with_read text rest more l old new s t n e good cut a u is new_is t_is =
    subst (λ (r : Stage). Good text more new r (n + 1)) (sym t_is) (subst (λ (d : Draft). Good text more d (behind s e) (n + 1)) (sym new_is) (with_line text rest more l old s n e good cut a u is))

with_skipped : (text rest more : List (List ℕ)) (l : List ℕ) (old new : Draft) (s t : Stage) (n : ℕ) → Good text rest old s n → rest ≡ l ∷ more → all_allowed l ≡ true → is_skipped (words l) ≡ true → new ≡ old → t ≡ s → Good text more new t (n + 1)
with_skipped text rest more l old new s t n good cut a u new_is t_is =
    let kept : Good text more old s (n + 1) = record {
      front = good.front ++ (l ∷ []);
      parts = regroup text good.front rest more l good.parts cut;
      entries = one_skipped good.front 1 Opening s (draft_entries old) l good.entries a u;
      place = omega (arith, good.place, length-append good.front (l ∷ []));
      at = good.at;
      in_range = good.in_range;
    } in
    subst (λ (r : Stage). Good text more new r (n + 1)) (sym t_is) (subst (λ (d : Draft). Good text more d s (n + 1)) (sym new_is) kept)

bad_byte : (text rest more : List (List ℕ)) (l : List ℕ) (d : Draft) (s : Stage) (n : ℕ) → Good text rest d s n → rest ≡ l ∷ more → all_allowed l ≡ false → IsFirstBad text n (λ stage line. all_allowed line ≡ false)
bad_byte text rest more l d s n good cut a = record { front = good.front; line = l; back = more; entries = draft_entries d; stage = s; parts = good.parts ∙ ap (λ (x : List (List ℕ)). good.front ++ x) cut; good = good.entries; place = good.place; bad = a }

bad_at : (text rest more : List (List ℕ)) (l : List ℕ) (d : Draft) (s : Stage) (n k : ℕ) → Good text rest d s n → rest ≡ l ∷ more → IsBadWord n k s l → IsFirstBad text n (IsBadWord n k)
bad_at text rest more l d s n k good cut bad = record { front = good.front; line = l; back = more; entries = draft_entries d; stage = s; parts = good.parts ∙ ap (λ (x : List (List ℕ)). good.front ++ x) cut; good = good.entries; place = good.place; bad = bad }

pub begun : (text : List (List ℕ)) → Good text text drafts.Nothing Opening 1
begun text = record { front = []; parts = refl; entries = (refl, refl); place = refl; at = refl; in_range = tt }

pub good_more : (text rest more : List (List ℕ)) (l : List ℕ) (d e : Draft) (s t : Stage) (n : ℕ) → Good text rest d s n → rest ≡ l ∷ more → IsBehind d s n l e t → Good text more e t (n + 1)
good_more text rest more l d e s t n good cut (a, inl x) = with_skipped text rest more l d e s t n good cut a x.0 x.1 x.2
good_more text rest more l d e s t n good cut (a, inr x) = with_read text rest more l d e s t n x.0 good cut a x.1 x.2 x.3 x.4

pub bad_line : (text rest more : List (List ℕ)) (l : List ℕ) (d : Draft) (s : Stage) (n : ℕ) → Good text rest d s n → rest ≡ l ∷ more → (f : ScriptFault) → IsBadLine s n l f → IsScriptFault text f
bad_line text rest more l d s n good cut (Byte m) bad = subst (λ (k : ℕ). IsFirstBad text k (λ stage line. all_allowed line ≡ false)) (sym bad.0) (bad_byte text rest more l d s n good cut bad.1)
bad_line text rest more l d s n good cut (Word m k) bad = inl (subst (λ (j : ℕ). IsFirstBad text j (IsBadWord j k)) (sym bad.0) (bad_at text rest more l d s n k good cut bad.1))
bad_line text rest more l d s n good cut NoMemory bad = tt

-- the fault of a line, by the words left
word_is : (s : Stage) (n : ℕ) (l : List ℕ) (m left : ℕ) → all_allowed l ≡ true → is_skipped (words l) ≡ false → m ≡ length (words l) → IsFault (IsAllowed s n) (words l) (Left left) → IsBadWord n (m - left) s l
word_is s n l m left a u m_is fault = let k : fault.0 ≡ m - left = omega (arith, fault.1, m_is) in (a, u, subst (λ (j : ℕ). IsBadAt (IsAllowed s n) (words l) j) k fault.2)

pub word_at : (s : Stage) (n : ℕ) (l : List ℕ) (m v left : ℕ) → all_allowed l ≡ true → is_skipped (words l) ≡ false → m ≡ length (words l) → v ≡ left → (f : ReadFault) → f ≡ Left left → IsFault (IsAllowed s n) (words l) f → (n ≡ n) × IsBadWord n (m - v) s l
word_at s n l m v left a u m_is v_is f f_is fault =
    (refl, subst (λ (k : ℕ). IsBadWord n (m - k) s l) (sym v_is) (word_is s n l m left a u m_is (subst (IsFault (IsAllowed s n) (words l)) f_is fault)))

-- the end of the lines
pub all_read : (text rest : List (List ℕ)) (d : Draft) (s : Stage) (n : ℕ) → Good text rest d s n → rest ≡ [] → (stage : Stage) × AreEntries Opening 1 text (draft_entries d) stage × IsAt d stage × (n ≡ length text + 1)
all_read text rest d s n good none =
    let whole : text ≡ good.front = good.parts ∙ ap (λ (x : List (List ℕ)). good.front ++ x) none ∙ append-nil good.front in
    (s, subst (λ (x : List (List ℕ)). AreEntries Opening 1 x (draft_entries d) s) (sym whole) good.entries, good.at, omega (arith, good.place, ap length whole))

pub is_script : (bytes : List ℕ) (d : Draft) (script : Script) → ((stage : Stage) × AreEntries Opening 1 (lines bytes) (draft_entries d) stage) → finished d ≡ Some script → IsScript bytes script
is_script bytes d script read e = (read.0, subst (λ (x : List Entry). AreEntries Opening 1 (lines bytes) x read.0) (sym (finished_is d script e)) read.1)

pub ends_early : (text : List (List ℕ)) (d : Draft) (stage : Stage) (n : ℕ) → AreEntries Opening 1 text (draft_entries d) stage → IsAt d stage → n ≡ length text + 1 → finished d ≡ None → EndsEarly text n 0
ends_early text d stage n are at place e = (draft_entries d, stage, are, unfinished_is d stage at e, place, refl)

-- Bytes are one script at most.

one_entry : (s : Stage) (n : ℕ) → IsStage s → (ws : List (List ℕ)) (e f : Entry) → IsEntry s n e ws → IsEntry s n f ws → e ≡ f
one_entry s n in_range ws e f is also = let a = entry_again s n in_range e ws is in let b = entry_again s n in_range f ws also in cc

not_both : (b : Bool) → b ≡ true → b ≡ false → ⊥
not_both b t f = let e = sym t ∙ f in cc

shifted : (n : ℕ) (front rest : List (List ℕ)) (t u : Stage) → IsStage t × ((more : List Entry) × AreEntries t (n + 1 + length front) rest more u) → IsStage t × ((more : List Entry) × AreEntries t (n + suc (length front)) rest more u)
shifted n front rest t u x = (x.0, (x.1.0, subst (λ (k : ℕ). AreEntries t k rest x.1.0 u) (omega arith) x.1.1))

-- what stands behind good lines starts where they end
rest_good : (front rest : List (List ℕ)) (n : ℕ) (s t u : Stage) (es all : List Entry) → IsStage s → AreEntries s n front es t → AreEntries s n (front ++ rest) all u → IsStage t × ((more : List Entry) × AreEntries t (n + length front) rest more u)
rest_good [] rest n s t u es all in_range good are = (subst IsStage (sym good.1) in_range, (all, subst (λ (k : ℕ). AreEntries t k rest all u) (omega arith) (subst (λ (r : Stage). AreEntries r n rest all u) (sym good.1) are)))
rest_good (l ∷ front) rest n s t u es all in_range (a, inl x) (b, inl y) = shifted n front rest t u (rest_good front rest (n + 1) s t u es all in_range x.1 y.1)
rest_good (l ∷ front) rest n s t u es all in_range (a, inl x) (b, inr y) = absurd (not_both (is_skipped (words l)) x.0 y.2)
rest_good (l ∷ front) rest n s t u es all in_range (a, inr x) (b, inl y) = absurd (not_both (is_skipped (words l)) y.0 x.2)
rest_good (l ∷ front) rest n s t u es all in_range (a, inr x) (b, inr y) =
    let same = one_entry s n in_range (words l) y.0 x.0 y.3 x.3 in
    let are = subst (λ (e : Entry). AreEntries (behind s e) (n + 1) (front ++ rest) y.1 u) same y.4 in
    shifted n front rest t u (rest_good front rest (n + 1) (behind s x.0) t u x.1 y.1 (stage_good s n x.0 (words l) in_range x.3) x.4 are)

same_end : (text : List (List ℕ)) (n : ℕ) (s t u : Stage) (es all : List Entry) → IsStage s → AreEntries s n text es t → AreEntries s n text all u → (all ≡ es) × (u ≡ t)
same_end [] n s t u es all in_range good are = (are.0 ∙ sym good.0, are.1 ∙ sym good.1)
same_end (l ∷ text) n s t u es all in_range (a, inl x) (b, inl y) = same_end text (n + 1) s t u es all in_range x.1 y.1
same_end (l ∷ text) n s t u es all in_range (a, inl x) (b, inr y) = absurd (not_both (is_skipped (words l)) x.0 y.2)
same_end (l ∷ text) n s t u es all in_range (a, inr x) (b, inl y) = absurd (not_both (is_skipped (words l)) y.0 x.2)
same_end (l ∷ text) n s t u es all in_range (a, inr x) (b, inr y) =
    let same = one_entry s n in_range (words l) y.0 x.0 y.3 x.3 in
    let are = subst (λ (e : Entry). AreEntries (behind s e) (n + 1) text y.1 u) same y.4 in
    let more = same_end text (n + 1) (behind s x.0) t u x.1 y.1 (stage_good s n x.0 (words l) in_range x.3) x.4 are in
    (y.5 ∙ ap (λ (e : Entry). e ∷ y.1) same ∙ ap (λ (m : List Entry). x.0 ∷ m) more.0 ∙ sym x.5, more.1)

first : (s : Stage) (n : ℕ) (l : List ℕ) (back : List (List ℕ)) (more : List Entry) (u : Stage) → AreEntries s n (l ∷ back) more u → (all_allowed l ≡ true) × ((is_skipped (words l) ≡ true) ⊎ ((e : Entry) × (is_skipped (words l) ≡ false) × IsEntry s n e (words l)))
first s n l back more u (a, inl x) = (a, inl x.0)
first s n l back more u (a, inr x) = (a, inr (x.0, x.2, x.3))

-- where a line is bad there is no script
not_bad : (text : List (List ℕ)) (n : ℕ) (Bad : Stage → List ℕ → Type 0) → ((s : Stage) (l : List ℕ) → Bad s l → (all_allowed l ≡ true) × ((is_skipped (words l) ≡ true) ⊎ ((e : Entry) × (is_skipped (words l) ≡ false) × IsEntry s n e (words l))) → ⊥)
    → (es : List Entry) (t : Stage) → AreEntries Opening 1 text es t → IsFirstBad text n Bad → ⊥
not_bad text n Bad never es t are bad =
    let parts = subst (λ (x : List (List ℕ)). AreEntries Opening 1 x es t) bad.parts are in
    let rest = rest_good bad.front (bad.line ∷ bad.back) 1 Opening bad.stage t bad.entries es tt bad.good parts in
    let here : 1 + length bad.front ≡ n = omega (arith, bad.place) in
    never bad.stage bad.line bad.bad (first bad.stage n bad.line bad.back rest.1.0 t (subst (λ (k : ℕ). AreEntries bad.stage k (bad.line ∷ bad.back) rest.1.0 t) here rest.1.1))

no_bad_word : (n k : ℕ) (s : Stage) (l : List ℕ) → IsBadWord n k s l → (all_allowed l ≡ true) × ((is_skipped (words l) ≡ true) ⊎ ((e : Entry) × (is_skipped (words l) ≡ false) × IsEntry s n e (words l))) → ⊥
no_bad_word n k s l bad (a, inl skipped) = not_both (is_skipped (words l)) skipped bad.1
no_bad_word n k s l bad (a, inr e) = bad.2.whole (e.0, e.2)

-- how many lines of the head stand before a stage
abbrev rank : Stage → ℕ
rank Opening = 0
rank (Started cold) = 1
rank (Limited cold) = 2
rank (Called cold c) = 3
rank (InPhase c) = 3

rank_head : (t : Stage) → IsHead t → rank t ≤ 2
rank_head Opening head = omega arith
rank_head (Started cold) head = omega arith
rank_head (Limited cold) head = omega arith
rank_head (Called cold c) head = absurd head
rank_head (InPhase c) head = absurd head

rank_grows : (s : Stage) (n : ℕ) (e : Entry) (ws : List (List ℕ)) → IsEntry s n e ws → (rank (behind s e) ≡ rank s + 1) ⊎ (rank (behind s e) ≡ 3)
rank_grows Opening n (Starts x) ws is = inl refl
rank_grows (Started cold) n (Limits m) ws is = inl refl
rank_grows (Limited cold) n (Calls d) ws is = inl refl
rank_grows (Called cold c) n (Bases m a) ws is = inr refl
rank_grows (Called cold c) n NewPhase ws is = inr refl
rank_grows (InPhase c) n NewPhase ws is = inr refl
rank_grows (InPhase c) n (Does l) ws is = inr refl
rank_grows Opening n (Limits m) ws is = absurd is
rank_grows Opening n (Calls d) ws is = absurd is
rank_grows Opening n (Bases m a) ws is = absurd is
rank_grows Opening n NewPhase ws is = absurd is
rank_grows Opening n (Does l) ws is = absurd is
rank_grows (Started cold) n (Starts x) ws is = absurd is
rank_grows (Started cold) n (Calls d) ws is = absurd is
rank_grows (Started cold) n (Bases m a) ws is = absurd is
rank_grows (Started cold) n NewPhase ws is = absurd is
rank_grows (Started cold) n (Does l) ws is = absurd is
rank_grows (Limited cold) n (Starts x) ws is = absurd is
rank_grows (Limited cold) n (Limits m) ws is = absurd is
rank_grows (Limited cold) n (Bases m a) ws is = absurd is
rank_grows (Limited cold) n NewPhase ws is = absurd is
rank_grows (Limited cold) n (Does l) ws is = absurd is
rank_grows (Called cold c) n (Starts x) ws is = absurd is
rank_grows (Called cold c) n (Limits m) ws is = absurd is
rank_grows (Called cold c) n (Calls d) ws is = absurd is
rank_grows (Called cold c) n (Does l) ws is = absurd is
rank_grows (InPhase c) n (Starts x) ws is = absurd is
rank_grows (InPhase c) n (Limits m) ws is = absurd is
rank_grows (InPhase c) n (Calls d) ws is = absurd is
rank_grows (InPhase c) n (Bases m a) ws is = absurd is

one_less : (s r : Stage) (k m : ℕ) → (rank r ≡ rank s + 1) ⊎ (rank r ≡ 3) → k + rank r ≤ 2 → m ≡ k + 1 → m + rank s ≤ 2
one_less s r k m (inl up) few more = omega (arith, up, few, more)
one_less s r k m (inr top) few more = absurd (omega (arith, top, few))

-- before the callers there are two entries at most
head_count : (text : List (List ℕ)) (n : ℕ) (s t : Stage) (es : List Entry) → AreEntries s n text es t → IsHead t → length es + rank s ≤ 2
head_count [] n s t es are head = let few = rank_head t head in omega (arith, few, ap length are.0, ap rank are.1)
head_count (l ∷ text) n s t es (a, inl x) head = head_count text (n + 1) s t es x.1 head
head_count (l ∷ text) n s t es (a, inr x) head = one_less s (behind s x.0) (length x.1) (length es) (rank_grows s n x.0 (words l) x.3) (head_count text (n + 1) (behind s x.0) t x.1 x.4 head) (ap length x.5 ∙ omega arith)

-- a script's lines end past its callers
past_head : (text : List (List ℕ)) (s : Script) (t : Stage) → AreEntries Opening 1 text (script_entries s) t → (es : List Entry) (u : Stage) → AreEntries Opening 1 text es u → IsHead u → ⊥
past_head text s t are es u other head =
    let same = same_end text 1 Opening u t es (script_entries s) tt other are in
    absurd (omega (arith, head_count text 1 Opening t (script_entries s) are (subst IsHead (sym same.1) head)))

pub is_only : (bytes : List ℕ) (s : Script) → IsScript bytes s → (r : Result Script ScriptFault) → IfOk r (λ got. IsScript bytes got) → IfErr r (λ f. IsScriptFault (lines bytes) f) → MatchResult r (λ got. got ≡ s) (λ f. f ≡ NoMemory)
is_only bytes s is (Ok got) found fault = same_script got s (same_end (lines bytes) 1 Opening is.0 found.0 (script_entries s) (script_entries got) tt is.1 found.1).0
is_only bytes s is (Err NoMemory) found fault = refl
is_only bytes s is (Err (Byte n)) found fault = absurd (not_bad (lines bytes) n (λ stage line. all_allowed line ≡ false) (λ r l bad x. not_both (all_allowed l) x.0 bad) (script_entries s) is.0 is.1 fault)
is_only bytes s is (Err (Word n k)) found (inl fault) = absurd (not_bad (lines bytes) n (IsBadWord n k) (no_bad_word n k) (script_entries s) is.0 is.1 fault)
is_only bytes s is (Err (Word n k)) found (inr early) = absurd (past_head (lines bytes) s is.0 is.1 early.0 early.1 early.2 early.3)

-- the numbers of what was read are in their ranges
pub is_in_range : (bytes : List ℕ) (r : Result Script ScriptFault) → IfOk r (λ script. IsScript bytes script) → IfOk r (λ script. IsInRange script)
is_in_range bytes (Ok script) is = in_range bytes script is
is_in_range bytes (Err f) is = tt
