-- A draft says what the lines so far said, and a script is known by what its lines say.
use Rattle.std.proofs.Common.{◌≡◌, ℕ, List, [], ◌∷◌, ◌++◌, Some, None, refl, sym, ap, subst, ◌∙◌, append_assoc}
use Rattle.std.proofs.lemmas.List.{append-nil}
use Rattle.switch_model.specs.declared.act.Act.{Act}
use Rattle.script_text.specs.declared.script.Start.{Start}
use Rattle.script_text.specs.declared.script.Line.{Line}
use Rattle.script_text.specs.declared.script.Script.{Script}
use Rattle.script_text.specs.declared.entries.Entry.{Entry}
use Rattle.script_text.specs.declared.entries.Entry.TheVariants.{Starts, Limits, Calls, Bases, NewPhase, Does}
use Rattle.script_text.specs.declared.entries.Stage.{Stage}
use Rattle.script_text.specs.declared.entries.Stage.TheVariants.{Opening, Started, Limited, Called, InPhase}
use Rattle.script_text.specs.declared.whole.Draft.{Draft}
use Rattle.script_text.specs.declared.whole.Draft.TheVariants as drafts
use Rattle.script_text.specs.Script.{is_cold, IsEntry, behind, IsHead, base_entries, line_entries, phase_entries, script_entries}
use Rattle.script_text.specs.Draft.{with_phase, with_entry, draft_entries, IsAt, finished}

base_push : (acts : List (ℕ × Act)) (x : ℕ × Act) → base_entries (acts ++ x ∷ []) ≡ base_entries acts ++ (Bases x.0 x.1 ∷ [])
base_push [] x = refl
base_push (a ∷ acts) x = ap (λ (l : List Entry). Bases a.0 a.1 ∷ l) (base_push acts x)

line_push : (ls : List Line) (l : Line) → line_entries (ls ++ l ∷ []) ≡ line_entries ls ++ (Does l ∷ [])
line_push [] l = refl
line_push (k ∷ ls) l = ap (λ (x : List Entry). Does k ∷ x) (line_push ls l)

phase_push : (ps : List (List Line)) (p : List Line) → phase_entries (ps ++ p ∷ []) ≡ phase_entries ps ++ (NewPhase ∷ line_entries p)
phase_push [] p = ap (λ (l : List Entry). NewPhase ∷ l) (append-nil (line_entries p))
phase_push (q ∷ ps) p = ap (λ (l : List Entry). NewPhase ∷ (line_entries q ++ l)) (phase_push ps p) ∙ ap (λ (l : List Entry). NewPhase ∷ l) (sym (append_assoc (line_entries q) (phase_entries ps) (NewPhase ∷ line_entries p)))

act_more : (acts : List (ℕ × Act)) (ps : List (List Line)) (x : ℕ × Act) → ps ≡ [] → base_entries (acts ++ x ∷ []) ++ phase_entries ps ≡ (base_entries acts ++ phase_entries ps) ++ (Bases x.0 x.1 ∷ [])
act_more acts [] x none = append-nil (base_entries (acts ++ x ∷ [])) ∙ base_push acts x ∙ ap (λ (l : List Entry). l ++ (Bases x.0 x.1 ∷ [])) (sym (append-nil (base_entries acts)))
act_more acts (p ∷ ps) x none = absurd cc

-- the first three entries before others
abbrev headed : Script → List Entry → List Entry
headed s l = Starts s.start ∷ Limits s.limit ∷ Calls s.callers ∷ l

phase_more : (s : Script) (p : List Line) → script_entries (with_phase s p) ≡ script_entries s ++ (NewPhase ∷ line_entries p)
phase_more s p = ap (headed s) (ap (λ (l : List Entry). base_entries s.base ++ l) (phase_push s.phases p) ∙ sym (append_assoc (base_entries s.base) (phase_entries s.phases) (NewPhase ∷ line_entries p)))

-- one entry more, and the stage behind it
abbrev pub Grows : Draft → Stage → Entry → Type 0
Grows d s e = (draft_entries (with_entry d e) ≡ draft_entries d ++ (e ∷ [])) × IsAt (with_entry d e) (behind s e)

grows_nothing : (n : ℕ) (e : Entry) (ws : List (List ℕ)) → IsEntry Opening n e ws → Grows drafts.Nothing Opening e
grows_nothing n (Starts s) ws is = (refl, refl)
grows_nothing n (Limits m) ws is = absurd is
grows_nothing n (Calls c) ws is = absurd is
grows_nothing n (Bases m a) ws is = absurd is
grows_nothing n NewPhase ws is = absurd is
grows_nothing n (Does l) ws is = absurd is

grows_start : (start : Start) (n : ℕ) (e : Entry) (ws : List (List ℕ)) → IsEntry (Started (is_cold start)) n e ws → Grows (drafts.Start start) (Started (is_cold start)) e
grows_start start n (Starts s) ws is = absurd is
grows_start start n (Limits m) ws is = (refl, refl)
grows_start start n (Calls c) ws is = absurd is
grows_start start n (Bases m a) ws is = absurd is
grows_start start n NewPhase ws is = absurd is
grows_start start n (Does l) ws is = absurd is

grows_limit : (start : Start) (limit n : ℕ) (e : Entry) (ws : List (List ℕ)) → IsEntry (Limited (is_cold start)) n e ws → Grows (drafts.Limit start limit) (Limited (is_cold start)) e
grows_limit start limit n (Starts s) ws is = absurd is
grows_limit start limit n (Limits m) ws is = absurd is
grows_limit start limit n (Calls c) ws is = (refl, (refl, refl))
grows_limit start limit n (Bases m a) ws is = absurd is
grows_limit start limit n NewPhase ws is = absurd is
grows_limit start limit n (Does l) ws is = absurd is

grows_base : (s : Script) (n : ℕ) (e : Entry) (ws : List (List ℕ)) → s.phases ≡ [] → IsEntry (Called (is_cold s.start) s.callers) n e ws → Grows (drafts.Base s) (Called (is_cold s.start) s.callers) e
grows_base s n (Starts t) ws none is = absurd is
grows_base s n (Limits m) ws none is = absurd is
grows_base s n (Calls c) ws none is = absurd is
grows_base s n (Bases m a) ws none is = (ap (headed s) (act_more s.base s.phases (m, a) none), (refl, none))
grows_base s n NewPhase ws none is = (refl, refl)
grows_base s n (Does l) ws none is = absurd is

grows_phase : (s : Script) (lines : List Line) (n : ℕ) (e : Entry) (ws : List (List ℕ)) → IsEntry (InPhase s.callers) n e ws → Grows (drafts.Phase s lines) (InPhase s.callers) e
grows_phase s lines n (Starts t) ws is = absurd is
grows_phase s lines n (Limits m) ws is = absurd is
grows_phase s lines n (Calls c) ws is = absurd is
grows_phase s lines n (Bases m a) ws is = absurd is
grows_phase s lines n NewPhase ws is = (ap (λ (l : List Entry). l ++ (NewPhase ∷ [])) (phase_more s lines), refl)
grows_phase s lines n (Does l) ws is = (ap (λ (x : List Entry). script_entries s ++ (NewPhase ∷ x)) (line_push lines l) ∙ sym (append_assoc (script_entries s) (NewPhase ∷ line_entries lines) (Does l ∷ [])), refl)

at_stage : (d : Draft) (s t : Stage) (e : Entry) → s ≡ t → Grows d t e → Grows d s e
at_stage d s t e same grows = subst (λ (r : Stage). Grows d r e) (sym same) grows

moved : (s t : Stage) (n : ℕ) (e : Entry) (ws : List (List ℕ)) → s ≡ t → IsEntry s n e ws → IsEntry t n e ws
moved s t n e ws same is = subst (λ (r : Stage). IsEntry r n e ws) same is

pub grows : (d : Draft) (s : Stage) (n : ℕ) (e : Entry) (ws : List (List ℕ)) → IsAt d s → IsEntry s n e ws → Grows d s e
grows drafts.Nothing s n e ws at is = at_stage drafts.Nothing s Opening e at (grows_nothing n e ws (moved s Opening n e ws at is))
grows (drafts.Start start) s n e ws at is = at_stage (drafts.Start start) s (Started (is_cold start)) e at (grows_start start n e ws (moved s (Started (is_cold start)) n e ws at is))
grows (drafts.Limit start limit) s n e ws at is = at_stage (drafts.Limit start limit) s (Limited (is_cold start)) e at (grows_limit start limit n e ws (moved s (Limited (is_cold start)) n e ws at is))
grows (drafts.Base script) s n e ws at is = at_stage (drafts.Base script) s (Called (is_cold script.start) script.callers) e at.0 (grows_base script n e ws at.1 (moved s (Called (is_cold script.start) script.callers) n e ws at.0 is))
grows (drafts.Phase script lines) s n e ws at is = at_stage (drafts.Phase script lines) s (InPhase script.callers) e at (grows_phase script lines n e ws (moved s (InPhase script.callers) n e ws at is))

some_is : {A : Type 0} (x y : A) → Some x ≡ Some y → x ≡ y
some_is x y e = cc

pub finished_is : (d : Draft) (script : Script) → finished d ≡ Some script → script_entries script ≡ draft_entries d
finished_is drafts.Nothing script e = absurd cc
finished_is (drafts.Start start) script e = absurd cc
finished_is (drafts.Limit start limit) script e = absurd cc
finished_is (drafts.Base s) script e = ap script_entries (sym (some_is s script e))
finished_is (drafts.Phase s lines) script e = ap script_entries (sym (some_is (with_phase s lines) script e)) ∙ phase_more s lines

pub unfinished_is : (d : Draft) (s : Stage) → IsAt d s → finished d ≡ None → IsHead s
unfinished_is drafts.Nothing s at e = subst IsHead (sym at) tt
unfinished_is (drafts.Start start) s at e = subst IsHead (sym at) tt
unfinished_is (drafts.Limit start limit) s at e = subst IsHead (sym at) tt
unfinished_is (drafts.Base script) s at e = absurd cc
unfinished_is (drafts.Phase script lines) s at e = absurd cc

-- Two scripts whose lines say the same are one.

same_lines : (p q : List Line) (ps qs : List (List Line)) → line_entries p ++ phase_entries ps ≡ line_entries q ++ phase_entries qs → (p ≡ q) × (phase_entries ps ≡ phase_entries qs)
same_lines [] [] ps qs e = (refl, e)
same_lines [] (k ∷ q) [] qs e = absurd cc
same_lines [] (k ∷ q) (r ∷ ps) qs e = absurd cc
same_lines (l ∷ p) [] ps [] e = absurd cc
same_lines (l ∷ p) [] ps (r ∷ qs) e = absurd cc
same_lines (l ∷ p) (k ∷ q) ps qs e =
    let tail : line_entries p ++ phase_entries ps ≡ line_entries q ++ phase_entries qs = cc in
    let rest = same_lines p q ps qs tail in
    let head : l ≡ k = cc in
    let lists : p ≡ q = rest.0 in (cc, rest.1)

same_phases : (ps qs : List (List Line)) → phase_entries ps ≡ phase_entries qs → ps ≡ qs
same_phases [] [] e = refl
same_phases [] (q ∷ qs) e = absurd cc
same_phases (p ∷ ps) [] e = absurd cc
same_phases (p ∷ ps) (q ∷ qs) e =
    let tail : line_entries p ++ phase_entries ps ≡ line_entries q ++ phase_entries qs = cc in
    let rest = same_lines p q ps qs tail in
    let more : ps ≡ qs = same_phases ps qs rest.1 in
    let first : p ≡ q = rest.0 in cc

same_bases : (a b : List (ℕ × Act)) (ps qs : List (List Line)) → base_entries a ++ phase_entries ps ≡ base_entries b ++ phase_entries qs → (a ≡ b) × (ps ≡ qs)
same_bases [] [] ps qs e = (refl, same_phases ps qs e)
same_bases [] ((m, y) ∷ b) [] qs e = absurd cc
same_bases [] ((m, y) ∷ b) (p ∷ ps) qs e = absurd cc
same_bases ((n, x) ∷ a) [] ps [] e = absurd cc
same_bases ((n, x) ∷ a) [] ps (q ∷ qs) e = absurd cc
same_bases ((n, x) ∷ a) ((m, y) ∷ b) ps qs e =
    let tail : base_entries a ++ phase_entries ps ≡ base_entries b ++ phase_entries qs = cc in
    let rest = same_bases a b ps qs tail in
    let number : n ≡ m = cc in let act : x ≡ y = cc in let lists : a ≡ b = rest.0 in (cc, rest.1)

pub same_script : (s t : Script) → script_entries s ≡ script_entries t → s ≡ t
same_script s t same =
    let tail : base_entries s.base ++ phase_entries s.phases ≡ base_entries t.base ++ phase_entries t.phases = cc in
    let rest = same_bases s.base t.base s.phases t.phases tail in
    let start : s.start ≡ t.start = cc in
    let limit : s.limit ≡ t.limit = cc in
    let callers : s.callers ≡ t.callers = cc in
    λ i. record { start = start i; limit = limit i; callers = callers i; base = rest.0 i; phases = rest.1 i }
