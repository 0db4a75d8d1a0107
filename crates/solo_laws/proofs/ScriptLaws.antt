-- A script with one caller is that caller's, and its lines are numbered in their order.
use Rattle.std.proofs.Common.{◌≡◌, ◌≤◌, ◌<◌, ◌+◌, ℕ, List, [], ◌∷◌, ◌++◌, inl, inr, refl, sym, ap, subst, ◌∙◌, arith}
use Rattle.std.specs.List.{AllByRecursion, flat_map}
use Rattle.script_text.specs.declared.script.Line.{Line}
use Rattle.script_text.specs.declared.script.Script.{Script}
use Rattle.script_text.specs.declared.entries.Entry.{Entry}
use Rattle.script_text.specs.declared.entries.Entry.TheVariants.{Starts, Limits, Calls, Bases, NewPhase, Does}
use Rattle.script_text.specs.declared.entries.Stage.{Stage}
use Rattle.script_text.specs.declared.entries.Stage.TheVariants.{Opening, Started, Limited, Called, InPhase}
use Rattle.script_text.specs.Ranges.{IsInRange}
use Rattle.script_text.specs.Script.{AreEntries, IsEntry, IsScript, base_entries, behind, line_entries, phase_entries, script_entries}
use Rattle.script_words.specs.Lines.{lines}
use Rattle.script_words.specs.Words.{words}
use Rattle.switch_model.specs.declared.act.Act.{Act}
use Rattle.told_laws.specs.Told.{IsSolo, Rise}

-- the callers' lines among entries
abbrev lines_of : List Entry → List Line
lines_of [] = []
lines_of (Does l ∷ es) = l ∷ lines_of es
lines_of (e ∷ es) = lines_of es

rise_from : (n m : ℕ) (ls : List Line) → n ≤ m → Rise m ls → Rise n ls
rise_from n m [] le rise = tt
rise_from n m (l ∷ ls) le rise = (omega (arith, le, rise.0), rise.1)

does_rise : (s : Stage) (n : ℕ) (l : Line) (ws : List (List ℕ)) (ls : List Line) → IsEntry s n (Does l) ws → Rise (n + 1) ls → Rise n (l ∷ ls)
does_rise (InPhase c) n l ws ls is rise = (omega (arith, is.0), subst (λ (k : ℕ). Rise (k + 1) ls) (sym is.0) rise)
does_rise Opening n l ws ls is rise = absurd is
does_rise (Started cold) n l ws ls is rise = absurd is
does_rise (Limited cold) n l ws ls is rise = absurd is
does_rise (Called cold c) n l ws ls is rise = absurd is

entry_rise : (s : Stage) (n : ℕ) (e : Entry) (ws : List (List ℕ)) (es : List Entry) → IsEntry s n e ws → Rise (n + 1) (lines_of es) → Rise n (lines_of (e ∷ es))
entry_rise s n (Does l) ws es is rise = does_rise s n l ws (lines_of es) is rise
entry_rise s n (Starts x) ws es is rise = rise_from n (n + 1) (lines_of es) (omega arith) rise
entry_rise s n (Limits m) ws es is rise = rise_from n (n + 1) (lines_of es) (omega arith) rise
entry_rise s n (Calls m) ws es is rise = rise_from n (n + 1) (lines_of es) (omega arith) rise
entry_rise s n (Bases m act) ws es is rise = rise_from n (n + 1) (lines_of es) (omega arith) rise
entry_rise s n NewPhase ws es is rise = rise_from n (n + 1) (lines_of es) (omega arith) rise

entries_rise : (text : List (List ℕ)) (s : Stage) (n : ℕ) (es : List Entry) (t : Stage) → AreEntries s n text es t → Rise n (lines_of es)
entries_rise [] s n es t are = subst (λ (l : List Entry). Rise n (lines_of l)) (sym are.0) tt
entries_rise (line ∷ more) s n es t (a, inl x) = rise_from n (n + 1) (lines_of es) (omega arith) (entries_rise more s (n + 1) es t x.1)
entries_rise (line ∷ more) s n es t (a, inr x) =
    subst (λ (l : List Entry). Rise n (lines_of l)) (sym x.5) (entry_rise s n x.0 (words line) x.1 x.3 (entries_rise more (behind s x.0) (n + 1) x.1 t x.4))

-- the lines of a script are those of its phases

lines_of_phase : (p : List Line) (es : List Entry) → lines_of (line_entries p ++ es) ≡ p ++ lines_of es
lines_of_phase [] es = refl
lines_of_phase (l ∷ ls) es = ap (λ (x : List Line). l ∷ x) (lines_of_phase ls es)

lines_of_phases : (ps : List (List Line)) → lines_of (phase_entries ps) ≡ flat_map (λ p. p) ps
lines_of_phases [] = refl
lines_of_phases (p ∷ ps) = lines_of_phase p (phase_entries ps) ∙ ap (λ (l : List Line). p ++ l) (lines_of_phases ps)

lines_of_base : (acts : List (ℕ × Act)) (es : List Entry) → lines_of (base_entries acts ++ es) ≡ lines_of es
lines_of_base [] es = refl
lines_of_base (x ∷ xs) es = lines_of_base xs es

script_rises : (bytes : List ℕ) (script : Script) → IsScript bytes script → Rise 0 (flat_map (λ p. p) script.phases)
script_rises bytes script is =
    rise_from 0 1 (flat_map (λ (p : List Line). p) script.phases) (omega arith)
    (subst (Rise 1) (lines_of_base script.base (phase_entries script.phases) ∙ lines_of_phases script.phases) (entries_rise (lines bytes) Opening 1 (script_entries script) is.0 is.1))

all_first : (ls : List Line) → AllByRecursion (λ l. l.caller < 1) ls → AllByRecursion (λ l. l.caller ≡ 0) ls
all_first [] few = tt
all_first (l ∷ ls) few = (omega (arith, few.0), all_first ls few.1)

all_lines : (ps : List (List Line)) → AllByRecursion (AllByRecursion (λ l. l.caller < 1)) ps → AllByRecursion (AllByRecursion (λ l. l.caller ≡ 0)) ps
all_lines [] few = tt
all_lines (p ∷ ps) few = (all_first p few.0, all_lines ps few.1)

-- the lines of a script with one caller are that caller's
pub one_caller : (script : Script) → IsInRange script → script.callers ≡ 1 → AllByRecursion (AllByRecursion (λ l. l.caller ≡ 0)) script.phases
one_caller script range one = all_lines script.phases (subst (λ (c : ℕ). AllByRecursion (AllByRecursion (λ (l : Line). l.caller < c)) script.phases) one range.lines)

pub is_solo : (bytes : List ℕ) (script : Script) → IsScript bytes script → IsInRange script → script.callers ≡ 1 → IsSolo script
is_solo bytes script is range one = record {
  callers = one_caller script range one;
  rise = script_rises bytes script is;
}
