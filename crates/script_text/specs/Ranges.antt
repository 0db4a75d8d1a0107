-- The numbers of a script are in their ranges.
use Rattle.std.proofs.Common.{◌≡◌, ◌≤◌, ◌<◌, ◌+◌, ◌-◌, ℕ, List, [], ◌∷◌, ◌++◌, inl, inr, refl, sym, subst, arith}
use Rattle.std.specs.List.{AllByRecursion}
use Rattle.switch_model.specs.declared.act.Act.{Act}
use Rattle.script_words.specs.Lines.{lines}
use Rattle.script_text.specs.declared.script.Line.{Line}
use Rattle.script_text.specs.declared.script.Script.{Script}
use Rattle.script_text.specs.declared.entries.Entry.{Entry}
use Rattle.script_text.specs.declared.entries.Entry.TheVariants.{Starts, Limits, Calls, Bases, NewPhase, Does}
use Rattle.script_text.specs.declared.entries.Stage.{Stage}
use Rattle.script_text.specs.declared.entries.Stage.TheVariants.{Opening, Started, Limited, Called, InPhase}
use Rattle.script_text.specs.Script.{is_cold, IsEntry, AreEntries, IsScript, behind, base_entries, line_entries, phase_entries}

-- the limit, the number of callers, and each line's caller are in their ranges
pub record IsInRange (script : Script) : Type 0 where
  pub limit_some : 1 ≤ script.limit
  pub limit_most : script.limit ≤ 1000000
  pub callers_some : 1 ≤ script.callers
  pub callers_most : script.callers ≤ 16
  pub lines : AllByRecursion (AllByRecursion (λ l. l.caller < script.callers)) script.phases

-- the first entry stands on some line, and the others behind it
abbrev Peeled : Stage → Entry → List Entry → Stage → Type 0
Peeled s e es t = (n : ℕ) × (ws : List (List ℕ)) × (more : List (List ℕ)) × IsEntry s n e ws × AreEntries (behind s e) (n + 1) more es t

peel : (text : List (List ℕ)) (s : Stage) (n : ℕ) (e : Entry) (es : List Entry) (t : Stage) → AreEntries s n text (e ∷ es) t → Peeled s e es t
peel [] s n e es t are = let none = are.0 in absurd cc
peel (line ∷ more) s n e es t (a, inl x) = peel more s (n + 1) e es t x.1
peel (line ∷ more) s n e es t (a, inr x) =
    let all = x.5 in
    let first : x.0 ≡ e = cc in
    let rest : x.1 ≡ es = cc in
    (n, _, more, subst (λ (f : Entry). IsEntry s n f _) first x.3, subst (λ (fs : List Entry). AreEntries (behind s e) (n + 1) more fs t) rest (subst (λ (f : Entry). AreEntries (behind s f) (n + 1) more x.1 t) first x.4))

-- the caller of a line is below the number of callers
abbrev Within : ℕ → Entry → Type 0
Within c (Does l) = l.caller < c
Within c entry = Unit {0}

-- the number of callers is known
abbrev HasCallers : ℕ → Stage → Type 0
HasCallers c (Called cold d) = d ≡ c
HasCallers c (InPhase d) = d ≡ c
HasCallers c stage = ⊥

does_within : (c n : ℕ) (l : Line) (ws : List (List ℕ)) → 1 ≤ c → IsEntry (InPhase c) n (Does l) ws → l.caller < c
does_within c n l [] some is = absurd is.1
does_within c n l (w ∷ ws) some is = omega (arith, is.1.0.0.1, some)

within : (c : ℕ) (s : Stage) (n : ℕ) (e : Entry) (ws : List (List ℕ)) → 1 ≤ c → HasCallers c s → IsEntry s n e ws → Within c e × HasCallers c (behind s e)
within c (Called cold d) n (Bases m a) ws some has is = (tt, has)
within c (Called cold d) n NewPhase ws some has is = (tt, has)
within c (InPhase d) n NewPhase ws some has is = (tt, has)
within c (InPhase d) n (Does l) ws some has is = (does_within c n l ws some (subst (λ (k : ℕ). IsEntry (InPhase k) n (Does l) ws) has is), has)
within c Opening n e ws some has is = absurd has
within c (Started cold) n e ws some has is = absurd has
within c (Limited cold) n e ws some has is = absurd has
within c (Called cold d) n (Starts x) ws some has is = absurd is
within c (Called cold d) n (Limits m) ws some has is = absurd is
within c (Called cold d) n (Calls m) ws some has is = absurd is
within c (Called cold d) n (Does l) ws some has is = absurd is
within c (InPhase d) n (Starts x) ws some has is = absurd is
within c (InPhase d) n (Limits m) ws some has is = absurd is
within c (InPhase d) n (Calls m) ws some has is = absurd is
within c (InPhase d) n (Bases m a) ws some has is = absurd is

all_within : (c : ℕ) (text : List (List ℕ)) (s : Stage) (n : ℕ) (es : List Entry) (t : Stage) → 1 ≤ c → HasCallers c s → AreEntries s n text es t → AllByRecursion (Within c) es
all_within c [] s n es t some has are = subst (AllByRecursion (Within c)) (sym are.0) tt
all_within c (line ∷ more) s n es t some has (a, inl x) = all_within c more s (n + 1) es t some has x.1
all_within c (line ∷ more) s n es t some has (a, inr x) =
    let here = within c s n x.0 _ some has x.3 in
    subst (AllByRecursion (Within c)) (sym x.5) (here.0, all_within c more (behind s x.0) (n + 1) x.1 t some here.1 x.4)

behind_base : (c : ℕ) (acts : List (ℕ × Act)) (es : List Entry) → AllByRecursion (Within c) (base_entries acts ++ es) → AllByRecursion (Within c) es
behind_base c [] es all = all
behind_base c (a ∷ acts) es all = behind_base c acts es all.1

lines_within : (c : ℕ) (ls : List Line) (es : List Entry) → AllByRecursion (Within c) (line_entries ls ++ es) → AllByRecursion (λ l. l.caller < c) ls × AllByRecursion (Within c) es
lines_within c [] es all = (tt, all)
lines_within c (l ∷ ls) es all = let rest = lines_within c ls es all.1 in ((all.0, rest.0), rest.1)

phases_within : (c : ℕ) (ps : List (List Line)) → AllByRecursion (Within c) (phase_entries ps) → AllByRecursion (AllByRecursion (λ l. l.caller < c)) ps
phases_within c [] all = tt
phases_within c (p ∷ ps) all = let here = lines_within c p (phase_entries ps) all.1 in (here.0, phases_within c ps here.1)

limit_range : (cold : _) (n m : ℕ) (ws : List (List ℕ)) → IsEntry (Started cold) n (Limits m) ws → (1 ≤ m) × (m ≤ 1000000)
limit_range cold n m [] is = absurd is
limit_range cold n m (a ∷ []) is = absurd is.1
limit_range cold n m (a ∷ b ∷ ws) is = is.1.0.0

callers_range : (cold : _) (n c : ℕ) (ws : List (List ℕ)) → IsEntry (Limited cold) n (Calls c) ws → (1 ≤ c) × (c ≤ 16)
callers_range cold n c [] is = absurd is
callers_range cold n c (a ∷ []) is = absurd is.1
callers_range cold n c (a ∷ b ∷ ws) is = is.1.0.0

-- the numbers of a script are in their ranges
pub in_range : (bytes : List ℕ) (script : Script) → IsScript bytes script → IsInRange script
in_range bytes script is =
    let start = peel (lines bytes) Opening 1 (Starts script.start) _ is.0 is.1 in
    let limit = peel start.2 (Started (is_cold script.start)) (start.0 + 1) (Limits script.limit) _ is.0 start.4 in
    let callers = peel limit.2 (Limited (is_cold script.start)) (limit.0 + 1) (Calls script.callers) _ is.0 limit.4 in
    let most = limit_range (is_cold script.start) limit.0 script.limit limit.1 limit.3 in
    let some = callers_range (is_cold script.start) callers.0 script.callers callers.1 callers.3 in
    let all = all_within script.callers callers.2 (Called (is_cold script.start) script.callers) (callers.0 + 1) _ is.0 some.0 refl callers.4 in
    record {
      limit_some = most.0;
      limit_most = most.1;
      callers_some = some.0;
      callers_most = some.1;
      lines = phases_within script.callers script.phases (behind_base script.callers script.base (phase_entries script.phases) all);
    }
