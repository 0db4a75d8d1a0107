-- A caller's lines, phase by phase.
use Rattle.std.proofs.Common.{◌≡◌, ℕ, None, Some, List, [], ◌∷◌, ◌++◌, refl, sym, ◌∙◌, subst, append_assoc, arith}
use Rattle.std.proofs.lemmas.List.{append-nil}
use Rattle.std.specs.List.{AllByRecursion}
use Rattle.journal_laws.proofs.MayComeLaws.{may_come_start}
use Rattle.keyed.specs.Cases.{some_is, none_some}
use Rattle.net_types.specs.Capacity.{Fits}
use Rattle.script_text.specs.declared.script.Line.{Line}
use Rattle.switch_model.specs.Journal.{Opening}
use Rattle.switch_model.specs.Rows.{rows}
use Rattle.told_laws.specs.Course.{Course, IsCourse, lines, phases, started, step}
use Rattle.told_laws.specs.Keeping.{IsNew, Keeps}
use Rattle.told_laws.specs.Serving.{Sight, sight}
use Rattle.told_laws.proofs.ServingLaws.{serves_keep}
use Rattle.told_laws.proofs.SoloLaws.{step_serves}

-- a caller before its first line
pub keeps_new : (limit i : ℕ) (p : Sight) → p.number ≡ i → IsNew p → Keeps limit i p [] [] [] []
keeps_new limit i p number new = record {
  number_is = number;
  phases = [];
  closed = [];
  slots = [];
  given = [];
  phases_are = refl;
  lines_are = refl;
  updates = new.mine;
  refused = tt;
  each = tt;
  opened = tt;
  order = refl;
  shut = refl;
  replies = refl;
  answers = record { marks = []; fronts = tt; last = omega arith; pumps = tt; low = omega arith };
  counts = tt;
  counted = tt;
  settled = refl;
}

pub started_is : (limit i : ℕ) (opening : Opening) → Fits (rows opening.state) opening.caps → IsCourse limit i (started opening)
started_is limit i opening fits = record { may_come = may_come_start opening [] fits; few = omega arith; callers = tt; tickets = tt }

-- what is so of the one caller there is
pub record IsKept (limit i : ℕ) (opening : Opening) (c : Course) (done : List (List Line)) (now : List Line) : Type 0 where
  pub course : IsCourse limit i c
  pub opening_is : c.journal.opening ≡ opening
  pub keeps : Keeps limit i (sight i c) c.tickets c.replies done now

pub started_kept : (limit i : ℕ) (opening : Opening) → Fits (rows opening.state) opening.caps → IsKept limit i opening (started opening) [] []
started_kept limit i opening fits = record { course = started_is limit i opening fits; opening_is = refl; keeps = keeps_new limit i (sight i (started opening)) refl (record { mine = refl; sent = refl; journal = refl; rounds = refl }) }

line_kept : (limit i : ℕ) (o : Opening) (c : Course) (done : List (List Line)) (now : List Line) (l : Line) → l.caller ≡ i → IsKept limit i o c done now → IsKept limit i o (step limit c (Some l)) done (now ++ l ∷ [])
line_kept limit i o c done now l own_line k =
    let s = step_serves limit i (Some l) c (λ x e. subst (λ (y : Line). y.caller ≡ i) (some_is e) own_line) k.course in
    let d : Course = step limit c (Some l) in
    record { course = s.course; opening_is = sym s.grew.journal.0 ∙ k.opening_is; keeps = serves_keep limit i (sight i c) (sight i d) c.tickets d.tickets (Some l) c.replies d.replies done now s.grew s.serves k.keeps }

end_kept : (limit i : ℕ) (o : Opening) (c : Course) (done : List (List Line)) (now : List Line) → IsKept limit i o c done now → IsKept limit i o (step limit c None) (done ++ now ∷ []) []
end_kept limit i o c done now k =
    let s = step_serves limit i None c (λ x e. absurd (none_some e)) k.course in
    let d : Course = step limit c None in
    record { course = s.course; opening_is = sym s.grew.journal.0 ∙ k.opening_is; keeps = serves_keep limit i (sight i c) (sight i d) c.tickets d.tickets None c.replies d.replies done now s.grew s.serves k.keeps }

-- the lines of a phase, and its end
lines_kept : (limit i : ℕ) (o : Opening) (ls : List Line) (c : Course) (done : List (List Line)) (now : List Line) → AllByRecursion (λ l. l.caller ≡ i) ls → IsKept limit i o c done now → IsKept limit i o (lines limit c ls) (done ++ (now ++ ls) ∷ []) []
lines_kept limit i o [] c done now own_lines k = subst (λ (l : List Line). IsKept limit i o (step limit c None) (done ++ l ∷ []) []) (sym (append-nil now)) (end_kept limit i o c done now k)
lines_kept limit i o (l ∷ ls) c done now own_lines k =
    subst (λ (x : List Line). IsKept limit i o (lines limit (step limit c (Some l)) ls) (done ++ x ∷ []) []) (append_assoc now (l ∷ []) ls)
    (lines_kept limit i o ls (step limit c (Some l)) done (now ++ l ∷ []) own_lines.1 (line_kept limit i o c done now l own_lines.0 k))

pub phases_kept : (limit i : ℕ) (o : Opening) (ps : List (List Line)) (c : Course) (done : List (List Line)) → AllByRecursion (AllByRecursion (λ l. l.caller ≡ i)) ps → IsKept limit i o c done [] → IsKept limit i o (phases limit c ps) (done ++ ps) []
phases_kept limit i o [] c done own_lines k = subst (λ (x : List (List Line)). IsKept limit i o c x []) (sym (append-nil done)) k
phases_kept limit i o (p ∷ ps) c done own_lines k =
    subst (λ (x : List (List Line)). IsKept limit i o (phases limit (lines limit c p) ps) x []) (append_assoc done (p ∷ []) ps)
    (phases_kept limit i o ps (lines limit c p) (done ++ p ∷ []) own_lines.1 (lines_kept limit i o p c done [] own_lines.0 k))
