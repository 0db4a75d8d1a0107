-- A run from its opening to its report.
use Rattle.std.proofs.Common.{◌≡◌, ◌⊎◌, ℕ, Bool, true, false, Option, None, Some, Result, Ok, Err, List, [], ◌∷◌, map, refl, sym, ap, subst, ◌∙◌}
use Rattle.std.specs.List.{AllByRecursion, AllZip}
use Rattle.std.specs.Prelude.{IfErr, IfOk, MatchOption}
use Rattle.agent_core.specs.declared.fault.OpenFault.{OpenFault}
use Rattle.agent_core.specs.declared.fault.OpenFault.TheVariants as opening
use Rattle.agent_run.specs.declared.run.Work.{Work}
use Rattle.base_state.specs.Base.{IsLaid}
use Rattle.agent_run.specs.Run.{IsOverfull, ReportsRun, opening_of, report_by, report_of, unopened}
use Rattle.agent_run.specs.Script.{ReportsScript}
use Rattle.agent_run.specs.Standing.{standing_of, sures_of}
use Rattle.agent_run.proofs.StandingLaws.{all_stand}
use Rattle.chip_core.specs.Chip.{IsChip, view_of}
use Rattle.core_laws.specs.Audience.{IsLatest}
use Rattle.core_laws.specs.Published.{CoreView, IsCore, IsPublished, PublishedView, journal_of}
use Rattle.core_laws.proofs.AudienceLaws.{all_so, latest_is}
use Rattle.net_types.specs.Capacity.{over}
use Rattle.net_types.specs.declared.table.Caps.{Caps}
use Rattle.net_types.specs.declared.table.Table.{Table}
use Rattle.observers.specs.Watch.{Watch, at_state}
use Rattle.run_outcome.specs.declared.refusal.Refusal.{Refusal}
use Rattle.run_outcome.specs.declared.refusal.Refusal.TheVariants.{Byte, Word, NotBuilt, Base, Opening as OpeningFull, Saved}
use Rattle.run_outcome.specs.declared.refusal.RunFault.{RunFault}
use Rattle.run_outcome.specs.declared.refusal.RunFault.TheVariants as run
use Rattle.run_outcome.specs.Opening.{IsBuilt, IsOpening}
use Rattle.run_outcome.specs.Reports.{IsReportOf, IsStandingOf, Reports}
use Rattle.report_text.specs.Report.{report}
use Rattle.net_types.specs.Rows.{Rows}
use Rattle.run_outcome.specs.Top.{IsBaseRefused, IsScriptRefused, OrNoMemory}
use Rattle.run_outcome.proofs.RunLaws.{is_report}
use Rattle.script_text.specs.declared.script.Script.{Script}
use Rattle.script_text.specs.Ranges.{IsInRange}
use Rattle.script_text.specs.Script.{IsScript}
use Rattle.script_text.specs.declared.script.Start.TheVariants.{Cold}
use Rattle.solo_agent.specs.Views.{IsSameSwitch, SoloView, sures}
use Rattle.switch_model.specs.declared.reply.Reply.{Reply}
use Rattle.solo_laws.proofs.ScriptLaws.{is_solo}
use Rattle.switch_model.specs.Journal.{Journal, Opening}
use Rattle.switch_model.specs.Rows.{rows}
use Rattle.switch_state.specs.Plain.{plain}
use Rattle.switch_state.specs.StateView.{StateView}
use Rattle.told_laws.specs.Course.{phases, started}
use Rattle.told_laws.specs.Told.{by_line}

-- all observers that are sure stay so when they are begun
pub begun_sures : (s : StateView) (ws vs : List Watch) → AllZip (λ w v. v ≡ record (at_state s w) { refusals = 0 }) ws vs → sures_of vs ≡ sures_of ws
begun_sures s [] [] all = refl
begun_sures s [] (v ∷ vs) all = absurd all
begun_sures s (w ∷ ws) [] all = absurd all
begun_sures s (w ∷ ws) (v ∷ vs) all = λ i. (ap (λ (x : Watch). x.sure) all.0) i ∷ begun_sures s ws vs all.1 i

latest_all : (c : CoreView) → IsCore c → IsPublished c.published → AllByRecursion (λ w. (w.sure ≡ true) ⊎ (w.refusals ≡ 0) → IsLatest (journal_of c.published) w) c.audience.watches
latest_all c core is = all_so _ _ c.audience.watches (λ w at which. latest_is c.published w is which at) core.heard.latest

solo_by : (script : Script) (work : Work) (o : Opening) → script.limit ≡ work.limit → script.phases ≡ work.phases → phases work.limit (started o) work.phases ≡ phases script.limit (started o) script.phases
solo_by script work o limit lines = ap (λ (n : ℕ). phases n (started o) work.phases) (sym limit) ∙ ap (phases script.limit (started o)) (sym lines)

-- what an agent has done from a core on, as it is reported
pub core_reports : (work : Work) (c : CoreView) (a : SoloView) (text : List ℕ) →
    IsCore c → c.published.rounds ≡ [] → c.caps ≡ work.caps → IsSameSwitch c a.core → a.course ≡ phases work.limit (started (journal_of c.published).opening) work.phases → a.course.journal ≡ journal_of a.core.published →
    IsCore a.core → IsChip a.core.caps a.core.raw → IsPublished a.core.published → text ≡ report_of a →
    ReportsRun work (journal_of c.published).opening (sures c.audience) text
core_reports work c a text core none caps same course journal last chip is text_is = λ script limit lines solo_is.
    let o : Opening = (journal_of c.published).opening in
    let j : Journal = journal_of a.core.published in
    let room : a.core.caps ≡ o.caps = same.caps ∙ sym core.caps in
    is_report script o (sures c.audience) a.course j (by_line a.course.replies) a.core.raw (map standing_of a.core.audience.watches) text
    core.legal.0 solo_is (course ∙ solo_by script work o limit lines) (sym journal) refl (subst (λ (k : Caps). IsChip k a.core.raw) room chip) (last.view ∙ ap rows is.plain)
    (subst (λ (l : List Bool). AllZip (IsStandingOf j) l (map standing_of a.core.audience.watches)) same.sures (all_stand j a.core.audience.watches last.heard.standing (latest_all a.core last is)))
    text_is

pub core_reported : {X E : Type 0} (text_of : X → List ℕ) (work : Work) (c : CoreView) (a : SoloView) (r : Result X E) →
    IsCore c → c.published.rounds ≡ [] → c.caps ≡ work.caps → IsSameSwitch c a.core → a.course ≡ phases work.limit (started (journal_of c.published).opening) work.phases → a.course.journal ≡ journal_of a.core.published →
    IsCore a.core → IsChip a.core.caps a.core.raw → IsPublished a.core.published → IfOk r (λ x. text_of x ≡ report_of a) →
    IfOk r (λ x. ReportsRun work (journal_of c.published).opening (sures c.audience) (text_of x))
core_reported text_of work c a (Ok x) core none caps same course journal last chip is text_is = core_reports work c a (text_of x) core none caps same course journal last chip is text_is
core_reported text_of work c a (Err e) core none caps same course journal last chip is text_is = tt

-- the report is of these parts

pub report_is : {X E : Type 0} (text_of : X → List ℕ) (c : CoreView) (replies : List (ℕ × Reply)) (p : PublishedView) (shown : Rows) (ws : List Watch) (r : Result X E) → p ≡ c.published → shown ≡ view_of c.raw → ws ≡ c.audience.watches →
    IfOk r (λ x. text_of x ≡ report false (journal_of p) replies shown (map standing_of ws)) → IfOk r (λ x. text_of x ≡ report_by c replies)
report_is text_of c replies p shown ws (Ok x) p_is shown_is ws_is text_is = text_is ∙ (λ i. report false (journal_of (p_is i)) replies (shown_is i) (map standing_of (ws_is i)))
report_is text_of c replies p shown ws (Err e) p_is shown_is ws_is text_is = tt

pub agent_report_is : {X E : Type 0} (text_of : X → List ℕ) (a : SoloView) (c : CoreView) (given ordered : List (ℕ × Reply)) (r : Result X E) → c ≡ a.core → given ≡ a.course.replies → ordered ≡ by_line given →
    IfOk r (λ x. text_of x ≡ report_by c ordered) → IfOk r (λ x. text_of x ≡ report_of a)
agent_report_is text_of a c given ordered (Ok x) c_is given_is ordered_is text_is = text_is ∙ (λ i. report_by (c_is i) (ordered_is i)) ∙ ap (λ (l : List (ℕ × Reply)). report_by a.core (by_line l)) given_is
agent_report_is text_of a c given ordered (Err e) c_is given_is ordered_is text_is = tt

-- the same, of the core that was opened on a state
pub opened_reports : (work : Work) (s : StateView) (c : CoreView) (ws : List Watch) (text : List ℕ) →
    journal_of c.published ≡ record { opening = opening_of s work.caps; rounds = [] } → AllZip (λ w v. v ≡ record (at_state c.published.state w) { refusals = 0 }) ws c.audience.watches →
    ReportsRun work (journal_of c.published).opening (sures c.audience) text → ReportsRun work (opening_of s work.caps) (sures_of ws) text
opened_reports work s c ws text journal begun reports = λ script limit lines solo_is.
    subst (λ (l : List Bool). Reports script (opening_of s work.caps) l text) (begun_sures c.published.state ws c.audience.watches begun)
    (subst (λ (o : Opening). Reports script o (sures c.audience) text) (ap (λ (k : Journal). k.opening) journal) (reports script limit lines solo_is))

-- a core wasn't opened
pub not_opened : (found : Option Table) (fault : OpenFault) → ((t : Table) → fault ≡ opening.Full t → found ≡ Some t) → OrNoMemory (IsOverfull found) (unopened fault)
not_opened found (opening.Full t) full = full t refl
not_opened found opening.NoMemory full = tt

-- what a base leads to begins the run
opening_is : (script : Script) (caps : Caps) (s : StateView) → script.start ≡ Cold caps → IsLaid script.base s → IsOpening script (opening_of s caps)
opening_is script caps s start base = record { caps = start; state = base.state; version = base.version }

pub script_reports : (script : Script) (work : Work) (s : StateView) (marks : List Bool) (text : List ℕ) → script.start ≡ Cold work.caps → work.limit ≡ script.limit → work.phases ≡ script.phases → IsLaid script.base s → ReportsRun work (opening_of s work.caps) marks text → ReportsScript script marks text
script_reports script work s marks text start limit lines base reports = record {
  opening = opening_of s work.caps;
  opens = opening_is script work.caps s start base;
  reports = λ solo_is. reports script (sym limit) (sym lines) solo_is;
}

pub script_reported : {X E : Type 0} (text_of : X → List ℕ) (script : Script) (work : Work) (s : StateView) (marks : List Bool) (r : Result X E) → script.start ≡ Cold work.caps → work.limit ≡ script.limit → work.phases ≡ script.phases → IsLaid script.base s →
    IfOk r (λ x. ReportsRun work (opening_of s work.caps) marks (text_of x)) → IfOk r (λ x. ReportsScript script marks (text_of x))
script_reported text_of script work s marks (Ok x) start limit lines base reports = script_reports script work s marks (text_of x) start limit lines base reports
script_reported text_of script work s marks (Err e) start limit lines base reports = tt

-- a script of these bytes that is built and reported is the bytes' report
pub bytes_reported : {X E : Type 0} (text_of : X → List ℕ) (bytes : List ℕ) (script : Script) (marks : List Bool) (r : Result X E) → IsScript bytes script → IsInRange script →
    IfOk r (λ x. IsBuilt script × ReportsScript script marks (text_of x)) → IfOk r (λ x. IsReportOf marks bytes (text_of x))
bytes_reported text_of bytes script marks (Ok x) is range reports = record {
  script = script;
  opening = reports.1.opening;
  begins = record { is_script = is; built = reports.0; opens = reports.1.opens };
  reports = reports.1.reports (is_solo bytes script is range reports.0.alone);
}
bytes_reported text_of bytes script marks (Err e) is range reports = tt

too_big : (script : Script) (caps : Caps) (s : StateView) (refusal : Refusal) → script.start ≡ Cold caps → IsLaid script.base s → IsOverfull (over (rows (plain s)) caps) refusal → IsBaseRefused script refusal
too_big script caps s (OpeningFull t) start base found = record { opening = opening_of s caps; opens = opening_is script caps s start base; over = found }
too_big script caps s (Byte line) start base found = absurd found
too_big script caps s (Word line word) start base found = absurd found
too_big script caps s NotBuilt start base found = absurd found
too_big script caps s (Base line reason) start base found = absurd found
too_big script caps s (Saved why) start base found = absurd found

pub script_too_big : {X : Type 0} (script : Script) (caps : Caps) (s : StateView) (r : Result X RunFault) → script.start ≡ Cold caps → IsLaid script.base s → IfErr r (OrNoMemory (IsOverfull (over (rows (plain s)) caps))) → IfErr r (OrNoMemory (IsBaseRefused script))
script_too_big script caps s (Ok x) start base found = tt
script_too_big script caps s (Err run.NoMemory) start base found = tt
script_too_big script caps s (Err (run.Refused refusal)) start base found = too_big script caps s refusal start base found

-- a base that is refused is one of a script that is built
refused_built : (script : Script) (refusal : Refusal) → IsBuilt script → IsBaseRefused script refusal → IsScriptRefused script refusal
refused_built script (Base line reason) built refused = (built, refused)
refused_built script (OpeningFull t) built refused = (built, refused)
refused_built script (Byte line) built refused = absurd refused
refused_built script (Word line word) built refused = absurd refused
refused_built script NotBuilt built refused = absurd refused
refused_built script (Saved why) built refused = absurd refused

pub script_refused : {X : Type 0} (script : Script) (r : Result X RunFault) → IsBuilt script → IfErr r (OrNoMemory (IsBaseRefused script)) → IfErr r (OrNoMemory (IsScriptRefused script))
script_refused script (Ok x) built refused = tt
script_refused script (Err run.NoMemory) built refused = tt
script_refused script (Err (run.Refused refusal)) built refused = refused_built script refusal built refused

pub script_built : {X : Type 0} (script : Script) (r : Result X RunFault) (text_of : X → List ℕ) (marks : List Bool) → IsBuilt script → IfOk r (λ x. ReportsScript script marks (text_of x)) → IfOk r (λ x. IsBuilt script × ReportsScript script marks (text_of x))
script_built script (Ok x) text_of marks built reports = (built, reports)
script_built script (Err e) text_of marks built reports = tt

-- the capacities of a script that is built
pub caps_are : (found : Option Caps) (script : Script) (caps : Caps) → MatchOption found (IsBuilt script → ⊥) (λ k. IsBuilt script × (script.start ≡ Cold k)) → found ≡ Some caps → IsBuilt script × (script.start ≡ Cold caps)
caps_are None script caps given is = absurd cc
caps_are (Some k) script caps given is = let same : k ≡ caps = cc in subst (λ (x : Caps). IsBuilt script × (script.start ≡ Cold x)) same given

pub not_built : (found : Option Caps) (script : Script) → MatchOption found (IsBuilt script → ⊥) (λ k. IsBuilt script × (script.start ≡ Cold k)) → found ≡ None → IsBuilt script → ⊥
not_built None script given is = given
not_built (Some k) script given is = absurd cc
