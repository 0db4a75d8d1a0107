-- Generated work, from its opening to its summary.
use Rattle.std.proofs.Common.{◌≡◌, ℕ, Result, Ok, Err, List, refl, sym, ap, subst, ◌∙◌}
use Rattle.std.specs.Prelude.{IfOk}
use Rattle.core_laws.specs.Published.{CoreView, journal_of}
use Rattle.net_types.specs.declared.table.Caps.{Caps}
use Rattle.run_outcome.specs.Opening.{IsOpening}
use Rattle.script_text.specs.declared.script.Line.{Line}
use Rattle.script_text.specs.declared.script.Script.{Script}
use Rattle.script_text.specs.declared.script.Start.TheVariants.{Cold}
use Rattle.base_state.specs.Base.{IsLaid}
use Rattle.solo_agent.specs.Views.{SoloView}
use Rattle.switch_model.specs.Journal.{Journal, Opening}
use Rattle.switch_state.specs.Plain.{plain}
use Rattle.switch_state.specs.StateView.{StateView}
use Rattle.told_laws.specs.Course.{Course, phases, started}
use Rattle.work_gen.specs.Generated.{generated, generated_caps, generated_lines}
use Rattle.work_laws.specs.Summary.{IsWorkSummary, Sums, journal_text, outcome_of}
use Rattle.work_laws.specs.Work.{in_blocks}
use Rattle.work_summary.specs.Summary.{summary_text}

abbrev summary_of : ℕ → ℕ → Journal → List ℕ
summary_of seed count j = summary_text (outcome_of seed count j) (journal_text j)

-- what an agent's journal comes to is what the work comes to
pub agent_sums : {X E : Type 0} (text_of : X → List ℕ) (seed count : ℕ) (o : Opening) (ls : List Line) (a : SoloView) (c : CoreView) (r : Result X E) → ls ≡ generated_lines seed count → a.course ≡ phases count (started o) (in_blocks ls) → a.course.journal ≡ journal_of a.core.published → c ≡ a.core →
    IfOk r (λ x. text_of x ≡ summary_text (outcome_of seed count (journal_of c.published)) (journal_text (journal_of c.published))) → IfOk r (λ x. Sums seed count o (text_of x))
agent_sums text_of seed count o ls a c (Ok x) lines course journal core text =
    text ∙ ap (λ (k : CoreView). summary_of seed count (journal_of k.published)) core ∙ ap (summary_of seed count) (sym journal ∙ ap (λ (d : Course). d.journal) course)
    ∙ ap (λ (l : List Line). summary_of seed count (phases count (started o) (in_blocks l)).journal) lines
agent_sums text_of seed count o ls a c (Err e) lines course journal core text = tt

-- what a base leads to begins a summary
pub work_summed : {X E : Type 0} (text_of : X → List ℕ) (seed count : ℕ) (script : Script) (s : StateView) (caps : Caps) (r : Result X E) → script ≡ generated seed count → IsLaid script.base s → caps ≡ generated_caps →
    IfOk r (λ x. Sums seed count (record { state = plain s; version = 0; caps = caps }) (text_of x)) → IfOk r (λ x. IsWorkSummary seed count (text_of x))
work_summed text_of seed count script s caps (Ok x) is base room sums =
    let o : Opening = record { state = plain s; version = 0; caps = caps } in
    let opens : IsOpening script o = record { caps = ap (λ (k : Script). k.start) is ∙ ap Cold (sym room); state = base.state; version = refl } in
    record { opening = o; opens = subst (λ (k : Script). IsOpening k o) is opens; sums = sums }
work_summed text_of seed count script s caps (Err e) is base room sums = tt
