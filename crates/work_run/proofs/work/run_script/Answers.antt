use Rattle.std.proofs.Common.{ap, subst, sym}
use Rattle.base_state.specs.Base.{IsBase}
use Rattle.net_types.specs.Capacity.{Fits}
use Rattle.script_text.specs.declared.script.Script.{Script}
use Rattle.switch_model.specs.Rows.{rows}
use Rattle.switch_state.specs.Plain.{plain}
use Rattle.work_laws.proofs.WorkLaws.{base_state_fits}
use Rattle.work_run.proofs.WorkLaws.{work_summed}
use Rattle.work_run.proofs.work.run_script.Goals as goal

pub run_state-text-requires : goal.run_state-text-requires
run_state-text-requires c =
    let laid = subst (IsBase c.args.script.base) c.in-Ok-Laid.field-0-is c.in-Ok-Laid.ensures.base in
    let base = ap (λ (s : Script). s.base) c.requires.script in
    record {
      phases = ap (λ (s : Script). s.phases) c.requires.script;
      version = laid.version;
      sound = laid.sound;
      fits = subst (Fits (rows (plain c.in-Ok-Laid.state))) (sym c.cold_caps-caps.ensures) (base_state_fits c.args.script.base base (plain c.in-Ok-Laid.state) laid.state);
    }

pub returns-in-Ok-Laid : goal.returns-in-Ok-Laid
returns-in-Ok-Laid c =
    let laid = subst (IsBase c.args.script.base) c.in-Ok-Laid.field-0-is c.in-Ok-Laid.ensures.base in
    record { summary = work_summed _ c.args.seed c.args.count c.args.script c.in-Ok-Laid.state c.cold_caps-caps.result c.run_state-text.result c.requires.script laid c.cold_caps-caps.ensures c.run_state-text.ensures.sums }
