-- The report of a run, and why there is none.
use Rattle.std.proofs.Common.{◌≡◌, ℕ, Bool, false, List, None, Some, Result, Ok, Err, refl, sym, ap, subst, ◌∙◌}
use Rattle.std.specs.List.{AllZip}
use Rattle.std.specs.Prelude.{IfErr}
use Rattle.chip_core.specs.Chip.{IsChip, view_of}
use Rattle.net_types.specs.Capacity.{Fits, over}
use Rattle.net_types.specs.declared.table.Caps.{Caps}
use Rattle.net_types.specs.declared.table.Table.{Table}
use Rattle.net_types.specs.declared.table.Tables.{Tables}
use Rattle.report_text.specs.Report.{report}
use Rattle.run_outcome.specs.declared.refusal.Refusal.{Refusal}
use Rattle.run_outcome.specs.declared.refusal.Refusal.TheVariants.{Byte, Word, NotBuilt, Base, Opening as OpeningFull, Saved}
use Rattle.run_outcome.specs.declared.refusal.RunFault.{RunFault}
use Rattle.run_outcome.specs.declared.refusal.RunFault.TheVariants.{Refused, NoMemory}
use Rattle.run_outcome.specs.Opening.{IsBuilt, IsOpening, IsRunnable}
use Rattle.run_outcome.specs.Reports.{IsStandingOf, Reports}
use Rattle.run_outcome.specs.Top.{IsBaseRefused, IsRefused, IsScriptRefused, OrNoMemory}
use Rattle.script_text.specs.declared.script.Script.{Script}
use Rattle.script_text.specs.declared.script.Start.TheVariants.{Cold}
use Rattle.script_text.specs.Script.{IsScript}
use Rattle.switch_model.specs.Journal.{Journal, Opening, fold, strip}
use Rattle.switch_model.specs.declared.act.Submission.{Submission}
use Rattle.switch_model.specs.declared.record.Totals.{Totals}
use Rattle.switch_model.specs.declared.reply.Reply.{Reply}
use Rattle.switch_model.specs.declared.verdict.Reason.{Reason}
use Rattle.switch_model.specs.MayComeOf.{MayComeOf}
use Rattle.switch_model.specs.Built.{laid}
use Rattle.switch_model.specs.PlainState.{PlainState, empty}
use Rattle.switch_model.specs.Rows.{rows}
use Rattle.told_laws.specs.Course.{Course, solo}
use Rattle.told_laws.specs.Told.{IsSolo, Told, by_line}
use Rattle.told_laws.proofs.ToldLaws.{solo_all, solo_kept, solo_opening, solo_told}

-- what was written is the report of the run
pub is_report : (script : Script) (opening : Opening) (sures : List Bool) (c : Course) (j : Journal) (replies : List (ℕ × Reply)) (tables : Tables) (standings : List (ℕ × Totals)) (text : List ℕ) →
    Fits (rows opening.state) opening.caps → IsSolo script → c ≡ solo script opening → j ≡ c.journal → replies ≡ by_line c.replies → IsChip opening.caps tables → view_of tables ≡ rows (fold j) → AllZip (IsStandingOf j) sures standings → text ≡ report false j replies (view_of tables) standings →
    Reports script opening sures text
is_report script opening sures c j replies tables standings text fits solo_is course j_is replies_are chip in_step stand text_is =
    let run : j ≡ (solo script opening).journal = j_is ∙ ap (λ (d : Course). d.journal) course in
    let told : replies ≡ by_line (solo script opening).replies = replies_are ∙ ap (λ (d : Course). by_line d.replies) course in
    let reached : MayComeOf (solo script opening).sent (solo script opening).journal = (solo_kept script opening fits solo_is).course.may_come in
    let settled : MayComeOf (strip (solo script opening).journal) (solo script opening).journal = subst (λ (l : List Submission). MayComeOf l (solo script opening).journal) (sym (solo_all script opening fits solo_is)) reached in
    record {
      journal = j;
      replies = replies;
      tables = tables;
      standings = standings;
      opens = ap (λ (k : Journal). k.opening) run ∙ solo_opening script opening fits solo_is;
      reached = subst (λ (k : Journal). MayComeOf (strip k) k) (sym run) settled;
      told = subst (λ (k : Journal). Told script k replies) (sym run) (subst (Told script (solo script opening).journal) (sym told) (solo_told script opening fits solo_is));
      alone = λ one. record { journal = run; ordered = told };
      chip = chip;
      in_step = in_step;
      stand = stand;
      text_is = text_is;
    }

-- A script is run in one way.

cold_is : (a b : Caps) → Cold a ≡ Cold b → a ≡ b
cold_is a b e = cc

ok_is : (m n : PlainState) (r : Result PlainState (ℕ × Reason)) → r ≡ Ok m → r ≡ Ok n → m ≡ n
ok_is m n r is also = cc

ok_err : (m : PlainState) (e : ℕ × Reason) (r : Result PlainState (ℕ × Reason)) → r ≡ Ok m → r ≡ Err e → ⊥
ok_err m e r is also = cc

none_some : (t : Table) → None ≡ Some t → ⊥
none_some t e = cc

same_opening : (script : Script) (a b : Opening) → IsOpening script a → IsOpening script b → a ≡ b
same_opening script a b is also =
    let caps : a.caps ≡ b.caps = cold_is a.caps b.caps (sym is.caps ∙ also.caps) in
    let state : a.state ≡ b.state = ok_is a.state b.state (laid empty script.base) is.state also.state in
    let version : a.version ≡ b.version = is.version ∙ sym also.version in
    λ i. record { state = state i; version = version i; caps = caps i }

not_refused : (script : Script) (opening : Opening) (refusal : Refusal) → IsOpening script opening → Fits (rows opening.state) opening.caps → IsBaseRefused script refusal → ⊥
not_refused script opening (Base line reason) is fits refused = ok_err opening.state (line, reason) (laid empty script.base) is.state refused
not_refused script opening (OpeningFull t) is fits refused =
    let same : refused.opening ≡ opening = same_opening script refused.opening opening refused.opens is in
    none_some t (sym fits ∙ ap (λ (o : Opening). over (rows o.state) o.caps) (sym same) ∙ refused.over)
not_refused script opening (Byte line) is fits refused = refused
not_refused script opening (Word line word) is fits refused = refused
not_refused script opening NotBuilt is fits refused = refused
not_refused script opening (Saved why) is fits refused = refused

script_refused : (bytes : List ℕ) (script : Script) (refusal : Refusal) → ((other : Script) → IsScript bytes other → script ≡ other) → IsScriptRefused script refusal → IsRunnable bytes → ⊥
script_refused bytes script NotBuilt only refused can = refused (subst IsBuilt (sym (only can.0 can.2.is_script)) can.2.built)
script_refused bytes script (Base line reason) only refused can = not_refused script can.1 (Base line reason) (subst (λ (s : Script). IsOpening s can.1) (sym (only can.0 can.2.is_script)) can.2.opens) can.3 refused.1
script_refused bytes script (OpeningFull t) only refused can = not_refused script can.1 (OpeningFull t) (subst (λ (s : Script). IsOpening s can.1) (sym (only can.0 can.2.is_script)) can.2.opens) can.3 refused.1
script_refused bytes script (Byte line) only refused can = refused.1
script_refused bytes script (Word line word) only refused can = refused.1
script_refused bytes script (Saved why) only refused can = refused.1

-- what can be run isn't refused
pub only_memory : {X : Type 0} (bytes : List ℕ) (script : Script) (r : Result X RunFault) → ((other : Script) → IsScript bytes other → script ≡ other) → IfErr r (OrNoMemory (IsScriptRefused script)) → IsRunnable bytes → IfErr r (λ fault. fault ≡ NoMemory)
only_memory bytes script (Ok x) only refused can = tt
only_memory bytes script (Err NoMemory) only refused can = refl
only_memory bytes script (Err (Refused refusal)) only refused can = absurd (script_refused bytes script refusal only refused can)

-- a script that is refused is bytes that are refused
refused_as : (bytes : List ℕ) (script : Script) (refusal : Refusal) → IsScript bytes script → IsScriptRefused script refusal → IsRefused bytes refusal
refused_as bytes script NotBuilt is refused = (script, is, refused)
refused_as bytes script (Base line reason) is refused = (script, is, refused)
refused_as bytes script (OpeningFull t) is refused = (script, is, refused)
refused_as bytes script (Byte line) is refused = absurd refused.1
refused_as bytes script (Word line word) is refused = absurd refused.1
refused_as bytes script (Saved why) is refused = absurd refused.1

pub bytes_refused : {X : Type 0} (bytes : List ℕ) (script : Script) (r : Result X RunFault) → IsScript bytes script → IfErr r (OrNoMemory (IsScriptRefused script)) → IfErr r (OrNoMemory (IsRefused bytes))
bytes_refused bytes script (Ok x) is refused = tt
bytes_refused bytes script (Err NoMemory) is refused = tt
bytes_refused bytes script (Err (Refused refusal)) is refused = refused_as bytes script refusal is refused
