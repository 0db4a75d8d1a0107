-- The base of generated work, and the lines that follow it.
use Rattle.std.proofs.Common.{◌≡◌, ℕ, Ok, Err, List, [], ◌∷◌, ◌+◌, map, refl, sym, subst}
use Rattle.std.specs.List.{AllByRecursion}
use Rattle.net_types.specs.Capacity.{Fits}
use Rattle.script_text.specs.declared.script.Line.{Line}
use Rattle.switch_model.specs.declared.act.Act.{Act}
use Rattle.switch_model.specs.declared.verdict.Reason.{Reason}
use Rattle.switch_model.specs.Built.{laid, placed}
use Rattle.switch_model.specs.PlainState.{PlainState, empty}
use Rattle.switch_model.specs.Rows.{rows}
use Rattle.work_gen.specs.Base.{base_acts}
use Rattle.work_gen.specs.Draws.{acts, seeded}
use Rattle.work_gen.specs.Generated.{generated_caps, generated_lines, queued}
use Rattle.work_laws.specs.BaseLaws.{LeadsToFit, base_fits}

module _ (base : List (ℕ × Act)) (is : base ≡ placed 4 base_acts) where
  leads_to_fit : LeadsToFit (laid empty base)
  leads_to_fit = subst (λ (l : List (ℕ × Act)). LeadsToFit (laid empty l)) (sym is) base_fits

  -- the rows of the state that the base leads to fit
  pub base_state_fits : (m : PlainState) → laid empty base ≡ Ok m → Fits (rows m) generated_caps
  base_state_fits m laid_is = subst LeadsToFit laid_is leads_to_fit

  -- no act of the base is invalid
  pub base_is_valid : (e : ℕ × Reason) → laid empty base ≡ Err e → ⊥
  base_is_valid e laid_is = subst LeadsToFit laid_is leads_to_fit

callers_from : (n : ℕ) (all : List Act) → AllByRecursion (λ l. l.caller ≡ 0) (map queued (placed n all))
callers_from n [] = tt
callers_from n (act ∷ more) = (refl, callers_from (n + 1) more)

-- all lines are of caller 0
pub one_caller : (seed count : ℕ) (ls : List Line) → ls ≡ generated_lines seed count → AllByRecursion (λ l. l.caller ≡ 0) ls
one_caller seed count ls is = subst (AllByRecursion (λ (l : Line). l.caller ≡ 0)) (sym is) (callers_from 93 (acts count (seeded seed)))
