-- Acts of a base in turn.
use Rattle.std.proofs.Common.{◌≡◌, ℕ, Option, None, Some, Ok, Err, List, [], ◌∷◌, refl, sym, ap, ◌∙◌}
use Rattle.std.specs.Prelude.{IfNone}
use Rattle.state_update.specs.Applied.{outcome}
use Rattle.state_update.specs.declared.update.Applied.{Applied}
use Rattle.state_update.specs.declared.update.Applied.TheVariants.{Changed, Invalid}
use Rattle.switch_laws.proofs.SoundLaws.{sound-laid, sound-built}
use Rattle.switch_model.specs.declared.act.Act.{Act}
use Rattle.switch_model.specs.declared.verdict.Reason.{Reason}
use Rattle.switch_model.specs.Built.{laid}
use Rattle.switch_model.specs.BuiltLaws.{laid_refused, laid_valid}
use Rattle.switch_model.specs.Effect.{effect}
use Rattle.switch_model.specs.PlainState.{PlainState, empty}
use Rattle.switch_model.specs.Reason.{reason_of_act}
use Rattle.switch_model.specs.Sound.{IsSound}
use Rattle.switch_state.specs.Plain.{plain}
use Rattle.switch_state.specs.StateView.{StateView, nothing}
use Rattle.base_state.specs.Base.{IsLaid}

pub valid : (o : Option Reason) → Changed ≡ outcome o → None ≡ o
valid None is = refl
valid (Some r) is = absurd cc

pub refused : (o : Option Reason) (r : Reason) → Invalid r ≡ outcome o → Some r ≡ o
refused None r is = absurd cc
refused (Some s) r is = let same : r ≡ s = cc in ap (λ (x : Reason). Some x) same

pub refused_by : (a : Applied) (reason : Reason) (o : Option Reason) → a ≡ outcome o → a ≡ Invalid reason → Some reason ≡ o
refused_by a reason o is invalid = refused o reason (sym invalid ∙ is)

-- one act more was valid
pub laid_next : (start m n : PlainState) (all before after : List (ℕ × Act)) (line : ℕ) (act : Act) → laid m before ≡ laid start all → before ≡ (line, act) ∷ after → None ≡ reason_of_act m act → n ≡ effect m act → laid n after ≡ laid start all
laid_next start m n all before after line act so_far split valid n_is =
    ap (λ (x : PlainState). laid x after) n_is ∙ sym (laid_valid m line act after (sym valid)) ∙ ap (laid m) (sym split) ∙ so_far

-- or was invalid
pub laid_stops : (start m : PlainState) (all before after : List (ℕ × Act)) (line : ℕ) (act : Act) (reason : Reason) → laid m before ≡ laid start all → before ≡ (line, act) ∷ after → Some reason ≡ reason_of_act m act → laid start all ≡ Err (line, reason)
laid_stops start m all before after line act reason so_far split refused = sym so_far ∙ ap (laid m) split ∙ laid_refused m line act after reason (sym refused)

pub laid_ends : (start m : PlainState) (all before : List (ℕ × Act)) → laid m before ≡ laid start all → before ≡ [] → laid start all ≡ Ok m
laid_ends start m all before so_far none = sym so_far ∙ ap (laid m) none

sound_empty : IsSound empty
sound_empty = sound-built empty [] refl

-- what acts lead to from nothing
pub laid_is : (acts : List (ℕ × Act)) (old new s : StateView) → old ≡ nothing → laid (plain old) acts ≡ Ok (plain new) → new.version ≡ old.version → s ≡ new → IsLaid acts s
laid_is acts old new s old_is is version same =
    let from : laid empty acts ≡ Ok (plain s) = ap (λ (x : StateView). laid (plain x) acts) (sym old_is) ∙ is ∙ ap (λ (x : StateView). Ok (plain x)) (sym same) in
    record {
      state = from;
      version = ap (λ (x : StateView). x.version) same ∙ version ∙ ap (λ (x : StateView). x.version) old_is;
      sound = sound-laid empty (plain s) acts sound_empty from;
    }

pub laid_by : (bad : Option (ℕ × Reason)) (acts : List (ℕ × Act)) (old new s : StateView) → bad ≡ None → IfNone bad (laid (plain old) acts ≡ Ok (plain new)) → old ≡ nothing → new.version ≡ old.version → s ≡ new → IsLaid acts s
laid_by None acts old new s none is old_is version same = laid_is acts old new s old_is is version same
laid_by (Some x) acts old new s none is old_is version same = absurd cc

pub bad_is : (acts : List (ℕ × Act)) (old : StateView) (line : ℕ) (reason : Reason) → old ≡ nothing → laid (plain old) acts ≡ Err (line, reason) → laid empty acts ≡ Err (line, reason)
bad_is acts old line reason old_is is = ap (λ (x : StateView). laid (plain x) acts) (sym old_is) ∙ is
