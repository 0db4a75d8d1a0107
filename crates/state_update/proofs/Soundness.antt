-- Updates leave a sound state sound.
use Rattle.std.proofs.Common.{◌≡◌, Option, None, Some, refl, sym, subst}
use Rattle.switch_laws.proofs.SoundLaws.{sound-kept}
use Rattle.switch_model.specs.declared.act.Act.{Act}
use Rattle.switch_model.specs.declared.verdict.Reason.{Reason}
use Rattle.switch_model.specs.Effect.{effect}
use Rattle.switch_model.specs.PlainState.{PlainState}
use Rattle.switch_model.specs.Reason.{reason_of_act}
use Rattle.switch_model.specs.Sound.{IsSound}

-- what an act with no reason against it has come to
pub sound_done : (m n : PlainState) (act : Act) → reason_of_act m act ≡ None → n ≡ effect m act → IsSound m → IsSound n
sound_done m n act none is sound = subst (λ (s : PlainState). IsSound s) (sym is) (sound-kept m act sound none)

-- what is no reason is none
pub none_of : (o : Option Reason) → ((r : Reason) → o ≡ Some r → ⊥) → o ≡ None
none_of None none = refl
none_of (Some r) none = absurd (none r refl)
