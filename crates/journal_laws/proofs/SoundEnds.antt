-- Sound states along a journal.
use Rattle.std.proofs.Common.{ℕ, List, [], ◌∷◌, sym, subst}
use Rattle.std.specs.List.{AllByRecursion}
use Rattle.net_types.specs.Capacity.{Fits}
use Rattle.switch_model.specs.Journal.{Journal, Opening, fold, upto}
use Rattle.switch_model.specs.Legal.{IsLegal}
use Rattle.switch_model.specs.PlainState.{PlainState}
use Rattle.switch_model.specs.Rows.{rows}
use Rattle.switch_model.specs.Sound.{IsSound}
use Rattle.switch_laws.proofs.JournalLaws.{sound-fold}
use Rattle.journal_laws.proofs.EndLaws.{upto_journal_prefix}
use Rattle.journal_laws.proofs.LegalLaws.{legal_prefix}
use Rattle.journal_laws.proofs.WorldLaws.{world_kept}
use Rattle.journal_laws.specs.Worlds.{Answer, AreAllowed, IsTrueOf, Step, after, new_world}

pub sound_upto : (j : Journal) (n : ℕ) → IsLegal j → IsSound j.opening.state → IsSound (fold (upto j n))
sound_upto j n legal sound = sound-fold (upto j n) (legal_prefix (upto j n) j (upto_journal_prefix j n) legal) sound

-- an answer that is true of a legal journal
sound_answers : (j : Journal) (answers : List Answer) → IsLegal j → IsSound j.opening.state → AllByRecursion (IsTrueOf j) answers → AllByRecursion (λ a. IsSound a.state) answers
sound_answers j [] legal sound true_of = tt
sound_answers j (a ∷ answers) legal sound true_of =
    (subst (λ (s : PlainState). IsSound s) (sym true_of.0.state) (sound_upto j a.front legal sound), sound_answers j answers legal sound true_of.1)

pub world_sound : (o : Opening) (limit callers : ℕ) (steps : List Step) → Fits (rows o.state) o.caps → AreAllowed limit callers (new_world o) steps → IsSound o.state → AllByRecursion (λ (a : Answer). IsSound a.state) (after (new_world o) steps).answers
world_sound o limit callers steps fits may sound =
    let w = world_kept o limit callers steps fits may in
    let j : Journal = (after (new_world o) steps).journal in
    sound_answers j (after (new_world o) steps).answers w.may_come.legal (subst (λ (x : Opening). IsSound x.state) (sym w.opening) sound) w.answers
