-- What a run of pending submissions is.
use Rattle.std.specs.Prelude.{◌≡◌, ◌≤◌, ◌⊎◌, true, false, List, [], ◌∷◌, length}
use Rattle.std.specs.List.{AllByRecursion}
use Rattle.switch_model.specs.declared.act.Submission.{Submission}
use Rattle.keyed.specs.Prefix.{IsPrefix}

-- none is to be alone
abbrev pub NoneAlone : List Submission → Type 0
NoneAlone q = AllByRecursion (λ s. s.update.alone ≡ false) q

-- one submission that is to be alone
abbrev pub IsAlone : List Submission → Type 0
IsAlone q = (s : Submission) × (q ≡ s ∷ []) × (s.update.alone ≡ true)

-- the run of what is pending: its first submissions, 1 to 64 of them; one that is to be alone, or else none such and as many of those as there are
pub record IsRunOf (pending q : List Submission) : Type 0 where
  pub some : 1 ≤ length q
  pub at_most_64 : length q ≤ 64
  pub begins : IsPrefix q pending
  pub apart : IsAlone q ⊎ NoneAlone q
  pub longest : (r : List Submission) → IsPrefix r pending → NoneAlone r → length r ≤ 64 → IsPrefix r q
