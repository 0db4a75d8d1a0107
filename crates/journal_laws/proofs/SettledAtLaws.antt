-- Rounds until a submission is settled.
use Rattle.std.proofs.Common.{◌≤◌, ◌<◌, ◌+◌, ℕ, zero, suc, nat_lt, List, length, sym, subst, inl, inr, arith}
use Rattle.std.proofs.lemmas.Bool.{cases_Bool, cond-true, cond-false, ltb-true, ltb-false}
use Rattle.std.proofs.lemmas.List.{length-drop}
use Rattle.switch_model.specs.declared.act.Submission.{Submission}
use Rattle.switch_model.specs.declared.journal.Round.{Round}
use Rattle.switch_model.specs.Journal.{Journal, len, pending, with_round}
use Rattle.switch_model.specs.MayComeOf.{MayComeOf, SettlesNext}
use Rattle.switch_model.specs.Round.{next_round, run}
use Rattle.journal_laws.specs.SettledAt.{IsSettledAfter, settled_at, with_next}
use Rattle.journal_laws.proofs.EndLaws.{journal_prefix_self, journal_prefix_push, journal_prefix_trans}
use Rattle.keyed.specs.Prefix.{prefix_self}
use Rattle.journal_laws.proofs.MayComeLaws.{next_progress, may_come_round, settles_next}

next_of : (sent : List Submission) (j : Journal) → len j < length sent → SettlesNext sent j (next_round j (run (pending sent j)))
next_of sent j more = settles_next sent j (pending sent j) (prefix_self (pending sent j)) (omega (arith, length-drop (len j) sent, more))

-- as many rounds as there are submissions are enough
pub settled_after : (n : ℕ) (sent : List Submission) (position : ℕ) (j : Journal) → MayComeOf sent j → position < length sent → length sent ≤ n + len j → IsSettledAfter sent position j (settled_at n sent position j)
settled_after zero sent position j may_come there enough = record { may_come = may_come; begins = journal_prefix_self j; settled = omega (arith, there, enough) }
settled_after (suc n) sent position j may_come there enough = elim (cases_Bool (nat_lt position (len j))) [
  | inl done ↦
      subst (IsSettledAfter sent position j) (sym (cond-true (nat_lt position (len j)) j (settled_at n sent position (with_next sent j)) done))
      (record { may_come = may_come; begins = journal_prefix_self j; settled = ltb-true position (len j) done })
  | inr left ↦
      let behind = ltb-false position (len j) left in
      let r : Round = next_round j (run (pending sent j)) in
      let next : SettlesNext sent j r = next_of sent j (omega (arith, behind, there)) in
      let progress = next_progress sent j r may_come next in
      let rest : IsSettledAfter sent position (with_round j r) (settled_at n sent position (with_round j r)) = settled_after n sent position (with_round j r) (may_come_round sent j r may_come next) there (omega (arith, progress.0, enough)) in
      subst (IsSettledAfter sent position j) (sym (cond-false (nat_lt position (len j)) j (settled_at n sent position (with_next sent j)) left))
      (record { may_come = rest.may_come; begins = journal_prefix_trans j (with_round j r) (settled_at n sent position (with_round j r)) (journal_prefix_push j r) rest.begins; settled = rest.settled })
]
