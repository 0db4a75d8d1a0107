use Rattle.std.proofs.Common.{None, Some, arith, refl}
use Rattle.switch_model.specs.declared.journal.RoundKind.TheVariants.{Whole}
use Rattle.core_laws.proofs.SettledLaws.{run_some}
use Rattle.core_laws.specs.Rounds.{tried_round}
use Rattle.agent_core.proofs.Steps.{attempt_at, attempt_from, core_with, room_at, too_much_from, version_at, whole_from, whole_kept, whole_kept_core, whole_with}
use Rattle.agent_core.proofs.switch_core.Core.whole.Goals as goal

pub attempt-requires-clause-some : goal.attempt-requires-clause-some
attempt-requires-clause-some g c = run_some c.args.run.now c.requires.run

pub attempt-requires-clause-room : goal.attempt-requires-clause-room
attempt-requires-clause-room g c = room_at _ c.args.self.now _ c.self.view_is c.requires.room

pub attempt-requires-clause-version : goal.attempt-requires-clause-version
attempt-requires-clause-version g c = version_at _ c.args.self.now c.self.view_is c.requires.version

pub invariant_of-self : goal.invariant_of-self
invariant_of-self g c = core_with _ _ _ _ _ _ c.publish.ensures.next
    (whole_kept_core c.args.run.now _ _ c.in_ok-attempt.attempt.next c.in_ok-attempt.attempt.share refl c.self.invariant c.shape.ensures.published c.requires.run
    (attempt_at _ _ _ _ c.in_ok-attempt.attempt.changes None c.in-None.is c.in_ok-attempt.ensures.attempt))

pub whole_written-requires-clause-attempt : goal.whole_written-requires-clause-attempt
whole_written-requires-clause-attempt g c = attempt_from Whole c.args.run.now _ c.args.self.now _ _ _ c.self.view_is (attempt_at _ _ _ _ c.in_ok-attempt.attempt.changes _ c.in-Some.is c.in_ok-attempt.ensures.attempt)

pub returns-in-None-clause-done : goal.returns-in-None-clause-done
returns-in-None-clause-done g c = whole_with c.args.run.now c.args.self.now _ _ _ _ _ _ _ c.publish.ensures.next c.in_ok-attempt.ensures.attempt.shared
    (whole_from c.args.run.now _ c.args.self.now _ c.self.view_is
    (whole_kept c.args.run.now _ _ c.in_ok-attempt.attempt.next c.in_ok-attempt.attempt.share refl c.self.invariant c.shape.ensures.published
    (attempt_at _ _ _ _ c.in_ok-attempt.attempt.changes None c.in-None.is c.in_ok-attempt.ensures.attempt)))

pub returns-in-Some-clause-done : goal.returns-in-Some-clause-done
returns-in-Some-clause-done g c = c.whole_written.ensures.done

pub returns-in-Some-clause-full : goal.returns-in-Some-clause-full
returns-in-Some-clause-full g c = c.whole_written.ensures.full

pub returns-in-Some-clause-err : goal.returns-in-Some-clause-err
returns-in-Some-clause-err g c = c.whole_written.ensures.err
