use Rattle.std.proofs.Common.{None, Some, arith, refl}
use Rattle.switch_model.specs.declared.journal.RoundKind.TheVariants.{One}
use Rattle.agent_core.proofs.Steps.{attempt_at, attempt_from, core_with, one_from, one_kept_is, one_kept_is_core, one_with, room_at, version_at}
use Rattle.agent_core.proofs.switch_core.Core.one.Goals as goal

pub attempt-requires-clause-some : goal.attempt-requires-clause-some
attempt-requires-clause-some g c = omega (arith, c.requires.single)

pub attempt-requires-clause-room : goal.attempt-requires-clause-room
attempt-requires-clause-room g c = rw c.requires.single (room_at _ c.args.self.now 1 c.self.view_is c.requires.room)

pub attempt-requires-clause-version : goal.attempt-requires-clause-version
attempt-requires-clause-version g c = version_at _ c.args.self.now c.self.view_is c.requires.version

pub invariant_of-self : goal.invariant_of-self
invariant_of-self g c = core_with _ _ _ _ _ _ c.publish.ensures.next
    (one_kept_is_core c.args.first.now _ _ c.in_ok-attempt.attempt.next c.in_ok-attempt.attempt.share refl c.self.invariant c.shape.ensures.published c.requires.single
    (attempt_at _ _ _ _ c.in_ok-attempt.attempt.changes None c.in-None.is c.in_ok-attempt.ensures.attempt))

pub one_written-requires-clause-room : goal.one_written-requires-clause-room
one_written-requires-clause-room g c = c.requires.room

pub one_written-requires-clause-attempt : goal.one_written-requires-clause-attempt
one_written-requires-clause-attempt g c = attempt_from One c.args.first.now _ c.args.self.now _ _ _ c.self.view_is (attempt_at _ _ _ _ c.in_ok-attempt.attempt.changes _ c.in-Some.is c.in_ok-attempt.ensures.attempt)

pub returns-in-None-clause-done : goal.returns-in-None-clause-done
returns-in-None-clause-done g c = one_with c.args.first.now c.args.self.now _ _ _ _ _ _ _ c.publish.ensures.next c.in_ok-attempt.ensures.attempt.shared
    (one_from c.args.first.now _ c.args.self.now _ c.self.view_is
    (one_kept_is c.args.first.now _ _ c.in_ok-attempt.attempt.next c.in_ok-attempt.attempt.share refl c.requires.single
    (attempt_at _ _ _ _ c.in_ok-attempt.attempt.changes None c.in-None.is c.in_ok-attempt.ensures.attempt)))

pub returns-in-Some-clause-done : goal.returns-in-Some-clause-done
returns-in-Some-clause-done g c = c.one_written.ensures.done

pub returns-in-Some-clause-err : goal.returns-in-Some-clause-err
returns-in-Some-clause-err g c = c.one_written.ensures.err
