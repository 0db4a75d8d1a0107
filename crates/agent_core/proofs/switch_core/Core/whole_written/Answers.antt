use Rattle.std.proofs.lemmas.Result.{IfOk-from_err}
use Rattle.switch_model.specs.declared.journal.RoundKind.TheVariants.{Whole}
use Rattle.agent_core.proofs.Steps.{closed_rows, core_with, kept_as, kept_followed, old_rows, undone_at, refused_with, undone_is_core, view_as, whole_done, whole_done_core, whole_undone, whole_with, written_at}
use Rattle.agent_core.proofs.switch_core.Core.whole_written.Goals as goal

pub write-requires-clause-old : goal.write-requires-clause-old
write-requires-clause-old g c = old_rows Whole c.args.run.now _ c.args.self.now c.args.next c.args.share c.args.changes c.self.view_is c.self.invariant c.requires.attempt

pub write-requires-clause-closed : goal.write-requires-clause-closed
write-requires-clause-closed g c = closed_rows Whole c.args.run.now _ c.args.self.now c.args.next c.args.share c.args.changes c.self.view_is c.self.invariant c.requires.attempt

pub write-requires-clause-follows : goal.write-requires-clause-follows
write-requires-clause-follows g c = kept_followed Whole c.args.run.now _ c.args.self.now c.args.next c.args.share c.args.changes c.state.result.now c.self.view_is c.self.invariant c.requires.attempt c.state.ensures.state

pub invariant_of-self : goal.invariant_of-self
invariant_of-self g c = kept_as g.C.HwSwitch.raw g.C.HwSwitch.caps g.C.HwSwitch.writes _ _ _ _ _ c.in_err-full.ensures.chip c.in_err-full.ensures.audience c.self.invariant

pub invariant_of-self-in-None : goal.invariant_of-self-in-None
invariant_of-self-in-None g c = core_with _ _ _ _ _ _ c.publish.ensures.next
    (whole_done_core c.args.run.now _ c.args.self.now c.args.next c.args.share c.args.changes c.state.result.now _ _ _ _ c.self.view_is c.self.invariant c.shape.ensures.published c.shape-2.ensures.published c.requires.run c.requires.attempt c.state.ensures.state c.write.ensures.caps
    (written_at _ c.in_ok-full.full c.in-None.is c.in_ok-full.ensures.written))

pub invariant_of-self-in-Some : goal.invariant_of-self-in-Some
invariant_of-self-in-Some g c = undone_is_core _ c.args.changes _ _ _ _ _ c.self.invariant c.write.ensures.caps (undone_at _ c.in_ok-full.full _ c.in-Some.is c.in_ok-full.ensures.undone)

pub returns-in-None-clause-done : goal.returns-in-None-clause-done
returns-in-None-clause-done g c = whole_with c.args.run.now c.args.self.now _ _ _ _ _ _ _ c.publish.ensures.next c.requires.attempt.shared
    (whole_done c.args.run.now _ c.args.self.now c.args.next c.args.share c.args.changes c.state.result.now _ _ _ _ c.self.view_is c.self.invariant c.requires.attempt c.state.ensures.state c.write.ensures.caps
    (written_at _ c.in_ok-full.full c.in-None.is c.in_ok-full.ensures.written))

pub returns-in-Some-clause-full : goal.returns-in-Some-clause-full
returns-in-Some-clause-full g c = whole_undone _ c.args.run.now _ c.args.self.now c.args.next c.args.share c.args.changes _ _ _ _ c.self.view_is c.self.invariant c.requires.attempt c.write.ensures.caps (undone_at _ c.in_ok-full.full _ c.in-Some.is c.in_ok-full.ensures.undone)

pub returns-in_err-full-clause-done : goal.returns-in_err-full-clause-done
returns-in_err-full-clause-done g c = IfOk-from_err c.from_residual.result _ c.from_residual.ensures.0

pub returns-in_err-full-clause-full : goal.returns-in_err-full-clause-full
returns-in_err-full-clause-full g c = IfOk-from_err c.from_residual.result _ c.from_residual.ensures.0

pub returns-in_err-full-clause-err : goal.returns-in_err-full-clause-err
returns-in_err-full-clause-err g c = refused_with c.from_residual.result (view_as g.C.HwSwitch.raw g.C.HwSwitch.caps g.C.HwSwitch.writes _ _ _ _ _ _ c.in_err-full.ensures.chip c.in_err-full.ensures.audience c.self.view_is)
