use Rattle.std.proofs.Common.{refl}
use Rattle.switch_model.specs.declared.journal.RoundKind.TheVariants.{One}
use Rattle.agent_core.proofs.Steps.{closed_rows, core_with, kept_as, kept_followed, old_rows, one_done_core, one_done_is, one_refused_is, one_refused_is_core, one_with, refusals_from, undone_at, written_at}
use Rattle.agent_core.proofs.switch_core.Core.one_written.Goals as goal

pub write-requires-clause-old : goal.write-requires-clause-old
write-requires-clause-old g c = old_rows One c.args.first.now _ c.args.self.now c.args.next c.args.share c.args.changes c.self.view_is c.self.invariant c.requires.attempt

pub write-requires-clause-closed : goal.write-requires-clause-closed
write-requires-clause-closed g c = closed_rows One c.args.first.now _ c.args.self.now c.args.next c.args.share c.args.changes c.self.view_is c.self.invariant c.requires.attempt

pub write-requires-clause-follows : goal.write-requires-clause-follows
write-requires-clause-follows g c = kept_followed One c.args.first.now _ c.args.self.now c.args.next c.args.share c.args.changes c.state.result.now c.self.view_is c.self.invariant c.requires.attempt c.state.ensures.state

pub invariant_of-self-in-None : goal.invariant_of-self-in-None
invariant_of-self-in-None g c = core_with _ _ _ _ _ _ c.publish.ensures.next
    (one_done_core c.args.first.now _ c.args.self.now c.args.next c.args.share c.args.changes c.state.result.now _ _ _ _ c.self.view_is c.self.invariant c.shape.ensures.published c.shape-2.ensures.published c.requires.single c.requires.attempt c.state.ensures.state c.write.ensures.caps
    (written_at _ c.in_ok-full.full c.in-None.is c.in_ok-full.ensures.written))

pub returns-in-None-clause-done : goal.returns-in-None-clause-done
returns-in-None-clause-done g c = one_with c.args.first.now c.args.self.now _ _ _ _ _ _ _ c.publish.ensures.next c.requires.attempt.shared
    (one_done_is c.args.first.now _ c.args.self.now c.args.next c.args.share c.args.changes c.state.result.now _ _ _ _ c.self.view_is c.self.invariant c.requires.single c.requires.attempt c.state.ensures.state c.write.ensures.caps
    (written_at _ c.in_ok-full.full c.in-None.is c.in_ok-full.ensures.written))

pub invariant_of-self : goal.invariant_of-self
invariant_of-self g c = kept_as g.C.HwSwitch.raw g.C.HwSwitch.caps g.C.HwSwitch.writes _ _ _ _ _ c.in_err-full.ensures.chip c.in_err-full.ensures.audience c.self.invariant

pub invariant_of-self-in-Some : goal.invariant_of-self-in-Some
invariant_of-self-in-Some g c = core_with _ _ _ _ _ _ c.publish-in-Some.ensures.next
    (one_refused_is_core c.in-Some.table c.args.first.now _ c.args.self.now c.args.next c.args.share c.pick-refused.result.next c.pick-refused.result.share c.args.changes _ _ _ _ c.self.view_is c.self.invariant c.shape.ensures.published c.requires.single c.requires.attempt
    (c.pick-refused.ensures.picked c.args.first.now c.args.self.now.published (refusals_from c.args.first.now _ c.args.self.now c.in_ok-refusals.refusals c.self.view_is c.in_ok-refusals.ensures.refusals))
    c.write.ensures.caps (undone_at _ c.in_ok-full.full _ c.in-Some.is c.in_ok-full.ensures.undone))

pub returns-in-Some-clause-done : goal.returns-in-Some-clause-done
returns-in-Some-clause-done g c =
    let refusal = c.pick-refused.ensures.picked c.args.first.now c.args.self.now.published (refusals_from c.args.first.now _ c.args.self.now c.in_ok-refusals.refusals c.self.view_is c.in_ok-refusals.ensures.refusals) in
    one_with c.args.first.now c.args.self.now _ _ _ _ _ _ _ c.publish-in-Some.ensures.next refusal.shared
    (one_refused_is c.in-Some.table c.args.first.now _ c.args.self.now c.args.next c.args.share c.pick-refused.result.next c.pick-refused.result.share c.args.changes _ _ _ _ c.self.view_is c.self.invariant c.requires.single c.requires.attempt
    refusal c.write.ensures.caps (undone_at _ c.in_ok-full.full _ c.in-Some.is c.in_ok-full.ensures.undone))
