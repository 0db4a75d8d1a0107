use Rattle.std.proofs.Common.{inl, inr, false, refl, arith}
use Rattle.report_text.proofs.RowLaws.{members_done, members_text-step}
use Rattle.report_text.proofs.tables.write_members.Goals as goal

pub loop-place-preserved : goal.loop-place-preserved
loop-place-preserved c = members_text-step _ _ _ c.args.hosts.now c.args.marks.now c.loop-place.place c.index-hosts-place.result _ false c.loop-place-test.true c.if-place-marks.true c.index-hosts-place.is refl c.loop-place.invariant c.in_ok-write_member.ensures

pub returns-else-place-marks : goal.returns-else-place-marks
returns-else-place-marks c = members_done _ _ c.args.hosts.now c.args.marks.now c.loop-place.place (inr (omega (arith, c.if-place-marks.false))) c.loop-place.invariant

pub returns-after-loop-place : goal.returns-after-loop-place
returns-after-loop-place c = members_done _ _ c.args.hosts.now c.args.marks.now c.loop-place.place (inl (omega (arith, c.loop-place-test.false))) c.loop-place.invariant
