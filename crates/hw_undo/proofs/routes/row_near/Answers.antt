use Rattle.std.proofs.Common.{◌∙◌, subst, sym}
use Rattle.hw_undo.specs.Targets.{LeadsTo}
use Rattle.hw_undo.proofs.TargetTests.{target_exact}
use Rattle.hw_undo.proofs.routes.row_near.Goals as goal

pub returns-then-eq : goal.returns-then-eq
returns-then-eq g c =
    let same = target_exact c.args.last.now.target.now c.args.target.now (sym c.eq.ensures ∙ c.if-eq.true) in
    subst (LeadsTo (g.C.HwSwitch.raw c.args.chip.now) c.args.last.now.row) same c.requires.last
