use Rattle.std.proofs.Common.{subst, sym, ◌∙◌}
use Rattle.switch_model.specs.Fib.{fib}
use Rattle.switch_model.specs.PlainState.{Rib}
use Rattle.fib_build.proofs.BuildLaws.{built-end, built-more, built-fewer, fibs-now}
use Rattle.fib_build.proofs.WriteLaws.{kept-of, paths-of}
use Rattle.fib_build.specs.Part.{IsEntrySet}
use Rattle.fib_build.proofs.build.build_fib.Goals as goal

pub loop-key-smaller : goal.loop-key-smaller
loop-key-smaller g c =
    let rib = g.R.BestRoutes.rib c.args.routes.now in
    built-fewer rib c.args.edit.now c.loop-key.last c.loop-key.edit c.loop-key.invariant c.in-Some.key c.in-Some.ensures.next c.refresh_entry.new.edit (subst (λ (r : Rib). IsEntrySet c.in-Some.key (fib r c.in-Some.key.vrf c.in-Some.key.prefix) c.loop-key.edit.state c.refresh_entry.new.edit.state) (c.requires.resolver ∙ sym c.requires.routes) c.in_ok-refresh_entry.ensures.set) c.in-Some.ensures.state

pub loop-key-preserved : goal.loop-key-preserved
loop-key-preserved g c =
    let rib = g.R.BestRoutes.rib c.args.routes.now in
    built-more rib c.args.edit.now c.loop-key.last c.loop-key.edit c.loop-key.invariant c.in-Some.key c.in-Some.ensures.next c.refresh_entry.new.edit (subst (λ (r : Rib). IsEntrySet c.in-Some.key (fib r c.in-Some.key.vrf c.in-Some.key.prefix) c.loop-key.edit.state c.refresh_entry.new.edit.state) (c.requires.resolver ∙ sym c.requires.routes) c.in_ok-refresh_entry.ensures.set) c.in_ok-refresh_entry.ensures.others

pub returns-clause-fib : goal.returns-clause-fib
returns-clause-fib g c =
    let rib = g.R.BestRoutes.rib c.args.routes.now in
    fibs-now rib c.args.edit.now c.loop-key.edit c.requires.routes c.loop-key.invariant.others (built-end rib c.args.edit.now c.loop-key.last c.loop-key.edit c.loop-key.invariant c.shape.ensures.state c.in_default.ensures.next)

pub returns-clause-kept : goal.returns-clause-kept
returns-clause-kept g c = kept-of c.args.edit.now.state c.loop-key.edit.state c.loop-key.invariant.writes

pub returns-clause-paths : goal.returns-clause-paths
returns-clause-paths g c = paths-of c.args.edit.now.state c.loop-key.edit.state c.loop-key.invariant.writes
