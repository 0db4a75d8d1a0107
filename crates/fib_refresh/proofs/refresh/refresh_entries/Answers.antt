use Rattle.fib_build.proofs.WriteLaws.{kept-of, paths-of}
use Rattle.fib_refresh.proofs.RefreshLaws.{refreshed-all, refreshed-fewer, refreshed-more, refreshed-start}
use Rattle.fib_refresh.proofs.refresh.refresh_entries.Goals as goal

pub loop-key-init : goal.loop-key-init
loop-key-init g c = refreshed-start (g.S.Resolver.rib c.args.resolver.now) c.args.edit.now c.args.keys.now

pub loop-key-smaller : goal.loop-key-smaller
loop-key-smaller g c = refreshed-fewer (g.S.Resolver.rib c.args.resolver.now) c.args.edit.now c.args.keys.now c.loop-key.last c.loop-key.edit c.loop-key.invariant c.shape.ensures.ascend c.in-Some.key c.in-Some.ensures c.refresh_entry.new.edit c.in_ok-refresh_entry.ensures.set

pub loop-key-preserved : goal.loop-key-preserved
loop-key-preserved g c = refreshed-more (g.S.Resolver.rib c.args.resolver.now) c.args.edit.now c.args.keys.now c.loop-key.last c.loop-key.edit c.loop-key.invariant c.shape.ensures.ascend c.in-Some.key c.in-Some.ensures c.refresh_entry.new.edit c.in_ok-refresh_entry.ensures.set c.in_ok-refresh_entry.ensures.others

pub returns-clause-made : goal.returns-clause-made
returns-clause-made g c = refreshed-all (g.S.Resolver.rib c.args.resolver.now) c.args.edit.now c.args.keys.now c.loop-key.last c.loop-key.edit c.loop-key.invariant c.shape.ensures.ascend c.in_default.ensures

pub returns-clause-kept : goal.returns-clause-kept
returns-clause-kept g c = kept-of c.args.edit.now.state c.loop-key.edit.state c.loop-key.invariant.writes

pub returns-clause-paths : goal.returns-clause-paths
returns-clause-paths g c = paths-of c.args.edit.now.state c.loop-key.edit.state c.loop-key.invariant.writes
