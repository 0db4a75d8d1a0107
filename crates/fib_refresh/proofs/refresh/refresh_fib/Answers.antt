use Rattle.std.proofs.Common.{subst}
use Rattle.switch_model.specs.PlainState.{Rib}
use Rattle.fib_refresh.specs.Refreshed.{AreRefreshed}
use Rattle.fib_refresh.proofs.RefreshLaws.{refreshed-fib}
use Rattle.fib_refresh.proofs.refresh.refresh_fib.Goals as goal

pub returns-clause-fib : goal.returns-clause-fib
returns-clause-fib g c =
    let keys = c.in_ok-keys.keys in
    let now = c.refresh_entries.new.edit in
    let made = subst (λ (r : Rib). AreRefreshed r keys c.args.edit.now.state now.state) c.requires.resolver c.in_ok-refresh_entries.ensures.made in
    refreshed-fib c.args.edit.now now keys c.in_ok-refresh_entries.ensures.others made c.args.changed.now c.of.result c.routes.result.now c.routes-2.result.now c.intfs.result.now c.of.ensures c.routes.ensures.map c.intfs.ensures.map c.routes-2.ensures.map c.shape.ensures.prefixes c.in_ok-keys.ensures c.requires.listed c.requires.before c.shape-2.ensures.state
