use Rattle.std.proofs.Common.{sym, ap, ◌∙◌}
use Rattle.switch_model.specs.Looking.{resolved_entry}
use Rattle.fib_build.proofs.EntryLaws.{set-as}
use Rattle.fib_build.proofs.entry.refresh_entry.Goals as goal

pub returns-in-Connected-clause-set : goal.returns-in-Connected-clause-set
returns-in-Connected-clause-set g c = set-as c.put_entry.result c.args.key.now _ _ _ _ (ap resolved_entry (sym c.in-Connected.is) ∙ c.in_ok-intf.ensures) c.put_entry.ensures.set

pub returns-in-Forward-clause-set : goal.returns-in-Forward-clause-set
returns-in-Forward-clause-set g c = set-as c.put_entry-in-Forward.result c.args.key.now _ _ _ _ (ap resolved_entry (sym c.in-Forward.is) ∙ c.in_ok-intf.ensures) c.put_entry-in-Forward.ensures.set

pub returns-in-ToCpu-clause-set : goal.returns-in-ToCpu-clause-set
returns-in-ToCpu-clause-set g c = set-as c.put_entry-in-ToCpu.result c.args.key.now _ _ _ _ (ap resolved_entry (sym c.in-ToCpu.is) ∙ c.in_ok-intf.ensures) c.put_entry-in-ToCpu.ensures.set

pub returns-in-Discard-clause-set : goal.returns-in-Discard-clause-set
returns-in-Discard-clause-set g c = set-as c.put_entry-in-Discard.result c.args.key.now _ _ _ _ (ap resolved_entry (sym c.in-Discard.is) ∙ c.in_ok-intf.ensures) c.put_entry-in-Discard.ensures.set

pub returns-in-Nothing-clause-set : goal.returns-in-Nothing-clause-set
returns-in-Nothing-clause-set g c = set-as c.cut_entry.result c.args.key.now _ _ _ _ (ap resolved_entry (sym c.in-Nothing.is) ∙ c.in_ok-intf.ensures) c.cut_entry.ensures.set
