use Rattle.state_delta.proofs.Changes.{none_removed, some_removed}
use Rattle.state_delta.proofs.search.first_removed.Goals as goal

pub returns-in-None : goal.returns-in-None
returns-in-None g c = none_removed c.args.last.now c.args.tree.now.entries c.in-None.ensures

pub returns-in-Some : goal.returns-in-Some
returns-in-Some g c = some_removed c.args.last.now c.args.tree.now.entries c.in-Some.key.now c.in-Some.node.now c.value.result.now c.value.ensures c.in-Some.ensures
