use Rattle.route_laws.proofs.BestLaws.{best_keys-ascend}
use Rattle.switch_model.specs.LongestMatch.{best_keys}
use Rattle.switch_state.specs.Plain.{fib_entries}
use Rattle.fib_build.proofs.EntryLaws.{entries-ascend}
use Rattle.fib_build.proofs.Keys.{keys-ascend}
use Rattle.fib_build.proofs.NextLaws.{next-lesser}
use Rattle.keyed.specs.Ranges.{keys_of}
use Rattle.fib_build.proofs.next.next_key.Goals as goal

pub returns-clause-next : goal.returns-clause-next
returns-clause-next g c =
    let s = c.args.edit.now.state in
    next-lesser c.args.last.now (best_keys (g.R.BestRoutes.rib c.args.routes.now)) (keys_of (fib_entries s)) c.after-first.result c.entry_after-second.result c.lesser.result (best_keys-ascend (g.R.BestRoutes.rib c.args.routes.now)) (keys-ascend (fib_entries s) (entries-ascend s c.shape.ensures.state)) c.after-first.ensures c.entry_after-second.ensures c.lesser.ensures
