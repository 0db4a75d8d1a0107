use Rattle.std.proofs.Common.{rules, ℕ, Bool, List, map}
use Rattle.std.specs.String.{string_bytes}
use Rattle.agent_run.specs.Standing.{sures_of}
use Rattle.run_outcome.specs.Top.{Outside, ReadsAll, outside}
use Rattle.run_outcome.proofs.TopLaws.{served_answer}
use Rattle.agent_run.proofs.top.serve.Goals as goal

pub returns-in-Ok-clause-served : goal.returns-in-Ok-clause-served
returns-in-Ok-clause-served g c =
    let sures : List Bool = sures_of (map g.O.StateObserver.watch c.args.observers.list.items) in
    let words : List (List ℕ) = map string_bytes c.args.words.now.items in
    let old : Outside = outside g.S.Source.left g.S.Source.faults g.K.Sink.written g.K.Sink.faults c.args.source.now c.args.sink.now in
    let new : Outside = outside g.S.Source.left g.S.Source.faults g.K.Sink.written g.K.Sink.faults c.read_all.new.source c.answer.new.sink in
    let read : ReadsAll old new c.deref.result.now = rw c.deref.ensures.value (record { whole = c.in-Ok.ensures.all; within = c.in-Ok.ensures.within }) in
    served_answer sures words c.deref.result.now old new c.answer.result (search rules) read c.answer.ensures.answered
