use Rattle.std.proofs.Common.{ℕ, Bool, List, map}
use Rattle.std.specs.String.{string_bytes}
use Rattle.agent_run.specs.Standing.{sures_of}
use Rattle.run_outcome.specs.Top.{Outside, outside}
use Rattle.run_outcome.proofs.TopLaws.{served_complete, served_cut_short, served_done, served_full, served_misused, served_nothing, served_read_fault, served_script, served_too_long, served_words, served_write_fault}
use Rattle.agent_run.proofs.top.agent_main.Goals as goal

pub returns-clause-done : goal.returns-clause-done
returns-clause-done g c =
    let sures : List Bool = sures_of (map g.O.StateObserver.watch c.args.observers.list.items) in
    let words : List (List ℕ) = map string_bytes c.args.words.now.items in
    let old : Outside = outside g.S.Source.left g.S.Source.faults g.K.Sink.written g.K.Sink.faults c.args.source.now c.args.sink.now in
    let new : Outside = outside g.S.Source.left g.S.Source.faults g.K.Sink.written g.K.Sink.faults c.serve.new.source c.serve.new.sink in
    served_done sures words old new c.serve.result c.serve.ensures.served

pub returns-clause-misused : goal.returns-clause-misused
returns-clause-misused g c =
    let sures : List Bool = sures_of (map g.O.StateObserver.watch c.args.observers.list.items) in
    let words : List (List ℕ) = map string_bytes c.args.words.now.items in
    let old : Outside = outside g.S.Source.left g.S.Source.faults g.K.Sink.written g.K.Sink.faults c.args.source.now c.args.sink.now in
    let new : Outside = outside g.S.Source.left g.S.Source.faults g.K.Sink.written g.K.Sink.faults c.serve.new.source c.serve.new.sink in
    served_misused sures words old new c.serve.result c.serve.ensures.served

pub returns-clause-script : goal.returns-clause-script
returns-clause-script g c =
    let sures : List Bool = sures_of (map g.O.StateObserver.watch c.args.observers.list.items) in
    let words : List (List ℕ) = map string_bytes c.args.words.now.items in
    let old : Outside = outside g.S.Source.left g.S.Source.faults g.K.Sink.written g.K.Sink.faults c.args.source.now c.args.sink.now in
    let new : Outside = outside g.S.Source.left g.S.Source.faults g.K.Sink.written g.K.Sink.faults c.serve.new.source c.serve.new.sink in
    served_script sures words old new c.serve.result c.serve.ensures.served

pub returns-clause-opening_full : goal.returns-clause-opening_full
returns-clause-opening_full g c =
    let sures : List Bool = sures_of (map g.O.StateObserver.watch c.args.observers.list.items) in
    let words : List (List ℕ) = map string_bytes c.args.words.now.items in
    let old : Outside = outside g.S.Source.left g.S.Source.faults g.K.Sink.written g.K.Sink.faults c.args.source.now c.args.sink.now in
    let new : Outside = outside g.S.Source.left g.S.Source.faults g.K.Sink.written g.K.Sink.faults c.serve.new.source c.serve.new.sink in
    served_full sures words old new c.serve.result c.serve.ensures.served

pub returns-clause-read_fault : goal.returns-clause-read_fault
returns-clause-read_fault g c =
    let sures : List Bool = sures_of (map g.O.StateObserver.watch c.args.observers.list.items) in
    let words : List (List ℕ) = map string_bytes c.args.words.now.items in
    let old : Outside = outside g.S.Source.left g.S.Source.faults g.K.Sink.written g.K.Sink.faults c.args.source.now c.args.sink.now in
    let new : Outside = outside g.S.Source.left g.S.Source.faults g.K.Sink.written g.K.Sink.faults c.serve.new.source c.serve.new.sink in
    served_read_fault sures words old new c.serve.result c.serve.ensures.served

pub returns-clause-write_fault : goal.returns-clause-write_fault
returns-clause-write_fault g c =
    let sures : List Bool = sures_of (map g.O.StateObserver.watch c.args.observers.list.items) in
    let words : List (List ℕ) = map string_bytes c.args.words.now.items in
    let old : Outside = outside g.S.Source.left g.S.Source.faults g.K.Sink.written g.K.Sink.faults c.args.source.now c.args.sink.now in
    let new : Outside = outside g.S.Source.left g.S.Source.faults g.K.Sink.written g.K.Sink.faults c.serve.new.source c.serve.new.sink in
    served_write_fault sures words old new c.serve.result c.serve.ensures.served

pub returns-clause-cut_short : goal.returns-clause-cut_short
returns-clause-cut_short g c =
    let sures : List Bool = sures_of (map g.O.StateObserver.watch c.args.observers.list.items) in
    let words : List (List ℕ) = map string_bytes c.args.words.now.items in
    let old : Outside = outside g.S.Source.left g.S.Source.faults g.K.Sink.written g.K.Sink.faults c.args.source.now c.args.sink.now in
    let new : Outside = outside g.S.Source.left g.S.Source.faults g.K.Sink.written g.K.Sink.faults c.serve.new.source c.serve.new.sink in
    served_cut_short sures words old new c.serve.result c.serve.ensures.served

pub returns-clause-too_long : goal.returns-clause-too_long
returns-clause-too_long g c =
    let sures : List Bool = sures_of (map g.O.StateObserver.watch c.args.observers.list.items) in
    let words : List (List ℕ) = map string_bytes c.args.words.now.items in
    let old : Outside = outside g.S.Source.left g.S.Source.faults g.K.Sink.written g.K.Sink.faults c.args.source.now c.args.sink.now in
    let new : Outside = outside g.S.Source.left g.S.Source.faults g.K.Sink.written g.K.Sink.faults c.serve.new.source c.serve.new.sink in
    served_too_long sures words old new c.serve.result c.serve.ensures.served

pub returns-clause-nothing_written : goal.returns-clause-nothing_written
returns-clause-nothing_written g c =
    let sures : List Bool = sures_of (map g.O.StateObserver.watch c.args.observers.list.items) in
    let words : List (List ℕ) = map string_bytes c.args.words.now.items in
    let old : Outside = outside g.S.Source.left g.S.Source.faults g.K.Sink.written g.K.Sink.faults c.args.source.now c.args.sink.now in
    let new : Outside = outside g.S.Source.left g.S.Source.faults g.K.Sink.written g.K.Sink.faults c.serve.new.source c.serve.new.sink in
    served_nothing sures words old new c.serve.result c.serve.ensures.served

pub returns-clause-complete : goal.returns-clause-complete
returns-clause-complete g c =
    let sures : List Bool = sures_of (map g.O.StateObserver.watch c.args.observers.list.items) in
    let words : List (List ℕ) = map string_bytes c.args.words.now.items in
    let old : Outside = outside g.S.Source.left g.S.Source.faults g.K.Sink.written g.K.Sink.faults c.args.source.now c.args.sink.now in
    let new : Outside = outside g.S.Source.left g.S.Source.faults g.K.Sink.written g.K.Sink.faults c.serve.new.source c.serve.new.sink in
    served_complete sures words old new c.serve.result c.serve.ensures.served

pub returns-clause-words : goal.returns-clause-words
returns-clause-words g c =
    let sures : List Bool = sures_of (map g.O.StateObserver.watch c.args.observers.list.items) in
    let words : List (List ℕ) = map string_bytes c.args.words.now.items in
    let old : Outside = outside g.S.Source.left g.S.Source.faults g.K.Sink.written g.K.Sink.faults c.args.source.now c.args.sink.now in
    let new : Outside = outside g.S.Source.left g.S.Source.faults g.K.Sink.written g.K.Sink.faults c.serve.new.source c.serve.new.sink in
    (λ is. (served_misused sures words old new c.serve.result c.serve.ensures.served is).other, served_words sures words old new c.serve.result c.serve.ensures.served)
