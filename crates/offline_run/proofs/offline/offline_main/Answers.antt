use Rattle.std.proofs.Common.{ℕ, List, map}
use Rattle.std.specs.String.{string_bytes}
use Rattle.offline_run.specs.Offline.{Edges, edges}
use Rattle.offline_run.proofs.OfflineLaws.{check_complete, length_told, refusal_told, words_told}
use Rattle.offline_run.proofs.offline.offline_main.Goals as goal

pub returns-clause-words : goal.returns-clause-words
returns-clause-words g c =
    let words : List (List ℕ) = map string_bytes c.args.words.now.items in
    let old : Edges = edges g.F.Store.texts g.F.Store.faults g.K.Sink.written g.K.Sink.faults c.args.store.now c.args.sink.now in
    let new : Edges = edges g.F.Store.texts g.F.Store.faults g.K.Sink.written g.K.Sink.faults c.serve.new.store c.serve.new.sink in
    words_told words old new c.serve.result c.serve.ensures.served

pub returns-clause-too_long : goal.returns-clause-too_long
returns-clause-too_long g c =
    let words : List (List ℕ) = map string_bytes c.args.words.now.items in
    let old : Edges = edges g.F.Store.texts g.F.Store.faults g.K.Sink.written g.K.Sink.faults c.args.store.now c.args.sink.now in
    let new : Edges = edges g.F.Store.texts g.F.Store.faults g.K.Sink.written g.K.Sink.faults c.serve.new.store c.serve.new.sink in
    length_told words old new c.serve.result c.serve.ensures.served

pub returns-clause-saved : goal.returns-clause-saved
returns-clause-saved g c =
    let words : List (List ℕ) = map string_bytes c.args.words.now.items in
    let old : Edges = edges g.F.Store.texts g.F.Store.faults g.K.Sink.written g.K.Sink.faults c.args.store.now c.args.sink.now in
    let new : Edges = edges g.F.Store.texts g.F.Store.faults g.K.Sink.written g.K.Sink.faults c.serve.new.store c.serve.new.sink in
    refusal_told words old new c.serve.result c.serve.ensures.served

pub returns-clause-complete : goal.returns-clause-complete
returns-clause-complete g c =
    let words : List (List ℕ) = map string_bytes c.args.words.now.items in
    let old : Edges = edges g.F.Store.texts g.F.Store.faults g.K.Sink.written g.K.Sink.faults c.args.store.now c.args.sink.now in
    let new : Edges = edges g.F.Store.texts g.F.Store.faults g.K.Sink.written g.K.Sink.faults c.serve.new.store c.serve.new.sink in
    check_complete words old new c.serve.result c.serve.ensures.served
