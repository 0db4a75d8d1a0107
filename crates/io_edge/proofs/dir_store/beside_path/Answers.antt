use Rattle.std.proofs.Common.{◌∙◌, ap}
use Rattle.std.proofs.lemmas.Result.{IfOk-weaker}
use Rattle.io_edge.proofs.FileNames.{beside_inside}
use Rattle.io_edge.specs.Paths.{path_in, name_beside}
use Rattle.io_edge.proofs.dir_store.beside_path.Goals as goal

pub returns-clause-path : goal.returns-clause-path
returns-clause-path c = IfOk-weaker c.joined.result _ _ (λ path h. h ∙ ap (λ n. path_in c.args.folder.now (name_beside n)) c.bytes.ensures.value) c.joined.ensures

pub returns-clause-inside : goal.returns-clause-inside
returns-clause-inside c = IfOk-weaker c.joined.result _ _ (λ path h. beside_inside c.args.folder.now c.bytes.result.now _ c.bytes.ensures.name h) c.joined.ensures
