use Rattle.node_map.proofs.Touching.{paths_none}
use Rattle.node_map.proofs.path_laws.paths_of_none.Goals as goal

pub returns : goal.returns
returns g c = λ keys. paths_none
