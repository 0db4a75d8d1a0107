use Rattle.node_map.proofs.Touching.{paths_one}
use Rattle.node_map.proofs.path_laws.paths_of_one.Goals as goal

pub returns : goal.returns
returns g c = λ keys there. paths_one there c.requires
