use Rattle.node_map.proofs.Touching.{paths_after}
use Rattle.node_map.proofs.path_laws.paths_of_more.Goals as goal

pub returns : goal.returns
returns g c = λ keys more one two. paths_after keys more one two
