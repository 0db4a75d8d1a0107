use Rattle.node_map.proofs.Touching.{few, lie}
use Rattle.node_map.proofs.path_laws.path_nodes_are_few.Goals as goal

pub returns-clause-lie : goal.returns-clause-lie
returns-clause-lie g c = λ keys made. lie c.requires.later c.requires.made made

pub returns-clause-few : goal.returns-clause-few
returns-clause-few g c = λ keys lies. few c.args.version keys c.args.new.now.nodes c.shape.ensures.paths lies
