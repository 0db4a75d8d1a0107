use Rattle.switch_state.proofs.OnPaths.{parts_few, parts_lie}
use Rattle.switch_state.proofs.Following.{made_by}
use Rattle.state_laws.proofs.touching.touched_paths_are_few.Goals as goal

pub returns-clause-lie : goal.returns-clause-lie
returns-clause-lie c = λ t made. parts_lie c.args.old.now.version c.args.new.now.version t c.args.old.now c.args.new.now c.requires (made_by c.shape.ensures.state) made

pub returns-clause-few : goal.returns-clause-few
returns-clause-few c = λ t lies. parts_few c.args.new.now.version t c.args.new.now c.parts_fit.ensures lies
