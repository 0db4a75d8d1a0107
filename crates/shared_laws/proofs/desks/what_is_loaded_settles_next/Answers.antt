use Rattle.shared_laws.proofs.DeskLaws.{loaded_front, loaded_run, run_settles}
use Rattle.shared_laws.proofs.desks.what_is_loaded_settles_next.Goals as goal

pub returns-clause-run : goal.returns-clause-run
returns-clause-run c = loaded_run

pub returns-clause-front : goal.returns-clause-front
returns-clause-front c = loaded_front

pub returns-clause-next : goal.returns-clause-next
returns-clause-next c = run_settles
