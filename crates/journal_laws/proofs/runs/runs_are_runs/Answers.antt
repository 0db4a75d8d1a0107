use Rattle.journal_laws.proofs.RunLaws.{run_of, run_of_more, run_only, run_cut, run-take, run_take_64, run_single}
use Rattle.journal_laws.proofs.runs.runs_are_runs.Goals as goal

pub returns-clause-of : goal.returns-clause-of
returns-clause-of c = run_of

pub returns-clause-own : goal.returns-clause-own
returns-clause-own c = run_of_more

pub returns-clause-cut : goal.returns-clause-cut
returns-clause-cut c = run_cut

pub returns-clause-first : goal.returns-clause-first
returns-clause-first c = λ p n some. run-take n p some

pub returns-clause-first_64 : goal.returns-clause-first_64
returns-clause-first_64 c = run_take_64

pub returns-clause-single : goal.returns-clause-single
returns-clause-single c = run_single

pub returns-clause-only : goal.returns-clause-only
returns-clause-only c = run_only
