use Rattle.journal_laws.proofs.LegalLaws.{legal_fits, legal_prefix, legal_push, legal_rounds, legal_some, legal_version, version_names, version_rises}
use Rattle.journal_laws.proofs.legal.right_rounds_keep_legal.Goals as goal

pub returns-clause-more : goal.returns-clause-more
returns-clause-more c = legal_push

pub returns-clause-beginning : goal.returns-clause-beginning
returns-clause-beginning c = legal_prefix

pub returns-clause-fits : goal.returns-clause-fits
returns-clause-fits c = legal_fits

pub returns-clause-some : goal.returns-clause-some
returns-clause-some c = legal_some

pub returns-clause-version : goal.returns-clause-version
returns-clause-version c = legal_version

pub returns-clause-rounds : goal.returns-clause-rounds
returns-clause-rounds c = legal_rounds

pub returns-clause-rises : goal.returns-clause-rises
returns-clause-rises c = version_rises

pub returns-clause-names : goal.returns-clause-names
returns-clause-names c = version_names
