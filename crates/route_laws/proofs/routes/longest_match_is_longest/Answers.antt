use Rattle.route_laws.proofs.MatchLaws.{match-longest, no_match, longest-match, prefixes-had}
use Rattle.route_laws.proofs.routes.longest_match_is_longest.Goals as goal

pub returns-clause-found : goal.returns-clause-found
returns-clause-found c = match-longest

pub returns-clause-none : goal.returns-clause-none
returns-clause-none c = no_match

pub returns-clause-exact : goal.returns-clause-exact
returns-clause-exact c = longest-match

pub returns-clause-prefixes : goal.returns-clause-prefixes
returns-clause-prefixes c = prefixes-had
