use Rattle.route_laws.proofs.DescentLaws.{first_bound, same_vrf, same_family, longest_last, next_bound, shorter_bound, longest_key-is, longest_key-none}
use Rattle.route_laws.proofs.descent.steps_keep_what_matches.Goals as goal

pub returns-clause-first : goal.returns-clause-first
returns-clause-first c = first_bound

pub returns-clause-same_vrf : goal.returns-clause-same_vrf
returns-clause-same_vrf c = λ keys vrf ip len last step key has m. same_vrf keys step.prefixes vrf ip len step.within step.none_past last step.last_is key has m

pub returns-clause-same_family : goal.returns-clause-same_family
returns-clause-same_family c = λ keys vrf ip len last step key has m. same_family keys step.prefixes vrf ip len step.within step.none_past last step.last_is key has m

pub returns-clause-found : goal.returns-clause-found
returns-clause-found c = λ keys vrf ip len last step m. longest_key-is keys step.prefixes vrf ip last step.last_is.among m (longest_last keys step.prefixes vrf ip len step.within step.none_past last step.last_is m)

pub returns-clause-kept : goal.returns-clause-kept
returns-clause-kept c = λ keys vrf ip len last step vrf_is common is. next_bound keys step.prefixes vrf ip len step.within step.none_past last step.last_is vrf_is is.family common is

pub returns-clause-falls : goal.returns-clause-falls
returns-clause-falls c = λ keys vrf ip len last step vrf_is outside common is. shorter_bound keys step.prefixes vrf ip len step.within step.none_past last step.last_is vrf_is is.family common is outside

pub returns-clause-none : goal.returns-clause-none
returns-clause-none c = longest_key-none
