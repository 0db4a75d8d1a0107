-- What a state has for a question, as it is printed.
use Rattle.std.proofs.Common.{◌≡◌, ℕ, Option, None, Some, ◌++◌, codes, refl}
use Rattle.answer_forms.specs.AnswerText.{match_text, query_text}
use Rattle.net_types.specs.Cidr.{Cidr}
use Rattle.report_text.specs.AnswerFound.{found_in, found_match, found_text}
use Rattle.report_text.specs.declared.answers.Found.TheVariants as found
use Rattle.switch_model.specs.BestRoute.{BestRoute, connected, learnt}
use Rattle.switch_model.specs.LongestMatch.{longest_match}
use Rattle.switch_model.specs.PlainState.{PlainState, Rib, rib}
use Rattle.switch_model.specs.declared.query.Query.{Query}
use Rattle.switch_model.specs.declared.query.Query.TheVariants.{Version, Counts, Port, Route}

match_is : (r : Rib) (vrf : ℕ) (m : Option (Cidr × BestRoute)) → found_text (found.Route (found_match r vrf m)) ≡ codes " " ++ match_text r vrf m
match_is r vrf None = refl
match_is r vrf (Some (prefix, connected intf)) = refl
match_is r vrf (Some (prefix, learnt client route)) = refl

pub said : (m : PlainState) (query : Query) → found_text (found_in m query) ≡ query_text m query
said m Version = refl
said m Counts = refl
said m (Port port) = refl
said m (Route vrf ip) = match_is (rib m) vrf (longest_match (rib m) vrf ip)
