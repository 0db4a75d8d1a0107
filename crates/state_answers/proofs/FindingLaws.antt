-- What look-ups in a state find, as the answers to questions.
use Rattle.std.proofs.Common.{◌≡◌, ℕ, Option, None, Some, length, List, refl, sym, ap, ◌∙◌}
use Rattle.std.specs.List.{All}
use Rattle.std.specs.Option.{option_map}
use Rattle.std.specs.Ordering.{nat_cmp}
use Rattle.keyed.specs.Cases.{some_is}
use Rattle.keyed.specs.Keyed.{at}
use Rattle.net_types.specs.Cidr.{Cidr}
use Rattle.net_types.specs.KeyOrder.{route_cmp}
use Rattle.net_types.specs.declared.client.Client.{Client}
use Rattle.net_types.specs.declared.table.RouteKey.{RouteKey}
use Rattle.node_map.specs.Map.{MapView}
use Rattle.report_text.specs.AnswerFound.{client_of, found_match}
use Rattle.report_text.specs.declared.answers.RouteFound.{RouteFound}
use Rattle.route_laws.proofs.FibsLaws.{fibs-at}
use Rattle.state_counts.specs.Counted.{counts_of}
use Rattle.state_keys.specs.KeyLaws.{fib_numbering}
use Rattle.state_keys.specs.PartKeys.{IsFib, IsFibNumber, fib_number}
use Rattle.state_laws.specs.Fib.{HasFib}
use Rattle.state_scan.proofs.Looking.{looked_up}
use Rattle.switch_model.specs.BestRoute.{BestRoute}
use Rattle.switch_model.specs.Fib.{fib}
use Rattle.switch_model.specs.PlainState.{Rib, rib}
use Rattle.switch_model.specs.Totals.{counted, totals}
use Rattle.switch_model.specs.declared.record.FibEntry.{FibEntry}
use Rattle.switch_model.specs.declared.record.Totals.{Totals}
use Rattle.switch_state.specs.Plain.{fib_entries, plain}
use Rattle.switch_state.specs.StateView.{StateView}

-- a match, and whose it is
abbrev pub IsOwner : Option (Cidr × Client) → Option (Cidr × BestRoute) → Type 0
IsOwner found all = found ≡ option_map (λ m. (m.0, client_of m.1)) all

-- where the FIB is that of the routes, the counts of the maps are those of the plain state
pub counts_with_fib : (s : StateView) → HasFib s → counts_of s ≡ totals (plain s)
counts_with_fib s has = ap (λ (l : List (RouteKey × FibEntry)). record (totals (plain s)) { fib = counted (length l) }) has.fib

-- what stands under a key in the FIB's map
pub entry_of : (s : StateView) (key : RouteKey) (made : ℕ) (seen : MapView FibEntry) (found : Option FibEntry) → HasFib s → IsFib key → made ≡ fib_number key → seen ≡ s.fibs → All (λ e. IsFibNumber e.0) seen.entries → found ≡ option_map (λ n. n.value) (at nat_cmp made seen.entries) → found ≡ fib (rib (plain s)) key.vrf key.prefix
entry_of s key made seen found has is made_is same numbers found_is =
    looked_up fib_numbering key made seen s.fibs found is made_is same numbers found_is ∙ ap (at route_cmp key) has.fib ∙ fibs-at (rib (plain s)) key

-- a match with its entry
pub with_entry : (r : Rib) (vrf : ℕ) (prefix : Cidr) (client : Client) (entry : Option FibEntry) (all : Option (Cidr × BestRoute)) → IsOwner (Some (prefix, client)) all → entry ≡ fib r vrf prefix → Some (record { prefix = prefix; client = client; entry = entry }) ≡ found_match r vrf all
with_entry r vrf prefix client entry None is entry_is = absurd (cc)
with_entry r vrf prefix client entry (Some m) is entry_is =
    let same : prefix ≡ m.0 = ap (λ (x : Cidr × Client). x.0) (some_is is) in
    let whose : client ≡ client_of m.1 = ap (λ (x : Cidr × Client). x.1) (some_is is) in
    rw entry_is (rw same (rw whose refl))

-- no match
pub without_match : (r : Rib) (vrf : ℕ) (all : Option (Cidr × BestRoute)) → IsOwner None all → None ≡ found_match r vrf all
without_match r vrf None is = refl
without_match r vrf (Some m) is = absurd (cc)
