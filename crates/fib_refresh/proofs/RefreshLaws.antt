-- What each step of the refresh keeps.
use Rattle.std.proofs.Common.{◌≡◌, ◌≢◌, ◌<◌, true, false, Option, None, List, Some, length, refl, sym, ap, ◌∙◌, subst, inl, inr}
use Rattle.std.specs.List.{Contains, filter}
use Rattle.std.specs.List.Sorted.{IsStrictlySortedBy}
use Rattle.std.specs.Ordering.{is_le}
use Rattle.std.proofs.lemmas.Bool.{cases_Bool}
use Rattle.keyed.specs.Keyed.{at}
use Rattle.net_types.specs.declared.table.RouteKey.{RouteKey}
use Rattle.net_types.specs.KeyOrder.{route_cmp}
use Rattle.node_map.specs.Map.{MapView}
use Rattle.state_keys.specs.KeyLaws.{intf_numbering, rib_numbering}
use Rattle.state_keys.specs.PartKeys.{rib_of}
use Rattle.state_scan.specs.Listed.{listed}
use Rattle.state_scan.proofs.Listing.{ascends-listed}
use Rattle.switch_model.specs.declared.record.IntfRec.{IntfRec}
use Rattle.switch_model.specs.declared.record.RouteRec.{RouteRec}
use Rattle.switch_model.specs.Fib.{fib, fibs}
use Rattle.switch_model.specs.Looking.{is_past, key_after}
use Rattle.switch_model.specs.PlainState.{Rib, rib}
use Rattle.switch_state.specs.Edit.{EditView}
use Rattle.switch_state.specs.Plain.{fib_entries, plain}
use Rattle.switch_state.specs.StateView.{StateView}
use Rattle.switch_state.specs.Valid.{IsState}
use Rattle.state_laws.specs.Fib.{HasFib}
use Rattle.route_laws.proofs.FibsLaws.{fibs-at, fibs-same}
use Rattle.route_laws.proofs.MovedLaws.{contained-covers, entries-stay}
use Rattle.route_laws.specs.Entries.{AreInOrder}
use Rattle.route_laws.specs.Match.{ArePrefixes}
use Rattle.route_laws.specs.Moved.{IsMoved}
use Rattle.fib_build.proofs.BuildLaws.{fibs-now, others-on}
use Rattle.fib_build.proofs.EntryLaws.{entries-ascend}
use Rattle.fib_build.proofs.Keys.{below_or_same, decide_has, filter_fewer, not_past, past_apart, past_more}
use Rattle.fib_build.proofs.NextLaws.{next-of}
use Rattle.fib_build.proofs.WriteLaws.{WritesDiffer, no_writes, writes-more}
use Rattle.fib_build.specs.Next.{IsFirstPast}
use Rattle.fib_build.specs.Part.{HasOthers, IsEntrySet, entry_at}
use Rattle.rib_lookup.specs.Tables.{rib_over}
use Rattle.fib_refresh.proofs.AffectedLaws.{closed-dependents}
use Rattle.fib_refresh.specs.Affected.{IsClosed}
use Rattle.fib_refresh.specs.Refreshed.{AreRefreshed}

-- the listed keys up to the last one have their entries, and all other keys are as they were
pub record IsRefreshed (rib : Rib) (before : EditView) (keys : List RouteKey) (last : Option RouteKey) (now : EditView) : Type 0 where
  pub done : (k : RouteKey) → Contains keys k → is_past last k ≡ false → entry_at k now.state ≡ fib rib k.vrf k.prefix
  pub rest : (k : RouteKey) → (Contains keys k → is_past last k ≡ true) → entry_at k now.state ≡ entry_at k before.state
  pub writes : WritesDiffer before.state now.state
  pub others : HasOthers before now

pub refreshed-start : (rib : Rib) (before : EditView) (keys : List RouteKey) → IsRefreshed rib before keys None before
refreshed-start rib before keys = record {
  done = λ k has not. let no : true ≡ false = not in absurd (cc);
  rest = λ k _. refl;
  writes = no_writes before.state;
  others = refl;
}

in_order : (s : StateView) → IsState s → AreInOrder (rib (plain s))
in_order s state = record { intfs = ascends-listed intf_numbering s.intfs.entries state.intfs.numbers state.intfs.ascends; routes = ascends-listed rib_numbering s.routes.entries state.routes.numbers state.routes.ascends }

module _ (new_rib : Rib) (before : EditView) (keys : List RouteKey) (last : Option RouteKey) (now : EditView) (r : IsRefreshed new_rib before keys last now) where
  pub refreshed-all : IsStrictlySortedBy route_cmp keys → None ≡ key_after last keys → AreRefreshed new_rib keys before.state now.state
  refreshed-all asc none = record {
    made = λ k has. elim (cases_Bool (is_past last k)) [
      | inl past ↦ absurd ((next-of last keys None asc none) k has past)
      | inr not ↦ r.done k has not
    ];
    rest = λ k absent. r.rest k (λ has. absurd (absent has));
  }

  same_version : now.state.version ≡ before.state.version
  same_version = ap (λ (e : EditView). e.state.version) r.others

  module _ (asc : IsStrictlySortedBy route_cmp keys) (key : RouteKey) (next_is : Some key ≡ key_after last keys) (new : EditView) (set : IsEntrySet key (fib new_rib key.vrf key.prefix) now.state new.state) where
    next : IsFirstPast last keys key
    next = next-of last keys (Some key) asc next_is

    done_more : (k : RouteKey) → Contains keys k → is_past (Some key) k ≡ false → entry_at k new.state ≡ fib new_rib k.vrf k.prefix
    done_more k has not = elim (below_or_same key k not) [
      | inl is ↦ subst (λ (x : RouteKey). entry_at x new.state ≡ fib new_rib x.vrf x.prefix) (sym is) set.here
      | inr below ↦
          let apart : k ≢ key = λ is. let no : true ≡ false = sym (next.first key next.among next.past) ∙ ap (λ (x : RouteKey). is_le (route_cmp key x)) (sym is) ∙ below in cc in
          set.others k apart ∙ elim (cases_Bool (is_past last k)) [
            | inl past ↦ let no : true ≡ false = sym (next.first k has past) ∙ below in absurd (cc)
            | inr before_last ↦ r.done k has before_last
          ]
    ]

    rest_more : (k : RouteKey) → (Contains keys k → is_past (Some key) k ≡ true) → entry_at k new.state ≡ entry_at k before.state
    rest_more k past =
        let apart : k ≢ key = λ is. past_apart key k (past (subst (λ (x : RouteKey). Contains keys x) (sym is) next.among)) is in
        set.others k apart ∙ r.rest k (λ has. past_more last key k next.past (past has))

    pub refreshed-more : HasOthers now new → IsRefreshed new_rib before keys (Some key) new
    refreshed-more others = record {
      done = done_more;
      rest = rest_more;
      writes = writes-more before.state now.state new.state key (fib new_rib key.vrf key.prefix) same_version (r.rest key (λ _. next.past)) r.writes set;
      others = others-on before now new r.others others;
    }

    -- fewer keys are left
    pub refreshed-fewer : length (filter (is_past (Some key)) keys) < length (filter (is_past last) keys)
    refreshed-fewer = filter_fewer (is_past (Some key)) (is_past last) keys (λ k past. past_more last key k next.past past) key next.among next.past (not_past key)

-- where the keys that a change may touch have their entries, and all others had theirs, all have
refreshed-end : (old new : Rib) (changed keys : List RouteKey) (before now : StateView) → ArePrefixes new → AreInOrder new → IsClosed new.routes changed keys → ((key : RouteKey) → IsMoved old new key → Contains changed key) → fib_entries before ≡ fibs old → IsState now → AreRefreshed new keys before now → fib_entries now ≡ fibs new
refreshed-end old new changed keys before now prefixes order closed listed right state are =
    let covers = contained-covers old new (Contains keys) (λ key moved. closed.has key (listed key moved)) (closed-dependents new changed keys order closed) in
    fibs-same new (fib_entries now) (entries-ascend now state) (λ key. elim (decide_has key keys) [
      | inl has ↦ are.made key has
      | inr absent ↦ are.rest key absent ∙ ap (at route_cmp key) right ∙ fibs-at old key ∙ entries-stay old new (Contains keys) prefixes covers key absent
    ])

-- the routes and interfaces that were looked up and scanned are those of the edit
pub refreshed-fib : (before now : EditView) (keys : List RouteKey) → HasOthers before now → AreRefreshed (rib (plain before.state)) keys before.state now.state → (changed : List RouteKey) (view : Rib) (routes scanned : MapView RouteRec) (intfs : MapView IntfRec) → view ≡ rib_over intfs.entries routes.entries → routes ≡ before.state.routes → intfs ≡ before.state.intfs → scanned ≡ before.state.routes → ArePrefixes view → IsClosed (listed rib_of scanned.entries) changed keys → ((key : RouteKey) → IsMoved (rib (plain before.base)) (rib (plain before.state)) key → Contains changed key) → fib_entries before.state ≡ fibs (rib (plain before.base)) → IsState now.state → HasFib now.state
refreshed-fib before now keys others are changed view routes scanned intfs view_is routes_is intfs_is scanned_is prefixes closed moved right state =
    let now_rib : Rib = rib (plain before.state) in
    let seen : view ≡ now_rib = view_is ∙ ap (λ (m : MapView RouteRec). rib_over intfs.entries m.entries) routes_is ∙ ap (λ (m : MapView IntfRec). rib_over m.entries before.state.routes.entries) intfs_is in
    let same : rib (plain now.state) ≡ now_rib = ap (λ (e : EditView). rib (plain e.state)) others in
    let order : AreInOrder now_rib = subst AreInOrder same (in_order now.state state) in
    let all : IsClosed now_rib.routes changed keys = subst (λ (m : MapView RouteRec). IsClosed (listed rib_of m.entries) changed keys) scanned_is closed in
    fibs-now now_rib before now refl others (refreshed-end (rib (plain before.base)) now_rib changed keys before.state now.state (subst ArePrefixes seen prefixes) order all moved right state are)
