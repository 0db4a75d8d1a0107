-- What a put and a cut of an entry do.
use Rattle.std.proofs.Common.{◌≡◌, ◌≢◌, Option, None, Some, Result, Ok, Err, OnOk, refl, sym, ap, ◌∙◌, subst, ◌⊎◌, inl, inr}
use Rattle.std.specs.List.{Contains}
use Rattle.std.specs.Option.{option_map}
use Rattle.std.specs.Ordering.{nat_cmp}
use Rattle.keyed.specs.Cases.{none_some, some_is}
use Rattle.keyed.specs.Keyed.{at, put, without, Ascends}
use Rattle.keyed.specs.KeyedLaws.{at-put, at-put_other, at-without, at-without_other}
use Rattle.keyed.specs.KeyOrders.{nat_order}
use Rattle.net_types.specs.declared.table.RouteKey.{RouteKey}
use Rattle.net_types.specs.KeyOrder.{route_cmp, route_order}
use Rattle.node_core.specs.Node.{NodeView}
use Rattle.node_map.specs.Map.{MapView}
use Rattle.state_keys.specs.KeyLaws.{fib_numbering}
use Rattle.state_keys.specs.PartKeys.{fib_number, IsFib}
use Rattle.state_scan.proofs.Listing.{ascends-listed, at_listed}
use Rattle.switch_model.specs.declared.record.FibEntry.{FibEntry}
use Rattle.switch_state.specs.Edit.{IsCut, IsPut, IsStored}
use Rattle.switch_state.specs.Plain.{fib_entries}
use Rattle.switch_state.specs.StateView.{StateView}
use Rattle.switch_state.specs.Valid.{IsState}
use Rattle.fib_build.specs.Part.{IsWrite, IsEntrySet, entry_at}

pub entries-ascend : (s : StateView) → IsState s → Ascends route_cmp (fib_entries s)
entries-ascend s state = ascends-listed fib_numbering s.fibs.entries state.fibs.numbers state.fibs.ascends

module _ (key : RouteKey) (range : IsFib key) (old new : StateView) (state : IsState old) where
  stood : (o : Option (NodeView FibEntry)) → at nat_cmp (fib_number key) old.fibs.entries ≡ o → entry_at key old ≡ option_map (λ n. n.value) o
  stood o is = at_listed fib_numbering key old.fibs.entries range state.fibs.numbers ∙ ap (option_map (λ n. n.value)) is

  -- an equal entry leaves the map as it was
  stored-or : (entry : FibEntry) → IsPut old.version (fib_number key) entry old.fibs new.fibs → (node : NodeView FibEntry) (o : Option (NodeView FibEntry)) → at nat_cmp (fib_number key) old.fibs.entries ≡ o → IsStored old.version entry o node → (new.fibs ≡ old.fibs) ⊎ (entry_at key old ≢ Some entry)
  stored-or entry p node None is stored = inr (λ alike. none_some (sym (stood None is) ∙ alike))
  stored-or entry p node (Some before) is stored = elim stored [
    | inl same ↦ inl (p.same before is same.0)
    | inr other ↦ inr (λ alike. other.0 (some_is (sym (stood (Some before) is) ∙ alike)))
  ]

  put-write : (entry : FibEntry) → IsPut old.version (fib_number key) entry old.fibs new.fibs → IsWrite key (Some entry) old new
  put-write entry p =
      let or : (new.fibs ≡ old.fibs) ⊎ (entry_at key old ≢ Some entry) = stored-or entry p p.entries.0 (at nat_cmp (fib_number key) old.fibs.entries) refl p.entries.1 in
      record {
        nodes = λ n has. elim or [
          | inl same ↦ inl (subst (λ (m : MapView FibEntry). Contains m.nodes n) same has)
          | inr differs ↦ elim (p.nodes.each n has) [ inl older ↦ inl older | inr made ↦ inr (made, differs) ]
        ];
        kept = λ k is why. elim why [
          | inl apart ↦ ap (at nat_cmp (fib_number k)) p.entries.2 ∙ at-put_other nat_cmp nat_order (fib_number k) (fib_number key) p.entries.0 old.fibs.entries (λ same. apart (fib_numbering.distinct k key is range same))
          | inr alike ↦ elim or [
            | inl same ↦ ap (λ (m : MapView FibEntry). at nat_cmp (fib_number k) m.entries) same
            | inr differs ↦ absurd (differs alike)
          ]
        ];
      }

  cut-or : IsCut old.version (fib_number key) old.fibs new.fibs → (o : Option (NodeView FibEntry)) → at nat_cmp (fib_number key) old.fibs.entries ≡ o → (new.fibs ≡ old.fibs) ⊎ (entry_at key old ≢ None)
  cut-or p None is = inl (p.same is)
  cut-or p (Some before) is = inr (λ alike. none_some (sym alike ∙ stood (Some before) is))

  cut-write : IsCut old.version (fib_number key) old.fibs new.fibs → IsWrite key None old new
  cut-write p =
      let or : (new.fibs ≡ old.fibs) ⊎ (entry_at key old ≢ None) = cut-or p (at nat_cmp (fib_number key) old.fibs.entries) refl in
      record {
        nodes = λ n has. elim or [
          | inl same ↦ inl (subst (λ (m : MapView FibEntry). Contains m.nodes n) same has)
          | inr differs ↦ elim (p.nodes.each n has) [ inl older ↦ inl older | inr made ↦ inr (made, differs) ]
        ];
        kept = λ k is why. elim why [
          | inl apart ↦ ap (at nat_cmp (fib_number k)) p.entries ∙ at-without_other nat_cmp nat_order (fib_number k) (fib_number key) old.fibs.entries state.fibs.ascends (λ same. apart (fib_numbering.distinct k key is range same))
          | inr alike ↦ elim or [
            | inl same ↦ ap (λ (m : MapView FibEntry). at nat_cmp (fib_number k) m.entries) same
            | inr differs ↦ absurd (differs alike)
          ]
        ];
      }

  pub set-put : {F : Type 0} (r : Result (Unit {0}) F) (entry : FibEntry) → OnOk r (fib_entries new ≡ put route_cmp key entry (fib_entries old)) → OnOk r (IsPut old.version (fib_number key) entry old.fibs new.fibs) → OnOk r (IsEntrySet key (Some entry) old new)
  set-put (Ok _) entry entries map = record {
    here = ap (at route_cmp key) entries ∙ at-put route_cmp route_order key entry (fib_entries old);
    others = λ k apart. ap (at route_cmp k) entries ∙ at-put_other route_cmp route_order k key entry (fib_entries old) apart;
    write = put-write entry map;
  }
  set-put (Err _) entry entries map = tt

  pub set-cut : {F : Type 0} (r : Result (Unit {0}) F) → OnOk r (fib_entries new ≡ without route_cmp key (fib_entries old)) → OnOk r (IsCut old.version (fib_number key) old.fibs new.fibs) → OnOk r (IsEntrySet key None old new)
  set-cut (Ok _) entries map = record {
    here = ap (at route_cmp key) entries ∙ at-without route_cmp route_order key (fib_entries old) (entries-ascend old state);
    others = λ k apart. ap (at route_cmp k) entries ∙ at-without_other route_cmp route_order k key (fib_entries old) (entries-ascend old state) apart;
    write = cut-write map;
  }
  set-cut (Err _) entries map = tt

-- the entry that is wanted
pub set-as : {F : Type 0} (r : Result (Unit {0}) F) (key : RouteKey) (entry wanted : Option FibEntry) (old new : StateView) → entry ≡ wanted → OnOk r (IsEntrySet key entry old new) → OnOk r (IsEntrySet key wanted old new)
set-as r key entry wanted old new is set = subst (λ (o : Option FibEntry). OnOk r (IsEntrySet key o old new)) is set
