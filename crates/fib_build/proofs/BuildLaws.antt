-- What each turn of the build keeps.
use Rattle.std.proofs.Common.{◌≡◌, ◌≢◌, ◌<◌, true, false, Option, None, Some, ◌++◌, length, refl, sym, ap, ◌∙◌, subst, inl, inr}
use Rattle.std.specs.List.{Contains, filter}
use Rattle.std.specs.Option.{IsSome}
use Rattle.std.specs.Ordering.{is_le}
use Rattle.std.proofs.lemmas.Bool.{cases_Bool}
use Rattle.std.proofs.lemmas.List.Elements.{Contains-append_left, Contains-append_right, Contains-append_cases}
use Rattle.net_types.specs.declared.table.RouteKey.{RouteKey}
use Rattle.net_types.specs.KeyOrder.{route_cmp}
use Rattle.switch_model.specs.declared.record.FibEntry.{FibEntry}
use Rattle.switch_model.specs.BestRoute.{best}
use Rattle.switch_model.specs.Fib.{fib, fibs}
use Rattle.switch_model.specs.LongestMatch.{best_keys}
use Rattle.switch_model.specs.Looking.{is_past}
use Rattle.switch_model.specs.PlainState.{Rib}
use Rattle.route_laws.proofs.BestLaws.{has-best_keys}
use Rattle.route_laws.proofs.FibsLaws.{fib-none, fibs-same}
use Rattle.fib_build.proofs.Keys.{key-at, absent-at, past_more, not_past, past_apart, below_or_same, filter_fewer, at-key}
use Rattle.fib_build.specs.Next.{IsFirstPast, IsNext}
use Rattle.switch_model.specs.PlainState.{rib}
use Rattle.switch_state.specs.Edit.{EditView}
use Rattle.switch_state.specs.Plain.{fib_entries, plain}
use Rattle.switch_state.specs.Valid.{IsState}
use Rattle.fib_build.proofs.EntryLaws.{entries-ascend}
use Rattle.fib_build.proofs.WriteLaws.{WritesDiffer, no_writes, writes-more}
use Rattle.keyed.specs.Ranges.{keys_of}
use Rattle.state_laws.specs.Fib.{HasFib}
use Rattle.fib_build.specs.Part.{HasOthers, IsEntrySet, entry_at}

-- up to the last key all is built, past it all is as it was
pub record IsBuilt (rib : Rib) (before : EditView) (last : Option RouteKey) (now : EditView) : Type 0 where
  pub done : (k : RouteKey) → is_past last k ≡ false → entry_at k now.state ≡ fib rib k.vrf k.prefix
  pub rest : (k : RouteKey) → is_past last k ≡ true → entry_at k now.state ≡ entry_at k before.state
  pub writes : WritesDiffer before.state now.state
  pub others : HasOthers before now

pub built-start : (rib : Rib) (before : EditView) → IsBuilt rib before None before
built-start rib before = record {
  done = λ k not. let no : true ≡ false = not in absurd (cc);
  rest = λ k _. refl;
  writes = no_writes before.state;
  others = refl;
}

best-none : (rib : Rib) (k : RouteKey) → (Contains (best_keys rib) k → ⊥) → fib rib k.vrf k.prefix ≡ None
best-none rib k absent = fib-none rib k.vrf k.prefix (none-from (best rib k.vrf k.prefix) (λ some. absent (has-best_keys rib k some)))
  where
    none-from : {V : Type 0} (o : Option V) → (IsSome o → ⊥) → o ≡ None
    none-from None _ = refl
    none-from (Some v) not = absurd (not refl)

-- one change after another
pub others-on : (first second third : EditView) → HasOthers first second → HasOthers second third → HasOthers first third
others-on first second third one two = two ∙ ap (λ (e : EditView). record e { state = record e.state { fibs = third.state.fibs } }) one

module _ (rib : Rib) (before : EditView) (last : Option RouteKey) (now : EditView) (built : IsBuilt rib before last now) where
  -- a key without a best route and without an entry has none to get
  neither : (k : RouteKey) → (Contains (best_keys rib ++ keys_of (fib_entries now.state)) k → ⊥) → entry_at k now.state ≡ fib rib k.vrf k.prefix
  neither k absent =
      absent-at k (fib_entries now.state) (λ has. absent (Contains-append_right (best_keys rib) (keys_of (fib_entries now.state)) k has))
      ∙ sym (best-none rib k (λ has. absent (Contains-append_left (best_keys rib) (keys_of (fib_entries now.state)) k has)))

  pub built-end : IsState now.state → IsNext last (best_keys rib ++ keys_of (fib_entries now.state)) None → fib_entries now.state ≡ fibs rib
  built-end state none = fibs-same rib (fib_entries now.state) (entries-ascend now.state state) (λ k. elim (cases_Bool (is_past last k)) [
    | inl past ↦ neither k (λ has. none k has past)
    | inr not ↦ built.done k not
  ])

  same_version : now.state.version ≡ before.state.version
  same_version = ap (λ (e : EditView). e.state.version) built.others

  module _ (key : RouteKey) (next : IsFirstPast last (best_keys rib ++ keys_of (fib_entries now.state)) key) (new : EditView) (set : IsEntrySet key (fib rib key.vrf key.prefix) now.state new.state) where
    done_more : (k : RouteKey) → is_past (Some key) k ≡ false → entry_at k new.state ≡ fib rib k.vrf k.prefix
    done_more k not = elim (below_or_same key k not) [
      | inl is ↦ subst (λ (x : RouteKey). entry_at x new.state ≡ fib rib x.vrf x.prefix) (sym is) set.here
      | inr below ↦
          let apart : k ≢ key = λ is. let no : true ≡ false = sym (next.first key next.among next.past) ∙ ap (λ (x : RouteKey). is_le (route_cmp key x)) (sym is) ∙ below in cc in
          set.others k apart ∙ elim (cases_Bool (is_past last k)) [
            | inl past ↦ neither k (λ has. let no : true ≡ false = sym (next.first k has past) ∙ below in cc)
            | inr before_last ↦ built.done k before_last
          ]
    ]

    rest_more : (k : RouteKey) → is_past (Some key) k ≡ true → entry_at k new.state ≡ entry_at k before.state
    rest_more k past = set.others k (past_apart key k past) ∙ built.rest k (past_more last key k next.past past)

    pub built-more : HasOthers now new → IsBuilt rib before (Some key) new
    built-more others = record {
      done = done_more;
      rest = rest_more;
      writes = writes-more before.state now.state new.state key (fib rib key.vrf key.prefix) same_version (built.rest key next.past) built.writes set;
      others = others-on before now new built.others others;
    }

    -- fewer keys are left
    pub built-fewer : IsState now.state → length (filter (is_past (Some key)) (best_keys rib ++ keys_of (fib_entries before.state))) < length (filter (is_past last) (best_keys rib ++ keys_of (fib_entries before.state)))
    built-fewer state = filter_fewer (is_past (Some key)) (is_past last) (best_keys rib ++ keys_of (fib_entries before.state)) (λ k past. past_more last key k next.past past) key there next.past (not_past key)
      where
        by : (o : Option FibEntry) → entry_at key before.state ≡ o → Contains (keys_of (fib_entries now.state)) key → Contains (keys_of (fib_entries before.state)) key
        by None is has = absurd (key-at key (fib_entries now.state) (entries-ascend now.state state) has (built.rest key next.past ∙ is))
        by (Some entry) is has = at-key key (fib_entries before.state) entry is

        there : Contains (best_keys rib ++ keys_of (fib_entries before.state)) key
        there = elim (Contains-append_cases (best_keys rib) (keys_of (fib_entries now.state)) key next.among) [
          | inl of_routes ↦ Contains-append_left (best_keys rib) (keys_of (fib_entries before.state)) key of_routes
          | inr of_part ↦ Contains-append_right (best_keys rib) (keys_of (fib_entries before.state)) key (by (entry_at key before.state) refl of_part)
        ]

-- of the routes that the edit has then
pub fibs-now : (r : Rib) (before now : EditView) → r ≡ rib (plain before.state) → HasOthers before now → fib_entries now.state ≡ fibs r → HasFib now.state
fibs-now r before now is others done = record { fib = done ∙ ap fibs (is ∙ ap (λ (e : EditView). rib (plain e.state)) (sym others)) }
