-- What is published with one more round, in the words of the calls that make it.
use Rattle.std.proofs.Common.{◌≡◌, ◌≤◌, ◌<◌, ◌+◌, ℕ, suc, List, [], ◌∷◌, ◌++◌, length, map, refl, sym, ap, subst, ◌∙◌, arith}
use Rattle.net_types.specs.declared.table.Caps.{Caps}
use Rattle.switch_model.specs.declared.act.Submission.{Submission}
use Rattle.switch_model.specs.declared.journal.Round.{Round}
use Rattle.switch_model.specs.declared.journal.RoundKind.{RoundKind}
use Rattle.switch_model.specs.declared.verdict.Verdict.{Verdict}
use Rattle.switch_model.specs.Journal.{entries_of}
use Rattle.switch_model.specs.Round.{entry_of, next_version, round_of}
use Rattle.switch_state.specs.StateView.{StateView}
use Rattle.state_laws.specs.Fib.{HasFib}
use Rattle.core_laws.proofs.OpenLaws.{open_published}
use Rattle.core_laws.specs.Published.{IsPublished, PublishedView}

abbrev pub round_at : RoundKind → ℕ → List (Submission × Verdict) → Round
round_at kind v xs = record { kind = kind; entries = map (entry_of v) xs }

length_mapped : (v : ℕ) (xs : List (Submission × Verdict)) → length (map (entry_of v) xs) ≡ length xs
length_mapped v [] = refl
length_mapped v (x ∷ xs) = ap suc (length_mapped v xs)

entries_count : (r : Round) (kind : RoundKind) (v : ℕ) (xs : List (Submission × Verdict)) → r ≡ round_at kind v xs → length r.entries ≡ length xs
entries_count r kind v xs is = ap (λ (x : Round). length x.entries) is ∙ length_mapped v xs

pub some_there : (r : Round) (kind : RoundKind) (v : ℕ) (xs : List (Submission × Verdict)) → r ≡ round_at kind v xs → 1 ≤ length xs → 1 ≤ length r.entries
some_there r kind v xs is some = omega (arith, entries_count r kind v xs is, some)

pub room_there : (inside old : List Round) (r : Round) (kind : RoundKind) (v top : ℕ) (xs : List (Submission × Verdict)) → inside ≡ old → r ≡ round_at kind v xs → length (entries_of old) + length xs < top → length (entries_of inside) + length r.entries < top
room_there inside old r kind v top xs same is room = omega (arith, ap (λ (l : List Round). length (entries_of l)) same, entries_count r kind v xs is, room)

pub rounds_made : (rounds inside old : List Round) (r : Round) (kind : RoundKind) (v w : ℕ) (xs : List (Submission × Verdict)) → rounds ≡ inside ++ r ∷ [] → inside ≡ old → r ≡ round_at kind v xs → v ≡ w → rounds ≡ old ++ round_at kind w xs ∷ []
rounds_made rounds inside old r kind v w xs are same is version =
    are ∙ ap (λ (l : List Round). l ++ r ∷ []) same ∙ ap (λ (x : Round). old ++ x ∷ []) is ∙ ap (λ (n : ℕ). old ++ round_at kind n xs ∷ []) version

pub extended_is : (old : PublishedView) (base s : StateView) (rounds : List Round) (caps : Caps) (kind : RoundKind) (xs : List (Submission × Verdict)) → base ≡ old.base → caps ≡ old.caps → rounds ≡ old.rounds ++ round_at kind s.version xs ∷ [] → s.version ≡ next_version old.state.version (map (λ (x : Submission × Verdict). x.1) xs) →
    record { base = base; state = s; rounds = rounds; caps = caps } ≡ record old { state = s; rounds = old.rounds ++ round_of kind old.state.version xs ∷ [] }
extended_is old base s rounds caps kind xs base_is caps_is rounds_are version_is =
    let rounds_is : rounds ≡ old.rounds ++ round_of kind old.state.version xs ∷ [] = rounds_are ∙ ap (λ (n : ℕ). old.rounds ++ round_at kind n xs ∷ []) version_is in
    ap (λ (b : StateView). record old { base = b; state = s; rounds = rounds; caps = caps }) base_is
    ∙ ap (λ (c : Caps). record old { state = s; rounds = rounds; caps = c }) caps_is
    ∙ ap (λ (l : List Round). record old { state = s; rounds = l }) rounds_is

-- the same in all parts

pub same_view : (v : PublishedView) (base s : StateView) (rounds : List Round) (caps : Caps) → base ≡ v.base → s ≡ v.state → rounds ≡ v.rounds → caps ≡ v.caps → record { base = base; state = s; rounds = rounds; caps = caps } ≡ v
same_view v base s rounds caps base_is state_is rounds_are caps_are =
    ap (λ (b : StateView). record v { base = b; state = s; rounds = rounds; caps = caps }) base_is
    ∙ ap (λ (t : StateView). record v { state = t; rounds = rounds; caps = caps }) state_is
    ∙ ap (λ (l : List Round). record v { rounds = l; caps = caps }) rounds_are
    ∙ ap (λ (c : Caps). record v { caps = c }) caps_are

pub share_published : (v : PublishedView) (base s : StateView) (rounds : List Round) (caps : Caps) → IsPublished v → base ≡ v.base → s ≡ v.state → rounds ≡ v.rounds → caps ≡ v.caps → IsPublished (record { base = base; state = s; rounds = rounds; caps = caps })
share_published v base s rounds caps is base_is state_is rounds_are caps_are = subst IsPublished (sym (same_view v base s rounds caps base_is state_is rounds_are caps_are)) is

pub opened_published : (base s : StateView) (rounds : List Round) (caps : Caps) → HasFib base → s ≡ base → rounds ≡ [] → IsPublished (record { base = base; state = s; rounds = rounds; caps = caps })
opened_published base s rounds caps fib same none = share_published (record { base = base; state = base; rounds = []; caps = caps }) base s rounds caps (open_published base caps fib) refl same none refl

pub opened_is : (base s : StateView) (rounds : List Round) (caps : Caps) → s ≡ base → rounds ≡ [] → ◌≡◌ {A = PublishedView} (record { base = base; state = s; rounds = rounds; caps = caps }) (record { base = base; state = base; rounds = []; caps = caps })
opened_is base s rounds caps same none = same_view (record { base = base; state = base; rounds = []; caps = caps }) base s rounds caps refl same none refl
