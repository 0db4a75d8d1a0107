-- A legal journal that begins with a sound state leads to a sound one.
use Rattle.std.proofs.Common.{◌≡◌, ◌++◌, ℕ, List, [], ◌∷◌, Option, None, Some, refl, sym, subst}
use Rattle.net_types.specs.Capacity.{over}
use Rattle.net_types.specs.declared.table.Caps.{Caps}
use Rattle.net_types.specs.declared.table.Table.{Table}
use Rattle.switch_model.specs.declared.act.Update.{Update}
use Rattle.switch_model.specs.declared.journal.Entry.{Entry}
use Rattle.switch_model.specs.declared.journal.Round.{Round}
use Rattle.switch_model.specs.declared.journal.RoundKind.{RoundKind}
use Rattle.switch_model.specs.declared.journal.RoundKind.TheVariants.{One, Whole}
use Rattle.switch_model.specs.declared.verdict.Reason.{Reason}
use Rattle.switch_model.specs.declared.verdict.Verdict.{Verdict}
use Rattle.switch_model.specs.Effect.{effect}
use Rattle.switch_model.specs.Journal.{Journal, fold, entries_of, after_verdict, after_entries, version_after}
use Rattle.switch_model.specs.Legal.{AreRightInRun, IsRightAs, AreRight, IsLegal}
use Rattle.switch_model.specs.PlainState.{PlainState}
use Rattle.switch_model.specs.Reason.{reason}
use Rattle.switch_model.specs.Round.{verdict_in_run, verdict_alone}
use Rattle.switch_model.specs.Rows.{rows}
use Rattle.switch_model.specs.Sound.{IsSound}
use Rattle.switch_laws.proofs.SoundLaws.{linked-kept, sound-from_linked, linked-from_sound}
use Rattle.switch_laws.specs.Linked.{IsLinked}

-- an update that was judged alone: only one that no reason holds against changes the state
linked-tried : (m : PlainState) (update : Update) (o : Option Reason) (t : Option Table) → reason m update ≡ o → IsLinked m → IsLinked (after_verdict m update (verdict_alone o t))
linked-tried m update None None is linked = linked-kept m update.act is linked
linked-tried m update None (Some t) is linked = linked
linked-tried m update (Some r) t is linked = linked

linked-judged_as : (m : PlainState) (update : Update) (o : Option Reason) → reason m update ≡ o → IsLinked m → IsLinked (after_verdict m update (verdict_in_run o))
linked-judged_as m update None is linked = linked-kept m update.act is linked
linked-judged_as m update (Some r) is linked = linked

linked-judged : (m : PlainState) (es : List Entry) → AreRightInRun m es → IsLinked m → IsLinked (after_entries m es)
linked-judged m [] right linked = linked
linked-judged m (e ∷ es) right linked =
    let next : IsLinked (after_verdict m e.update e.verdict) = subst (λ (v : Verdict). IsLinked (after_verdict m e.update v)) (sym right.0) (linked-judged_as m e.update (reason m e.update) refl linked) in
    linked-judged (after_verdict m e.update e.verdict) es right.1 next

linked-round : (kind : RoundKind) (caps : Caps) (m : PlainState) (v : ℕ) (es : List Entry) → IsRightAs kind caps m v es → IsLinked m → IsLinked (after_entries m es)
linked-round Whole caps m v es right linked = linked-judged m es right.1 linked
linked-round One caps m v es right linked =
    let e : Entry = right.0 in
    let next : IsLinked (after_verdict m e.update e.verdict) = subst (λ (x : Verdict). IsLinked (after_verdict m e.update x)) (sym right.2) (linked-tried m e.update (reason m e.update) (over (rows (effect m e.update.act)) caps) refl linked) in
    subst (λ (l : List Entry). IsLinked (after_entries m l)) (sym right.1) next

after-append : (m : PlainState) (xs ys : List Entry) → after_entries m (xs ++ ys) ≡ after_entries (after_entries m xs) ys
after-append m [] ys = refl
after-append m (x ∷ xs) ys = after-append (after_verdict m x.update x.verdict) xs ys

linked-rounds : (caps : Caps) (m : PlainState) (v : ℕ) (rs : List Round) → AreRight caps m v rs → IsLinked m → IsLinked (after_entries m (entries_of rs))
linked-rounds caps m v [] right linked = linked
linked-rounds caps m v (r ∷ rs) right linked =
    let next : IsLinked (after_entries (after_entries m r.entries) (entries_of rs)) = linked-rounds caps (after_entries m r.entries) (version_after v r.entries) rs right.1 (linked-round r.kind caps m v r.entries right.0 linked) in
    subst (λ (s : PlainState). IsLinked s) (sym (after-append m r.entries (entries_of rs))) next

pub sound-fold : (j : Journal) → IsLegal j → IsSound j.opening.state → IsSound (fold j)
sound-fold j legal sound = sound-from_linked (fold j) (linked-rounds j.opening.caps j.opening.state j.opening.version j.rounds legal.1 (linked-from_sound j.opening.state sound))
