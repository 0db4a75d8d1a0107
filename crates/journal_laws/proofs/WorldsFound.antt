-- Each journal that may come of submissions is that of some world.
use Rattle.std.proofs.Common.{◌≡◌, ◌≤◌, ◌<◌, ◌+◌, ◌==◌, ℕ, zero, suc, Some, List, [], ◌∷◌, ◌++◌, length, map, slice_get, refl, sym, ap, subst, ◌∙◌, append_assoc, append-nil, arith}
use Rattle.std.proofs.lemmas.Bool.{cond-true, eq-eqb}
use Rattle.std.proofs.lemmas.List.{length_push}
use Rattle.std.proofs.lemmas.List.Elements.{filter-append}
use Rattle.std.specs.List.{AllByRecursion, range_with_len}
use Rattle.keyed.specs.Cases.{some_is, none_some}
use Rattle.switch_model.specs.declared.act.Submission.{Submission}
use Rattle.switch_model.specs.declared.act.Update.{Update}
use Rattle.switch_model.specs.declared.journal.Round.{Round}
use Rattle.switch_model.specs.Journal.{Journal, own, with_round, submission}
use Rattle.switch_model.specs.MayComeOf.{MayComeOf, SettlesNext, AllSettleNext}
use Rattle.journal_laws.specs.Worlds.{AreAllowed, IsWorldOf, Step, World, after, new_world, next, numbered, settle, submit}
use Rattle.journal_laws.proofs.MayComeLaws.{slice_get-map}

-- numbers in order

pub range_at : (a n k x : ℕ) → slice_get (range_with_len a n) k ≡ Some x → x ≡ a + k
range_at a zero k x is = absurd (none_some is)
range_at a (suc n) zero x is = let same : a ≡ x = some_is is in omega (arith, same)
range_at a (suc n) (suc k) x is = let rest = range_at (a + 1) n k x is in omega (arith, rest)

seam : {X : Type 0} (xs : List X) (y : X) (ys : List X) → slice_get (xs ++ y ∷ ys) (length xs) ≡ Some y
seam [] y ys = refl
seam (x ∷ xs) y ys = seam xs y ys

pub numbers-numbered : (i n : ℕ) (updates : List Update) → map (λ (s : Submission). s.seq) (numbered i n updates) ≡ range_with_len n (length updates)
numbers-numbered i n [] = refl
numbers-numbered i n (u ∷ us) = ap (λ (l : List ℕ). n ∷ l) (numbers-numbered i (n + 1) us)

-- each has the number that comes next
AreNext : List Submission → List Submission → Type 0
AreNext before [] = Unit {0}
AreNext before (s ∷ ss) = (s.seq ≡ length (own s.caller before)) × AreNext (before ++ s ∷ []) ss

next_number : (before ss : List Submission) (s : Submission) → map (λ (x : Submission). x.seq) (own s.caller (before ++ s ∷ ss)) ≡ range_with_len 0 (length (own s.caller (before ++ s ∷ ss))) → s.seq ≡ length (own s.caller before)
next_number before ss s numbers =
    let mine : List Submission = own s.caller before in
    let rest : List Submission = own s.caller ss in
    let split : own s.caller (before ++ s ∷ ss) ≡ mine ++ s ∷ rest =
    filter-append (λ (x : Submission). x.caller == s.caller) before (s ∷ ss)
    ∙ ap (λ (l : List Submission). mine ++ l) (cond-true (s.caller == s.caller) (s ∷ rest) rest (eq-eqb s.caller s.caller refl)) in
    let here : slice_get (own s.caller (before ++ s ∷ ss)) (length mine) ≡ Some s = ap (λ (l : List Submission). slice_get l (length mine)) split ∙ seam mine s rest in
    let number : slice_get (range_with_len 0 (length (own s.caller (before ++ s ∷ ss)))) (length mine) ≡ Some s.seq =
    ap (λ (l : List ℕ). slice_get l (length mine)) (sym numbers) ∙ slice_get-map (λ (x : Submission). x.seq) (own s.caller (before ++ s ∷ ss)) (length mine) s here in
    let at = range_at 0 (length (own s.caller (before ++ s ∷ ss))) (length mine) s.seq number in
    omega (arith, at)

are_next : (before rest : List Submission) → ((i : ℕ) → map (λ (x : Submission). x.seq) (own i (before ++ rest)) ≡ range_with_len 0 (length (own i (before ++ rest)))) → AreNext before rest
unfolding AreNext
are_next before [] numbers = tt
are_next before (s ∷ ss) numbers = (
  next_number before ss s (numbers s.caller),
  are_next (before ++ s ∷ []) ss (λ i. subst (λ (l : List Submission). map (λ (x : Submission). x.seq) (own i l) ≡ range_with_len 0 (length (own i l))) (sym (append_assoc before (s ∷ []) ss)) (numbers i)),
)

-- steps that submit

steps_of : List Submission → List Step
steps_of [] = []
steps_of (s ∷ ss) = submit s.caller s.update ∷ steps_of ss

-- from a world on, allowed steps lead to these submissions and that journal
abbrev LeadsTo : ℕ → ℕ → World → List Submission → Journal → Type 0
LeadsTo limit callers w sent j = (steps : List Step) × AreAllowed limit callers w steps × ((after w steps).sent ≡ sent) × ((after w steps).journal ≡ j)

submits : (limit callers : ℕ) (w : World) (ss : List Submission) → AllByRecursion (λ (s : Submission). s.caller < callers) ss → length w.sent + length ss ≤ limit → AreNext w.sent ss → LeadsTo limit callers w (w.sent ++ ss) w.journal
unfolding AreNext
submits limit callers w [] known room numbers = ([], tt, sym (append-nil w.sent), refl)
submits limit callers w (s ∷ ss) known room numbers =
    let step : Step = submit s.caller s.update in
    let same : submission w.sent s.caller s.update ≡ s = ap (λ (n : ℕ). let x : Submission = record { caller = s.caller; seq = n; update = s.update } in x) (sym numbers.0) in
    let sent : (next w step).sent ≡ w.sent ++ s ∷ [] = ap (λ (x : Submission). w.sent ++ x ∷ []) same in
    let more = submits limit callers (next w step) ss known.1 (omega (arith, room, ap length sent, length_push w.sent s)) (subst (λ (l : List Submission). AreNext l ss) (sym sent) numbers.1) in
    (step ∷ more.0, ((known.0, omega (arith, room)), more.1), more.2 ∙ ap (λ (l : List Submission). l ++ ss) sent ∙ append_assoc w.sent (s ∷ []) ss, more.3)

-- steps that settle

settling : (limit callers c : ℕ) (w : World) (rs : List Round) → c < callers → AllSettleNext w.sent w.journal rs → LeadsTo limit callers w w.sent (record { opening = w.journal.opening; rounds = w.journal.rounds ++ rs })
settling limit callers c w [] known all = ([], tt, refl, ap (λ (l : List Round). let j : Journal = record { opening = w.journal.opening; rounds = l } in j) (sym (append-nil w.journal.rounds)))
settling limit callers c w (r ∷ rs) known all =
    let s : SettlesNext w.sent w.journal r = all.0 in
    let step : Step = settle c s.0 in
    let same : with_round w.journal r ≡ (next w step).journal = ap (with_round w.journal) s.4 in
    let more = settling limit callers c (next w step) rs known (subst (λ (j : Journal). AllSettleNext w.sent j rs) same all.1) in
    let back : (record { opening = (next w step).journal.opening; rounds = (next w step).journal.rounds ++ rs }) ≡ (record { opening = w.journal.opening; rounds = w.journal.rounds ++ r ∷ rs }) =
    ap (λ (j : Journal). let k : Journal = record { opening = j.opening; rounds = j.rounds ++ rs } in k) (sym same)
    ∙ ap (λ (l : List Round). let k : Journal = record { opening = w.journal.opening; rounds = l } in k) (append_assoc w.journal.rounds (r ∷ []) rs) in
    (step ∷ more.0, ((known, s.1, s.3), more.1), more.2, more.3 ∙ back)

-- one after the other

after-append : (w : World) (xs ys : List Step) → after w (xs ++ ys) ≡ after (after w xs) ys
after-append w [] ys = refl
after-append w (x ∷ xs) ys = after-append (next w x) xs ys

allowed-append : (limit callers : ℕ) (w : World) (xs ys : List Step) → AreAllowed limit callers w xs → AreAllowed limit callers (after w xs) ys → AreAllowed limit callers w (xs ++ ys)
allowed-append limit callers w [] ys a b = b
allowed-append limit callers w (x ∷ xs) ys a b = (a.0, allowed-append limit callers (next w x) xs ys a.1 b)

pub world_of_journal : (sent : List Submission) (j : Journal) (limit callers : ℕ) → MayComeOf sent j → length sent ≤ limit → 0 < callers → AllByRecursion (λ (s : Submission). s.caller < callers) sent → ((i : ℕ) → map (λ (x : Submission). x.seq) (own i sent) ≡ range_with_len 0 (length (own i sent))) → IsWorldOf limit callers sent j
world_of_journal sent j limit callers may_come room some known numbers =
    let w : World = new_world j.opening in
    let first = submits limit callers w sent known (omega (arith, room)) (are_next [] sent numbers) in
    let v : World = after w first.0 in
    let start : Journal = record { opening = j.opening; rounds = [] } in
    let rounds : AllSettleNext v.sent v.journal j.rounds = subst (λ (l : List Submission). AllSettleNext l v.journal j.rounds) (sym first.2) (subst (λ (k : Journal). AllSettleNext sent k j.rounds) (sym first.3) may_come.rounds) in
    let second = settling limit callers 0 v j.rounds some rounds in (
      first.0 ++ second.0,
      allowed-append limit callers w first.0 second.0 first.1 second.1,
      ap (λ (x : World). x.sent) (after-append w first.0 second.0) ∙ second.2 ∙ first.2,
      ap (λ (x : World). x.journal) (after-append w first.0 second.0) ∙ second.3
          ∙ ap (λ (k : Journal). let x : Journal = record { opening = k.opening; rounds = k.rounds ++ j.rounds } in x) first.3,
    )
