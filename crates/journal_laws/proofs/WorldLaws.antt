-- Any steps of any callers.
use Rattle.std.proofs.Common.{◌≡◌, ◌≤◌, ◌<◌, ◌+◌, ◌==◌, ℕ, Bool, true, false, cond, Option, None, Some, List, [], ◌∷◌, ◌++◌, length, filter, map, take, refl, sym, ap, subst, ◌∙◌, append_assoc, append-nil, arith}
use Rattle.std.proofs.lemmas.Bool.{cond-true, eq-eqb, eqb-true}
use Rattle.std.proofs.lemmas.List.{length_push, length-take, map-append}
use Rattle.std.proofs.lemmas.List.Elements.{filter-append}
use Rattle.std.specs.List.{AllByRecursion}
use Rattle.net_types.specs.Capacity.{Fits}
use Rattle.net_types.specs.Rows.{Rows}
use Rattle.switch_model.specs.declared.act.Submission.{Submission}
use Rattle.switch_model.specs.declared.act.Update.{Update}
use Rattle.switch_model.specs.declared.journal.Round.{Round}
use Rattle.keyed.specs.Cases.{some_is, none_some}
use Rattle.keyed.specs.Prefix.{IsPrefix, prefix_self, prefix_length, prefix_append, prefix_trans, take_prefix}
use Rattle.switch_model.specs.Journal.{Opening, Journal, IsJournalPrefix, entries_of, fold, len, own, pending, upto, version_of, with_round, submission}
use Rattle.switch_model.specs.MayComeOf.{MayComeOf, SettlesNext}
use Rattle.switch_model.specs.Round.{next_round, run}
use Rattle.switch_model.specs.Rows.{rows}
use Rattle.journal_laws.specs.Worlds.{Step, submit, settle, read, read_tables, Seen, Answer, World, new_world, look, with_submission, with_settled, with_answer, next, Allows, after, AreAllowed, updates_by, numbered, readers, IsTrueOf, fronts, NeverFall, IsWorld}
use Rattle.journal_laws.proofs.EndLaws.{end_grows, end_last, fold_upto_grown, prefix_entries, journal_prefix_self, journal_prefix_push, journal_prefix_trans, upto_beginning, version_upto_grown}
use Rattle.journal_laws.proofs.MayComeLaws.{may_come_grow, may_come_round, may_come_start, settles_next}

len_prefix : (j k : Journal) → IsJournalPrefix j k → len j ≤ len k
len_prefix j k f = prefix_length (entries_of j.rounds) (entries_of k.rounds) (prefix_entries j.rounds k.rounds f.1)

-- answers stay true
true_grows : (j k : Journal) (a : Answer) → IsJournalPrefix j k → IsTrueOf j a → IsTrueOf k a
true_grows j k a f is = record {
  end = end_grows j k a.front f is.end;
  state = is.state ∙ sym (fold_upto_grown j k a.front f is.end);
  version = is.version ∙ sym (version_upto_grown j k a.front f is.end);
  tables = λ rs h. is.tables rs h ∙ ap rows (sym (fold_upto_grown j k a.front f is.end));
}

all_true_grow : (j k : Journal) (answers : List Answer) → IsJournalPrefix j k → AllByRecursion (IsTrueOf j) answers → AllByRecursion (IsTrueOf k) answers
all_true_grow j k [] f all = tt
all_true_grow j k (a ∷ answers) f all = (true_grows j k a f all.0, all_true_grow j k answers f all.1)

all_push : {A : Type 0} (Is : A → Type 0) (xs : List A) (x : A) → AllByRecursion Is xs → Is x → AllByRecursion Is (xs ++ x ∷ [])
all_push Is [] x all is = (is, tt)
all_push Is (y ∷ ys) x all is = (all.0, all_push Is ys x all.1 is)

rise_push : (ns : List ℕ) (n : ℕ) → NeverFall ns → AllByRecursion (λ k. k ≤ n) ns → NeverFall (ns ++ n ∷ [])
rise_push [] n rise below = (tt, tt)
rise_push (k ∷ ks) n rise below = (all_push (λ x. k ≤ x) ks n rise.0 below.0, rise_push ks n rise.1 below.1)

below_more : (ns : List ℕ) (n m : ℕ) → n ≤ m → AllByRecursion (λ k. k ≤ n) ns → AllByRecursion (λ k. k ≤ m) ns
below_more [] n m le below = tt
below_more (k ∷ ks) n m le below = (omega (arith, le, below.0), below_more ks n m le below.1)

-- a caller looks
seen_by : (b : Bool) (all old : Seen) (w : World) → all ≡ record { sent = w.sent; journal = w.journal } → IsPrefix old.sent w.sent → IsJournalPrefix old.journal w.journal → IsPrefix (cond b all old).sent w.sent × IsJournalPrefix (cond b all old).journal w.journal × (len old.journal ≤ len (cond b all old).journal)
seen_by true all old w e sent journal = subst (λ (x : Seen). IsPrefix x.sent w.sent × IsJournalPrefix x.journal w.journal × (len old.journal ≤ len x.journal)) (sym e) (prefix_self w.sent, journal_prefix_self w.journal, len_prefix old.journal w.journal journal)
seen_by false all old w e sent journal = (sent, journal, omega arith)

look_kept : (o : Opening) (limit i : ℕ) (w : World) → IsWorld o limit w → IsWorld o limit (look i w)
look_kept o limit i w is =
    let at = λ (k : ℕ). seen_by (k == i) (record { sent = w.sent; journal = w.journal }) (w.seen k) w refl (is.sent_seen k) (is.journal_seen k) in
    record {
      opening = is.opening;
      may_come = is.may_come;
      few = is.few;
      answers = is.answers;
      fronts_rise = is.fronts_rise;
      sent_seen = λ k. (at k).0;
      journal_seen = λ k. (at k).1;
      fronts_seen = λ k. below_more (fronts k w.answers) (len (w.seen k).journal) (len ((look i w).seen k).journal) (at k).2 (is.fronts_seen k);
    }

-- and then it has seen the journal
look_sees : (i : ℕ) (w : World) → ((look i w).seen i).journal ≡ w.journal
look_sees i w = ap (λ (x : Seen). x.journal) (cond-true (i == i) (record { sent = w.sent; journal = w.journal }) (w.seen i) (eq-eqb i i refl))

-- a submission
submit_kept : (o : Opening) (limit : ℕ) (w : World) (s : Submission) → IsWorld o limit w → length w.sent < limit → IsWorld o limit (with_submission s w)
submit_kept o limit w s is room = record {
  opening = is.opening;
  may_come = may_come_grow w.sent (s ∷ []) w.journal is.may_come;
  few = omega (arith, length_push w.sent s, room);
  answers = is.answers;
  fronts_rise = is.fronts_rise;
  sent_seen = λ k. prefix_trans (w.seen k).sent w.sent (w.sent ++ s ∷ []) (is.sent_seen k) (prefix_append w.sent (s ∷ []));
  journal_seen = is.journal_seen;
  fronts_seen = is.fronts_seen;
}

-- a round
settle_kept : (o : Opening) (limit m : ℕ) (w : World) → IsWorld o limit w → 1 ≤ m → m ≤ length (pending w.sent w.journal) → IsWorld o limit (with_settled m w)
settle_kept o limit m w is some within =
    let p : List Submission = take m (pending w.sent w.journal) in
    let r : Round = next_round w.journal (run p) in
    let s : SettlesNext w.sent w.journal r = settles_next w.sent w.journal p (take_prefix m (pending w.sent w.journal)) (omega (arith, length-take m (pending w.sent w.journal), some, within)) in
    record {
      opening = is.opening;
      may_come = may_come_round w.sent w.journal r is.may_come s;
      few = is.few;
      answers = all_true_grow w.journal (with_round w.journal r) w.answers (journal_prefix_push w.journal r) is.answers;
      fronts_rise = is.fronts_rise;
      sent_seen = is.sent_seen;
      journal_seen = λ k. journal_prefix_trans (w.seen k).journal w.journal (with_round w.journal r) (is.journal_seen k) (journal_prefix_push w.journal r);
      fronts_seen = is.fronts_seen;
    }

-- an answer
fronts_by : (b : Bool) (ns : List ℕ) (a : Answer) (most : ℕ) → NeverFall ns → AllByRecursion (λ n. n ≤ most) ns → AllByRecursion (λ n. n ≤ a.front) ns → (b ≡ true → a.front ≤ most) →
    NeverFall (ns ++ map (λ (x : Answer). x.front) (cond b (a ∷ []) [])) × AllByRecursion (λ n. n ≤ most) (ns ++ map (λ (x : Answer). x.front) (cond b (a ∷ []) []))
fronts_by true ns a most rise below under seen = (rise_push ns a.front rise under, all_push (λ n. n ≤ most) ns a.front below (seen refl))
fronts_by false ns a most rise below under seen = (subst NeverFall (sym (append-nil ns)) rise, subst (λ (l : List ℕ). AllByRecursion (λ n. n ≤ most) l) (sym (append-nil ns)) below)

fronts_push : (k : ℕ) (answers : List Answer) (a : Answer) → fronts k (answers ++ a ∷ []) ≡ fronts k answers ++ map (λ (x : Answer). x.front) (cond (a.caller == k) (a ∷ []) [])
fronts_push k answers a =
    ap (map (λ (x : Answer). x.front)) (filter-append (λ (x : Answer). x.caller == k) answers (a ∷ []))
    ∙ map-append (λ (x : Answer). x.front) (filter (λ (x : Answer). x.caller == k) answers) (cond (a.caller == k) (a ∷ []) [])

answer_true : (j : Journal) (i : ℕ) (told : Option Rows) (sent : List Submission) → MayComeOf sent j → ((rs : Rows) → told ≡ Some rs → rs ≡ rows (fold j)) → IsTrueOf j (record { caller = i; front = len j; state = fold j; version = version_of j; tables = told })
answer_true j i told sent may_come are =
    let same : upto j (len j) ≡ j = upto_beginning j j may_come.legal (journal_prefix_self j) in
    record {
      end = end_last j;
      state = ap fold (sym same);
      version = ap version_of (sym same);
      tables = λ rs h. are rs h ∙ ap (λ (k : Journal). rows (fold k)) (sym same);
    }

answer_kept : (o : Opening) (limit i : ℕ) (told : Option Rows) (w : World) → IsWorld o limit w → len w.journal ≤ len (w.seen i).journal → ((rs : Rows) → told ≡ Some rs → rs ≡ rows (fold w.journal)) → IsWorld o limit (with_answer i told w)
answer_kept o limit i told w is seen are =
    let a : Answer = record { caller = i; front = len w.journal; state = fold w.journal; version = version_of w.journal; tables = told } in
    let under = λ (k : ℕ). below_more (fronts k w.answers) (len (w.seen k).journal) (len w.journal) (len_prefix (w.seen k).journal w.journal (is.journal_seen k)) (is.fronts_seen k) in
    let mine = λ (k : ℕ) (e : (i == k) ≡ true). subst (λ (x : ℕ). len w.journal ≤ len (w.seen x).journal) (eqb-true i k e) seen in
    let both = λ (k : ℕ). fronts_by (i == k) (fronts k w.answers) a (len (w.seen k).journal) (is.fronts_rise k) (is.fronts_seen k) (under k) (mine k) in
    record {
      opening = is.opening;
      may_come = is.may_come;
      few = is.few;
      answers = all_push (IsTrueOf w.journal) w.answers a is.answers (answer_true w.journal i told w.sent is.may_come are);
      fronts_rise = λ k. subst NeverFall (sym (fronts_push k w.answers a)) (both k).0;
      sent_seen = is.sent_seen;
      journal_seen = is.journal_seen;
      fronts_seen = λ k. subst (λ (l : List ℕ). AllByRecursion (λ n. n ≤ len (w.seen k).journal) l) (sym (fronts_push k w.answers a)) (both k).1;
    }

looked : (i : ℕ) (w : World) → len w.journal ≤ len ((look i w).seen i).journal
looked i w = let e : len ((look i w).seen i).journal ≡ len w.journal = ap len (look_sees i w) in omega (arith, e)

step_kept : (o : Opening) (limit callers : ℕ) (w : World) (step : Step) → IsWorld o limit w → Allows limit callers w step → IsWorld o limit (next w step)
step_kept o limit callers w (submit i update) is may = look_kept o limit i (with_submission (submission w.sent i update) w) (submit_kept o limit w (submission w.sent i update) is may.1)
step_kept o limit callers w (settle i m) is may = look_kept o limit i (with_settled m w) (settle_kept o limit m w is may.1 may.2)
step_kept o limit callers w (read i) is may = answer_kept o limit i None (look i w) (look_kept o limit i w is) (looked i w) (λ rs h. absurd (none_some h))
step_kept o limit callers w (read_tables i) is may = answer_kept o limit i (Some (rows (fold w.journal))) (look i w) (look_kept o limit i w is) (looked i w) (λ rs h. sym (some_is h))

steps_kept : (o : Opening) (limit callers : ℕ) (w : World) (steps : List Step) → IsWorld o limit w → AreAllowed limit callers w steps → IsWorld o limit (after w steps)
steps_kept o limit callers w [] is may = is
steps_kept o limit callers w (step ∷ steps) is may = steps_kept o limit callers (next w step) steps (step_kept o limit callers w step is may.0) may.1

new_kept : (limit : ℕ) (o : Opening) → Fits (rows o.state) o.caps → IsWorld o limit (new_world o)
new_kept limit o fits = record {
  opening = refl;
  may_come = may_come_start o [] fits;
  few = omega arith;
  answers = tt;
  fronts_rise = λ i. tt;
  sent_seen = λ i. prefix_self [];
  journal_seen = λ i. (refl, prefix_self []);
  fronts_seen = λ i. tt;
}

-- what any steps lead to
pub world_kept : (o : Opening) (limit callers : ℕ) (steps : List Step) → Fits (rows o.state) o.caps → AreAllowed limit callers (new_world o) steps → IsWorld o limit (after (new_world o) steps)
world_kept o limit callers steps fits may = steps_kept o limit callers (new_world o) steps (new_kept limit o fits) may

-- the submissions of one caller

mine_by : (b : Bool) (i k : ℕ) (update : Update) (mine : List Submission) (rest : List Update) (n : ℕ) → (b ≡ true → k ≡ i) → n ≡ length mine →
    (s : Submission) → (k ≡ i → s ≡ record { caller = i; seq = length mine; update = update }) →
    (mine ++ cond b (s ∷ []) []) ++ numbered i (length (mine ++ cond b (s ∷ []) [])) rest ≡ mine ++ numbered i n (cond b (update ∷ rest) rest)
mine_by true i k update mine rest n is e s what =
    append_assoc mine (s ∷ []) (numbered i (length (mine ++ s ∷ [])) rest)
    ∙ ap (λ (x : ℕ). mine ++ (s ∷ numbered i x rest)) (length_push mine s ∙ ap (λ (x : ℕ). x + 1) (sym e))
    ∙ ap (λ (x : Submission). mine ++ (x ∷ numbered i (n + 1) rest)) (what (is refl) ∙ ap (λ (x : ℕ). let t : Submission = record { caller = i; seq = x; update = update } in t) (sym e))
mine_by false i k update mine rest n is e s what =
    ap (λ (l : List Submission). l ++ numbered i (length l) rest) (append-nil mine)
    ∙ ap (λ (x : ℕ). mine ++ numbered i x rest) (sym e)

own_after : (i : ℕ) (w : World) (steps : List Step) → own i (after w steps).sent ≡ own i w.sent ++ numbered i (length (own i w.sent)) (updates_by i steps)
own_after i w [] = sym (append-nil (own i w.sent))
own_after i w (submit k update ∷ steps) =
    let s : Submission = submission w.sent k update in
    let mine : List Submission = own i w.sent in
    let pushed : own i (w.sent ++ s ∷ []) ≡ mine ++ cond (k == i) (s ∷ []) [] = filter-append (λ (x : Submission). x.caller == i) w.sent (s ∷ []) in
    own_after i (next w (submit k update)) steps
    ∙ ap (λ (l : List Submission). l ++ numbered i (length l) (updates_by i steps)) pushed
    ∙ mine_by (k == i) i k update mine (updates_by i steps) (length mine) (eqb-true k i) refl s (λ e. ap (λ (x : ℕ). submission w.sent x update) e)
own_after i w (settle k m ∷ steps) = own_after i (next w (settle k m)) steps
own_after i w (read k ∷ steps) = own_after i (next w (read k)) steps
own_after i w (read_tables k ∷ steps) = own_after i (next w (read_tables k)) steps

pub world_own : (o : Opening) (steps : List Step) (i : ℕ) → own i (after (new_world o) steps).sent ≡ numbered i 0 (updates_by i steps)
world_own o steps i = own_after i (new_world o) steps

-- each that asks is told, in order

told_more : (w : World) (k : ℕ) (told : Option Rows) (more : List ℕ) → map (λ (a : Answer). a.caller) (with_answer k told (look k w)).answers ++ more ≡ map (λ (a : Answer). a.caller) w.answers ++ k ∷ more
told_more w k told more =
    let before : List ℕ = map (λ (a : Answer). a.caller) w.answers in
    ap (λ (l : List ℕ). l ++ more) (map-append (λ (a : Answer). a.caller) w.answers ((record { caller = k; front = len w.journal; state = fold w.journal; version = version_of w.journal; tables = told }) ∷ []))
    ∙ append_assoc before (k ∷ []) more

told_after : (w : World) (steps : List Step) → map (λ (a : Answer). a.caller) (after w steps).answers ≡ map (λ (a : Answer). a.caller) w.answers ++ readers steps
told_after w [] = sym (append-nil (map (λ (a : Answer). a.caller) w.answers))
told_after w (submit k update ∷ steps) = told_after (next w (submit k update)) steps
told_after w (settle k m ∷ steps) = told_after (next w (settle k m)) steps
told_after w (read k ∷ steps) = told_after (next w (read k)) steps ∙ told_more w k None (readers steps)
told_after w (read_tables k ∷ steps) = told_after (next w (read_tables k)) steps ∙ told_more w k (Some (rows (fold w.journal))) (readers steps)

pub world_told : (o : Opening) (steps : List Step) → map (λ (a : Answer). a.caller) (after (new_world o) steps).answers ≡ readers steps
world_told o steps = told_after (new_world o) steps
