-- Rounds of a core in turn, and how many entries a round has.
use Rattle.std.proofs.Common.{◌≡◌, ◌≤◌, ◌<◌, ◌+◌, ◌^◌, ℕ, IfNone, IfSome, Option, None, Some, List, [], ◌∷◌, ◌++◌, length, take, refl, sym, ap, subst, ◌∙◌, arith}
use Rattle.std.specs.List.{AllByRecursion}
use Rattle.journal_laws.proofs.EndLaws.{journal_prefix_push, journal_prefix_self, journal_prefix_trans}
use Rattle.journal_laws.proofs.LegalLaws.{legal_runs, next_settles_run}
use Rattle.journal_laws.proofs.RoundLaws.{len_push}
use Rattle.journal_laws.proofs.RunLaws.{run_short}
use Rattle.switch_model.specs.declared.act.Submission.{Submission}
use Rattle.switch_model.specs.Journal.{IsJournalPrefix, Journal, len, with_round}
use Rattle.switch_model.specs.Legal.{IsLegal, IsRun}
use Rattle.switch_model.specs.Round.{next_round}
use Rattle.switch_state.specs.Follows.{Follows}
use Rattle.core_laws.proofs.SettledLaws.{one_settled, run_some, runs_follow, runs_journal, whole_settled}
use Rattle.core_laws.specs.Published.{CoreView, IsCore, IsPublished, PublishedView, journal_of}
use Rattle.core_laws.specs.Rounds.{AreSettled, IsOne, IsSettled, IsTooMuch, IsWhole}

pub turns_legal : (qs : List (List Submission)) (old new : CoreView) → IsLegal (journal_of old.published) → AllByRecursion IsRun qs → AreSettled qs old new → IsLegal (journal_of new.published)
turns_legal qs old new legal runs are = subst IsLegal (sym (runs_journal qs old new are)) (legal_runs (journal_of old.published) qs legal runs)

pub turns_add : (qs : List (List Submission)) (old new : CoreView) → AreSettled qs old new → IsJournalPrefix (journal_of old.published) (journal_of new.published)
turns_add [] old new are = subst (λ (c : CoreView). IsJournalPrefix (journal_of old.published) (journal_of c.published)) (sym are) (journal_prefix_self (journal_of old.published))
turns_add (q ∷ qs) old new are =
    journal_prefix_trans (journal_of old.published) (journal_of are.0.published) (journal_of new.published)
    (subst (IsJournalPrefix (journal_of old.published)) (sym are.1.journal) (journal_prefix_push (journal_of old.published) (next_round (journal_of old.published) q)))
    (turns_add qs are.0 new are.2)

pub turns_rise : (qs : List (List Submission)) (old new : CoreView) → AreSettled qs old new → Follows old.published.state old.published.state → old.published.state.version ≤ new.published.state.version
turns_rise qs old new are itself = (runs_follow qs old new itself are).order

pub turns_join : (ps qs : List (List Submission)) (first second third : CoreView) → AreSettled ps first second → AreSettled qs second third → AreSettled (ps ++ qs) first third
turns_join [] qs first second third are more = subst (λ (c : CoreView). AreSettled qs c third) are more
turns_join (p ∷ ps) qs first second third are more = (are.0, are.1, turns_join ps qs are.0 second third are.2 more)

-- a round of a run

run_length : (q : List Submission) → IsRun q → length q ≤ 64
run_length q run = subst (λ (l : List Submission). length l ≤ 64) run.1 (run_short q)

settled_length : (q : List Submission) (old new : CoreView) → IsSettled q old new → len (journal_of new.published) ≡ len (journal_of old.published) + length (next_round (journal_of old.published) q).entries
settled_length q old new settled = ap len settled.journal ∙ len_push (journal_of old.published) (next_round (journal_of old.published) q)

round_length : (q : List Submission) (old : CoreView) → IsCore old → IsRun q → length (next_round (journal_of old.published) q).entries ≤ length q
round_length q old core run = (next_settles_run (journal_of old.published) q core.legal run).at_most

-- the entries of what is published after the round, from those before

pub settled_past : (q : List Submission) (old new : CoreView) (p : PublishedView) (before : ℕ) → p ≡ new.published → before ≡ len (journal_of old.published) → IsSettled q old new → before ≤ len (journal_of p)
settled_past q old new p before same is settled =
    omega (arith, is, ap (λ (x : PublishedView). len (journal_of x)) same, settled_length q old new settled)

pub settled_few : (q : List Submission) (old new : CoreView) (p : PublishedView) (before : ℕ) → p ≡ new.published → before ≡ len (journal_of old.published) → IsCore old → IsRun q → IsSettled q old new → len (journal_of p) < before + 2 ^ 32
settled_few q old new p before same is core run settled =
    omega (arith, is, ap (λ (x : PublishedView). len (journal_of x)) same, settled_length q old new settled, round_length q old core run, run_length q run)

pub settled_count : (old new : CoreView) (p : PublishedView) (before count : ℕ) → p ≡ new.published → before ≡ len (journal_of old.published) → before + count ≡ len (journal_of p) → len (journal_of old.published) + count ≡ len (journal_of new.published)
settled_count old new p before count same is counted = omega (arith, is, ap (λ (x : PublishedView). len (journal_of x)) same, counted)

-- what was published, in an arm of the answer

pub none_at : (P : Type 0) (answer : Option PublishedView) → answer ≡ None → IfNone answer P → P
none_at P answer none is = subst (λ (x : Option PublishedView). IfNone x P) none is

pub some_at : (P : PublishedView → Type 0) (answer : Option PublishedView) (p : PublishedView) → answer ≡ Some p → IfSome answer P → P p
some_at P answer p some is = subst (λ (x : Option PublishedView). IfSome x P) some is

-- the core between the two attempts of a round

pub one_room : (q : List Submission) (old mid : CoreView) → IsRun q → IsTooMuch q old mid → len (journal_of old.published) + length q < 2 ^ 64 → len (journal_of mid.published) + 1 < 2 ^ 64
one_room q old mid run tried room = omega (arith, room, run_some q run, ap (λ (p : PublishedView). len (journal_of p)) tried.published)

pub one_version : (q : List Submission) (old mid : CoreView) → IsTooMuch q old mid → old.published.state.version + 1 < 2 ^ 64 → mid.published.state.version + 1 < 2 ^ 64
one_version q old mid tried room = omega (arith, room, ap (λ (p : PublishedView). p.state.version) tried.published)

-- a round that is settled, in terms of what was published before it

pub whole_is_settled : (q : List Submission) (old new : CoreView) (now : PublishedView) → IsCore old → now ≡ old.published → IsPublished now → IsWhole q old new → IsSettled q old new
whole_is_settled q old new now core is published done = whole_settled q old new core (subst IsPublished is published) done

pub one_is_settled : (q first : List Submission) (old mid new : CoreView) (now : PublishedView) → IsRun q → first ≡ take 1 q → IsCore old → now ≡ old.published → IsPublished now → IsTooMuch q old mid → IsOne first mid new → IsSettled q old new
one_is_settled q first old mid new now run first_is core is published tried done = one_settled q first old mid new run first_is core (subst IsPublished is published) tried done
