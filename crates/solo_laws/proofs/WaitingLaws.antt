-- Rounds of what waits.
use Rattle.std.proofs.Common.{◌≡◌, ◌≤◌, ◌<◌, ◌+◌, ◌^◌, nat_lt, ℕ, zero, suc, Bool, cond, List, [], ◌∷◌, ◌++◌, length, map, drop, inl, inr, refl, sym, ap, subst, ◌∙◌, append_assoc, arith}
use Rattle.std.proofs.lemmas.Bool.{cases_Bool, cond-true, cond-false, eq-eqb, ltb-true, ltb-false}
use Rattle.std.proofs.lemmas.List.{drop_at, length-append, length-map}
use Rattle.std.specs.List.{AllByRecursion}
use Rattle.journal_laws.specs.SettledAt.{settled_at, with_next}
use Rattle.journal_laws.proofs.LegalLaws.{legal_rounds, legal_version}
use Rattle.journal_laws.proofs.MayComeLaws.{may_come_grow, may_come_round, may_come_start, next_progress, pending_next, sent_split, settles_next}
use Rattle.journal_laws.proofs.RoundLaws.{length-strip}
use Rattle.journal_laws.proofs.RunLaws.{run_is_run, run_prefix}
use Rattle.keyed.specs.Prefix.{IsPrefix, prefix_length, prefix_self}
use Rattle.net_types.specs.Capacity.{Fits}
use Rattle.switch_model.specs.declared.act.Submission.{Submission}
use Rattle.switch_model.specs.declared.act.Update.{Update}
use Rattle.switch_model.specs.declared.journal.Round.{Round}
use Rattle.switch_model.specs.Journal.{Journal, Opening, len, own, pending, strip, submission, submission_of, version_of, with_round}
use Rattle.switch_model.specs.Legal.{IsRun}
use Rattle.switch_model.specs.MayComeOf.{MayComeOf, SettlesNext}
use Rattle.switch_model.specs.Round.{next_round, run}
use Rattle.switch_model.specs.Rows.{rows}
use Rattle.told_laws.proofs.ListLaws.{all_last}
use Rattle.solo_laws.specs.Waiting.{IsWaiting, pumped, sent_of}

-- what waits is what is pending
pub pending_is : (j : Journal) (p : List Submission) → pending (sent_of j p) j ≡ p
pending_is j p = drop_at (strip j) p (len j) (length-strip j)

pub sent_length : (j : Journal) (p : List Submission) → length (sent_of j p) ≡ len j + length p
sent_length j p = let e = length-append (strip j) p in let s = length-strip j in omega (arith, e, s)

-- nothing was submitted yet
pub waiting_start : (o : Opening) (limit : ℕ) → Fits (rows o.state) o.caps → o.version + limit < 2 ^ 64 → IsWaiting limit (record { opening = o; rounds = [] }) []
waiting_start o limit fits room = record { may_come = may_come_start o [] fits; few = omega arith; callers = tt; room = room }

-- a round may be run of what waits

pub next_run : (p : List Submission) → 1 ≤ length p → IsRun (run p)
next_run p some = run_is_run p some

pub next_room : (limit : ℕ) (j : Journal) (p : List Submission) → IsWaiting limit j p → len j + length (run p) < 2 ^ 64
next_room limit j p is =
    let short = prefix_length (run p) p (run_prefix p) in
    let long = sent_length j p in
    let few = is.few in
    let room = is.room in
    omega (arith, short, long, few, room)

pub next_version : (limit : ℕ) (j : Journal) (p : List Submission) → IsWaiting limit j p → 1 ≤ length p → version_of j + 1 < 2 ^ 64
next_version limit j p is some =
    let below = (legal_version j is.may_come.legal).1 in
    let rounds = legal_rounds j is.may_come.legal in
    let long = sent_length j p in
    let few = is.few in
    let room = is.room in
    omega (arith, some, below, rounds, long, few, room)

-- what a round of what waits leads to: the same was submitted, so many fewer wait, and the journal is longer
pub record IsNext (limit : ℕ) (j : Journal) (p : List Submission) (k : Journal) (q : List Submission) : Type 0 where
  pub sent : sent_of k q ≡ sent_of j p
  pub waiting : IsWaiting limit k q
  pub next : k ≡ with_next (sent_of j p) j
  pub longer : len j < len k

-- the round of what waits
abbrev round_of_waiting : Journal → List Submission → Round
round_of_waiting j p = next_round j (run p)

settles_waiting : (j : Journal) (p : List Submission) → 1 ≤ length p → SettlesNext (sent_of j p) j (round_of_waiting j p)
settles_waiting j p some = settles_next (sent_of j p) j p (subst (λ (l : List Submission). IsPrefix p l) (sym (pending_is j p)) (prefix_self p)) some

-- what waits begins with what the round settles
splits : (j : Journal) (p : List Submission) → MayComeOf (sent_of j p) j → 1 ≤ length p → p ≡ map submission_of (round_of_waiting j p).entries ++ pending (sent_of j p) (with_round j (round_of_waiting j p))
splits j p may some = sym (pending_is j p) ∙ pending_next (sent_of j p) j (round_of_waiting j p) may (settles_waiting j p some)

pub next_within : (limit : ℕ) (j : Journal) (p : List Submission) → IsWaiting limit j p → 1 ≤ length p → length (next_round j (run p)).entries ≤ length p
next_within limit j p is some =
    let r : Round = round_of_waiting j p in
    let e = ap length (splits j p is.may_come some) ∙ length-append (map submission_of r.entries) (pending (sent_of j p) (with_round j r)) in
    let m = length-map r.entries submission_of in
    omega (arith, e, m)

next_left : (j : Journal) (p : List Submission) → MayComeOf (sent_of j p) j → 1 ≤ length p → drop (length (round_of_waiting j p).entries) p ≡ pending (sent_of j p) (with_round j (round_of_waiting j p))
next_left j p may some =
    let r : Round = round_of_waiting j p in
    let left : List Submission = pending (sent_of j p) (with_round j r) in
    ap (drop (length r.entries)) (splits j p may some) ∙ drop_at (map submission_of r.entries) left (length r.entries) (length-map r.entries submission_of)

waiting_as : (limit : ℕ) (k : Journal) (q sent : List Submission) → sent_of k q ≡ sent → MayComeOf sent k → length sent ≤ limit → AllByRecursion (λ s. s.caller ≡ 0) sent → k.opening.version + limit < 2 ^ 64 → IsWaiting limit k q
waiting_as limit k q sent e may few callers room = record {
  may_come = subst (λ (l : List Submission). MayComeOf l k) (sym e) may;
  few = subst (λ (l : List Submission). length l ≤ limit) (sym e) few;
  callers = subst (λ (l : List Submission). AllByRecursion (λ s. s.caller ≡ 0) l) (sym e) callers;
  room = room;
}

next_now : (limit : ℕ) (j : Journal) (p : List Submission) → IsWaiting limit j p → 1 ≤ length p → IsNext limit j p (with_round j (round_of_waiting j p)) (drop (length (round_of_waiting j p).entries) p)
next_now limit j p is some =
    let r : Round = round_of_waiting j p in
    let k : Journal = with_round j r in
    let may = may_come_round (sent_of j p) j r is.may_come (settles_waiting j p some) in
    let left = next_left j p is.may_come some in
    let same : sent_of k (drop (length r.entries) p) ≡ sent_of j p = ap (λ (l : List Submission). strip k ++ l) left ∙ sym (sent_split (sent_of j p) k may.settled) in
    record {
      sent = same;
      waiting = waiting_as limit k (drop (length r.entries) p) (sent_of j p) same may is.few is.callers is.room;
      next = ap (λ (l : List Submission). with_round j (next_round j (run l))) (sym (pending_is j p));
      longer = (next_progress (sent_of j p) j r is.may_come (settles_waiting j p some)).0;
    }

-- the same, by what is known of the new journal and of what is left
pub round_next : (limit : ℕ) (j k : Journal) (p q ran : List Submission) (n : ℕ) → IsWaiting limit j p → 1 ≤ length p → ran ≡ run p → k ≡ with_round j (next_round j ran) → n ≡ length (next_round j ran).entries → q ≡ drop n p → IsNext limit j p k q
round_next limit j k p q ran n is some ran_is k_is n_is q_is =
    let k_there : k ≡ with_round j (round_of_waiting j p) = k_is ∙ ap (λ (l : List Submission). with_round j (next_round j l)) ran_is in
    let n_there : n ≡ length (round_of_waiting j p).entries = n_is ∙ ap (λ (l : List Submission). length (next_round j l).entries) ran_is in
    let q_there : q ≡ drop (length (round_of_waiting j p).entries) p = q_is ∙ ap (λ (m : ℕ). drop m p) n_there in
    subst (λ (l : List Submission). IsNext limit j p k l) (sym q_there) (subst (λ (i : Journal). IsNext limit j p i (drop (length (round_of_waiting j p).entries) p)) (sym k_there) (next_now limit j p is some))

-- what a round says, as a pump says it
pub pump_next : (j k : Journal) (p ran : List Submission) (n : ℕ) → 1 ≤ length p → ran ≡ run p → k ≡ with_round j (next_round j ran) → n ≡ length (next_round j ran).entries → (n ≡ (pumped p j).0) × (k ≡ (pumped p j).1)
pump_next j k [] ran n some ran_is k_is n_is = absurd (omega (arith, some))
pump_next j k (s ∷ ss) ran n some ran_is k_is n_is = (
  n_is ∙ ap (λ (l : List Submission). length (next_round j l).entries) ran_is,
  k_is ∙ ap (λ (l : List Submission). with_round j (next_round j l)) ran_is,
)

pub pump_none : (j : Journal) (p : List Submission) → length p ≡ 0 → (0 ≡ (pumped p j).0) × (j ≡ (pumped p j).1)
pump_none j [] none = (refl, refl)
pump_none j (s ∷ ss) none = absurd (omega (arith, none))

-- rounds until a submission is settled

pub settled_there : (n : ℕ) (sent : List Submission) (position : ℕ) (j : Journal) → position < len j → settled_at n sent position j ≡ j
settled_there zero sent position j there = refl
settled_there (suc n) sent position j there = elim (cases_Bool (nat_lt position (len j))) [
  | inl done ↦ cond-true (nat_lt position (len j)) j (settled_at n sent position (with_next sent j)) done
  | inr left ↦ let behind = ltb-false position (len j) left in absurd (omega (arith, behind, there))
]

settled_later : (n : ℕ) (sent : List Submission) (position : ℕ) (j : Journal) → len j ≤ position → settled_at (suc n) sent position j ≡ settled_at n sent position (with_next sent j)
settled_later n sent position j behind = elim (cases_Bool (nat_lt position (len j))) [
  | inl done ↦ let there = ltb-true position (len j) done in absurd (omega (arith, behind, there))
  | inr left ↦ cond-false (nat_lt position (len j)) j (settled_at n sent position (with_next sent j)) left
]

next_longer : (sent : List Submission) (j : Journal) → MayComeOf sent j → len j < length sent → MayComeOf sent (with_next sent j) × (len j < len (with_next sent j))
next_longer sent j may more =
    let r : Round = next_round j (run (pending sent j)) in
    let split = sent_split sent j may.settled in
    let long = ap length split ∙ length-append (strip j) (pending sent j) in
    let stripped = length-strip j in
    let next : SettlesNext sent j r = settles_next sent j (pending sent j) (prefix_self (pending sent j)) (omega (arith, long, stripped, more)) in
    (may_come_round sent j r may next, (next_progress sent j r may next).0)

-- how many more rounds are allowed doesn't count, where there are enough
settled_same : (n m : ℕ) (sent : List Submission) (position : ℕ) (j : Journal) → MayComeOf sent j → position < length sent → length sent ≤ n + len j → length sent ≤ m + len j → settled_at n sent position j ≡ settled_at m sent position j
settled_same zero m sent position j may there enough others = sym (settled_there m sent position j (omega (arith, there, enough)))
settled_same (suc n) zero sent position j may there enough others = settled_there (suc n) sent position j (omega (arith, there, others))
settled_same (suc n) (suc m) sent position j may there enough others = elim (cases_Bool (nat_lt position (len j))) [
  | inl done ↦ settled_there (suc n) sent position j (ltb-true position (len j) done) ∙ sym (settled_there (suc m) sent position j (ltb-true position (len j) done))
  | inr left ↦
      let behind = ltb-false position (len j) left in
      let next = next_longer sent j may (omega (arith, behind, there)) in
      let more = next.1 in
      settled_later n sent position j behind
      ∙ settled_same n m sent position (with_next sent j) next.0 there (omega (arith, more, enough)) (omega (arith, more, others))
      ∙ sym (settled_later m sent position j behind)
]

-- one round nearer
settled_nearer : (n : ℕ) (sent : List Submission) (position : ℕ) (j : Journal) → n ≡ length sent → MayComeOf sent j → position < length sent → len j ≤ position → settled_at n sent position j ≡ settled_at n sent position (with_next sent j)
settled_nearer zero sent position j n_is may there behind = absurd (omega (arith, n_is, there))
settled_nearer (suc n) sent position j n_is may there behind =
    let next = next_longer sent j may (omega (arith, behind, there)) in
    let more = next.1 in
    settled_later n sent position j behind ∙ settled_same n (suc n) sent position (with_next sent j) next.0 there (omega (arith, more, n_is)) (omega (arith, more, n_is))

-- the journal in which the one at that position is settled
abbrev pub until : ℕ → Journal → List Submission → Journal
until position j p = settled_at (length (sent_of j p)) (sent_of j p) position j

-- a round of what waits leads there too
pub until_next : (limit position : ℕ) (j k : Journal) (p q : List Submission) → IsWaiting limit j p → position < length (sent_of j p) → len j ≤ position → IsNext limit j p k q → until position k q ≡ until position j p
until_next limit position j k p q is there behind next =
    let sent : List Submission = sent_of j p in
    ap (λ (l : List Submission). settled_at (length l) l position k) next.sent
    ∙ ap (settled_at (length sent) sent position) next.next
    ∙ sym (settled_nearer (length sent) sent position j refl is.may_come there behind)

pub until_there : (position : ℕ) (j : Journal) (p : List Submission) → position < len j → until position j p ≡ j
until_there position j p there = settled_there (length (sent_of j p)) (sent_of j p) position j there

-- where a submission isn't settled, something waits
pub some_waits : (position : ℕ) (j : Journal) (p : List Submission) → position < length (sent_of j p) → len j ≤ position → 1 ≤ length p
some_waits position j p there behind = let long = sent_length j p in omega (arith, there, behind, long)

-- one submission more

own_all : (xs : List Submission) → AllByRecursion (λ s. s.caller ≡ 0) xs → own 0 xs ≡ xs
own_all [] all = refl
own_all (x ∷ xs) all = ap (λ (b : Bool). cond b (x ∷ own 0 xs) (own 0 xs)) (eq-eqb x.caller 0 all.0) ∙ ap (λ (l : List Submission). x ∷ l) (own_all xs all.1)

pub record IsMore (limit : ℕ) (j : Journal) (p q : List Submission) (update : Update) : Type 0 where
  pub sent : sent_of j q ≡ sent_of j p ++ submission (sent_of j p) 0 update ∷ []
  pub waiting : IsWaiting limit j q

abbrev numbered_by : Update → ℕ → Submission
numbered_by update seq = record { caller = 0; seq = seq; update = update }

-- the caller's next submission has the number of all before it
next_is : (sent : List Submission) (update : Update) (seq : ℕ) → AllByRecursion (λ s. s.caller ≡ 0) sent → seq ≡ length sent → numbered_by update seq ≡ submission sent 0 update
next_is sent update seq callers e = let n : seq ≡ length (own 0 sent) = e ∙ sym (ap length (own_all sent callers)) in ap (numbered_by update) n

pub submit_next : (limit : ℕ) (j : Journal) (p q : List Submission) (update : Update) (seq : ℕ) → IsWaiting limit j p → length (sent_of j p) < limit → seq ≡ length (sent_of j p) → q ≡ p ++ record { caller = 0; seq = seq; update = update } ∷ [] → IsMore limit j p q update
submit_next limit j p q update seq is below seq_is q_is =
    let sent : List Submission = sent_of j p in
    let s : Submission = submission sent 0 update in
    let added : sent_of j q ≡ sent ++ s ∷ [] = ap (λ (l : List Submission). strip j ++ l) (q_is ∙ ap (λ (x : Submission). p ++ x ∷ []) (next_is sent update seq is.callers seq_is)) ∙ sym (append_assoc (strip j) p (s ∷ [])) in
    let long = length-append sent (s ∷ []) in
    record { sent = added; waiting = waiting_as limit j q (sent ++ s ∷ []) added (may_come_grow sent (s ∷ []) j is.may_come) (omega (arith, long, below)) (all_last (λ x. x.caller ≡ 0) sent s is.callers refl) is.room }
