-- A journal that may come of submissions.
use Rattle.std.proofs.Common.{◌≡◌, ◌≤◌, ◌<◌, ℕ, zero, suc, nat_le, List, [], ◌∷◌, ◌++◌, None, Some, length, map, take, drop, slice_get, inl, inr, refl, sym, ap, subst, ◌∙◌, append_assoc, append-nil, lit≤, arith}
use Rattle.std.proofs.lemmas.Bool.{cases_Bool, leb-true, leb-false}
use Rattle.std.proofs.lemmas.List.{append_cancel_left, drop_at, length-drop, length-append, length-take, drop-append-le, take-append-le, take-take}
use Rattle.net_types.specs.Capacity.{Fits}
use Rattle.switch_model.specs.declared.act.Submission.{Submission}
use Rattle.switch_model.specs.declared.journal.Entry.{Entry}
use Rattle.switch_model.specs.declared.journal.Round.{Round}
use Rattle.keyed.specs.Prefix.{IsPrefix, prefix_after, prefix_filter, prefix_get, prefix_length, prefix_map, prefix_append, prefix_rest, prefix_take, prefix_trans, take_prefix}
use Rattle.switch_model.specs.Journal.{Journal, Opening, IsJournalPrefix, entries, fold, len, own, pending, strip, submission_of, version_of, with_round}
use Rattle.switch_model.specs.Legal.{IsLegal}
use Rattle.switch_model.specs.MayComeOf.{MayComeOf, SettlesNext, AllSettleNext}
use Rattle.switch_model.specs.Round.{next_round, run}
use Rattle.switch_model.specs.Rows.{rows}
use Rattle.journal_laws.specs.Settling.{Settles}
use Rattle.journal_laws.proofs.EndLaws.{prefix_entries}
use Rattle.journal_laws.proofs.LegalLaws.{legal_fits, legal_prefix, legal_push}
use Rattle.journal_laws.proofs.RoundLaws.{len_push, length-strip, strip_push}
use Rattle.journal_laws.proofs.RunLaws.{run_prefix, run_is_run, run_take_64}
use Rattle.journal_laws.proofs.SettledLaws.{settles}

-- what was submitted later doesn't change which are next
next_same : {X : Type 0} (sent more : List X) (k n : ℕ) → 1 ≤ n → n ≤ length (drop k sent) → take n (drop k (sent ++ more)) ≡ take n (drop k sent)
next_same sent more k n some within =
    let long = length-drop k sent in
    ap (take n) (drop-append-le k sent more (omega (arith, long, within, some))) ∙ take-append-le n (drop k sent) more within

next_within : {X : Type 0} (sent more : List X) (k n : ℕ) → n ≤ length (drop k sent) → n ≤ length (drop k (sent ++ more))
next_within sent more k n within = omega (arith, length-drop k sent, length-drop k (sent ++ more), length-append sent more, within)

pub settles_grow : (sent more : List Submission) (j : Journal) (r : Round) → SettlesNext sent j r → SettlesNext (sent ++ more) j r
settles_grow sent more j r s =
    (s.0, s.1, s.2, next_within sent more (length (entries j)) s.0 s.3, s.4 ∙ ap (λ (q : List Submission). next_round j (run q)) (sym (next_same sent more (length (entries j)) s.0 s.1 s.3)))

pub all_settle_grow : (sent more : List Submission) (j : Journal) (rs : List Round) → AllSettleNext sent j rs → AllSettleNext (sent ++ more) j rs
all_settle_grow sent more j [] all = tt
all_settle_grow sent more j (r ∷ rs) all = (settles_grow sent more j r all.0, all_settle_grow sent more (with_round j r) rs all.1)

pub all_settle_push : (sent : List Submission) (j : Journal) (rs : List Round) (r : Round) → AllSettleNext sent j rs → SettlesNext sent (record j { rounds = j.rounds ++ rs }) r → AllSettleNext sent j (rs ++ r ∷ [])
all_settle_push sent j [] r all next = (subst (λ (l : List Round). SettlesNext sent (record j { rounds = l }) r) (append-nil j.rounds) next, tt)
all_settle_push sent j (x ∷ rs) r all next =
    (all.0, all_settle_push sent (with_round j x) rs r all.1 (subst (λ (l : List Round). SettlesNext sent (record j { rounds = l }) r) (sym (append_assoc j.rounds (x ∷ []) rs)) next))

-- nothing is settled at the start
pub may_come_start : (o : Opening) (sent : List Submission) → Fits (rows o.state) o.caps → MayComeOf sent (record { opening = o; rounds = [] })
may_come_start o sent fits = record { legal = (fits, tt); settled = (sent, refl); rounds = tt }

-- more may be submitted
pub may_come_grow : (sent more : List Submission) (j : Journal) → MayComeOf sent j → MayComeOf (sent ++ more) j
may_come_grow sent more j old = record {
  legal = old.legal;
  settled = prefix_trans (strip j) sent (sent ++ more) old.settled (prefix_append sent more);
  rounds = all_settle_grow sent more (record j { rounds = [] }) j.rounds old.rounds;
}

pub may_come_prefix : (sent all : List Submission) (j : Journal) → IsPrefix sent all → MayComeOf sent j → MayComeOf all j
may_come_prefix sent all j f old = subst (λ (l : List Submission). MayComeOf l j) (sym f.1) (may_come_grow sent f.0 j old)

-- what is pending follows what is settled
pub sent_split : (sent : List Submission) (j : Journal) → IsPrefix (strip j) sent → sent ≡ strip j ++ pending sent j
sent_split sent j f = prefix_rest (strip j) sent f ∙ ap (λ (n : ℕ). strip j ++ drop n sent) (length-strip j)

-- the submissions of the next round are the first that are pending
pub settles_prefix : (sent : List Submission) (j : Journal) (r : Round) (q : List Submission) → Settles (fold j) (version_of j) j.opening.caps q r → IsPrefix q (pending sent j) → IsPrefix (map submission_of r.entries) (pending sent j)
settles_prefix sent j r q st f = elim st.has [
  | inl whole ↦ subst (λ (l : List Submission). IsPrefix l (pending sent j)) (sym whole.1) f
  | inr one ↦ subst (λ (l : List Submission). IsPrefix l (pending sent j)) (sym one.1) (prefix_trans (take 1 q) q (pending sent j) (take_prefix 1 q) f)
]

-- what a round that comes next is
pub next_settles : (sent : List Submission) (j : Journal) (r : Round) → IsLegal j → (s : SettlesNext sent j r) → Settles (fold j) (version_of j) j.opening.caps (run (take s.0 (pending sent j))) r
next_settles sent j r legal s =
    let p : List Submission = take s.0 (pending sent j) in
    let some : 1 ≤ length p = omega (arith, length-take s.0 (pending sent j), s.1, s.3) in
    subst (Settles (fold j) (version_of j) j.opening.caps (run p)) (sym s.4) (settles (fold j) (version_of j) j.opening.caps (run p) (legal_fits j legal) (run_is_run p some))

pub next_prefix : (sent : List Submission) (j : Journal) (r : Round) → IsLegal j → SettlesNext sent j r → IsPrefix (map submission_of r.entries) (pending sent j)
next_prefix sent j r legal s =
    let p : List Submission = take s.0 (pending sent j) in
    settles_prefix sent j r (run p) (next_settles sent j r legal s) (prefix_trans (run p) p (pending sent j) (run_prefix p) (take_prefix s.0 (pending sent j)))

-- and one round more may be settled
pub may_come_round : (sent : List Submission) (j : Journal) (r : Round) → MayComeOf sent j → SettlesNext sent j r → MayComeOf sent (with_round j r)
may_come_round sent j r old s =
    let st = next_settles sent j r old.legal s in
    let behind : IsPrefix (strip j ++ map submission_of r.entries) (strip j ++ pending sent j) = prefix_after (strip j) (map submission_of r.entries) (pending sent j) (next_prefix sent j r old.legal s) in
    let here : IsPrefix (strip j ++ map submission_of r.entries) sent = subst (λ (l : List Submission). IsPrefix (strip j ++ map submission_of r.entries) l) (sym (sent_split sent j old.settled)) behind in
    record {
      legal = legal_push j r old.legal st.right;
      settled = subst (λ (l : List Submission). IsPrefix l sent) (sym (strip_push j r)) here;
      rounds = all_settle_push sent (record j { rounds = [] }) j.rounds r old.rounds s;
    }

-- what is left when the round is settled
pub pending_next : (sent : List Submission) (j : Journal) (r : Round) → MayComeOf sent j → SettlesNext sent j r → pending sent j ≡ map submission_of r.entries ++ pending sent (with_round j r)
pending_next sent j r old s =
    let front = next_prefix sent j r old.legal s in
    let new = may_come_round sent j r old s in
    let all : strip j ++ pending sent j ≡ strip j ++ (map submission_of r.entries ++ pending sent (with_round j r)) =
    sym (sent_split sent j old.settled) ∙ sent_split sent (with_round j r) new.settled
    ∙ ap (λ (l : List Submission). l ++ pending sent (with_round j r)) (strip_push j r)
    ∙ append_assoc (strip j) (map submission_of r.entries) (pending sent (with_round j r)) in
    append_cancel_left (strip j) (pending sent j) (map submission_of r.entries ++ pending sent (with_round j r)) all

-- any first ones of what is pending may be tried
pub settles_next : (sent : List Submission) (j : Journal) (p : List Submission) → IsPrefix p (pending sent j) → 1 ≤ length p → SettlesNext sent j (next_round j (run p))
settles_next sent j p f some = elim (cases_Bool (nat_le (length p) 64)) [
  | inl short ↦ (length p, some, leb-true (length p) 64 short, prefix_length p (pending sent j) f, ap (λ (l : List Submission). next_round j (run l)) (prefix_take p (pending sent j) f))
  | inr long ↦
      let most : 64 ≤ length p = omega (arith, leb-false (length p) 64 long) in
      let within = prefix_length p (pending sent j) f in
      let first : take 64 p ≡ take 64 (pending sent j) = ap (take 64) (prefix_take p (pending sent j) f) ∙ take-take 64 (length p) (pending sent j) most in
      (64, lit≤ tt, lit≤ tt, omega (arith, most, within), ap (next_round j) (sym (run_take_64 p)) ∙ ap (λ (l : List Submission). next_round j (run l)) first)
]

-- what a journal that may come of submissions says of its entries

pub slice_get-map : {X Y : Type 0} (f : X → Y) (xs : List X) (n : ℕ) (x : X) → slice_get xs n ≡ Some x → slice_get (map f xs) n ≡ Some (f x)
slice_get-map f [] n x is = absurd (let never : (None ≡ Some x) → ⊥ = λ h. cc in never is)
slice_get-map f (y ∷ ys) zero x is = let same : y ≡ x = cc in ap (λ z. Some (f z)) same
slice_get-map f (y ∷ ys) (suc n) x is = slice_get-map f ys n x is

pub may_come_entry : (sent : List Submission) (j : Journal) (n : ℕ) (e : Entry) → MayComeOf sent j → slice_get (entries j) n ≡ Some e → slice_get sent n ≡ Some (submission_of e)
may_come_entry sent j n e old is = prefix_get (strip j) sent n (submission_of e) old.settled (slice_get-map submission_of (entries j) n e is)

pub may_come_own : (sent : List Submission) (j : Journal) (i : ℕ) → MayComeOf sent j → IsPrefix (own i (strip j)) (own i sent)
may_come_own sent j i old = prefix_filter _ (strip j) sent old.settled

-- what led to a journal led to each beginning of it

all_settle_prefix : (sent : List Submission) (j : Journal) (xs ys : List Round) → AllSettleNext sent j (xs ++ ys) → AllSettleNext sent j xs
all_settle_prefix sent j [] ys all = tt
all_settle_prefix sent j (x ∷ xs) ys all = (all.0, all_settle_prefix sent (with_round j x) xs ys all.1)

pub strip_prefix : (j k : Journal) → IsJournalPrefix j k → IsPrefix (strip j) (strip k)
strip_prefix j k f = prefix_map submission_of (entries j) (entries k) (prefix_entries j.rounds k.rounds f.1)

pub may_come_beginning : (sent : List Submission) (j k : Journal) → IsJournalPrefix j k → MayComeOf sent k → MayComeOf sent j
may_come_beginning sent j k f all = record {
  legal = legal_prefix j k f all.legal;
  settled = prefix_trans (strip j) (strip k) sent (strip_prefix j k f) all.settled;
  rounds =
      let there : AllSettleNext sent (record k { rounds = [] }) (j.rounds ++ f.1.0) = subst (AllSettleNext sent (record k { rounds = [] })) f.1.1 all.rounds in
      subst (λ (o : Opening). AllSettleNext sent (record { opening = o; rounds = [] }) j.rounds) (sym f.0) (all_settle_prefix sent (record k { rounds = [] }) j.rounds f.1.0 there);
}

-- a round settles at least one, and no more than are pending
pub next_progress : (sent : List Submission) (j : Journal) (r : Round) → MayComeOf sent j → SettlesNext sent j r → (len j < len (with_round j r)) × (len (with_round j r) ≤ length sent)
next_progress sent j r old s =
    let st = next_settles sent j r old.legal s in
    let new = may_come_round sent j r old s in
    let within = prefix_length (strip (with_round j r)) sent new.settled in
    (omega (arith, len_push j r, st.some), omega (arith, within, length-strip (with_round j r)))

-- a round of submissions p that followed what was settled
pub settles_loaded : (sent : List Submission) (j : Journal) (p : List Submission) → IsPrefix (strip j ++ p) sent → 1 ≤ length p → SettlesNext sent j (next_round j (run p))
settles_loaded sent j p f some =
    let behind : pending sent j ≡ p ++ f.0 =
    ap (drop (len j)) (f.1 ∙ append_assoc (strip j) p f.0) ∙ drop_at (strip j) (p ++ f.0) (len j) (length-strip j) in
    settles_next sent j p (subst (λ (l : List Submission). IsPrefix p l) (sym behind) (prefix_append p f.0)) some
