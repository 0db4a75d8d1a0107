-- What a caller was told is true of the journal at the end.
use Rattle.std.proofs.Common.{◌≡◌, ◌⊎◌, inl, inr, ℕ, zero, suc, ◌+◌, ◌<◌, ◌≤◌, eqb, eq-eqb, Bool, true, false, if◌then◌else◌, List, [], ◌∷◌, ◌++◌, map, length, Some, slice_get, refl, ap, sym, ◌∙◌, subst, arith, length-append}
use Rattle.std.proofs.lemmas.List.{append-nil}
use Rattle.std.proofs.lemmas.Option.{slice_get_within}
use Rattle.std.proofs.lemmas.Bool.{cases_lt}
use Rattle.journal_laws.proofs.MayComeLaws.{slice_get-map}
use Rattle.journal_laws.proofs.RoundLaws.{length-strip}
use Rattle.journal_laws.specs.Worlds.{numbered}
use Rattle.keyed.specs.Cases.{none_some, some_is}
use Rattle.keyed.specs.Prefix.{IsPrefix, prefix_get, prefix_length, prefix_self}
use Rattle.script_text.specs.declared.script.Job.{Job}
use Rattle.script_text.specs.declared.script.Job.TheVariants as job
use Rattle.script_text.specs.declared.script.Line.{Line}
use Rattle.switch_model.specs.declared.act.Submission.{Submission}
use Rattle.switch_model.specs.declared.act.Update.{Update}
use Rattle.switch_model.specs.declared.journal.Entry.{Entry}
use Rattle.switch_model.specs.declared.reply.Reply.{Reply}
use Rattle.switch_model.specs.declared.reply.Reply.TheVariants.{Settled, HistoryFull, Settle, Pump, Answer}
use Rattle.switch_model.specs.Journal.{Journal, IsJournalPrefix, entries, len, own, strip, submission_of}
use Rattle.told_laws.specs.Course.{Ticket}
use Rattle.told_laws.specs.Keeping.{HasTold, Keeps, Slot, fates_open, line_of, passed, taken_open}
use Rattle.told_laws.specs.Serving.{Sight}
use Rattle.told_laws.specs.Told.{ArePumped, AreRefused, AreTrue, IsTrue, NeverFall, ToldLine, ToldOne, all_of, arranged, fates, in_order, none, taken, taken_by, tell}
use Rattle.told_laws.proofs.FillingLaws.{all_true_grow}
use Rattle.told_laws.proofs.GivingLaws.{pumps_grow}
use Rattle.told_laws.proofs.KeepingLaws.{len_grows}
use Rattle.told_laws.proofs.ListLaws.{empty_list, length-numbered, own-append, refused_map}

no_slots : (xs : List ToldLine) (os : List Slot) → map (λ a. a.line) xs ++ map line_of os ≡ [] → (xs ≡ []) × (os ≡ [])
no_slots [] [] e = (refl, refl)
no_slots [] (o ∷ os) e = absurd (cc (e))
no_slots (x ∷ xs) os e = absurd (cc (e))

-- after its phases, a caller was told what its record says
pub told_one : (limit i : ℕ) (p : Sight) (ws : List Ticket) (ts : List (ℕ × Reply)) (done : List (List Line)) → Keeps limit i p ws ts done [] → HasTold (limit ≤ length p.sent) p.mine p.journal p.rounds i done ts
told_one limit i p ws ts done k =
    let empty = no_slots k.closed k.slots k.lines_are in
    let whole : all_of k.phases ++ k.closed ≡ all_of k.phases = ap (λ m. all_of k.phases ++ m) empty.0 ∙ append-nil (all_of k.phases) in
    let nothing : ((arranged none k.closed).given ++ passed k.slots) ≡ [] = (λ z. (arranged none (empty.0 z)).given ++ passed (empty.1 z)) in
    let order : in_order k.phases ≡ k.given = sym (append-nil (in_order k.phases)) ∙ (ap (λ m. in_order k.phases ++ m) (sym nothing) ∙ k.order) in
    let g = k.answers in
    let one : ToldOne (limit ≤ length p.sent) p.mine p.journal p.rounds i k.phases = record {
      updates = k.updates ∙ ap (numbered i 0) ((λ z. taken (whole z) ++ taken_open (empty.1 z)) ∙ append-nil (taken (all_of k.phases)));
      refused = subst (AreRefused (limit ≤ length p.sent)) ((λ z. fates (whole z) ++ fates_open (empty.1 z)) ∙ append-nil (fates (all_of k.phases))) k.refused;
      each = subst (AreTrue p.journal i 0) whole k.each;
      fronts = subst (λ xs. NeverFall 0 xs) (sym order) g.fronts;
      counts = k.counts;
      marks = g.marks;
      pumps = subst (λ xs. ArePumped p.journal p.rounds i (len p.journal) 0 0 g.marks xs) (sym order) g.pumps;
    } in record {
      told = k.phases;
      lines = k.phases_are;
      replies = ap (map tell) order ∙ k.replies;
      one = one;
    }

-- the journal grew since
pub told_grows : (A B : Type 0) (mine all : List Submission) (j k : Journal) (rounds : List ℕ) (i : ℕ) (done : List (List Line)) (ts : List (ℕ × Reply)) → (A → B) → IsJournalPrefix j k → mine ≡ all → HasTold A mine j rounds i done ts → HasTold B all k rounds i done ts
told_grows A B mine all j k rounds i done ts full p same h =
    let o = h.one in
    let one : ToldOne B all k rounds i h.told = record {
      updates = sym same ∙ o.updates;
      refused = refused_map A B (fates (all_of h.told)) full o.refused;
      each = all_true_grow j k i 0 (all_of h.told) p o.each;
      fronts = o.fronts;
      counts = o.counts;
      marks = o.marks;
      pumps = pumps_grow j k rounds rounds i (len j) (len k) o.marks (in_order h.told) p (prefix_self rounds) (len_grows j k p) o.pumps;
    } in record { told = h.told; lines = h.lines; replies = h.replies; one = one }

-- the line with the m-th update, and its reply
record IsUpdate (j : Journal) (i m : ℕ) : Type 0 where
  queue : Bool
  update : Update
  reply : Reply
  taken_is : taken_by (job.Submit queue update) reply ≡ update ∷ []
  so : IsTrue j i m (job.Submit queue update) reply

update_at : (j : Journal) (i n m : ℕ) (what : Job) (r : Reply) → n ≤ m → m < n + length (taken_by what r) → IsTrue j i n what r → IsUpdate j i m
update_at j i n m (job.Submit queue update) (Settled position verdict version front) le lt so = (let e : n ≡ m = omega arith in record { queue = queue; update = update; reply = Settled position verdict version front; taken_is = refl; so = subst (λ x. IsTrue j i x (job.Submit queue update) (Settled position verdict version front)) e so })
update_at j i n m (job.Submit queue update) HistoryFull le lt so = absurd (omega arith)
update_at j i n m (job.Submit queue update) (Settle c) le lt so = absurd so
update_at j i n m (job.Submit queue update) (Pump c) le lt so = absurd so
update_at j i n m (job.Submit queue update) (Answer front text) le lt so = absurd so
update_at j i n m job.Settle r le lt so = absurd (omega arith)
update_at j i n m job.Pump r le lt so = absurd (omega arith)
update_at j i n m job.Peek r le lt so = absurd (omega arith)
update_at j i n m job.Tables r le lt so = absurd (omega arith)
update_at j i n m (job.Show query) r le lt so = absurd (omega arith)

find_by : (j : Journal) (i n m : ℕ) (x : ToldLine) (xs : List ToldLine) → n ≤ m → m < n + length (taken (x ∷ xs)) → AreTrue j i n (x ∷ xs) → (m < n + length (taken_by x.line.job x.reply)) ⊎ (n + length (taken_by x.line.job x.reply) ≤ m)
    → (n + length (taken_by x.line.job x.reply) ≤ m → m < n + length (taken_by x.line.job x.reply) + length (taken xs) → IsUpdate j i m) → IsUpdate j i m
find_by j i n m x xs le lt h (inl here) next = update_at j i n m x.line.job x.reply le here h.1
find_by j i n m x xs le lt h (inr later) next = next later (let l = length-append (taken_by x.line.job x.reply) (taken xs) in omega arith)

find_update : (j : Journal) (i n m : ℕ) (xs : List ToldLine) → AreTrue j i n xs → n ≤ m → m < n + length (taken xs) → IsUpdate j i m
find_update j i n m [] h le lt = absurd (omega arith)
find_update j i n m (x ∷ xs) h le lt = find_by j i n m x xs le lt h (cases_lt m (n + length (taken_by x.line.job x.reply))) (λ le' lt'. find_update j i (n + length (taken_by x.line.job x.reply)) m xs h.2 le' lt')

own_by : (i n : ℕ) (x : Submission) (xs : List Submission) (s : Submission) (b : Bool) → slice_get xs n ≡ Some s → (m : ℕ) × (slice_get (if b then x ∷ xs else xs) m ≡ Some s)
own_by i n x xs s true h = (suc n, h)
own_by i n x xs s false h = (n, h)

own_has : (i : ℕ) (ss : List Submission) (k : ℕ) (s : Submission) → slice_get ss k ≡ Some s → s.caller ≡ i → (n : ℕ) × (slice_get (own i ss) n ≡ Some s)
own_has i [] k s h e = absurd (none_some h)
own_has i (x ∷ ss) zero s h e =
    let same : x ≡ s = some_is h in
    let mine : eqb x.caller i ≡ true = eq-eqb x.caller i (ap (λ (y : Submission). y.caller) same ∙ e) in
    (0, ap (λ (b : Bool). slice_get (if b then x ∷ own i ss else own i ss) 0) mine ∙ h)
own_has i (x ∷ ss) (suc k) s h e =
    let rest = own_has i ss k s h e in
    own_by i rest.0 x (own i ss) s (eqb x.caller i) rest.1

numbered_at : (i n k : ℕ) (us : List Update) (s : Submission) → slice_get (numbered i n us) k ≡ Some s → s.seq ≡ n + k
numbered_at i n k [] s h = absurd (none_some h)
numbered_at i n zero (x ∷ us) s h =
    let first : Submission = record { caller = i; seq = n; update = x } in
    let same : first ≡ s = some_is h in
    let e = ap (λ (y : Submission). y.seq) same in
    omega (arith, e)
numbered_at i n (suc k) (x ∷ us) s h = (let r = numbered_at i (n + 1) k us s h in omega (arith, r))

-- the entry of an update with that rank stands among the caller's own
rank_by : (j : Journal) (i m : ℕ) (queue : Bool) (update : Update) (r : Reply) → taken_by (job.Submit queue update) r ≡ update ∷ [] → IsTrue j i m (job.Submit queue update) r → (n : ℕ) × ((s : Submission) × (slice_get (own i (strip j)) n ≡ Some s) × (s.seq ≡ m))
rank_by j i m queue update (Settled position verdict version front) t so =
    let s : Submission = record { caller = i; seq = m; update = update } in
    let e : Entry = record { caller = i; seq = m; update = update; verdict = verdict; version = version } in
    let there : slice_get (strip j) position ≡ Some s = slice_get-map submission_of (entries j) position e so.there in
    let at = own_has i (strip j) position s there refl in
    (at.0, (s, at.1, refl))
rank_by j i m queue update HistoryFull t so = absurd (cc)
rank_by j i m queue update (Settle c) t so = absurd so
rank_by j i m queue update (Pump c) t so = absurd so
rank_by j i m queue update (Answer front text) t so = absurd so

rank_in : (j : Journal) (i m : ℕ) (u : IsUpdate j i m) → (n : ℕ) × ((s : Submission) × (slice_get (own i (strip j)) n ≡ Some s) × (s.seq ≡ m))
rank_in j i m u = rank_by j i m u.queue u.update u.reply u.taken_is u.so

few_left : (n : ℕ) → (0 < n) ⊎ (n ≤ 0) → (0 < n → ⊥) → n ≤ 0
few_left n (inl some) never = absurd (never some)
few_left n (inr few) never = few

-- all that a caller submitted is settled, where each of its lines has its reply
pub own_settled : (i : ℕ) (j : Journal) (sent : List Submission) (xs : List ToldLine) → AreTrue j i 0 xs → own i sent ≡ numbered i 0 (taken xs) → IsPrefix (strip j) sent → own i (strip j) ≡ own i sent
own_settled i j sent xs so all front =
    let mine = own i (strip j) in
    let left = own i front.0 in
    let parts : own i sent ≡ mine ++ left = ap (own i) front.1 ∙ own-append i (strip j) front.0 in
    let long : length mine + length left ≡ length (taken xs) = sym (length-append mine left) ∙ (ap length (sym parts ∙ all) ∙ length-numbered i 0 (taken xs)) in
    let few : length left ≤ 0 = few_left (length left) (cases_lt 0 (length left)) (λ some.
    let u = find_update j i 0 (length mine) xs so (omega arith) (omega (arith, long, some)) in
    let r = rank_in j i (length mine) u in
    let within = slice_get_within mine r.0 r.1.0 r.1.1 in
    let there : slice_get (numbered i 0 (taken xs)) r.0 ≡ Some r.1.0 = subst (λ (l : List Submission). slice_get l r.0 ≡ Some r.1.0) (sym parts ∙ all) (prefix_get mine (mine ++ left) r.0 r.1.0 (left, refl) r.1.1) in
    let seq_is = numbered_at i 0 r.0 (taken xs) r.1.0 there in
    let rank = r.1.2 in
    omega (arith, within, seq_is, rank)) in
    sym (parts ∙ (ap (λ w. mine ++ w) (empty_list left few) ∙ append-nil mine))

rest_none : (i : ℕ) (j : Journal) (sent : List Submission) (front : IsPrefix (strip j) sent) → own i (strip j) ≡ own i sent → own i front.0 ≡ []
rest_none i j sent front e =
    let parts : own i sent ≡ own i (strip j) ++ own i front.0 = ap (own i) front.1 ∙ own-append i (strip j) front.0 in
    let long : length (own i sent) ≡ length (own i (strip j)) + length (own i front.0) = ap length parts ∙ length-append (own i (strip j)) (own i front.0) in
    empty_list (own i front.0) (omega (arith, long, ap length e))

none_of : (ss : List Submission) → ((i : ℕ) → own i ss ≡ []) → ss ≡ []
none_of [] h = refl
none_of (s ∷ ss) h =
    let same : eqb s.caller s.caller ≡ true = eq-eqb s.caller s.caller refl in
    let e : s ∷ own s.caller ss ≡ [] = sym (ap (λ (b : Bool). if b then s ∷ own s.caller ss else own s.caller ss) same) ∙ h s.caller in
    absurd (cc)

-- where all that each caller submitted is settled, all is
pub all_settled : (j : Journal) (sent : List Submission) → IsPrefix (strip j) sent → ((i : ℕ) → own i (strip j) ≡ own i sent) → strip j ≡ sent
all_settled j sent front each = sym (append-nil (strip j)) ∙ (ap (λ (w : List Submission). strip j ++ w) (sym (none_of front.0 (λ i. rest_none i j sent front (each i)))) ∙ sym front.1)

-- the end: what a caller was told is true of the journal, of which its own part is what its lines submitted
pub told_closes : (limit : ℕ) (p : Sight) (sent : List Submission) (j : Journal) (done : List (List Line)) (ts : List (ℕ × Reply)) → HasTold (limit ≤ length p.sent) p.mine p.journal p.rounds p.number done ts → IsPrefix p.sent sent → IsJournalPrefix p.journal j → p.mine ≡ own p.number sent
    → length sent ≤ limit → strip j ≡ sent → HasTold (len j ≡ limit) (own p.number (strip j)) j p.rounds p.number done ts
told_closes limit p sent j done ts h seen jseen mine bounded all =
    let full : limit ≤ length p.sent → len j ≡ limit = (λ le. let more = prefix_length p.sent sent seen in let s = length-strip j in let a = ap length all in omega arith) in
    told_grows (limit ≤ length p.sent) (len j ≡ limit) p.mine (own p.number (strip j)) p.journal j p.rounds p.number done ts full jseen (mine ∙ ap (own p.number) (sym all)) h

-- and all that it submitted is settled
pub caller_settled : (A : Type 0) (p : Sight) (sent : List Submission) (j : Journal) (done : List (List Line)) (ts : List (ℕ × Reply)) → HasTold A p.mine p.journal p.rounds p.number done ts → IsJournalPrefix p.journal j → p.mine ≡ own p.number sent → IsPrefix (strip j) sent
    → own p.number (strip j) ≡ own p.number sent
caller_settled A p sent j done ts h jseen mine front =
    own_settled p.number j sent (all_of h.told) (all_true_grow p.journal j p.number 0 (all_of h.told) jseen h.one.each) (sym mine ∙ h.one.updates) front
