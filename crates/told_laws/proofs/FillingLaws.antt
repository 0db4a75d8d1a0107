-- The lines that wait get their replies.
use Rattle.std.proofs.Common.{◌≡◌, ℕ, suc, ◌+◌, ◌≤◌, Bool, true, false, List, [], ◌∷◌, ◌++◌, length, map, Some, slice_get, refl, ap, sym, ◌∙◌, subst, arith, append_assoc, length-append}
use Rattle.std.proofs.lemmas.List.{append-nil}
use Rattle.answer_forms.specs.AnswerText.{answer_text, tables_text}
use Rattle.journal_laws.proofs.EndLaws.{end_grows, end_within, fold_upto_grown, prefix_entries, version_upto_grown}
use Rattle.keyed.specs.Cases.{some_is}
use Rattle.keyed.specs.Prefix.{IsPrefix, prefix_get}
use Rattle.script_text.specs.declared.script.Job.{Job}
use Rattle.script_text.specs.declared.script.Job.TheVariants as job
use Rattle.script_text.specs.declared.script.Line.{Line}
use Rattle.switch_model.specs.declared.act.Submission.{Submission}
use Rattle.switch_model.specs.declared.act.Update.{Update}
use Rattle.switch_model.specs.declared.journal.Entry.{Entry}
use Rattle.switch_model.specs.declared.query.Query.TheVariants.{Version}
use Rattle.switch_model.specs.declared.reply.Reply.{Reply}
use Rattle.switch_model.specs.declared.reply.Reply.TheVariants.{Settled, HistoryFull, Settle, Pump, Answer}
use Rattle.switch_model.specs.declared.verdict.Verdict.{Verdict}
use Rattle.switch_model.specs.Journal.{Journal, IsJournalPrefix, entries, fold, len, submission_of, upto, version_of}
use Rattle.switch_model.specs.PlainState.{PlainState}
use Rattle.told_laws.specs.Course.{Ticket}
use Rattle.told_laws.specs.Keeping.{AreGiven, AreOpen, Slot, count_after, fates_open, line_of, passed, taken_open}
use Rattle.told_laws.specs.Keeping.Slot.{held, told}
use Rattle.told_laws.specs.Serving.{Answered, Answers}
use Rattle.told_laws.specs.Told.{AreCounted, AreTrue, IsCount, IsLook, IsSettled, IsTrue, Order, ToldLine, arranged, fate_of, fates, front_or, passes, put_by, role, settles, taken, taken_by, tell, waiting_after, waits}
use Rattle.told_laws.proofs.GivingLaws.{given_settled}

-- a line that waited, with its reply
abbrev pub filled : ℕ → ℕ → Update → ℕ → Reply → ToldLine
filled line caller update earlier r = record { line = record { line = line; caller = caller; job = job.Submit true update }; reply = r; earlier = earlier }

-- all lines, with those replies for the ones that waited
abbrev pub fill : List Slot → List (ℕ × Reply) → List ToldLine
fill [] ts = []
fill (held line caller update earlier ∷ os) [] = fill os []
fill (held line caller update earlier ∷ os) (t ∷ ts) = filled line caller update earlier t.1 ∷ fill os ts
fill (told a ∷ os) ts = a ∷ fill os ts

-- only the lines that waited
abbrev pub answered : List Slot → List (ℕ × Reply) → List ToldLine
answered [] ts = []
answered (held line caller update earlier ∷ os) [] = answered os []
answered (held line caller update earlier ∷ os) (t ∷ ts) = filled line caller update earlier t.1 ∷ answered os ts
answered (told a ∷ os) ts = answered os ts

-- an answer stays true
pub look_grows : (j k : Journal) (words : PlainState → ℕ → ℕ → List ℕ) (front : ℕ) (text : List ℕ) → IsJournalPrefix j k → IsLook j words front text → IsLook k words front text
look_grows j k words front text p h = record {
  end = end_grows j k front p h.end;
  text_is = h.text_is ∙ sym (ap (λ (m : PlainState). words m (version_of (upto k front)) front) (fold_upto_grown j k front p h.end) ∙ ap (λ (v : ℕ). words (fold (upto j front)) v front) (version_upto_grown j k front p h.end));
}

-- what is true stays so
pub true_grows : (j k : Journal) (i n : ℕ) (what : Job) (r : Reply) → IsJournalPrefix j k → IsTrue j i n what r → IsTrue k i n what r
true_grows j k i n (job.Submit queue update) (Settled position verdict version front) p h = record {
  there = prefix_get (entries j) (entries k) position (record { caller = i; seq = n; update = update; verdict = verdict; version = version }) (prefix_entries j.rounds k.rounds p.1) h.there;
  below = h.below;
  end = end_grows j k front p h.end;
}
true_grows j k i n (job.Submit queue update) HistoryFull p h = tt
true_grows j k i n (job.Submit queue update) (Settle c) p h = h
true_grows j k i n (job.Submit queue update) (Pump c) p h = h
true_grows j k i n (job.Submit queue update) (Answer front text) p h = h
true_grows j k i n job.Settle (Settled position verdict version front) p h = h
true_grows j k i n job.Settle HistoryFull p h = h
true_grows j k i n job.Settle (Settle c) p h = h
true_grows j k i n job.Settle (Pump c) p h = h
true_grows j k i n job.Settle (Answer front text) p h = h
true_grows j k i n job.Pump (Settled position verdict version front) p h = h
true_grows j k i n job.Pump HistoryFull p h = h
true_grows j k i n job.Pump (Settle c) p h = h
true_grows j k i n job.Pump (Pump c) p h = h
true_grows j k i n job.Pump (Answer front text) p h = h
true_grows j k i n job.Peek (Settled position verdict version front) p h = h
true_grows j k i n job.Peek HistoryFull p h = h
true_grows j k i n job.Peek (Settle c) p h = h
true_grows j k i n job.Peek (Pump c) p h = h
true_grows j k i n job.Peek (Answer front text) p h = look_grows j k (answer_text Version) front text p h
true_grows j k i n job.Tables (Settled position verdict version front) p h = h
true_grows j k i n job.Tables HistoryFull p h = h
true_grows j k i n job.Tables (Settle c) p h = h
true_grows j k i n job.Tables (Pump c) p h = h
true_grows j k i n job.Tables (Answer front text) p h = look_grows j k tables_text front text p h
true_grows j k i n (job.Show query) (Settled position verdict version front) p h = h
true_grows j k i n (job.Show query) HistoryFull p h = h
true_grows j k i n (job.Show query) (Settle c) p h = h
true_grows j k i n (job.Show query) (Pump c) p h = h
true_grows j k i n (job.Show query) (Answer front text) p h = look_grows j k (answer_text query) front text p h

pub all_true_grow : (j k : Journal) (i n : ℕ) (xs : List ToldLine) → IsJournalPrefix j k → AreTrue j i n xs → AreTrue k i n xs
all_true_grow j k i n [] p h = tt
all_true_grow j k i n (a ∷ xs) p h = (h.0, true_grows j k i n a.line.job a.reply p h.1, all_true_grow j k i (n + length (taken_by a.line.job a.reply)) xs p h.2)

pub true_both : (j : Journal) (i n : ℕ) (xs bs : List ToldLine) → AreTrue j i n xs → AreTrue j i (n + length (taken xs)) bs → AreTrue j i n (xs ++ bs)
true_both j i n [] bs h t = (let e : n + 0 ≡ n = omega arith in subst (λ m. AreTrue j i m bs) e t)
true_both j i n (a ∷ xs) bs h t =
    let one = taken_by a.line.job a.reply in
    let e : n + length (one ++ taken xs) ≡ n + length one + length (taken xs) = (let l = length-append one (taken xs) in omega arith) in
    (h.0, h.1, true_both j i (n + length one) xs bs h.2 (subst (λ m. AreTrue j i m bs) e t))

pub open_grows : (sent more : List Submission) (j k : Journal) (i n : ℕ) (os : List Slot) (ws : List Ticket) → IsPrefix sent more → IsJournalPrefix j k → AreOpen sent j i n os ws → AreOpen more k i n os ws
open_grows sent more j k i n [] [] p q h = tt
open_grows sent more j k i n [] (w ∷ ws) p q h = h
open_grows sent more j k i n (held line caller update earlier ∷ os) [] p q h = h
open_grows sent more j k i n (held line caller update earlier ∷ os) (w ∷ ws) p q h =
    (h.0, h.1, prefix_get sent more w.position (record { caller = i; seq = n; update = update }) p h.2, open_grows sent more j k i (n + 1) os ws p q h.3)
open_grows sent more j k i n (told a ∷ os) ws p q h =
    (h.0, h.1, true_grows j k i n a.line.job a.reply q h.2, open_grows sent more j k i (n + length (taken_by a.line.job a.reply)) os ws p q h.3)

-- one slot more
pub open_next : (sent : List Submission) (j : Journal) (i n : ℕ) (os : List Slot) (ws : List Ticket) (o : Slot) (vs : List Ticket) → AreOpen sent j i n os ws → AreOpen sent j i (n + length (taken_open os)) (o ∷ []) vs → AreOpen sent j i n (os ++ o ∷ []) (ws ++ vs)
open_next sent j i n [] [] o vs h t = (let e : n + 0 ≡ n = omega arith in subst (λ m. AreOpen sent j i m (o ∷ []) vs) e t)
open_next sent j i n [] (w ∷ ws) o vs h t = absurd h
open_next sent j i n (held line caller update earlier ∷ os) [] o vs h t = absurd h
open_next sent j i n (held line caller update earlier ∷ os) (w ∷ ws) o vs h t =
    let e : n + suc (length (taken_open os)) ≡ n + 1 + length (taken_open os) = omega arith in
    (h.0, h.1, h.2, open_next sent j i (n + 1) os ws o vs h.3 (subst (λ m. AreOpen sent j i m (o ∷ []) vs) e t))
open_next sent j i n (told a ∷ os) ws o vs h t =
    let one = taken_by a.line.job a.reply in
    let e : n + length (one ++ taken_open os) ≡ n + length one + length (taken_open os) = (let l = length-append one (taken_open os) in omega arith) in
    (h.0, h.1, h.2, open_next sent j i (n + length one) os ws o vs h.3 (subst (λ m. AreOpen sent j i m (o ∷ []) vs) e t))

-- a submission with how it was settled
abbrev entry_with : Verdict → ℕ → Submission → Entry
entry_with verdict version s = record { caller = s.caller; seq = s.seq; update = s.update; verdict = verdict; version = version }

-- the entry of a ticket is that of its line
settled_is : (sent : List Submission) (j : Journal) (i n low : ℕ) (update : Update) (w : Ticket) (t : ℕ × Reply) (front : ℕ) → slice_get sent w.position ≡ Some (record { caller = i; seq = n; update = update }) → (a : Answered sent j low w t front)
    → IsSettled j i n update w.position a.entry.verdict a.entry.version front
settled_is sent j i n low update w t front there a =
    let s : Submission = record { caller = i; seq = n; update = update } in
    let same : submission_of a.entry ≡ s = some_is (sym a.of_ticket ∙ there) in
    let entry_is : a.entry ≡ record { caller = i; seq = n; update = update; verdict = a.entry.verdict; version = a.entry.version } = ap (entry_with a.entry.verdict a.entry.version) same in
    record {
      there = a.there ∙ ap Some entry_is;
      below = a.below;
      end = a.end;
    }

-- the reply of one ticket
pub true_of : (sent : List Submission) (j : Journal) (i n low : ℕ) (update : Update) (queue : Bool) (w : Ticket) (t : ℕ × Reply) (front : ℕ) → slice_get sent w.position ≡ Some (record { caller = i; seq = n; update = update }) → Answered sent j low w t front → IsTrue j i n (job.Submit queue update) t.1
true_of sent j i n low update queue w t front there a =
    subst (λ (x : ℕ × Reply). IsTrue j i n (job.Submit queue update) x.1) (sym a.told_is) (settled_is sent j i n low update w t front there a)

pub reply_is : (sent : List Submission) (j : Journal) (low : ℕ) (w : Ticket) (t : ℕ × Reply) (front : ℕ) → (a : Answered sent j low w t front) → t.1 ≡ Settled w.position a.entry.verdict a.entry.version front
reply_is sent j low w t front a = ap (λ (x : ℕ × Reply). x.1) a.told_is

taken_one : (sent : List Submission) (j : Journal) (low : ℕ) (update : Update) (queue : Bool) (w : Ticket) (t : ℕ × Reply) (front : ℕ) → Answered sent j low w t front → taken_by (job.Submit queue update) t.1 ≡ update ∷ []
taken_one sent j low update queue w t front a = ap (taken_by (job.Submit queue update)) (reply_is sent j low w t front a)

pub fill_true : (sent : List Submission) (j : Journal) (i n low : ℕ) (os : List Slot) (ws : List Ticket) (ts : List (ℕ × Reply)) → AreOpen sent j i n os ws → Answers sent j low ws ts → AreTrue j i n (fill os ts)
fill_true sent j i n low [] ws ts h a = tt
fill_true sent j i n low (held line caller update earlier ∷ os) [] ts h a = absurd h
fill_true sent j i n low (held line caller update earlier ∷ os) (w ∷ ws) [] h a = absurd a
fill_true sent j i n low (held line caller update earlier ∷ os) (w ∷ ws) (t ∷ ts) h a =
    let one : length (taken_by (job.Submit true update) t.1) ≡ 1 = ap length (taken_one sent j low update true w t a.0 a.1) in
    (h.0, true_of sent j i n low update true w t a.0 h.2 a.1, subst (λ m. AreTrue j i (n + m) (fill os ts)) (sym one) (fill_true sent j i (n + 1) a.0 os ws ts h.3 a.2))
fill_true sent j i n low (told b ∷ os) ws ts h a = (h.1, h.2, fill_true sent j i (n + length (taken_by b.line.job b.reply)) low os ws ts h.3 a)

pub fill_taken : (sent : List Submission) (j : Journal) (i n low : ℕ) (os : List Slot) (ws : List Ticket) (ts : List (ℕ × Reply)) → AreOpen sent j i n os ws → Answers sent j low ws ts → taken (fill os ts) ≡ taken_open os
fill_taken sent j i n low [] ws ts h a = refl
fill_taken sent j i n low (held line caller update earlier ∷ os) [] ts h a = absurd h
fill_taken sent j i n low (held line caller update earlier ∷ os) (w ∷ ws) [] h a = absurd a
fill_taken sent j i n low (held line caller update earlier ∷ os) (w ∷ ws) (t ∷ ts) h a =
    ap (λ m. m ++ taken (fill os ts)) (taken_one sent j low update true w t a.0 a.1) ∙ ap (λ (m : List Update). update ∷ m) (fill_taken sent j i (n + 1) a.0 os ws ts h.3 a.2)
fill_taken sent j i n low (told b ∷ os) ws ts h a = ap (λ m. taken_by b.line.job b.reply ++ m) (fill_taken sent j i (n + length (taken_by b.line.job b.reply)) low os ws ts h.3 a)

pub fill_fates : (sent : List Submission) (j : Journal) (i n low : ℕ) (os : List Slot) (ws : List Ticket) (ts : List (ℕ × Reply)) → AreOpen sent j i n os ws → Answers sent j low ws ts → fates (fill os ts) ≡ fates_open os
fill_fates sent j i n low [] ws ts h a = refl
fill_fates sent j i n low (held line caller update earlier ∷ os) [] ts h a = absurd h
fill_fates sent j i n low (held line caller update earlier ∷ os) (w ∷ ws) [] h a = absurd a
fill_fates sent j i n low (held line caller update earlier ∷ os) (w ∷ ws) (t ∷ ts) h a =
    ap (λ r. fate_of (job.Submit true update) r ++ fates (fill os ts)) (reply_is sent j low w t a.0 a.1) ∙ ap (λ m. false ∷ m) (fill_fates sent j i (n + 1) a.0 os ws ts h.3 a.2)
fill_fates sent j i n low (told b ∷ os) ws ts h a = ap (λ m. fate_of b.line.job b.reply ++ m) (fill_fates sent j i (n + length (taken_by b.line.job b.reply)) low os ws ts h.3 a)

pub fill_lines : (sent : List Submission) (j : Journal) (i n low : ℕ) (os : List Slot) (ws : List Ticket) (ts : List (ℕ × Reply)) → AreOpen sent j i n os ws → Answers sent j low ws ts → map (λ a. a.line) (fill os ts) ≡ map line_of os
fill_lines sent j i n low [] ws ts h a = refl
fill_lines sent j i n low (held line caller update earlier ∷ os) [] ts h a = absurd h
fill_lines sent j i n low (held line caller update earlier ∷ os) (w ∷ ws) [] h a = absurd a
fill_lines sent j i n low (held line caller update earlier ∷ os) (w ∷ ws) (t ∷ ts) h a = ap (λ (m : List Line). record { line = line; caller = caller; job = job.Submit true update } ∷ m) (fill_lines sent j i (n + 1) a.0 os ws ts h.3 a.2)
fill_lines sent j i n low (told b ∷ os) ws ts h a = ap (λ m. b.line ∷ m) (fill_lines sent j i (n + length (taken_by b.line.job b.reply)) low os ws ts h.3 a)

-- a reply under that number
abbrev under : ℕ → Reply → ℕ × Reply
under line reply = (line, reply)

pub pair_is : (t : ℕ × Reply) (line : ℕ) → t.0 ≡ line → under line t.1 ≡ t
pair_is t line e = ap (λ (n : ℕ). under n t.1) (sym e)

-- the answers, under the numbers of their lines
pub answered_tell : (sent : List Submission) (j : Journal) (i n low : ℕ) (os : List Slot) (ws : List Ticket) (ts : List (ℕ × Reply)) → AreOpen sent j i n os ws → Answers sent j low ws ts → map tell (answered os ts) ≡ ts
answered_tell sent j i n low [] [] [] h a = refl
answered_tell sent j i n low [] [] (t ∷ ts) h a = absurd a
answered_tell sent j i n low [] (w ∷ ws) ts h a = absurd h
answered_tell sent j i n low (held line caller update earlier ∷ os) [] ts h a = absurd h
answered_tell sent j i n low (held line caller update earlier ∷ os) (w ∷ ws) [] h a = absurd a
answered_tell sent j i n low (held line caller update earlier ∷ os) (w ∷ ws) (t ∷ ts) h a =
    let here : t.0 ≡ line = ap (λ (x : ℕ × Reply). x.0) a.1.told_is ∙ h.1 in
    ap (λ (x : ℕ × Reply). x ∷ map tell (answered os ts)) (pair_is t line here) ∙ ap (λ (m : List (ℕ × Reply)). t ∷ m) (answered_tell sent j i (n + 1) a.0 os ws ts h.3 a.2)
answered_tell sent j i n low (told b ∷ os) ws ts h a = answered_tell sent j i (n + length (taken_by b.line.job b.reply)) low os ws ts h.3 a

-- their order: those that waited come at the end
pub fill_arranged : (sent : List Submission) (j : Journal) (i n low : ℕ) (o : Order) (os : List Slot) (ws : List Ticket) (ts : List (ℕ × Reply)) → AreOpen sent j i n os ws → Answers sent j low ws ts
    → arranged o (fill os ts) ≡ record { given = o.given ++ passed os; waiting = o.waiting ++ answered os ts }
fill_arranged sent j i n low o [] ws ts h a = λ x. record { given = sym (append-nil o.given) x; waiting = sym (append-nil o.waiting) x }
fill_arranged sent j i n low o (held line caller update earlier ∷ os) [] ts h a = absurd h
fill_arranged sent j i n low o (held line caller update earlier ∷ os) (w ∷ ws) [] h a = absurd a
fill_arranged sent j i n low o (held line caller update earlier ∷ os) (w ∷ ws) (t ∷ ts) h a =
    let b = filled line caller update earlier t.1 in
    let put : put_by (role (job.Submit true update) t.1) b o ≡ put_by waits b o = ap (λ r. put_by (role (job.Submit true update) r) b o) (reply_is sent j low w t a.0 a.1) in
    ap (λ p. arranged p (fill os ts)) put ∙ (fill_arranged sent j i (n + 1) a.0 (put_by waits b o) os ws ts h.3 a.2 ∙ (λ x. record { given = o.given ++ passed os; waiting = append_assoc o.waiting (b ∷ []) (answered os ts) x }))
fill_arranged sent j i n low o (told b ∷ os) ws ts h a =
    ap (λ r. arranged (put_by r b o) (fill os ts)) h.0 ∙ (fill_arranged sent j i (n + length (taken_by b.line.job b.reply)) low (put_by passes b o) os ws ts h.3 a ∙ (λ x. record { given = append_assoc o.given (b ∷ []) (passed os) x; waiting = o.waiting ++ answered os ts }))

never : settles ≡ passes → ⊥
never e = cc

-- a reply that passes is no count of tickets
pass_count : (j : Journal) (i n m : ℕ) (what : Job) (r : Reply) → role what r ≡ passes → IsTrue j i n what r → IsCount m r
pass_count j i n m what (Settled position verdict version front) e h = tt
pass_count j i n m what HistoryFull e h = tt
pass_count j i n m what (Pump c) e h = tt
pass_count j i n m what (Answer front text) e h = tt
pass_count j i n m (job.Submit queue update) (Settle c) e h = absurd h
pass_count j i n m job.Settle (Settle c) e h = absurd (never e)
pass_count j i n m job.Pump (Settle c) e h = absurd h
pass_count j i n m job.Peek (Settle c) e h = absurd h
pass_count j i n m job.Tables (Settle c) e h = absurd h
pass_count j i n m (job.Show query) (Settle c) e h = absurd h

pub fill_counts : (sent : List Submission) (j : Journal) (i n low m : ℕ) (os : List Slot) (ws : List Ticket) (ts : List (ℕ × Reply)) → AreOpen sent j i n os ws → Answers sent j low ws ts → AreCounted m (fill os ts) × (count_after m (fill os ts) ≡ m + length ws)
fill_counts sent j i n low m [] [] ts h a = (tt, omega arith)
fill_counts sent j i n low m [] (w ∷ ws) ts h a = absurd h
fill_counts sent j i n low m (held line caller update earlier ∷ os) [] ts h a = absurd h
fill_counts sent j i n low m (held line caller update earlier ∷ os) (w ∷ ws) [] h a = absurd a
fill_counts sent j i n low m (held line caller update earlier ∷ os) (w ∷ ws) (t ∷ ts) h a =
    let r = reply_is sent j low w t a.0 a.1 in
    let rest = fill_counts sent j i (n + 1) a.0 (m + 1) os ws ts h.3 a.2 in
    let after : m + 1 ≡ waiting_after (role (job.Submit true update) t.1) m = ap (λ x. waiting_after (role (job.Submit true update) x) m) (sym r) in
    let e : m + 1 + length ws ≡ m + suc (length ws) = omega arith in
    ((subst (IsCount m) (sym r) tt, subst (λ k. AreCounted k (fill os ts)) after rest.0), ap (λ k. count_after k (fill os ts)) (sym after) ∙ (rest.1 ∙ e))
fill_counts sent j i n low m (told b ∷ os) ws ts h a =
    let rest = fill_counts sent j i (n + length (taken_by b.line.job b.reply)) low m os ws ts h.3 a in
    let after : m ≡ waiting_after (role b.line.job b.reply) m = ap (λ x. waiting_after x m) (sym h.0) in
    ((pass_count j i n m b.line.job b.reply h.0 h.2, subst (λ k. AreCounted k (fill os ts)) after rest.0), ap (λ k. count_after k (fill os ts)) (sym after) ∙ rest.1)

-- the last front of those replies
abbrev pub last_told : ℕ → List (ℕ × Reply) → ℕ
last_told low [] = low
last_told low (t ∷ ts) = last_told (front_or low t.1) ts

pub last_told_within : (sent : List Submission) (j : Journal) (low : ℕ) (ws : List Ticket) (ts : List (ℕ × Reply)) → low ≤ len j → Answers sent j low ws ts → last_told low ts ≤ len j
last_told_within sent j low [] [] le a = le
last_told_within sent j low [] (t ∷ ts) le a = absurd a
last_told_within sent j low (w ∷ ws) [] le a = absurd a
last_told_within sent j low (w ∷ ws) (t ∷ ts) le a =
    let f : front_or low t.1 ≡ a.0 = ap (front_or low) (reply_is sent j low w t a.0 a.1) in
    subst (λ n. last_told n ts ≤ len j) (sym f) (last_told_within sent j a.0 ws ts (end_within j a.0 a.1.end) a.2)

-- the answers are given, one after another
pub given_answers : (sent : List Submission) (j : Journal) (rs : List ℕ) (i n low high : ℕ) (os : List Slot) (ws : List Ticket) (ts : List (ℕ × Reply)) (given : List ToldLine) → AreOpen sent j i n os ws → Answers sent j low ws ts → AreGiven j rs i low high given
    → AreGiven j rs i (last_told low ts) high (given ++ answered os ts)
given_answers sent j rs i n low high [] [] [] given h a g = subst (AreGiven j rs i low high) (sym (append-nil given)) g
given_answers sent j rs i n low high [] [] (t ∷ ts) given h a g = absurd a
given_answers sent j rs i n low high [] (w ∷ ws) ts given h a g = absurd h
given_answers sent j rs i n low high (held line caller update earlier ∷ os) [] ts given h a g = absurd h
given_answers sent j rs i n low high (held line caller update earlier ∷ os) (w ∷ ws) [] given h a g = absurd a
given_answers sent j rs i n low high (held line caller update earlier ∷ os) (w ∷ ws) (t ∷ ts) given h a g =
    let b = filled line caller update earlier t.1 in
    let r = reply_is sent j low w t a.0 a.1 in
    let f : front_or low t.1 ≡ a.0 = ap (front_or low) r in
    let next = given_settled j rs i low high a.0 given b w.position a.1.entry.verdict a.1.entry.version r a.1.rises g in
    let rest = given_answers sent j rs i (n + 1) a.0 high os ws ts (given ++ b ∷ []) h.3 a.2 next in
    subst (λ m. AreGiven j rs i (last_told m ts) high (given ++ b ∷ answered os ts)) (sym f) (subst (AreGiven j rs i (last_told a.0 ts) high) (append_assoc given (b ∷ []) (answered os ts)) rest)
given_answers sent j rs i n low high (told b ∷ os) ws ts given h a g = given_answers sent j rs i (n + length (taken_by b.line.job b.reply)) low high os ws ts given h.3 a g

-- the last answer by itself
pub record Last (sent : List Submission) (j : Journal) (low : ℕ) (ws : List Ticket) (w : Ticket) (ts : List (ℕ × Reply)) : Type 0 where
  pub firsts : List (ℕ × Reply)
  pub last : ℕ × Reply
  pub parts : ts ≡ firsts ++ last ∷ []
  pub before : Answers sent j low ws firsts
  pub front : ℕ
  pub this : Answered sent j (last_told low firsts) w last front

abbrev pub last_answer : (sent : List Submission) (j : Journal) (low : ℕ) (ws : List Ticket) (w : Ticket) (ts : List (ℕ × Reply)) → Answers sent j low (ws ++ w ∷ []) ts → Last sent j low ws w ts
last_answer sent j low [] w [] a = absurd a
last_answer sent j low [] w (t ∷ []) a = record { firsts = []; last = t; parts = refl; before = tt; front = a.0; this = a.1 }
last_answer sent j low [] w (t ∷ u ∷ ts) a = absurd a.2
last_answer sent j low (x ∷ ws) w [] a = absurd a
last_answer sent j low (x ∷ ws) w (t ∷ ts) a =
    let rest = last_answer sent j a.0 ws w ts a.2 in
    let f : a.0 ≡ front_or low t.1 = sym (ap (front_or low) (reply_is sent j low x t a.0 a.1)) in record {
      firsts = t ∷ rest.firsts;
      last = rest.last;
      parts = ap (λ l. t ∷ l) rest.parts;
      before = (a.0, a.1, rest.before);
      front = rest.front;
      this = subst (λ n. Answered sent j (last_told n rest.firsts) w rest.last rest.front) f rest.this;
    }
