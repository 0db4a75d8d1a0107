-- The course of one caller, job by job.
use Rattle.std.proofs.Common.{◌≡◌, ◌≤◌, ℕ, zero, suc, List, [], ◌∷◌, ◌++◌, length, drop, refl, sym, ap, ◌∙◌, arith}
use Rattle.script_text.specs.declared.script.Line.{Line}
use Rattle.switch_model.specs.declared.act.Submission.{Submission}
use Rattle.switch_model.specs.declared.act.Update.{Update}
use Rattle.switch_model.specs.declared.reply.Reply.{Reply}
use Rattle.switch_model.specs.declared.reply.Reply.TheVariants.{Pump, Answer}
use Rattle.switch_model.specs.Journal.{Journal, fold, len, pending, submission, version_of}
use Rattle.switch_model.specs.PlainState.{PlainState}
use Rattle.told_laws.specs.Course.{Course, IsCourse, Ticket, ask, pump_by, reply_at, settle_all, settle_each, settle_one, told, with_ticket}
use Rattle.solo_laws.specs.Waiting.{AreOf, IsWaiting, course_of, pumped, sent_of}
use Rattle.solo_laws.proofs.WaitingLaws.{IsMore, pending_is, until}

abbrev made : List Submission → Journal → List Ticket → List (ℕ × Reply) → Course
made sent j tickets replies = record { sent = sent; journal = j; tickets = tickets; replies = replies }

-- courses are equal by their parts
same_course : (s t : List Submission) (j k : Journal) (ws vs : List Ticket) (rs qs : List (ℕ × Reply)) → s ≡ t → j ≡ k → ws ≡ vs → rs ≡ qs → made s j ws rs ≡ made t k vs qs
same_course s t j k ws vs rs qs sent journal tickets replies = λ i. record { sent = sent i; journal = journal i; tickets = tickets i; replies = replies i }

-- what holds of a caller with its tickets is its course
pub is_course : (limit : ℕ) (j : Journal) (p : List Submission) (ws : List Ticket) (rs : List (ℕ × Reply)) → IsWaiting limit j p → AreOf (sent_of j p) ws → IsCourse limit 0 (course_of j p ws rs)
is_course limit j p ws rs is tickets = record { may_come = is.may_come; few = is.few; callers = is.callers; tickets = tickets }

-- one reply more
pub told_next : (j k : Journal) (p q : List Submission) (ws vs : List Ticket) (rs qs : List (ℕ × Reply)) (line : ℕ) (reply : Reply) (c : Course) → course_of j p ws rs ≡ c → k ≡ j → q ≡ p → vs ≡ ws → qs ≡ rs ++ (line, reply) ∷ [] → course_of k q vs qs ≡ told line reply c
told_next j k p q ws vs rs qs line reply c c_is k_is q_is vs_is qs_is =
    same_course (sent_of k q) (sent_of j p) k j vs ws qs (rs ++ (line, reply) ∷ []) ((λ i. sent_of (k_is i) (q_is i))) k_is vs_is qs_is ∙ ap (told line reply) c_is

-- a ticket is settled, and told
pub one_settled : (j k : Journal) (p q : List Submission) (ws vs : List Ticket) (rs qs : List (ℕ × Reply)) (t : Ticket) (reply : Reply) → sent_of k q ≡ sent_of j p → k ≡ until t.position j p → vs ≡ ws → reply ≡ reply_at k t.position → qs ≡ rs ++ (t.line, reply) ∷ [] →
    course_of k q vs qs ≡ settle_one t (course_of j p ws rs)
one_settled j k p q ws vs rs qs t reply sent k_is vs_is reply_is qs_is =
    let said : reply ≡ reply_at (until t.position j p) t.position = reply_is ∙ ap (λ (i : Journal). reply_at i t.position) k_is in
    same_course (sent_of k q) (sent_of j p) k (until t.position j p) vs ws qs (rs ++ (t.line, reply_at (until t.position j p) t.position) ∷ []) sent k_is vs_is (qs_is ∙ ap (λ (r : Reply). rs ++ (t.line, r) ∷ []) said)

-- tickets in turn

pub tickets_left : (ws : List Ticket) (n : ℕ) (t : Ticket) (c : Course) → drop n ws ≡ t ∷ drop (suc n) ws → settle_each (drop n ws) c ≡ settle_each (drop (suc n) ws) (settle_one t c)
tickets_left ws n t c e = ap (λ (l : List Ticket). settle_each l c) e

pub tickets_done : (ws : List Ticket) (n : ℕ) (c : Course) → length ws ≤ n → settle_each (drop n ws) c ≡ c
tickets_done [] zero c le = refl
tickets_done [] (suc n) c le = refl
tickets_done (w ∷ ws) zero c le = absurd (omega (arith, le))
tickets_done (w ∷ ws) (suc n) c le = tickets_done ws n c (omega (arith, le))

pub all_settled : (j : Journal) (p : List Submission) (ws vs : List Ticket) (rs : List (ℕ × Reply)) (c : Course) → course_of j p ws rs ≡ settle_each c.tickets c → vs ≡ [] → course_of j p vs rs ≡ settle_all c
all_settled j p ws vs rs c each none = ap (λ (l : List Ticket). course_of j p l rs) none ∙ ap (λ (d : Course). record d { tickets = [] }) each

-- a ticket more
pub ticket_next : (limit : ℕ) (j : Journal) (p q : List Submission) (ws vs : List Ticket) (rs : List (ℕ × Reply)) (l : Line) (update : Update) (position : ℕ) → l.caller ≡ 0 → IsMore limit j p q update → position ≡ length (sent_of j p) → vs ≡ ws ++ record { line = l.line; position = position } ∷ [] → course_of j q vs rs ≡ with_ticket l update (course_of j p ws rs)
ticket_next limit j p q ws vs rs l update position caller more position_is vs_is =
    let sent : List Submission = sent_of j p in
    same_course (sent_of j q) (sent ++ submission sent l.caller update ∷ []) j j vs (ws ++ record { line = l.line; position = length sent } ∷ []) rs rs
    (more.sent ∙ ap (λ (i : ℕ). sent ++ submission sent i update ∷ []) (sym caller)) refl
    (vs_is ∙ ap (λ (n : ℕ). ws ++ record { line = l.line; position = n } ∷ []) position_is) refl

-- tickets of what was submitted are tickets of more

pub tickets_of_more : (sent more : List Submission) (ws : List Ticket) → length sent ≤ length more → AreOf sent ws → AreOf more ws
tickets_of_more sent more [] le all = tt
tickets_of_more sent more (w ∷ ws) le all = (omega (arith, le, all.0), tickets_of_more sent more ws le all.1)

-- a pump

pumped_course : (line : ℕ) (p : List Submission) (c : Course) → told line (Pump (pumped p c.journal).0) (record c { journal = (pumped p c.journal).1 }) ≡ pump_by line p c
pumped_course line [] c = refl
pumped_course line (s ∷ ss) c = refl

pub pump_told : (j k : Journal) (p q : List Submission) (ws : List Ticket) (rs qs : List (ℕ × Reply)) (line count : ℕ) → sent_of k q ≡ sent_of j p → count ≡ (pumped p j).0 → k ≡ (pumped p j).1 → qs ≡ rs ++ (line, Pump count) ∷ [] → course_of k q ws qs ≡ pump_by line (pending (sent_of j p) j) (course_of j p ws rs)
pump_told j k p q ws rs qs line count sent count_is k_is qs_is =
    same_course (sent_of k q) (sent_of j p) k (pumped p j).1 ws ws qs (rs ++ (line, Pump (pumped p j).0) ∷ []) sent k_is refl (qs_is ∙ ap (λ (n : ℕ). rs ++ (line, Pump n) ∷ []) count_is)
    ∙ pumped_course line p (course_of j p ws rs)
    ∙ ap (λ (l : List Submission). pump_by line l (course_of j p ws rs)) (sym (pending_is j p))

-- a question
pub asked : (j : Journal) (p : List Submission) (ws : List Ticket) (rs qs : List (ℕ × Reply)) (line front : ℕ) (text : List ℕ) (words : PlainState → ℕ → ℕ → List ℕ) → front ≡ len j → text ≡ words (fold j) (version_of j) (len j) → qs ≡ rs ++ (line, Answer front text) ∷ [] → course_of j p ws qs ≡ ask line words (course_of j p ws rs)
asked j p ws rs qs line front text words front_is text_is qs_is = ap (course_of j p ws) (qs_is ∙ (λ i. rs ++ (line, Answer (front_is i) (text_is i)) ∷ []))
