-- The run of one caller serves its lines.
use Rattle.std.proofs.Common.{◌≡◌, ◌⊎◌, inl, inr, ◌≤◌, ◌<◌, ◌+◌, ◌-◌, nat_lt, ℕ, zero, suc, Bool, true, false, cond, Option, None, Some, List, [], ◌∷◌, ◌++◌, length, slice_get, get_or, refl, ap, sym, ◌∙◌, subst, append_assoc, length-append, arith}
use Rattle.std.proofs.lemmas.Bool.{eq-eqb, ltb-true, ltb-false}
use Rattle.std.proofs.lemmas.List.{append-nil}
use Rattle.std.proofs.lemmas.Option.{slice_get_cases}
use Rattle.std.specs.List.{AllByRecursion, range_with_len}
use Rattle.answer_forms.specs.AnswerText.{answer_text, tables_text}
use Rattle.journal_laws.proofs.EndLaws.{end_grows, end_last, journal_prefix_push, journal_prefix_self, journal_prefix_trans, prefix_entries}
use Rattle.journal_laws.proofs.MayComeLaws.{may_come_entry, may_come_prefix, may_come_round, next_progress, sent_split, settles_next}
use Rattle.journal_laws.proofs.RoundLaws.{len_push}
use Rattle.journal_laws.proofs.SettledAtLaws.{settled_after}
use Rattle.journal_laws.specs.SettledAt.{settled_at}
use Rattle.keyed.specs.Prefix.{IsPrefix, prefix_append, prefix_get, prefix_self}
use Rattle.script_text.specs.declared.script.Job.{Job}
use Rattle.script_text.specs.declared.script.Job.TheVariants as job
use Rattle.script_text.specs.declared.script.Line.{Line}
use Rattle.switch_model.specs.declared.act.Submission.{Submission}
use Rattle.switch_model.specs.declared.act.Update.{Update}
use Rattle.switch_model.specs.declared.journal.Round.{Round}
use Rattle.switch_model.specs.declared.query.Query.TheVariants.{Version}
use Rattle.switch_model.specs.declared.reply.Reply.{Reply}
use Rattle.switch_model.specs.declared.reply.Reply.TheVariants.{HistoryFull, Settle, Pump}
use Rattle.switch_model.specs.Journal.{Journal, IsJournalPrefix, entries, len, own, pending, strip, submission, with_round}
use Rattle.switch_model.specs.MayComeOf.{MayComeOf, SettlesNext}
use Rattle.switch_model.specs.PlainState.{PlainState}
use Rattle.switch_model.specs.Round.{next_round, run}
use Rattle.told_laws.specs.Course.{Course, IsCourse, Ticket, ask, do_job, pump_by, reply_at, reply_of, settle_all, settle_each, settle_one, step, told, unless_queued, with_ticket}
use Rattle.told_laws.specs.Serving.{Answered, Answers, Does, Grew, IsFull, IsStep, Pumped, Ran, SettlesAll, Sight, Submits, TakesTicket, next_of, sight}
use Rattle.told_laws.proofs.KeepingLaws.{len_grows}
use Rattle.told_laws.proofs.ListLaws.{all_last, own-append}

-- lists

get_there_by : {A : Type 0} (xs : List A) (n : ℕ) → n < length xs → ((x : A) × (n < length xs) × (slice_get xs n ≡ Some x) × (get_or xs n x ≡ x)) ⊎ ((length xs ≤ n) × (slice_get xs n ≡ None)) → (x : A) × (slice_get xs n ≡ Some x)
get_there_by xs n lt (inl there) = (there.0, there.2)
get_there_by xs n lt (inr past) = absurd (omega (arith, lt, past.0))

get_there : {A : Type 0} (xs : List A) (n : ℕ) → n < length xs → (x : A) × (slice_get xs n ≡ Some x)
get_there xs n lt = get_there_by xs n lt (slice_get_cases xs n).1

get_last : {A : Type 0} (xs : List A) (x : A) → slice_get (xs ++ x ∷ []) (length xs) ≡ Some x
get_last [] x = refl
get_last (y ∷ xs) x = get_last xs x

all_within : (ws : List Ticket) (n m : ℕ) → n ≤ m → AllByRecursion (λ t. t.position < n) ws → AllByRecursion (λ t. t.position < m) ws
all_within [] n m le all = tt
all_within (w ∷ ws) n m le all = (omega (arith, le, all.0), all_within ws n m le all.1)

-- numbers from the same one on

range_more : (a n m : ℕ) → IsPrefix (range_with_len a n) (range_with_len a (n + m))
range_more a zero m = (range_with_len a (0 + m), refl)
range_more a (suc n) m =
    let rest = range_more (a + 1) n m in
    let e : suc n + m ≡ suc (n + m) = omega arith in
    (rest.0, ap (range_with_len a) e ∙ ap (λ (l : List ℕ). a ∷ l) rest.1)

range_prefix : (n m : ℕ) → n ≤ m → IsPrefix (range_with_len 0 n) (range_with_len 0 m)
range_prefix n m le = let e : n + (m - n) ≡ m = omega (arith, le) in subst (λ (k : ℕ). IsPrefix (range_with_len 0 n) (range_with_len 0 k)) e (range_more 0 n (m - n))

range_next_from : (a n : ℕ) → range_with_len a (n + 1) ≡ range_with_len a n ++ (a + n) ∷ []
range_next_from a zero = let e : a ≡ a + 0 = omega arith in ap (λ (k : ℕ). k ∷ []) e
range_next_from a (suc n) =
    let e : suc n + 1 ≡ suc (n + 1) = omega arith in
    let f : a + 1 + n ≡ a + suc n = omega arith in
    ap (range_with_len a) e ∙ ap (λ (l : List ℕ). a ∷ l) (range_next_from (a + 1) n ∙ ap (λ (k : ℕ). range_with_len (a + 1) n ++ k ∷ []) f)

range_next : (n : ℕ) → range_with_len 0 (n + 1) ≡ range_with_len 0 n ++ n ∷ []
range_next n = let e : 0 + n ≡ n = omega arith in range_next_from 0 n ∙ ap (λ (k : ℕ). range_with_len 0 n ++ k ∷ []) e

-- what was seen has grown

rounds_grow : (j k : Journal) → IsJournalPrefix j k → length j.rounds ≤ length k.rounds
rounds_grow j k p = let e : length k.rounds ≡ length j.rounds + length p.1.0 = ap length p.1.1 ∙ length-append j.rounds p.1.0 in omega (arith, e)

sight_grows : (i : ℕ) (c d : Course) → IsPrefix c.sent d.sent → IsJournalPrefix c.journal d.journal → Grew (sight i c) (sight i d)
sight_grows i c d sent journal = record { number = refl; sent = sent; journal = journal; rounds = range_prefix (length c.journal.rounds) (length d.journal.rounds) (rounds_grow c.journal d.journal journal) }

-- tickets

answered_grows : (sent : List Submission) (j k : Journal) (low : ℕ) (w : Ticket) (t : ℕ × Reply) (front : ℕ) → IsJournalPrefix j k → Answered sent j low w t front → Answered sent k low w t front
answered_grows sent j k low w t front q a = record {
  entry = a.entry;
  told_is = a.told_is;
  there = prefix_get (entries j) (entries k) w.position a.entry (prefix_entries j.rounds k.rounds q.1) a.there;
  of_ticket = a.of_ticket;
  below = a.below;
  end = end_grows j k front q a.end;
  rises = a.rises;
}

-- the journal once a ticket is settled
abbrev ticket_journal : Course → Ticket → Journal
ticket_journal c t = settled_at (length c.sent) c.sent t.position c.journal

-- a reply under that number
abbrev told_under : ℕ → Reply → ℕ × Reply
told_under line reply = (line, reply)

-- the ticket has its reply
one_answered : (c : Course) (t : Ticket) → MayComeOf c.sent c.journal → t.position < length c.sent → Answered c.sent (ticket_journal c t) (len c.journal) t (t.line, reply_at (ticket_journal c t) t.position) (len (ticket_journal c t))
one_answered c t may lt =
    let after = settled_after (length c.sent) c.sent t.position c.journal may lt (omega arith) in
    let j : Journal = ticket_journal c t in
    let there = get_there (entries j) t.position after.settled in
    record {
      entry = there.0;
      told_is = ap (told_under t.line) (ap (reply_of t.position (len j)) there.1);
      there = there.1;
      of_ticket = may_come_entry c.sent j t.position there.0 after.may_come there.1;
      below = after.settled;
      end = end_last j;
      rises = len_grows c.journal j after.begins;
    }

-- what settling tickets in turn leads to
record IsEach (c d : Course) (ws : List Ticket) : Type 0 where
  sent : d.sent ≡ c.sent
  may_come : MayComeOf c.sent d.journal
  begins : IsJournalPrefix c.journal d.journal
  added : List (ℕ × Reply)
  replies : d.replies ≡ c.replies ++ added
  answers : Answers c.sent d.journal (len c.journal) ws added

each_settles : (ws : List Ticket) (c : Course) → MayComeOf c.sent c.journal → AllByRecursion (λ t. t.position < length c.sent) ws → IsEach c (settle_each ws c) ws
each_settles [] c may all = record { sent = refl; may_come = may; begins = journal_prefix_self c.journal; added = []; replies = sym (append-nil c.replies); answers = tt }
each_settles (t ∷ ts) c may all =
    let after = settled_after (length c.sent) c.sent t.position c.journal may all.0 (omega arith) in
    let j : Journal = ticket_journal c t in
    let told : ℕ × Reply = (t.line, reply_at j t.position) in
    let rest = each_settles ts (settle_one t c) after.may_come all.1 in
    let first = answered_grows c.sent j (settle_each ts (settle_one t c)).journal (len c.journal) t told (len j) rest.begins (one_answered c t may all.0) in
    record {
      sent = rest.sent;
      may_come = rest.may_come;
      begins = journal_prefix_trans c.journal j (settle_each ts (settle_one t c)).journal after.begins rest.begins;
      added = told ∷ rest.added;
      replies = rest.replies ∙ append_assoc c.replies (told ∷ []) rest.added;
      answers = (len j, first, rest.answers);
    }

-- all tickets have their replies
record IsAll (limit i : ℕ) (c d : Course) : Type 0 where
  course : IsCourse limit i d
  sent : d.sent ≡ c.sent
  begins : IsJournalPrefix c.journal d.journal
  settles : SettlesAll (sight i c) (sight i d) c.tickets d.tickets c.replies d.replies

all_settles : (limit i : ℕ) (c : Course) → IsCourse limit i c → IsAll limit i c (settle_all c)
all_settles limit i c is =
    let each = each_settles c.tickets c is.may_come is.tickets in
    let d : Course = settle_all c in
    record {
      course = record {
        may_come = subst (λ (l : List Submission). MayComeOf l d.journal) (sym each.sent) each.may_come;
        few = subst (λ (l : List Submission). length l ≤ limit) (sym each.sent) is.few;
        callers = subst (λ (l : List Submission). AllByRecursion (λ s. s.caller ≡ i) l) (sym each.sent) is.callers;
        tickets = tt;
      };
      sent = each.sent;
      begins = each.begins;
      settles = record { added = each.added; replies = each.replies; answers = subst (λ (l : List Submission). Answers l d.journal (len c.journal) c.tickets each.added) (sym each.sent) each.answers; none = refl };
    }

same_prefix : (xs ys : List Submission) → ys ≡ xs → IsPrefix xs ys
same_prefix xs ys e = subst (λ (l : List Submission). IsPrefix xs l) (sym e) (prefix_self xs)

all_grew : (limit i : ℕ) (c d : Course) → IsAll limit i c d → Grew (sight i c) (sight i d)
all_grew limit i c d all = sight_grows i c d (same_prefix c.sent d.sent all.sent) all.begins

-- the end of a phase
end_step : (limit i : ℕ) (c : Course) → IsCourse limit i c → IsStep limit i c (step limit c None) None
end_step limit i c is =
    let all = all_settles limit i c is in
    record { course = all.course; grew = all_grew limit i c (settle_all c) all; serves = (ap (own i) all.sent, all.settles) }

-- one reply more
told_course : (limit i line : ℕ) (reply : Reply) (c : Course) → IsCourse limit i c → IsCourse limit i (told line reply c)
told_course limit i line reply c is = record { may_come = is.may_come; few = is.few; callers = is.callers; tickets = is.tickets }

-- a line that settles
settle_step : (limit i line caller : ℕ) (c : Course) → IsCourse limit i c → IsStep limit i c (do_job limit (record { line = line; caller = caller; job = job.Settle }) job.Settle c) (Some (record { line = line; caller = caller; job = job.Settle }))
settle_step limit i line caller c is =
    let all = all_settles limit i c is in
    record {
      course = told_course limit i line (Settle (length c.tickets)) (settle_all c) all.course;
      grew = all_grew limit i c (settle_all c) all;
      serves = record { mine = ap (own i) all.sent; between = (settle_all c).replies; rest = all.settles; last = refl };
    }

-- an update that is submitted

own_next : (i : ℕ) (xs : List Submission) (s : Submission) → s.caller ≡ i → own i (xs ++ s ∷ []) ≡ own i xs ++ s ∷ []
own_next i xs s e = own-append i xs (s ∷ []) ∙ ap (λ (b : Bool). own i xs ++ cond b (s ∷ []) []) (eq-eqb s.caller i e)

submission_is : (i caller : ℕ) (sent : List Submission) (update : Update) → caller ≡ i → submission sent caller update ≡ record { caller = i; seq = length (own i sent); update = update }
submission_is i caller sent update e = ap (λ (k : ℕ). submission sent k update) e

ticket_course : (limit i : ℕ) (l : Line) (update : Update) (c : Course) → l.caller ≡ i → length c.sent < limit → IsCourse limit i c → IsCourse limit i (with_ticket l update c)
ticket_course limit i l update c e room is =
    let s : Submission = submission c.sent l.caller update in
    let long : length (c.sent ++ s ∷ []) ≡ length c.sent + 1 = length-append c.sent (s ∷ []) in
    record {
      may_come = may_come_prefix c.sent (c.sent ++ s ∷ []) c.journal (prefix_append c.sent (s ∷ [])) is.may_come;
      few = omega (arith, long, room);
      callers = all_last (λ x. x.caller ≡ i) c.sent s is.callers e;
      tickets = all_last (λ t. t.position < length (c.sent ++ s ∷ [])) c.tickets (record { line = l.line; position = length c.sent }) (all_within c.tickets (length c.sent) (length (c.sent ++ s ∷ [])) (omega (arith, long)) is.tickets) (omega (arith, long));
    }

takes_ticket : (i : ℕ) (l : Line) (update : Update) (c d : Course) → l.caller ≡ i → d.sent ≡ (with_ticket l update c).sent → TakesTicket (sight i c) (sight i d) l.line update (record { line = l.line; position = length c.sent })
takes_ticket i l update c d e same =
    let s : Submission = submission c.sent l.caller update in
    let next : s ≡ next_of (sight i c) update = submission_is i l.caller c.sent update e in
    record {
      line_is = refl;
      there = ap (λ (xs : List Submission). slice_get xs (length c.sent)) same ∙ get_last c.sent s ∙ ap Some next;
      past = omega arith;
      mine = ap (own i) same ∙ own_next i c.sent s e ∙ ap (λ (x : Submission). own i c.sent ++ x ∷ []) next;
    }

sent_grows : (l : Line) (update : Update) (c d : Course) → d.sent ≡ (with_ticket l update c).sent → IsPrefix c.sent d.sent
sent_grows l update c d same = subst (λ (xs : List Submission). IsPrefix c.sent xs) (sym same) (prefix_append c.sent (submission c.sent l.caller update ∷ []))

-- the answers rest on no more than on the journal before the ticket
submits_step : (limit i : ℕ) (l : Line) (queue : Bool) (update : Update) (c : Course) → l.caller ≡ i → length c.sent < limit → IsCourse limit i c →
    IsCourse limit i (unless_queued queue (with_ticket l update c)) × Grew (sight i c) (sight i (unless_queued queue (with_ticket l update c)))
    × Submits limit (sight i c) (sight i (unless_queued queue (with_ticket l update c))) c.tickets (unless_queued queue (with_ticket l update c)).tickets l.line queue update c.replies (unless_queued queue (with_ticket l update c)).replies
submits_step limit i l true update c e room is =
    let d : Course = with_ticket l update c in (
      ticket_course limit i l update c e room is,
      sight_grows i c d (sent_grows l update c d refl) (journal_prefix_self c.journal),
      record {
        ticket = record { line = l.line; position = length c.sent };
        takes = takes_ticket i l update c d e refl;
        below = room;
        rest = (refl, refl);
      },
    )
submits_step limit i l false update c e room is =
    let all = all_settles limit i (with_ticket l update c) (ticket_course limit i l update c e room is) in
    let d : Course = settle_all (with_ticket l update c) in (
      all.course,
      sight_grows i c d (sent_grows l update c d all.sent) all.begins,
      record {
        ticket = record { line = l.line; position = length c.sent };
        takes = takes_ticket i l update c d e all.sent;
        below = room;
        rest = record { added = all.settles.added; replies = all.settles.replies; answers = all.settles.answers; none = all.settles.none };
      },
    )

-- an update past the limit
full_step : (limit i : ℕ) (l : Line) (queue : Bool) (c : Course) → limit ≤ length c.sent → IsCourse limit i c →
    IsCourse limit i (told l.line HistoryFull (unless_queued queue c)) × Grew (sight i c) (sight i (told l.line HistoryFull (unless_queued queue c)))
    × IsFull limit (sight i c) (sight i (told l.line HistoryFull (unless_queued queue c))) c.tickets (told l.line HistoryFull (unless_queued queue c)).tickets l.line queue c.replies (told l.line HistoryFull (unless_queued queue c)).replies
full_step limit i l true c full is = (
  told_course limit i l.line HistoryFull c is,
  sight_grows i c c (prefix_self c.sent) (journal_prefix_self c.journal),
  record {
    mine = refl;
    full = (let few = is.few in omega (arith, few, full));
    between = c.replies;
    rest = (refl, refl);
    last = refl;
  },
)
full_step limit i l false c full is =
    let all = all_settles limit i c is in (
      told_course limit i l.line HistoryFull (settle_all c) all.course,
      all_grew limit i c (settle_all c) all,
      record {
        mine = ap (own i) all.sent;
        full = (let few = is.few in let same = ap length all.sent in omega (arith, few, full, same));
        between = (settle_all c).replies;
        rest = all.settles;
        last = refl;
      },
    )

submit_by : (limit i : ℕ) (l : Line) (queue : Bool) (update : Update) (c : Course) (b : Bool) → nat_lt (length c.sent) limit ≡ b → l.caller ≡ i → l.job ≡ job.Submit queue update → IsCourse limit i c →
    IsStep limit i c (cond b (unless_queued queue (with_ticket l update c)) (told l.line HistoryFull (unless_queued queue c))) (Some l)
submit_by limit i l queue update c true room e is_job is =
    let done = submits_step limit i l queue update c e (ltb-true (length c.sent) limit room) is in
    let d : Course = unless_queued queue (with_ticket l update c) in
    record { course = done.0; grew = done.1; serves = subst (λ (what : Job). Does limit (sight i c) (sight i d) c.tickets d.tickets l.line what c.replies d.replies) (sym is_job) (inl done.2) }
submit_by limit i l queue update c false room e is_job is =
    let done = full_step limit i l queue c (ltb-false (length c.sent) limit room) is in
    let d : Course = told l.line HistoryFull (unless_queued queue c) in
    record { course = done.0; grew = done.1; serves = subst (λ (what : Job). Does limit (sight i c) (sight i d) c.tickets d.tickets l.line what c.replies d.replies) (sym is_job) (inr done.2) }

-- a pump

pumped_by : (p q : Sight) (n : ℕ) → 1 ≤ n → Ran p q n → Pumped p q n
pumped_by p q zero some ran = absurd (omega (arith, some))
pumped_by p q (suc n) some ran = ran

pump_step : (limit i line caller : ℕ) (c : Course) (p : List Submission) → pending c.sent c.journal ≡ p → IsCourse limit i c →
    IsStep limit i c (pump_by line p c) (Some (record { line = line; caller = caller; job = job.Pump }))
pump_step limit i line caller c [] none is = record {
  course = told_course limit i line (Pump 0) c is;
  grew = sight_grows i c c (prefix_self c.sent) (journal_prefix_self c.journal);
  serves = record {
    mine = refl;
    own = refl;
    left_is = refl;
    count = 0;
    pumped = record { rounds = refl; none = sent_split c.sent c.journal is.may_come.settled ∙ ap (λ (l : List Submission). strip c.journal ++ l) none ∙ append-nil (strip c.journal) };
    last = refl;
  };
}
pump_step limit i line caller c (s ∷ ss) some is =
    let r : Round = next_round c.journal (run (s ∷ ss)) in
    let k : Journal = with_round c.journal r in
    let next : SettlesNext c.sent c.journal r = settles_next c.sent c.journal (s ∷ ss) (subst (λ (l : List Submission). IsPrefix (s ∷ ss) l) (sym some) (prefix_self (s ∷ ss))) (omega arith) in
    let more = (next_progress c.sent c.journal r is.may_come next).0 in
    let long = len_push c.journal r in
    let count : length k.rounds ≡ length c.journal.rounds + 1 = length-append c.journal.rounds (r ∷ []) in
    record {
      course = record { may_come = may_come_round c.sent c.journal r is.may_come next; few = is.few; callers = is.callers; tickets = is.tickets };
      grew = sight_grows i c (record c { journal = k }) (prefix_self c.sent) (journal_prefix_push c.journal r);
      serves = record {
        mine = refl;
        own = refl;
        left_is = refl;
        count = length r.entries;
        pumped = pumped_by _ _ (length r.entries) (omega (arith, more, long)) (record {
          before = c.journal;
          round = r;
          seen_before = journal_prefix_self c.journal;
          journal = refl;
          rounds = ap (range_with_len 0) count ∙ range_next (length c.journal.rounds);
          size = refl;
        });
        last = refl;
      };
    }

-- a question
ask_step : (limit i line : ℕ) (words : PlainState → ℕ → ℕ → List ℕ) (c : Course) → IsCourse limit i c → IsCourse limit i (ask line words c) × Grew (sight i c) (sight i (ask line words c))
ask_step limit i line words c is = (record { may_come = is.may_come; few = is.few; callers = is.callers; tickets = is.tickets }, sight_grows i c c (prefix_self c.sent) (journal_prefix_self c.journal))

line_step : (limit i line caller : ℕ) (what : Job) (c : Course) → caller ≡ i → IsCourse limit i c → IsStep limit i c (step limit c (Some (record { line = line; caller = caller; job = what }))) (Some (record { line = line; caller = caller; job = what }))
line_step limit i line caller (job.Submit queue update) c e is = submit_by limit i (record { line = line; caller = caller; job = job.Submit queue update }) queue update c (nat_lt (length c.sent) limit) refl e refl is
line_step limit i line caller job.Settle c e is = settle_step limit i line caller c is
line_step limit i line caller job.Pump c e is = pump_step limit i line caller c (pending c.sent c.journal) refl is
line_step limit i line caller job.Peek c e is = (let a = ask_step limit i line (answer_text Version) c is in record { course = a.0; grew = a.1; serves = record { mine = refl; left_is = refl; last = refl } })
line_step limit i line caller job.Tables c e is = (let a = ask_step limit i line tables_text c is in record { course = a.0; grew = a.1; serves = record { mine = refl; left_is = refl; last = refl } })
line_step limit i line caller (job.Show query) c e is = (let a = ask_step limit i line (answer_text query) c is in record { course = a.0; grew = a.1; serves = record { mine = refl; left_is = refl; last = refl } })

-- a line of the caller, or the end of a phase
pub step_serves : (limit i : ℕ) (l : Option Line) (c : Course) → ((line : Line) → l ≡ Some line → line.caller ≡ i) → IsCourse limit i c → IsStep limit i c (step limit c l) l
step_serves limit i None c own_line is = end_step limit i c is
step_serves limit i (Some l) c own_line is = line_step limit i l.line l.caller l.job c (own_line l refl) is
