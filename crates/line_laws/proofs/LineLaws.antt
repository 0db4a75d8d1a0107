-- What each line does.
use Rattle.std.proofs.Common.{◌≡◌, ℕ, zero, suc, ◌+◌, nat_lt, Bool, true, false, if◌then◌else◌, Option, None, Some, List, [], ◌∷◌, ◌++◌, length, slice_get, refl, ap, sym, ◌∙◌, subst, arith, length-append, append-nil}
use Rattle.std.proofs.lemmas.Bool.{lt-ltb}
use Rattle.std.proofs.lemmas.Bool.Decides.{nat_tests}
use Rattle.keyed.specs.Prefix.{prefix_get, prefix_length}
use Rattle.script_text.specs.declared.script.Job.TheVariants as job
use Rattle.script_text.specs.declared.script.Line.{Line}
use Rattle.switch_model.specs.declared.act.Submission.{Submission}
use Rattle.switch_model.specs.declared.act.Update.{Update}
use Rattle.switch_model.specs.declared.journal.Round.{Round}
use Rattle.switch_model.specs.declared.reply.Reply.{Reply}
use Rattle.switch_model.specs.declared.reply.Reply.TheVariants.{HistoryFull, Settle, Pump, Answer}
use Rattle.switch_model.specs.Journal.{Journal, fold, len, pending, submission, version_of, with_round}
use Rattle.switch_model.specs.PlainState.{PlainState}
use Rattle.switch_model.specs.declared.journal.RoundKind.TheVariants.{One, Whole}
use Rattle.switch_model.specs.Round.{fits, next_round, round_of, run}
use Rattle.shared_laws.proofs.AloneLaws.{alone_none, alone_pumped, alone_same, alone_seen}
use Rattle.shared_laws.proofs.CallLaws.{rounds_same, rounds_trans}
use Rattle.shared_laws.specs.Callers.{AtRest, Grew, Seen, next_of}
use Rattle.shared_laws.specs.Calls.{Pumped, Submitted}
use Rattle.shared_laws.specs.Ground.{GroundView, journal_at}
use Rattle.told_laws.specs.Course.{Course, Ticket, ask, pump_by, settle_all, submit, told, unless_queued, with_ticket}
use Rattle.line_laws.proofs.SettlingLaws.{settles_same}
use Rattle.line_laws.proofs.TicketLaws.{answers_lower, get_last, len_grows}
use Rattle.line_laws.specs.Serving.{GetsTicket, IsFull, OwnTicket, Rests, SettlesSome, Stands, Submits, TakesTicket}
use Rattle.line_laws.specs.Tickets.{course_of, highest}

if_true : {A : Type 0} (b : Bool) (x y : A) → b ≡ true → (if b then x else y) ≡ x
if_true {A = A} b x y e = ap (λ (c : Bool). if c then x else y) e

if_false : {A : Type 0} (b : Bool) (x y : A) → b ≡ false → (if b then x else y) ≡ y
if_false {A = A} b x y e = ap (λ (c : Bool). if c then x else y) e

-- the update was submitted
pub gets_ticket : (g : GroundView) (p q : Seen) (before left : List Ticket) (line : ℕ) (update : Update) (t : Ticket) → Submitted p q update t.position → Grew p q → AtRest g p → AtRest g q → q.callers ≡ p.callers → t.line ≡ line → left ≡ before ++ t ∷ []
    → GetsTicket g p q before left line update
gets_ticket g p q before left line update t sub grew a b callers line_is last =
    let s : Submission = next_of p update in
    let long : length q.seen ≡ length sub.before + 1 = ap length sub.sent ∙ length-append sub.before (s ∷ []) in
    let at : t.position ≡ length sub.before = sub.position_is in
    let takes : TakesTicket p q line update t = record {
      line_is = line_is;
      there = ap (slice_get q.seen) at ∙ (ap (λ (l : List Submission). slice_get l (length sub.before)) sub.sent ∙ get_last sub.before s);
      past = omega (arith, prefix_length p.seen sub.before sub.seen_before, at);
      mine = sub.mine;
    } in record {
      ticket = t;
      takes = takes;
      below = omega (arith, at, long, b.so_far.few);
      last = last;
      alone = λ one.
          let two = callers ∙ one in
          let seen : q.seen ≡ p.seen ++ s ∷ [] = (b.lists.alone two).0 ∙ (sub.mine ∙ ap (λ (l : List Submission). l ++ s ∷ []) (sym ((a.lists.alone one).0))) in
          let same : s ≡ submission p.seen p.number update = ap (λ (l : List Submission). record { caller = p.number; seq = length l; update = update }) a.lists.of_seen in
          let more : length q.seen ≡ length p.seen + 1 = ap length seen ∙ length-append p.seen (s ∷ []) in
          (seen ∙ ap (λ (x : Submission). p.seen ++ x ∷ []) same, omega (arith, at, long, more), alone_same g p q a b one two grew sub.rounds);
    }

-- what is said of tickets from a later moment is so from an earlier one

rests_from : (queue : Bool) (g : GroundView) (p q r : Seen) (before left : List Ticket) (ts us : List (ℕ × Reply)) → Grew p q → Grew q r → q.rounds ≡ p.rounds → Rests queue g q r before left ts us → Rests queue g p r before left ts us
rests_from true g p q r before left ts us h k e s = (s.0, s.1, s.2 ∙ e)
rests_from false g p q r before left ts us h k e s = record { added = s.added; replies = s.replies; answers = answers_lower r.seen (journal_at g r.jseen) (len (journal_at g q.jseen)) (len (journal_at g p.jseen)) before s.added (len_grows g p.jseen q.jseen h.jseen) s.answers; rounds = rounds_trans g p q r (highest before) h k (rounds_same g p q (highest before) e) s.rounds; none = s.none }

pub some_from : (g : GroundView) (p q r : Seen) (before left : List Ticket) (ts us : List (ℕ × Reply)) → Grew p q → Grew q r → q.rounds ≡ p.rounds → SettlesSome g q r before left ts us → SettlesSome g p r before left ts us
some_from g p q r before left ts us h k e s = record { done = s.done; parts = s.parts; added = s.added; replies = s.replies; answers = answers_lower r.seen (journal_at g r.jseen) (len (journal_at g q.jseen)) (len (journal_at g p.jseen)) s.done s.added (len_grows g p.jseen q.jseen h.jseen) s.answers; rounds = rounds_trans g p q r (highest before) h k (rounds_same g p q (highest before) e) s.rounds }

pub some_same : (g : GroundView) (p q r : Seen) (before mid left : List Ticket) (ts us vs : List (ℕ × Reply)) → Grew p q → Grew q r → q.rounds ≡ p.rounds → mid ≡ before → vs ≡ us → SettlesSome g q r mid left ts us → SettlesSome g p r before left ts vs
some_same g p q r before mid left ts us vs h k n e f s = some_from g p q r before left ts vs h k n (subst (λ (l : List (ℕ × Reply)). SettlesSome g q r before left ts l) (sym f) (subst (λ (l : List Ticket). SettlesSome g q r l left ts us) e s))

takes_later : (p q r : Seen) (line : ℕ) (update : Update) (t : Ticket) → Grew q r → r.mine ≡ q.mine → TakesTicket p q line update t → TakesTicket p r line update t
takes_later p q r line update t h mine s = record { line_is = s.line_is; there = prefix_get q.seen r.seen t.position (next_of p update) h.seen s.there; past = s.past; mine = mine ∙ s.mine }

pub submit_fits : (g : GroundView) (p q r : Seen) (before mid left : List Ticket) (line : ℕ) (queue : Bool) (update : Update) (ts us : List (ℕ × Reply)) → GetsTicket g p q before mid line update → Grew p q → Grew q r → q.rounds ≡ p.rounds → r.mine ≡ q.mine → Rests queue g q r mid left ts us
    → Submits g p r before left line queue update ts us
submit_fits g p q r before mid left line queue update ts us t h k same mine rest = record {
  ticket = t.ticket;
  takes = takes_later p q r line update t.ticket k mine t.takes;
  below = t.below;
  rest = rests_from queue g p q r (before ++ t.ticket ∷ []) left ts us h k same (subst (λ (l : List Ticket). Rests queue g q r l left ts us) t.last rest);
}

pub submit_full : (g : GroundView) (p q r : Seen) (before mid left : List Ticket) (line : ℕ) (queue : Bool) (ts between us : List (ℕ × Reply)) → mid ≡ before → q.mine ≡ p.mine → length q.seen ≡ g.limit → AtRest g r → Grew p q → Grew q r → q.rounds ≡ p.rounds → r.mine ≡ q.mine → Rests queue g q r mid left ts between
    → us ≡ between ++ (line, HistoryFull) ∷ [] → IsFull g p r before left line queue ts us
submit_full g p q r before mid left line queue ts between us same mine full rest_r h k kept mine_r rest last = record {
  mine = mine_r ∙ mine;
  full = omega (arith, prefix_length q.seen r.seen k.seen, full, rest_r.so_far.few);
  between = between;
  rest = rests_from queue g p q r before left ts between h k kept (subst (λ (l : List Ticket). Rests queue g q r l left ts between) same rest);
  last = last;
}

-- of a caller that is alone

pub alone_fits : (g : GroundView) (p q r : Seen) (before mid left : List Ticket) (l : Line) (queue : Bool) (update : Update) (ts us : List (ℕ × Reply)) → l.caller ≡ p.number → p.callers ≡ 1 → GetsTicket g p q before mid l.line update → course_of g r left us ≡ unless_queued queue (course_of g q mid ts)
    → course_of g r left us ≡ submit g.limit l queue update (course_of g p before ts)
alone_fits g p q r before mid left l queue update ts us caller one t rest =
    let a = t.alone one in
    let at : t.ticket.position ≡ length p.seen = a.1 in
    let ticket : t.ticket ≡ record { line = l.line; position = length p.seen } = λ i. record { line = t.takes.line_is i; position = at i } in
    let sent : q.seen ≡ p.seen ++ submission p.seen l.caller update ∷ [] = a.0 ∙ ap (λ (n : ℕ). p.seen ++ submission p.seen n update ∷ []) (sym caller) in
    let tickets : mid ≡ before ++ record { line = l.line; position = length p.seen } ∷ [] = t.last ∙ ap (λ (x : Ticket). before ++ x ∷ []) ticket in
    let now : course_of g q mid ts ≡ with_ticket l update (course_of g p before ts) = λ i. record { sent = sent i; journal = journal_at g (a.2 i); tickets = tickets i; replies = ts } in
    let room : nat_lt (length p.seen) g.limit ≡ true = lt-ltb (length p.seen) g.limit (omega (arith, t.below, at)) in
    rest ∙ (ap (unless_queued queue) now ∙ sym (if_true (nat_lt (length p.seen) g.limit) (unless_queued queue (with_ticket l update (course_of g p before ts))) (told l.line HistoryFull (unless_queued queue (course_of g p before ts))) room))

pub alone_full : (g : GroundView) (p q r : Seen) (before mid left : List Ticket) (l : Line) (queue : Bool) (update : Update) (ts between us : List (ℕ × Reply)) → mid ≡ before → length q.seen ≡ g.limit → (q.seen ≡ p.seen) × (q.jseen ≡ p.jseen) → course_of g r left between ≡ unless_queued queue (course_of g q mid ts)
    → us ≡ between ++ (l.line, HistoryFull) ∷ [] → course_of g r left us ≡ submit g.limit l queue update (course_of g p before ts)
alone_full g p q r before mid left l queue update ts between us waits full same rest last =
    let now : course_of g q mid ts ≡ course_of g p before ts = λ i. record { sent = same.0 i; journal = journal_at g (same.1 i); tickets = waits i; replies = ts } in
    let size : length p.seen ≡ g.limit = ap length (sym same.0) ∙ full in
    let none : nat_lt (length p.seen) g.limit ≡ false = grind (arith, nat_tests) in
    let whole : course_of g r left between ≡ unless_queued queue (course_of g p before ts) = rest ∙ ap (unless_queued queue) now in
    ap (λ (w : List (ℕ × Reply)). course_of g r left w) last ∙ (ap (told l.line HistoryFull) whole ∙ sym (if_false (nat_lt (length p.seen) g.limit) (unless_queued queue (with_ticket l update (course_of g p before ts))) (told l.line HistoryFull (unless_queued queue (course_of g p before ts))) none))

-- memory was refused

pub stands_same : (g : GroundView) (p q : Seen) (before left : List Ticket) (l : Line) (ts us : List (ℕ × Reply)) → q.mine ≡ p.mine → q.rounds ≡ p.rounds → left ≡ before → us ≡ ts → Stands g p q before left (Some l) ts us
stands_same g p q before left l ts us mine r e f = record { own = []; own_is = mine; some = settles_same g p q (before ++ []) left ts us r (e ∙ sym (append-nil before)) f }

pub stands_some : (g : GroundView) (p q : Seen) (before left : List Ticket) (line : Option Line) (ts us : List (ℕ × Reply)) → OwnTicket p q line [] → SettlesSome g p q before left ts us → Stands g p q before left line ts us
stands_some g p q before left line ts us own s = record { own = []; own_is = own; some = subst (λ (l : List Ticket). SettlesSome g p q l left ts us) (sym (append-nil before)) s }

pub stands_own : (g : GroundView) (p q r : Seen) (before mid left : List Ticket) (l : Line) (queue : Bool) (update : Update) (ts us : List (ℕ × Reply)) → l.job ≡ job.Submit queue update → GetsTicket g p q before mid l.line update → Grew p q → Grew q r → q.rounds ≡ p.rounds → r.mine ≡ q.mine → SettlesSome g q r mid left ts us
    → Stands g p r before left (Some l) ts us
stands_own g p q r before mid left l queue update ts us is t h k same mine s = record {
  own = t.ticket ∷ [];
  own_is = (queue, update, is, takes_later p q r l.line update t.ticket k mine t.takes);
  some = subst (λ (w : List Ticket). SettlesSome g p r w left ts us) t.last (some_from g p q r mid left ts us h k same s);
}

pub own_none : (p q : Seen) (line : Option Line) → q.mine ≡ p.mine → OwnTicket p q line []
own_none p q None e = e
own_none p q (Some l) e = e

-- all tickets were settled, and counted
pub alone_counts : (g : GroundView) (p q : Seen) (before left : List Ticket) (line n : ℕ) (ts between us : List (ℕ × Reply)) → n ≡ length before → course_of g q left between ≡ settle_all (course_of g p before ts) → us ≡ between ++ (line, Settle n) ∷ []
    → course_of g q left us ≡ told line (Settle (length before)) (settle_all (course_of g p before ts))
alone_counts g p q before left line n ts between us size rest last =
    ap (λ (l : List (ℕ × Reply)). course_of g q left l) last ∙ (ap (told line (Settle n)) rest ∙ ap (λ (k : ℕ). told line (Settle k) (settle_all (course_of g p before ts))) size)

none_settled : (b : Bool) (v : ℕ) → length (if b then round_of Whole v [] else round_of One v []).entries ≡ 0
none_settled true v = refl
none_settled false v = refl

pump_some : (line k : ℕ) (xs : List Submission) (c : Course) → suc k ≡ length (next_round c.journal (run xs)).entries → pump_by line xs c ≡ told line (Pump (suc k)) (record c { journal = with_round c.journal (next_round c.journal (run xs)) })
pump_some line k [] c e =
    let m : PlainState = fold c.journal in
    let none : length (next_round c.journal []).entries ≡ 0 = none_settled (fits m c.journal.opening.caps) (version_of c.journal) in
    let here : suc k ≡ length (next_round c.journal []).entries = e in
    absurd (omega (arith, none, here))
pump_some line k (s ∷ ss) c e = ap (λ (n : ℕ). told line (Pump n) (record c { journal = with_round c.journal (next_round c.journal (run (s ∷ ss))) })) (sym e)

-- a round, of a caller that is alone
pub alone_pump : (g : GroundView) (p q : Seen) (before : List Ticket) (line k : ℕ) (ts us : List (ℕ × Reply)) → AtRest g p → AtRest g q → q.callers ≡ p.callers → q.mine ≡ p.mine → Grew p q → Pumped g p q k → us ≡ ts ++ (line, Pump k) ∷ [] → p.callers ≡ 1
    → course_of g q before us ≡ pump_by line (pending p.seen (journal_at g p.jseen)) (course_of g p before ts)
alone_pump g p q before line zero ts us a b callers mine grew c last one =
    let seen = alone_seen g p q a b one (callers ∙ one) mine in
    let same = alone_same g p q a b one (callers ∙ one) grew c.rounds in
    let none = alone_none g p q seen same c.none in
    (λ i. record { sent = seen i; journal = journal_at g (same i); tickets = before; replies = last i }) ∙ ap (λ (l : List Submission). pump_by line l (course_of g p before ts)) (sym none)
alone_pump g p q before line (suc k) ts us a b callers mine grew c last one =
    let seen = alone_seen g p q a b one (callers ∙ one) mine in
    let next = alone_pumped g p q (suc k) a b one (callers ∙ one) mine c in
    (λ i. record { sent = seen i; journal = next.0 i; tickets = before; replies = last i }) ∙ sym (pump_some line k (pending p.seen (journal_at g p.jseen)) (course_of g p before ts) next.1)

-- a look, of a caller that is alone
pub alone_asks : (words : PlainState → ℕ → ℕ → List ℕ) (g : GroundView) (p q : Seen) (before : List Ticket) (line front : ℕ) (said : List ℕ) (ts us : List (ℕ × Reply)) → AtRest g p → AtRest g q → q.callers ≡ p.callers → q.mine ≡ p.mine → Grew p q → q.rounds ≡ p.rounds
    → front ≡ len (journal_at g q.jseen) → said ≡ words (fold (journal_at g q.jseen)) (version_of (journal_at g q.jseen)) (len (journal_at g q.jseen)) → us ≡ ts ++ (line, Answer front said) ∷ [] → p.callers ≡ 1 → course_of g q before us ≡ ask line words (course_of g p before ts)
alone_asks words g p q before line front said ts us a b callers mine grew rounds f s last one =
    let seen = alone_seen g p q a b one (callers ∙ one) mine in
    let same = alone_same g p q a b one (callers ∙ one) grew rounds in
    let j : Journal = journal_at g p.jseen in
    let front_at : front ≡ len j = f ∙ ap (λ (l : List Round). len (journal_at g l)) same in
    let said_at : said ≡ words (fold j) (version_of j) (len j) = s ∙ ap (λ (l : List Round). words (fold (journal_at g l)) (version_of (journal_at g l)) (len (journal_at g l))) same in
    let last_at : us ≡ ts ++ (line, Answer (len j) (words (fold j) (version_of j) (len j))) ∷ [] = last ∙ (λ i. ts ++ (line, Answer (front_at i) (said_at i)) ∷ []) in
    λ i. record { sent = seen i; journal = journal_at g (same i); tickets = before; replies = last_at i }
