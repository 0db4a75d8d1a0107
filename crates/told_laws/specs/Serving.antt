-- What serving a line appends, said over what its caller saw, the tickets and the replies before and after it.
use Rattle.std.specs.List.{range_with_len}
use Rattle.std.specs.Prelude.{◌≡◌, ◌⊎◌, ℕ, zero, suc, ◌<◌, ◌≤◌, Bool, true, false, Option, None, Some, List, [], ◌∷◌, ◌++◌, length, slice_get}
use Rattle.answer_forms.specs.AnswerText.{answer_text, tables_text}
use Rattle.keyed.specs.Prefix.{IsPrefix}
use Rattle.script_text.specs.declared.script.Job.{Job}
use Rattle.script_text.specs.declared.script.Job.TheVariants as job
use Rattle.script_text.specs.declared.script.Line.{Line}
use Rattle.switch_model.specs.declared.act.Submission.{Submission}
use Rattle.switch_model.specs.declared.act.Update.{Update}
use Rattle.switch_model.specs.declared.journal.Entry.{Entry}
use Rattle.switch_model.specs.declared.journal.Round.{Round}
use Rattle.switch_model.specs.declared.query.Query.TheVariants.{Version}
use Rattle.switch_model.specs.declared.reply.Reply.{Reply}
use Rattle.switch_model.specs.declared.reply.Reply.TheVariants.{Settled, HistoryFull, Settle, Pump, Answer}
use Rattle.switch_model.specs.Journal.{Journal, IsJournalPrefix, IsRoundEnd, entries, fold, len, own, strip, submission_of, version_of, with_round}
use Rattle.switch_model.specs.PlainState.{PlainState}
use Rattle.told_laws.specs.Course.{Course, IsCourse, Ticket}

-- what a caller has seen and done: its number, what it submitted, all submissions and the journal as it saw them last, and the numbers of the rounds
-- that it ran
pub record Sight : Type 0 where
  pub number : ℕ
  pub mine : List Submission
  pub sent : List Submission
  pub journal : Journal
  pub rounds : List ℕ

-- it is the same caller, and what it saw has grown
pub record Grew (old new : Sight) : Type 0 where
  pub number : new.number ≡ old.number
  pub sent : IsPrefix old.sent new.sent
  pub journal : IsJournalPrefix old.journal new.journal
  pub rounds : IsPrefix old.rounds new.rounds

-- the caller's next submission
abbrev pub next_of : Sight → Update → Submission
next_of p update = record { caller = p.number; seq = length p.mine; update = update }

-- the reply to a ticket of what was sent, in the journal seen since
pub record Answered (sent : List Submission) (j : Journal) (low : ℕ) (w : Ticket) (t : ℕ × Reply) (front : ℕ) : Type 0 where
  pub entry : Entry
  pub told_is : t ≡ (w.line, Settled w.position entry.verdict entry.version front)
  pub there : slice_get (entries j) w.position ≡ Some entry
  pub of_ticket : slice_get sent w.position ≡ Some (submission_of entry)
  pub below : w.position < front
  pub end : IsRoundEnd j front
  pub rises : low ≤ front

-- the replies to the tickets in order, whose fronts don't fall below low or one another
abbrev pub Answers : List Submission → Journal → ℕ → List Ticket → List (ℕ × Reply) → Type 0
Answers sent j low [] [] = Unit {0}
Answers sent j low (w ∷ ws) (t ∷ ts) = (front : ℕ) × Answered sent j low w t front × Answers sent j front ws ts
Answers sent j low _ _ = ⊥

-- all tickets have their replies
pub record SettlesAll (old new : Sight) (before left : List Ticket) (ts us : List (ℕ × Reply)) : Type 0 where
  pub added : List (ℕ × Reply)
  pub replies : us ≡ ts ++ added
  pub answers : Answers new.sent new.journal (len old.journal) before added
  pub none : left ≡ []

-- with `queue` nothing is settled, and without it all tickets are
abbrev pub Rests : Bool → Sight → Sight → List Ticket → List Ticket → List (ℕ × Reply) → List (ℕ × Reply) → Type 0
Rests true old new before left ts us = (left ≡ before) × (us ≡ ts)
Rests false old new before left ts us = SettlesAll old new before left ts us

-- the ticket is that of the update, which the line submitted
pub record TakesTicket (old new : Sight) (line : ℕ) (update : Update) (w : Ticket) : Type 0 where
  pub line_is : w.line ≡ line
  pub there : slice_get new.sent w.position ≡ Some (next_of old update)
  pub past : length old.sent ≤ w.position
  pub mine : new.mine ≡ old.mine ++ next_of old update ∷ []

-- the update was submitted below the limit, and its ticket is the last
pub record Submits (limit : ℕ) (old new : Sight) (before left : List Ticket) (line : ℕ) (queue : Bool) (update : Update) (ts us : List (ℕ × Reply)) : Type 0 where
  pub ticket : Ticket
  pub takes : TakesTicket old new line update ticket
  pub below : ticket.position < limit
  pub rest : Rests queue old new (before ++ ticket ∷ []) left ts us

-- the history was full, which is told last
pub record IsFull (limit : ℕ) (old new : Sight) (before left : List Ticket) (line : ℕ) (queue : Bool) (ts us : List (ℕ × Reply)) : Type 0 where
  pub mine : new.mine ≡ old.mine
  pub full : length new.sent ≡ limit
  pub between : List (ℕ × Reply)
  pub rest : Rests queue old new before left ts between
  pub last : us ≡ between ++ (line, HistoryFull) ∷ []

-- all tickets are settled, and their number is told last
pub record Counts (old new : Sight) (before left : List Ticket) (line : ℕ) (ts us : List (ℕ × Reply)) : Type 0 where
  pub mine : new.mine ≡ old.mine
  pub between : List (ℕ × Reply)
  pub rest : SettlesAll old new before left ts between
  pub last : us ≡ between ++ (line, Settle (length before)) ∷ []

-- one round was run, of k entries
pub record Ran (old new : Sight) (k : ℕ) : Type 0 where
  pub before : Journal
  pub round : Round
  pub seen_before : IsJournalPrefix old.journal before
  pub journal : new.journal ≡ with_round before round
  pub rounds : new.rounds ≡ old.rounds ++ length before.rounds ∷ []
  pub size : length round.entries ≡ k

-- no round was run, since all that was sent had been settled
pub record NonePending (old new : Sight) : Type 0 where
  pub rounds : new.rounds ≡ old.rounds
  pub none : new.sent ≡ strip new.journal

-- what a pump did
abbrev pub Pumped : Sight → Sight → ℕ → Type 0
Pumped old new zero = NonePending old new
Pumped old new (suc k) = Ran old new (suc k)

-- no ticket is settled, and how many entries the round had is told
pub record Pumps (old new : Sight) (before left : List Ticket) (line : ℕ) (ts us : List (ℕ × Reply)) : Type 0 where
  pub mine : new.mine ≡ old.mine
  pub own : new.mine ≡ own new.number new.sent
  pub left_is : left ≡ before
  pub count : ℕ
  pub pumped : Pumped old new count
  pub last : us ≡ ts ++ (line, Pump count) ∷ []

-- no ticket is settled, and the answer is that of the whole journal
pub record Asks (old new : Sight) (before left : List Ticket) (line : ℕ) (words : PlainState → ℕ → ℕ → List ℕ) (ts us : List (ℕ × Reply)) : Type 0 where
  pub mine : new.mine ≡ old.mine
  pub left_is : left ≡ before
  pub last : us ≡ ts ++ (line, Answer (len new.journal) (words (fold new.journal) (version_of new.journal) (len new.journal))) ∷ []

-- what the line of that number does
abbrev pub Does : ℕ → Sight → Sight → List Ticket → List Ticket → ℕ → Job → List (ℕ × Reply) → List (ℕ × Reply) → Type 0
Does limit old new before left line (job.Submit queue update) ts us = Submits limit old new before left line queue update ts us ⊎ IsFull limit old new before left line queue ts us
Does limit old new before left line job.Settle ts us = Counts old new before left line ts us
Does limit old new before left line job.Pump ts us = Pumps old new before left line ts us
Does limit old new before left line job.Peek ts us = Asks old new before left line (answer_text Version) ts us
Does limit old new before left line job.Tables ts us = Asks old new before left line tables_text ts us
Does limit old new before left line (job.Show query) ts us = Asks old new before left line (answer_text query) ts us

-- a line, or the end of the phase, which settles all tickets
abbrev pub Serves : ℕ → Sight → Sight → List Ticket → List Ticket → Option Line → List (ℕ × Reply) → List (ℕ × Reply) → Type 0
Serves limit old new before left None ts us = (new.mine ≡ old.mine) × SettlesAll old new before left ts us
Serves limit old new before left (Some l) ts us = Does limit old new before left l.line l.job ts us

-- what the caller has seen, with the tickets and the replies
abbrev pub course : Sight → List Ticket → List (ℕ × Reply) → Course
course p ws ts = record { sent = p.sent; journal = p.journal; tickets = ws; replies = ts }

-- what a caller that is alone has seen and done: all of it, with every round
abbrev pub sight : ℕ → Course → Sight
sight i c = record { number = i; mine = own i c.sent; sent = c.sent; journal = c.journal; rounds = range_with_len 0 (length c.journal.rounds) }

-- a line of the one caller there is leaves its course what it was: what it saw has grown, and the line has its replies
pub record IsStep (limit i : ℕ) (c d : Course) (line : Option Line) : Type 0 where
  pub course : IsCourse limit i d
  pub grew : Grew (sight i c) (sight i d)
  pub serves : Serves limit (sight i c) (sight i d) c.tickets d.tickets line c.replies d.replies
