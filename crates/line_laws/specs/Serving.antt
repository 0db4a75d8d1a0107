-- What serving a line does: to the pass of its caller, to the tickets that wait, and to the replies.
use Rattle.std.specs.Prelude.{◌≡◌, ◌⊎◌, ℕ, ◌<◌, ◌≤◌, Bool, true, false, Option, None, Some, List, [], ◌∷◌, ◌++◌, length, slice_get}
use Rattle.answer_forms.specs.AnswerText.{answer_text, tables_text}
use Rattle.journal_laws.specs.SettledAt.{settled_at}
use Rattle.script_text.specs.declared.script.Job.{Job}
use Rattle.script_text.specs.declared.script.Job.TheVariants as job
use Rattle.script_text.specs.declared.script.Line.{Line}
use Rattle.switch_model.specs.declared.act.Update.{Update}
use Rattle.switch_model.specs.declared.query.Query.TheVariants.{Version}
use Rattle.switch_model.specs.declared.reply.Reply.{Reply}
use Rattle.switch_model.specs.declared.reply.Reply.TheVariants.{HistoryFull, Settle, Pump, Answer}
use Rattle.switch_model.specs.Journal.{fold, len, submission, version_of}
use Rattle.switch_model.specs.PlainState.{PlainState}
use Rattle.shared_laws.specs.Callers.{AtRest, Seen, next_of}
use Rattle.shared_laws.specs.Calls.{Pumped, RoundsAdded}
use Rattle.shared_laws.specs.Ground.{GroundView, journal_at}
use Rattle.told_laws.specs.Course.{Ticket}
use Rattle.told_laws.specs.Serving.{Answered, Answers}
use Rattle.line_laws.specs.Tickets.{highest}

-- the first ticket has its reply, and the others are left; for a caller that is alone the journal has just the rounds that this takes
pub record SettlesFirst (g : GroundView) (old new : Seen) (before left : List Ticket) (ts us : List (ℕ × Reply)) : Type 0 where
  pub first : Ticket
  pub parts : before ≡ first ∷ left
  pub told : ℕ × Reply
  pub replies : us ≡ ts ++ told ∷ []
  pub answered : Answered new.seen (journal_at g new.jseen) (len (journal_at g old.jseen)) first told (len (journal_at g new.jseen))
  pub rounds : RoundsAdded g old new first.position
  pub alone : old.callers ≡ 1 → (new.seen ≡ old.seen) × (journal_at g new.jseen ≡ settled_at (length old.seen) old.seen first.position (journal_at g old.jseen))

-- some of the tickets, from the first on, have their replies, and the others are left
pub record SettlesSome (g : GroundView) (old new : Seen) (before left : List Ticket) (ts us : List (ℕ × Reply)) : Type 0 where
  pub done : List Ticket
  pub parts : before ≡ done ++ left
  pub added : List (ℕ × Reply)
  pub replies : us ≡ ts ++ added
  pub answers : Answers new.seen (journal_at g new.jseen) (len (journal_at g old.jseen)) done added
  pub rounds : RoundsAdded g old new (highest before)

-- all tickets have their replies; each round that was run for it stands after at most as many entries as the position of one of them
pub record SettlesAll (g : GroundView) (old new : Seen) (before left : List Ticket) (ts us : List (ℕ × Reply)) : Type 0 where
  pub added : List (ℕ × Reply)
  pub replies : us ≡ ts ++ added
  pub answers : Answers new.seen (journal_at g new.jseen) (len (journal_at g old.jseen)) before added
  pub rounds : RoundsAdded g old new (highest before)
  pub none : left ≡ []

-- with `queue` nothing is settled, and without it all tickets are
abbrev pub Rests : Bool → GroundView → Seen → Seen → List Ticket → List Ticket → List (ℕ × Reply) → List (ℕ × Reply) → Type 0
Rests true g old new before left ts us = (left ≡ before) × (us ≡ ts) × (new.rounds ≡ old.rounds)
Rests false g old new before left ts us = SettlesAll g old new before left ts us

-- the ticket is that of the update, which the line submitted
pub record TakesTicket (old new : Seen) (line : ℕ) (update : Update) (t : Ticket) : Type 0 where
  pub line_is : t.line ≡ line
  pub there : slice_get new.seen t.position ≡ Some (next_of old update)
  pub past : length old.seen ≤ t.position
  pub mine : new.mine ≡ old.mine ++ next_of old update ∷ []

-- the update was submitted, and its ticket is put in as the last
pub record GetsTicket (g : GroundView) (old new : Seen) (before left : List Ticket) (line : ℕ) (update : Update) : Type 0 where
  pub ticket : Ticket
  pub takes : TakesTicket old new line update ticket
  pub below : ticket.position < g.limit
  pub last : left ≡ before ++ ticket ∷ []
  pub alone : old.callers ≡ 1 → (new.seen ≡ old.seen ++ submission old.seen old.number update ∷ []) × (ticket.position ≡ length old.seen) × (new.jseen ≡ old.jseen)

-- the update was submitted below the limit, and its ticket is the last
pub record Submits (g : GroundView) (old new : Seen) (before left : List Ticket) (line : ℕ) (queue : Bool) (update : Update) (ts us : List (ℕ × Reply)) : Type 0 where
  pub ticket : Ticket
  pub takes : TakesTicket old new line update ticket
  pub below : ticket.position < g.limit
  pub rest : Rests queue g old new (before ++ ticket ∷ []) left ts us

-- the history was full, which is told last
pub record IsFull (g : GroundView) (old new : Seen) (before left : List Ticket) (line : ℕ) (queue : Bool) (ts us : List (ℕ × Reply)) : Type 0 where
  pub mine : new.mine ≡ old.mine
  pub full : length new.seen ≡ g.limit
  pub between : List (ℕ × Reply)
  pub rest : Rests queue g old new before left ts between
  pub last : us ≡ between ++ (line, HistoryFull) ∷ []

-- all tickets are settled, and their number is told last
pub record Counts (g : GroundView) (old new : Seen) (before left : List Ticket) (line : ℕ) (ts us : List (ℕ × Reply)) : Type 0 where
  pub mine : new.mine ≡ old.mine
  pub between : List (ℕ × Reply)
  pub rest : SettlesAll g old new before left ts between
  pub last : us ≡ between ++ (line, Settle (length before)) ∷ []

-- no ticket is settled, and how many entries the round had is told
pub record Pumps (g : GroundView) (old new : Seen) (before left : List Ticket) (line : ℕ) (ts us : List (ℕ × Reply)) : Type 0 where
  pub mine : new.mine ≡ old.mine
  pub left_is : left ≡ before
  pub takes : old.takes < new.takes
  pub rest : AtRest g new
  pub count : ℕ
  pub pumped : Pumped g old new count
  pub last : us ≡ ts ++ (line, Pump count) ∷ []

-- no ticket is settled and no round run, and the answer is that of the whole journal, read in this call
pub record Asks (g : GroundView) (old new : Seen) (before left : List Ticket) (line : ℕ) (words : PlainState → ℕ → ℕ → List ℕ) (ts us : List (ℕ × Reply)) : Type 0 where
  pub mine : new.mine ≡ old.mine
  pub rounds : new.rounds ≡ old.rounds
  pub left_is : left ≡ before
  pub takes : old.takes < new.takes
  pub last : let j = journal_at g new.jseen in us ≡ ts ++ (line, Answer (len j) (words (fold j) (version_of j) (len j))) ∷ []

-- what the line of that number does
abbrev pub Does : GroundView → Seen → Seen → List Ticket → List Ticket → ℕ → Job → List (ℕ × Reply) → List (ℕ × Reply) → Type 0
Does g old new before left line (job.Submit queue update) ts us = Submits g old new before left line queue update ts us ⊎ IsFull g old new before left line queue ts us
Does g old new before left line job.Settle ts us = Counts g old new before left line ts us
Does g old new before left line job.Pump ts us = Pumps g old new before left line ts us
Does g old new before left line job.Peek ts us = Asks g old new before left line (answer_text Version) ts us
Does g old new before left line job.Tables ts us = Asks g old new before left line tables_text ts us
Does g old new before left line (job.Show query) ts us = Asks g old new before left line (answer_text query) ts us

-- a line, or the end of the phase, which settles all tickets
abbrev pub Serves : GroundView → Seen → Seen → List Ticket → List Ticket → Option Line → List (ℕ × Reply) → List (ℕ × Reply) → Type 0
Serves g old new before left None ts us = (new.mine ≡ old.mine) × SettlesAll g old new before left ts us
Serves g old new before left (Some l) ts us = Does g old new before left l.line l.job ts us

-- a peek tries, and nothing else does
abbrev pub tries_of : Job → ℕ
tries_of job.Peek = 1
tries_of (job.Submit queue update) = 0
tries_of job.Settle = 0
tries_of job.Pump = 0
tries_of job.Tables = 0
tries_of (job.Show query) = 0

abbrev pub tries_by : Option Line → ℕ
tries_by None = 0
tries_by (Some l) = tries_of l.job

-- what a line submitted that memory ended: nothing, or its own update
abbrev pub OwnTicket : Seen → Seen → Option Line → List Ticket → Type 0
OwnTicket old new line [] = new.mine ≡ old.mine
OwnTicket old new (Some l) (t ∷ []) = (queue : Bool) × (update : Update) × (l.job ≡ job.Submit queue update) × TakesTicket old new l.line update t
OwnTicket old new line _ = ⊥

-- what stands after memory was refused: the replies that were appended, and every other ticket; that of the line's own update, where it was submitted,
-- is the last
pub record Stands (g : GroundView) (old new : Seen) (before left : List Ticket) (line : Option Line) (ts us : List (ℕ × Reply)) : Type 0 where
  pub own : List Ticket
  pub own_is : OwnTicket old new line own
  pub some : SettlesSome g old new (before ++ own) left ts us
