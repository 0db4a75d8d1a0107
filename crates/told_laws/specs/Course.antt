-- The run of one caller's script, line by line.
use Rattle.std.specs.Prelude.{ℕ, ◌≡◌, ◌≤◌, ◌<◌, nat_lt, Bool, Option, None, Some, List, [], ◌∷◌, ◌++◌, length, slice_get, if◌then◌else◌}
use Rattle.std.specs.List.{AllByRecursion}
use Rattle.answer_forms.specs.AnswerText.{answer_text, tables_text}
use Rattle.journal_laws.specs.SettledAt.{settled_at}
use Rattle.script_text.specs.declared.script.Job.{Job}
use Rattle.script_text.specs.declared.script.Job.TheVariants as job
use Rattle.script_text.specs.declared.script.Line.{Line}
use Rattle.script_text.specs.declared.script.Script.{Script}
use Rattle.switch_model.specs.declared.act.Submission.{Submission}
use Rattle.switch_model.specs.declared.act.Update.{Update}
use Rattle.switch_model.specs.declared.journal.Entry.{Entry}
use Rattle.switch_model.specs.declared.query.Query.TheVariants.{Version}
use Rattle.switch_model.specs.declared.reply.Reply.{Reply}
use Rattle.switch_model.specs.declared.reply.Reply.TheVariants.{Settled, HistoryFull, Settle, Pump, Answer}
use Rattle.switch_model.specs.Journal.{Journal, Opening, entries, fold, len, pending, submission, version_of, with_round}
use Rattle.switch_model.specs.MayComeOf.{MayComeOf}
use Rattle.switch_model.specs.PlainState.{PlainState}
use Rattle.switch_model.specs.Round.{next_round, run}

-- an update that was submitted and has no reply yet: its line, and its place among all that was submitted
pub record Ticket : Type 0 where
  pub line : ℕ
  pub position : ℕ

-- what lines have led to: all that was submitted, the journal, the tickets without a reply, and the replies with the numbers of their lines, in the
-- order in which they were given
pub record Course : Type 0 where
  pub sent : List Submission
  pub journal : Journal
  pub tickets : List Ticket
  pub replies : List (ℕ × Reply)

-- how an entry was settled, with the front that the answer rests on
abbrev pub reply_of : ℕ → ℕ → Option Entry → Reply
reply_of position front None = HistoryFull
reply_of position front (Some e) = Settled position e.verdict e.version front

-- the reply on the entry at that position
abbrev pub reply_at : Journal → ℕ → Reply
reply_at j position = reply_of position (len j) (slice_get (entries j) position)

-- one more reply
abbrev pub told : ℕ → Reply → Course → Course
told line reply c = record c { replies = c.replies ++ (line, reply) ∷ [] }

-- a ticket is settled, in as many rounds as that takes, and told
abbrev pub settle_one : Ticket → Course → Course
settle_one t c = let j = settled_at (length c.sent) c.sent t.position c.journal in told t.line (reply_at j t.position) (record c { journal = j })

abbrev pub settle_each : List Ticket → Course → Course
settle_each [] c = c
settle_each (t ∷ ts) c = settle_each ts (settle_one t c)

-- all tickets in their order
abbrev pub settle_all : Course → Course
settle_all c = record (settle_each c.tickets c) { tickets = [] }

abbrev pub unless_queued : Bool → Course → Course
unless_queued queue c = if queue then c else settle_all c

-- the update is submitted, and its ticket is the last
abbrev pub with_ticket : Line → Update → Course → Course
with_ticket l update c = record c { sent = c.sent ++ submission c.sent l.caller update ∷ []; tickets = c.tickets ++ record { line = l.line; position = length c.sent } ∷ [] }

-- an update's line; past the limit nothing is submitted, and that is told last
abbrev pub submit : ℕ → Line → Bool → Update → Course → Course
submit limit l queue update c =
    if nat_lt (length c.sent) limit then unless_queued queue (with_ticket l update c) else told l.line HistoryFull (unless_queued queue c)

-- one round of what is pending, if anything is
abbrev pub pump_by : ℕ → List Submission → Course → Course
pump_by line [] c = told line (Pump 0) c
pump_by line (s ∷ ss) c = let r = next_round c.journal (run (s ∷ ss)) in told line (Pump (length r.entries)) (record c { journal = with_round c.journal r })

-- an answer about the state that the journal gives
abbrev pub ask : ℕ → (PlainState → ℕ → ℕ → List ℕ) → Course → Course
ask line words c = told line (Answer (len c.journal) (words (fold c.journal) (version_of c.journal) (len c.journal))) c

-- what a line's job does; a `peek` is answered as `show version` is
abbrev pub do_job : ℕ → Line → Job → Course → Course
do_job limit l (job.Submit queue update) c = submit limit l queue update c
do_job limit l job.Settle c = told l.line (Settle (length c.tickets)) (settle_all c)
do_job limit l job.Pump c = pump_by l.line (pending c.sent c.journal) c
do_job limit l job.Peek c = ask l.line (answer_text Version) c
do_job limit l job.Tables c = ask l.line tables_text c
do_job limit l (job.Show query) c = ask l.line (answer_text query) c

-- one line, or the end of a phase, which settles and is told nothing of its own
abbrev pub step : ℕ → Course → Option Line → Course
step limit c None = settle_all c
step limit c (Some l) = do_job limit l l.job c

-- the lines of a phase, and its end
abbrev pub lines : ℕ → Course → List Line → Course
lines limit c [] = step limit c None
lines limit c (l ∷ ls) = lines limit (step limit c (Some l)) ls

abbrev pub phases : ℕ → Course → List (List Line) → Course
phases limit c [] = c
phases limit c (p ∷ ps) = phases limit (lines limit c p) ps

-- nothing was submitted yet
abbrev pub started : Opening → Course
started opening = record { sent = []; journal = record { opening = opening; rounds = [] }; tickets = []; replies = [] }

-- the run of a script of one caller, after that opening
abbrev pub solo : Script → Opening → Course
solo script opening = phases script.limit (started opening) script.phases

-- what has come of one caller's lines: a journal that may come of what it submitted, within the limit, and tickets of that
pub record IsCourse (limit i : ℕ) (c : Course) : Type 0 where
  pub may_come : MayComeOf c.sent c.journal
  pub few : length c.sent ≤ limit
  pub callers : AllByRecursion (λ s. s.caller ≡ i) c.sent
  pub tickets : AllByRecursion (λ t. t.position < length c.sent) c.tickets
