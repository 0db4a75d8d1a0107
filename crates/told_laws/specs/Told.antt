-- What the callers of a script were told is true of the journal.
use Rattle.std.specs.Prelude.{ℕ, zero, suc, ◌≡◌, ◌≤◌, ◌<◌, ◌+◌, ◌==◌, Bool, true, false, List, [], ◌∷◌, ◌++◌, length, filter, map, take, slice_get, Some, Contains}
use Rattle.std.specs.List.{AllByRecursion, flat_map}
use Rattle.std.specs.Ordering.{nat_cmp}
use Rattle.answer_forms.specs.AnswerText.{answer_text, tables_text}
use Rattle.journal_laws.specs.Worlds.{numbered}
use Rattle.keyed.specs.Keyed.{put}
use Rattle.keyed.specs.Prefix.{IsPrefix}
use Rattle.script_text.specs.declared.script.Job.{Job}
use Rattle.script_text.specs.declared.script.Job.TheVariants as job
use Rattle.script_text.specs.declared.script.Line.{Line}
use Rattle.script_text.specs.declared.script.Script.{Script}
use Rattle.switch_model.specs.declared.act.Submission.{Submission}
use Rattle.switch_model.specs.declared.act.Update.{Update}
use Rattle.switch_model.specs.declared.journal.Round.{Round}
use Rattle.switch_model.specs.declared.query.Query.TheVariants.{Version}
use Rattle.switch_model.specs.declared.reply.Reply.{Reply}
use Rattle.switch_model.specs.declared.reply.Reply.TheVariants.{Settled, HistoryFull, Settle, Pump, Answer}
use Rattle.switch_model.specs.declared.verdict.Verdict.{Verdict}
use Rattle.switch_model.specs.Journal.{Journal, IsRoundEnd, entries, entries_of, fold, len, own, strip, upto, version_of}
use Rattle.switch_model.specs.PlainState.{PlainState}

-- a line with its reply, and how many updates its caller had submitted before it
pub record ToldLine : Type 0 where
  pub line : Line
  pub reply : Reply
  pub earlier : ℕ

-- the reply under the number of its line
abbrev pub tell : ToldLine → ℕ × Reply
tell a = (a.line.line, a.reply)

-- the update of a line that got a ticket
abbrev pub taken_by : Job → Reply → List Update
taken_by (job.Submit queue update) HistoryFull = []
taken_by (job.Submit queue update) reply = update ∷ []
taken_by j reply = []

abbrev pub taken : List ToldLine → List Update
taken = flat_map (λ a. taken_by a.line.job a.reply)

-- whether the line of an update was refused for a full history
abbrev pub fate_of : Job → Reply → List Bool
fate_of (job.Submit queue update) HistoryFull = true ∷ []
fate_of (job.Submit queue update) reply = false ∷ []
fate_of j reply = []

abbrev pub fates : List ToldLine → List Bool
fates = flat_map (λ a. fate_of a.line.job a.reply)

-- a caller that was refused is refused from then on, and the history is full
abbrev pub AreRefused : Type 0 → List Bool → Type 0
AreRefused full [] = Unit {0}
AreRefused full (true ∷ more) = full × AllByRecursion (λ b. b ≡ true) more × AreRefused full more
AreRefused full (false ∷ more) = AreRefused full more

-- that many entries are the journal up to the end of a round, and the text is of the state and the version that it had then
pub record IsLook (j : Journal) (words : PlainState → ℕ → ℕ → List ℕ) (front : ℕ) (text : List ℕ) : Type 0 where
  pub end : IsRoundEnd j front
  pub text_is : text ≡ words (fold (upto j front)) (version_of (upto j front)) front

-- the entry at that position is that of the caller's submission, was settled so, and stands below the front
pub record IsSettled (j : Journal) (i seq : ℕ) (update : Update) (position : ℕ) (verdict : Verdict) (version front : ℕ) : Type 0 where
  pub there : slice_get (entries j) position ≡ Some (record { caller = i; seq = seq; update = update; verdict = verdict; version = version })
  pub below : position < front
  pub end : IsRoundEnd j front

-- the reply is of the line's kind, and true of the journal; before the line the caller had submitted that many updates
abbrev pub IsTrue : Journal → ℕ → ℕ → Job → Reply → Type 0
IsTrue j i seq (job.Submit queue update) (Settled position verdict version front) = IsSettled j i seq update position verdict version front
IsTrue j i seq (job.Submit queue update) HistoryFull = Unit {0}
IsTrue j i seq job.Settle (Settle count) = Unit {0}
IsTrue j i seq job.Pump (Pump count) = Unit {0}
IsTrue j i seq job.Peek (Answer front text) = IsLook j (answer_text Version) front text
IsTrue j i seq job.Tables (Answer front text) = IsLook j tables_text front text
IsTrue j i seq (job.Show query) (Answer front text) = IsLook j (answer_text query) front text
IsTrue j i seq _ reply = ⊥

abbrev pub AreTrue : Journal → ℕ → ℕ → List ToldLine → Type 0
AreTrue j i seq [] = Unit {0}
AreTrue j i seq (a ∷ more) = (a.earlier ≡ seq) × IsTrue j i seq a.line.job a.reply × AreTrue j i (seq + length (taken_by a.line.job a.reply)) more

-- what a line is for the order of answers: it waits for a ticket's reply, settles those that wait, or neither
pub data Role : Type 0 where
  waits : Role
  settles : Role
  passes : Role

abbrev pub role : Job → Reply → Role
role (job.Submit true update) HistoryFull = passes
role (job.Submit true update) reply = waits
role (job.Submit false update) reply = settles
role job.Settle reply = settles
role j reply = passes

-- answers in the order in which they are given, and those that wait
pub record Order : Type 0 where
  pub given : List ToldLine
  pub waiting : List ToldLine

abbrev pub put_by : Role → ToldLine → Order → Order
put_by waits a o = record { given = o.given; waiting = o.waiting ++ a ∷ [] }
put_by settles a o = record { given = o.given ++ (o.waiting ++ a ∷ []); waiting = [] }
put_by passes a o = record { given = o.given ++ a ∷ []; waiting = o.waiting }

abbrev pub arranged : Order → List ToldLine → Order
arranged o [] = o
arranged o (a ∷ more) = arranged (put_by (role a.line.job a.reply) a o) more

abbrev pub none : Order
none = record { given = []; waiting = [] }

-- a phase's answers in their order; at its end those come that wait
abbrev pub ordered : List ToldLine → List ToldLine
ordered xs = (arranged none xs).given ++ (arranged none xs).waiting

abbrev pub in_order : List (List ToldLine) → List ToldLine
in_order = flat_map ordered

abbrev pub front_or : ℕ → Reply → ℕ
front_or before (Settled position verdict version front) = front
front_or before (Answer front text) = front
front_or before reply = before

-- fronts never fall
abbrev pub NeverFall : ℕ → List ToldLine → Type 0
NeverFall before [] = Unit {0}
NeverFall before (a ∷ more) = (before ≤ front_or before a.reply) × NeverFall (front_or before a.reply) more

-- how many wait
abbrev pub waiting_after : Role → ℕ → ℕ
waiting_after waits n = n + 1
waiting_after settles n = 0
waiting_after passes n = n

abbrev pub IsCount : ℕ → Reply → Type 0
IsCount n (Settle count) = count ≡ n
IsCount n reply = Unit {0}

-- a `settle` says how many waited
abbrev pub AreCounted : ℕ → List ToldLine → Type 0
AreCounted n [] = Unit {0}
AreCounted n (a ∷ more) = IsCount n a.reply × AreCounted (waiting_after (role a.line.job a.reply) n) more

-- round k of the journal has so many entries, ends there, and is one of those that the caller ran
pub record IsRoundOf (j : Journal) (rounds : List ℕ) (k count end : ℕ) : Type 0 where
  pub before : List Round
  pub round : Round
  pub begins : IsPrefix (before ++ round ∷ []) j.rounds
  pub number_is : length before ≡ k
  pub counted : length round.entries ≡ count
  pub ends : end ≡ length (entries_of (before ++ round ∷ []))
  pub ran : Contains rounds k

-- the front of the next answer that has one, or the end
abbrev pub front_by : Reply → ℕ → ℕ
front_by (Settled position verdict version front) later = front
front_by (Answer front text) later = front
front_by reply later = later

abbrev pub next_front : ℕ → List ToldLine → ℕ
next_front end [] = end
next_front end (a ∷ more) = front_by a.reply (next_front end more)

-- what a `pump` says: its round is none of the earlier pumps', ends above the last front and not above the next; or the caller's earlier updates
-- stand below the next front
abbrev pub PumpedBy : Journal → List ℕ → ℕ → ℕ → ℕ → ℕ → ℕ → Reply → ℕ → Type 0
PumpedBy j rounds i earlier low before k (Pump zero) next = earlier ≤ length (own i (take next (strip j)))
PumpedBy j rounds i earlier low before k (Pump (suc count)) next = (end : ℕ) × IsRoundOf j rounds k (suc count) end × (low ≤ k) × (before < end) × (end ≤ next)
PumpedBy j rounds i earlier low before k reply next = Unit {0}

abbrev pub low_after : ℕ → ℕ → Reply → ℕ
low_after low k (Pump (suc count)) = k + 1
low_after low k reply = low

-- the marks name the rounds of the pumps
abbrev pub ArePumped : Journal → List ℕ → ℕ → ℕ → ℕ → ℕ → List ℕ → List ToldLine → Type 0
ArePumped j rounds i end low before [] [] = Unit {0}
ArePumped j rounds i end low before (k ∷ ks) (a ∷ more) = PumpedBy j rounds i a.earlier low before k a.reply (next_front end more) × ArePumped j rounds i end (low_after low k a.reply) (front_or before a.reply) ks more
ArePumped j rounds i end low before _ _ = ⊥

abbrev pub all_of : List (List ToldLine) → List ToldLine
all_of = flat_map (λ p. p)

-- what one caller was told, line by line and phase by phase: `mine` is what it submitted, and `full` what is so where it was refused
pub record ToldOne (full : Type 0) (mine : List Submission) (j : Journal) (rounds : List ℕ) (i : ℕ) (told : List (List ToldLine)) : Type 0 where
  pub updates : mine ≡ numbered i 0 (taken (all_of told))
  pub refused : AreRefused full (fates (all_of told))
  pub each : AreTrue j i 0 (all_of told)
  pub fronts : NeverFall 0 (in_order told)
  pub counts : AllByRecursion (AreCounted 0) told
  pub marks : List ℕ
  pub pumps : ArePumped j rounds i (len j) 0 0 marks (in_order told)

-- the lines of a caller, phase by phase
abbrev pub of_caller : ℕ → List (List ToldLine) → List (List ToldLine)
of_caller i = map (filter (λ a. a.line.caller == i))

-- replies by the numbers of their lines
abbrev pub by_line : List (ℕ × Reply) → List (ℕ × Reply)
by_line [] = []
by_line (r ∷ rs) = put nat_cmp r.0 r.1 (by_line rs)

-- the replies of a script over its journal: each line has one, under its number; what each caller submitted is its entries, and what it was told is
-- true of the journal, which is as long as the limit where it was refused; and no round was run by two callers
pub record Told (script : Script) (j : Journal) (replies : List (ℕ × Reply)) : Type 0 where
  pub told : List (List ToldLine)
  pub rounds : ℕ → List ℕ
  pub lines : map (map (λ a. a.line)) told ≡ script.phases
  pub under : map tell (all_of told) ≡ replies
  pub callers : (i : ℕ) → ToldOne (len j ≡ script.limit) (own i (strip j)) j (rounds i) i (of_caller i told)
  pub apart : (i k n : ℕ) → n < length j.rounds → Contains (rounds i) n → Contains (rounds k) n → i ≡ k

-- the numbers of these lines rise, from that one on
abbrev pub Rise : ℕ → List Line → Type 0
Rise n [] = Unit {0}
Rise n (l ∷ ls) = (n ≤ l.line) × Rise (l.line + 1) ls

-- a script of caller 0 alone, whose lines are numbered in their order
pub record IsSolo (script : Script) : Type 0 where
  pub callers : AllByRecursion (AllByRecursion (λ l. l.caller ≡ 0)) script.phases
  pub rise : Rise 0 (flat_map (λ p. p) script.phases)
