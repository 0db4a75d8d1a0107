-- What is so of a caller between two lines.
use Rattle.std.specs.Prelude.{ℕ, ◌≡◌, ◌≤◌, ◌+◌, Bool, true, false, Option, None, Some, List, [], ◌∷◌, ◌++◌, length, map, slice_get}
use Rattle.std.specs.List.{AllByRecursion}
use Rattle.journal_laws.specs.Worlds.{numbered}
use Rattle.script_text.specs.declared.script.Job.TheVariants as job
use Rattle.script_text.specs.declared.script.Line.{Line}
use Rattle.switch_model.specs.declared.act.Submission.{Submission}
use Rattle.switch_model.specs.declared.act.Update.{Update}
use Rattle.switch_model.specs.declared.reply.Reply.{Reply}
use Rattle.switch_model.specs.Journal.{Journal, len}
use Rattle.told_laws.specs.Course.{Ticket}
use Rattle.told_laws.specs.Serving.{Sight}
use Rattle.told_laws.specs.Told.{AreCounted, AreRefused, AreTrue, ArePumped, IsTrue, NeverFall, ToldLine, ToldOne, all_of, arranged, fate_of, fates, front_or, in_order, low_after, none, passes, role, taken, taken_by, tell, waiting_after}

-- a line since the last one that settled: its ticket waits, or it was told and waits for nothing
pub data Slot : Type 0 where
  held : (line caller : ℕ) (update : Update) (earlier : ℕ) → Slot
  told : (a : ToldLine) → Slot

abbrev pub line_of : Slot → Line
line_of (held line caller update earlier) = record { line = line; caller = caller; job = job.Submit true update }
line_of (told a) = a.line

abbrev pub taken_open : List Slot → List Update
taken_open [] = []
taken_open (held line caller update earlier ∷ os) = update ∷ taken_open os
taken_open (told a ∷ os) = taken_by a.line.job a.reply ++ taken_open os

abbrev pub fates_open : List Slot → List Bool
fates_open [] = []
fates_open (held line caller update earlier ∷ os) = false ∷ fates_open os
fates_open (told a ∷ os) = fate_of a.line.job a.reply ++ fates_open os

abbrev pub passed : List Slot → List ToldLine
passed [] = []
passed (held line caller update earlier ∷ os) = passed os
passed (told a ∷ os) = a ∷ passed os

-- the tickets are those of the lines that wait, in their order, and the replies of the others are true
abbrev pub AreOpen : List Submission → Journal → ℕ → ℕ → List Slot → List Ticket → Type 0
AreOpen sent j i seq [] [] = Unit {0}
AreOpen sent j i seq [] (w ∷ ws) = ⊥
AreOpen sent j i seq (held line caller update earlier ∷ os) [] = ⊥
AreOpen sent j i seq (held line caller update earlier ∷ os) (w ∷ ws) = (earlier ≡ seq) × (w.line ≡ line)
    × (slice_get sent w.position ≡ Some (record { caller = i; seq = seq; update = update })) × AreOpen sent j i (seq + 1) os ws
AreOpen sent j i seq (told a ∷ os) ws = (role a.line.job a.reply ≡ passes) × (a.earlier ≡ seq) × IsTrue j i seq a.line.job a.reply × AreOpen sent j i (seq + length (taken_by a.line.job a.reply)) os ws

abbrev pub last_front : ℕ → List ToldLine → ℕ
last_front before [] = before
last_front before (a ∷ more) = last_front (front_or before a.reply) more

abbrev pub last_low : ℕ → List ℕ → List ToldLine → ℕ
last_low low (k ∷ ks) (a ∷ more) = last_low (low_after low k a.reply) ks more
last_low low _ _ = low

abbrev pub count_after : ℕ → List ToldLine → ℕ
count_after n [] = n
count_after n (a ∷ more) = count_after (waiting_after (role a.line.job a.reply) n) more

-- the answers given so far; those that come have no front below top, and no round below high
pub record AreGiven (j : Journal) (rounds : List ℕ) (i top high : ℕ) (given : List ToldLine) : Type 0 where
  pub marks : List ℕ
  pub fronts : NeverFall 0 given
  pub last : last_front 0 given ≤ top
  pub pumps : ArePumped j rounds i top 0 0 marks given
  pub low : last_low 0 marks given ≤ high

-- all that is so of caller i that has served the phases `done` and the lines `now`, with those tickets and those replies
pub record Keeps (limit i : ℕ) (p : Sight) (ws : List Ticket) (ts : List (ℕ × Reply)) (done : List (List Line)) (now : List Line) : Type 0 where
  pub number_is : p.number ≡ i
  pub phases : List (List ToldLine)
  pub closed : List ToldLine
  pub slots : List Slot
  pub given : List ToldLine
  pub phases_are : map (map (λ a. a.line)) phases ≡ done
  pub lines_are : map (λ a. a.line) closed ++ map line_of slots ≡ now
  pub updates : p.mine ≡ numbered i 0 (taken (all_of phases ++ closed) ++ taken_open slots)
  pub refused : AreRefused (limit ≤ length p.sent) (fates (all_of phases ++ closed) ++ fates_open slots)
  pub each : AreTrue p.journal i 0 (all_of phases ++ closed)
  pub opened : AreOpen p.sent p.journal i (length (taken (all_of phases ++ closed))) slots ws
  pub order : in_order phases ++ ((arranged none closed).given ++ passed slots) ≡ given
  pub shut : (arranged none closed).waiting ≡ []
  pub replies : map tell given ≡ ts
  pub answers : AreGiven p.journal p.rounds i (len p.journal) (length p.journal.rounds) given
  pub counts : AllByRecursion (AreCounted 0) phases
  pub counted : AreCounted 0 closed
  pub settled : count_after 0 closed ≡ 0

-- the phases served, and the lines of the one that is being served, after a line or the end of a phase
abbrev pub done_after : Option Line → List (List Line) → List Line → List (List Line)
done_after None done now = done ++ now ∷ []
done_after (Some l) done now = done

abbrev pub now_after : Option Line → List Line → List Line
now_after None now = []
now_after (Some l) now = now ++ l ∷ []

-- the lines of a caller have those replies, in the order in which they were given, and they are true of the journal
pub record HasTold (full : Type 0) (mine : List Submission) (j : Journal) (rounds : List ℕ) (i : ℕ) (lines_of : List (List Line)) (ts : List (ℕ × Reply)) : Type 0 where
  pub told : List (List ToldLine)
  pub lines : map (map (λ a. a.line)) told ≡ lines_of
  pub replies : map tell (in_order told) ≡ ts
  pub one : ToldOne full mine j rounds i told

-- a caller before its first line
pub record IsNew (p : Sight) : Type 0 where
  pub mine : p.mine ≡ []
  pub sent : p.sent ≡ []
  pub journal : p.journal.rounds ≡ []
  pub rounds : p.rounds ≡ []
