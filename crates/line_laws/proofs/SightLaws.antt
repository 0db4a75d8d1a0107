-- What serving a line does, in terms of what its caller has seen.
use Rattle.std.proofs.Common.{ℕ, zero, suc, true, false, Bool, inl, inr, Option, None, Some, List, [], ◌∷◌, ◌++◌, refl, ap, sym}
use Rattle.answer_forms.specs.AnswerText.{answer_text, tables_text}
use Rattle.script_text.specs.declared.script.Job.{Job}
use Rattle.script_text.specs.declared.script.Job.TheVariants as job
use Rattle.script_text.specs.declared.script.Line.{Line}
use Rattle.switch_model.specs.declared.query.Query.TheVariants.{Version}
use Rattle.switch_model.specs.declared.reply.Reply.{Reply}
use Rattle.switch_model.specs.PlainState.{PlainState}
use Rattle.turn_book.specs.Passes.{IsSameCaller}
use Rattle.shared_laws.specs.Callers.{AtRest, Seen}
use Rattle.shared_laws.specs.Callers as callers
use Rattle.shared_laws.specs.Calls as calls
use Rattle.shared_laws.specs.Ground.{GroundView, journal_at}
use Rattle.told_laws.specs.Course.{Ticket}
use Rattle.told_laws.specs.Serving as told
use Rattle.line_laws.specs.Serving as line
use Rattle.line_laws.specs.Tickets.{sight_of}

-- what was seen grew
pub sight_grew : (g : GroundView) (p q : Seen) → IsSameCaller p q → callers.Grew p q → told.Grew (sight_of g p) (sight_of g q)
sight_grew g p q same h = record { number = sym same.number; sent = h.seen; journal = (refl, h.jseen); rounds = h.rounds }

sight_all : (g : GroundView) (p q : Seen) (before left : List Ticket) (ts us : List (ℕ × Reply)) → line.SettlesAll g p q before left ts us → told.SettlesAll (sight_of g p) (sight_of g q) before left ts us
sight_all g p q before left ts us s = record { added = s.added; replies = s.replies; answers = s.answers; none = s.none }

sight_rests : (queue : Bool) (g : GroundView) (p q : Seen) (before left : List Ticket) (ts us : List (ℕ × Reply)) → line.Rests queue g p q before left ts us → told.Rests queue (sight_of g p) (sight_of g q) before left ts us
sight_rests true g p q before left ts us s = (s.0, s.1)
sight_rests false g p q before left ts us s = sight_all g p q before left ts us s

sight_pumped : (g : GroundView) (p q : Seen) (k : ℕ) → calls.Pumped g p q k → told.Pumped (sight_of g p) (sight_of g q) k
sight_pumped g p q zero c = record { rounds = c.rounds; none = c.none }
sight_pumped g p q (suc k) c = record { before = journal_at g c.before; round = c.round; seen_before = (refl, c.seen_before); journal = ap (journal_at g) c.journal; rounds = c.rounds; size = c.size }

sight_asks : (words : PlainState → ℕ → ℕ → List ℕ) (g : GroundView) (p q : Seen) (before left : List Ticket) (n : ℕ) (ts us : List (ℕ × Reply)) → line.Asks g p q before left n words ts us → told.Asks (sight_of g p) (sight_of g q) before left n words ts us
sight_asks words g p q before left n ts us s = record { mine = s.mine; left_is = s.left_is; last = s.last }

sight_does : (g : GroundView) (p q : Seen) (before left : List Ticket) (n : ℕ) (j : Job) (ts us : List (ℕ × Reply)) → line.Does g p q before left n j ts us → told.Does g.limit (sight_of g p) (sight_of g q) before left n j ts us
sight_does g p q before left n (job.Submit queue update) ts us (inl s) = inl (record {
  ticket = s.ticket;
  takes = record { line_is = s.takes.line_is; there = s.takes.there; past = s.takes.past; mine = s.takes.mine };
  below = s.below;
  rest = sight_rests queue g p q (before ++ s.ticket ∷ []) left ts us s.rest;
})
sight_does g p q before left n (job.Submit queue update) ts us (inr s) = inr (record { mine = s.mine; full = s.full; between = s.between; rest = sight_rests queue g p q before left ts s.between s.rest; last = s.last })
sight_does g p q before left n job.Settle ts us s = record { mine = s.mine; between = s.between; rest = sight_all g p q before left ts s.between s.rest; last = s.last }
sight_does g p q before left n job.Pump ts us s = record { mine = s.mine; own = s.rest.lists.of_seen; left_is = s.left_is; count = s.count; pumped = sight_pumped g p q s.count s.pumped; last = s.last }
sight_does g p q before left n job.Peek ts us s = sight_asks (answer_text Version) g p q before left n ts us s
sight_does g p q before left n job.Tables ts us s = sight_asks tables_text g p q before left n ts us s
sight_does g p q before left n (job.Show query) ts us s = sight_asks (answer_text query) g p q before left n ts us s

-- the caller was served as what it has seen and done shows
pub sight_serves : (g : GroundView) (p q : Seen) (before left : List Ticket) (l : Option Line) (ts us : List (ℕ × Reply)) → line.Serves g p q before left l ts us → told.Serves g.limit (sight_of g p) (sight_of g q) before left l ts us
sight_serves g p q before left None ts us s = (s.0, sight_all g p q before left ts us s.1)
sight_serves g p q before left (Some l) ts us s = sight_does g p q before left l.line l.job ts us s
