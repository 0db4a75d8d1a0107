-- What a caller has seen, and its tickets.
use Rattle.std.specs.Prelude.{◌<◌, ℕ, max, List, [], ◌∷◌, length}
use Rattle.std.specs.List.{AllByRecursion}
use Rattle.switch_model.specs.declared.act.Submission.{Submission}
use Rattle.switch_model.specs.declared.reply.Reply.{Reply}
use Rattle.shared_laws.specs.Callers.{Seen}
use Rattle.shared_laws.specs.Ground.{GroundView, journal_at}
use Rattle.told_laws.specs.Course.{Course, Ticket}
use Rattle.told_laws.specs.Serving.{Sight}

-- what the caller of a pass has seen and done
abbrev pub sight_of : GroundView → Seen → Sight
sight_of g p = record { number = p.number; mine = p.mine; sent = p.seen; journal = journal_at g p.jseen; rounds = p.rounds }

-- the same, with its tickets and its replies
abbrev pub course_of : GroundView → Seen → List Ticket → List (ℕ × Reply) → Course
course_of g p tickets replies = record { sent = p.seen; journal = journal_at g p.jseen; tickets = tickets; replies = replies }

-- tickets of what was submitted
abbrev pub AreTickets : List Submission → List Ticket → Type 0
AreTickets sent tickets = AllByRecursion (λ t. t.position < length sent) tickets

-- the greatest position of the tickets
abbrev pub highest : List Ticket → ℕ
highest [] = 0
highest (t ∷ ts) = max t.position (highest ts)
