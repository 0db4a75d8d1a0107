-- Tickets, and the replies to them.
use Rattle.std.proofs.Common.{◌≡◌, ℕ, ◌<◌, ◌≤◌, List, [], ◌∷◌, ◌++◌, length, Some, slice_get, get_or, OnErr, Ok, Err, refl, ap, sym, subst, arith}
use Rattle.std.specs.declared.result.Result.{Result}
use Rattle.std.specs.List.{remove}
use Rattle.keyed.specs.Prefix.{IsPrefix, prefix_get, prefix_length}
use Rattle.journal_laws.proofs.EndLaws.{end_grows, end_within, prefix_entries}
use Rattle.switch_model.specs.declared.act.Submission.{Submission}
use Rattle.switch_model.specs.declared.journal.Round.{Round}
use Rattle.switch_model.specs.declared.reply.Reply.{Reply}
use Rattle.switch_model.specs.Journal.{Journal, IsJournalPrefix, entries, entries_of, len, submission_of}
use Rattle.shared_laws.specs.Ground.{GroundView, journal_at}
use Rattle.told_laws.specs.Course.{Ticket}
use Rattle.told_laws.specs.Serving.{Answered, Answers}
use Rattle.line_laws.specs.Tickets.{AreTickets, highest}

-- tickets stay so
pub tickets_grow : (sent more : List Submission) (ts : List Ticket) → IsPrefix sent more → AreTickets sent ts → AreTickets more ts
tickets_grow sent more [] p h = tt
tickets_grow sent more (t ∷ ts) p h = (omega (arith, prefix_length sent more p, h.0), tickets_grow sent more ts p h.1)

pub tickets_next : (sent : List Submission) (ts : List Ticket) (t : Ticket) → AreTickets sent ts → t.position < length sent → AreTickets sent (ts ++ t ∷ [])
tickets_next sent [] t h lt = (lt, tt)
tickets_next sent (x ∷ ts) t h lt = (h.0, tickets_next sent ts t h.1 lt)

pub first_is_ticket : (sent : List Submission) (ts : List Ticket) (t : Ticket) → 0 < length ts → t ≡ get_or ts 0 t → AreTickets sent ts → t.position < length sent
first_is_ticket sent [] t lt e h = absurd (omega (arith, lt))
first_is_ticket sent (x ∷ ts) t lt e h = subst (λ (y : Ticket). y.position < length sent) (sym e) h.0

pub rest_are_tickets : (sent : List Submission) (ts us : List Ticket) (t : Ticket) → ts ≡ t ∷ us → AreTickets sent ts → AreTickets sent us
rest_are_tickets sent ts us t e h = (subst (AreTickets sent) e h).1

pub split_first : (ts : List Ticket) (t : Ticket) → 0 < length ts → t ≡ get_or ts 0 t → ts ≡ t ∷ remove ts 0
split_first [] t lt h = absurd (omega (arith, lt))
split_first (x ∷ ts) t lt h = ap (λ (y : Ticket). y ∷ ts) (sym h)

-- the greatest position

highest_lower : (done left : List Ticket) → highest left ≤ highest (done ++ left)
highest_lower [] left = omega arith
highest_lower (t ∷ done) left = omega (arith, highest_lower done left)

pub left_lower : (done left before : List Ticket) → before ≡ done ++ left → highest left ≤ highest before
left_lower done left before e = subst (λ (l : List Ticket). highest left ≤ highest l) (sym e) (highest_lower done left)

pub first_lower : (before left : List Ticket) (t : Ticket) → before ≡ t ∷ left → t.position ≤ highest before
first_lower before left t e = subst (λ (l : List Ticket). t.position ≤ highest l) (sym e) (omega arith)

-- journals over one opening

pub begins_at : (g : GroundView) (j k : List Round) → IsPrefix j k → IsJournalPrefix (journal_at g j) (journal_at g k)
begins_at g j k p = (refl, p)

pub len_grows : (g : GroundView) (j k : List Round) → IsPrefix j k → len (journal_at g j) ≤ len (journal_at g k)
len_grows g j k p = prefix_length (entries_of j) (entries_of k) (prefix_entries j k p)

-- replies stay true

pub answered_grows : (sent more : List Submission) (j k : Journal) (low : ℕ) (t : Ticket) (told : ℕ × Reply) (front : ℕ) → IsPrefix sent more → IsJournalPrefix j k → Answered sent j low t told front → Answered more k low t told front
answered_grows sent more j k low t told front p q a = record {
  entry = a.entry;
  told_is = a.told_is;
  there = prefix_get (entries j) (entries k) t.position a.entry (prefix_entries j.rounds k.rounds q.1) a.there;
  of_ticket = prefix_get sent more t.position (submission_of a.entry) p a.of_ticket;
  below = a.below;
  end = end_grows j k front q a.end;
  rises = a.rises;
}

answered_lower : (sent : List Submission) (j : Journal) (low lower : ℕ) (t : Ticket) (told : ℕ × Reply) (front : ℕ) → lower ≤ low → Answered sent j low t told front → Answered sent j lower t told front
answered_lower sent j low lower t told front le a = record { entry = a.entry; told_is = a.told_is; there = a.there; of_ticket = a.of_ticket; below = a.below; end = a.end; rises = omega (arith, le, a.rises) }

pub answers_grow : (sent more : List Submission) (j k : Journal) (low : ℕ) (ts : List Ticket) (told : List (ℕ × Reply)) → IsPrefix sent more → IsJournalPrefix j k → Answers sent j low ts told → Answers more k low ts told
answers_grow sent more j k low [] [] p q a = tt
answers_grow sent more j k low [] (x ∷ told) p q a = a
answers_grow sent more j k low (t ∷ ts) [] p q a = a
answers_grow sent more j k low (t ∷ ts) (x ∷ told) p q a = (a.0, answered_grows sent more j k low t x a.0 p q a.1, answers_grow sent more j k a.0 ts told p q a.2)

-- one answer more, whose front isn't below the journal of the others
pub answers_next : (sent more : List Submission) (j k : Journal) (low : ℕ) (ts : List Ticket) (told : List (ℕ × Reply)) (t : Ticket) (x : ℕ × Reply) (front : ℕ) → IsPrefix sent more → IsJournalPrefix j k → low ≤ len j → Answers sent j low ts told → Answered more k (len j) t x front
    → Answers more k low (ts ++ t ∷ []) (told ++ x ∷ [])
answers_next sent more j k low [] [] t x front p q le a b = (front, answered_lower more k (len j) low t x front le b, tt)
answers_next sent more j k low [] (y ∷ told) t x front p q le a b = absurd a
answers_next sent more j k low (u ∷ ts) [] t x front p q le a b = absurd a
answers_next sent more j k low (u ∷ ts) (y ∷ told) t x front p q le a b =
    (a.0, answered_grows sent more j k low u y a.0 p q a.1, answers_next sent more j k a.0 ts told t x front p q (end_within j a.0 a.1.end) a.2 b)

-- a lower bound below the first
pub answers_lower : (sent : List Submission) (j : Journal) (low lower : ℕ) (ts : List Ticket) (told : List (ℕ × Reply)) → lower ≤ low → Answers sent j low ts told → Answers sent j lower ts told
answers_lower sent j low lower [] [] le a = tt
answers_lower sent j low lower [] (x ∷ told) le a = a
answers_lower sent j low lower (t ∷ ts) [] le a = a
answers_lower sent j low lower (t ∷ ts) (x ∷ told) le a = (a.0, answered_lower sent j low lower t x a.0 le a.1, a.2)

pub get_last : {A : Type 0} (xs : List A) (x : A) → slice_get (xs ++ x ∷ []) (length xs) ≡ Some x
get_last [] x = refl
get_last (y ∷ xs) x = get_last xs x

-- at the exit of a refusal
pub on_err : {A E : Type 0} {P : Type 0} (r : Result A E) → P → OnErr r P
on_err (Ok x) p = tt
on_err (Err e) p = p
