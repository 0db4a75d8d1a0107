-- What a call that settles tickets appends.
use Rattle.std.proofs.Common.{◌≡◌, ℕ, ◌<◌, List, [], ◌∷◌, ◌++◌, length, Some, slice_get, get_or, refl, ap, sym, ◌∙◌, subst, arith, append_assoc, append-nil}
use Rattle.std.proofs.lemmas.Option.{slice_get_within}
use Rattle.std.specs.List.{remove}
use Rattle.keyed.specs.Prefix.{prefix_get}
use Rattle.journal_laws.proofs.EndLaws.{end_last}
use Rattle.journal_laws.specs.SettledAt.{settled_at}
use Rattle.switch_model.specs.declared.journal.Entry.{Entry}
use Rattle.switch_model.specs.declared.reply.Reply.{Reply}
use Rattle.switch_model.specs.declared.reply.Reply.TheVariants.{Settled}
use Rattle.switch_model.specs.declared.verdict.Verdict.{Verdict}
use Rattle.switch_model.specs.Journal.{Journal, entries, len, submission_of}
use Rattle.shared_laws.proofs.AloneLaws.{alone_seen, alone_settled}
use Rattle.shared_laws.proofs.CallLaws.{rounds_same, rounds_trans, rounds_wider}
use Rattle.shared_laws.specs.Callers.{AtRest, Grew, Seen}
use Rattle.shared_laws.specs.Calls.{IsAnswer, RoundsAdded}
use Rattle.shared_laws.specs.Ground.{GroundView, journal_at}
use Rattle.told_laws.specs.Course.{Course, Ticket, reply_at, reply_of, settle_all, settle_each, settle_one}
use Rattle.told_laws.specs.Serving.{Answered, Answers}
use Rattle.line_laws.proofs.TicketLaws.{answers_grow, answers_next, begins_at, first_lower, left_lower, len_grows, split_first}
use Rattle.line_laws.specs.Serving.{SettlesAll, SettlesFirst, SettlesSome}
use Rattle.line_laws.specs.Tickets.{course_of, highest}

-- the first ticket was settled
pub settles_first : (g : GroundView) (p q : Seen) (before left : List Ticket) (ts us : List (ℕ × Reply)) (t : Ticket) (position : ℕ) (verdict : Verdict) (version front : ℕ) → Grew p q → q.mine ≡ p.mine → AtRest g p → AtRest g q → q.callers ≡ p.callers → RoundsAdded g p q t.position
    → t.position < length p.seen → IsAnswer p.seen (journal_at g q.jseen) t.position verdict version front → position ≡ t.position → before ≡ t ∷ left
    → us ≡ ts ++ (t.line, Settled position verdict version front) ∷ [] → SettlesFirst g p q before left ts us
settles_first g p q before left ts us t position verdict version front grew mine a b callers r lt ans at parts next =
    let j : Journal = journal_at g p.jseen in
    let k : Journal = journal_at g q.jseen in
    let e : Entry = ans.entry in
    let x : ℕ × Reply = (t.line, Settled t.position e.verdict e.version (len k)) in
    let below : t.position < len k = slice_get_within (entries k) t.position e ans.there in
    let answered : Answered q.seen k (len j) t x (len k) = record {
      entry = e;
      told_is = refl;
      there = ans.there;
      of_ticket = prefix_get p.seen q.seen t.position (submission_of e) grew.seen ans.of_ticket;
      below = below;
      end = end_last k;
      rises = len_grows g p.jseen q.jseen grew.jseen;
    } in record {
      first = t;
      parts = parts;
      told = x;
      replies = next ∙ (λ i. ts ++ (t.line, Settled (at i) (ans.verdict_is i) (ans.version_is i) (ans.front_is i)) ∷ []);
      answered = answered;
      rounds = r;
      alone = λ one. (alone_seen g p q a b one (callers ∙ one) mine, alone_settled g p q t.position a b one (callers ∙ one) mine grew r below lt);
    }

-- nothing was settled yet
pub settles_none : (g : GroundView) (p : Seen) (before : List Ticket) (ts : List (ℕ × Reply)) → SettlesSome g p p before before ts ts
settles_none g p before ts = record { done = []; parts = refl; added = []; replies = sym (append-nil ts); answers = tt; rounds = rounds_same g p p (highest before) refl }

-- the pass saw more, and no ticket was settled
pub settles_same : (g : GroundView) (p q : Seen) (before left : List Ticket) (ts us : List (ℕ × Reply)) → q.rounds ≡ p.rounds → left ≡ before → us ≡ ts → SettlesSome g p q before left ts us
settles_same g p q before left ts us r e f = record { done = []; parts = sym e; added = []; replies = f ∙ sym (append-nil ts); answers = tt; rounds = rounds_same g p q (highest before) r }

pub some_grow : (g : GroundView) (p q r : Seen) (before left : List Ticket) (ts us : List (ℕ × Reply)) → Grew p q → Grew q r → RoundsAdded g q r (highest left) → SettlesSome g p q before left ts us → SettlesSome g p r before left ts us
some_grow g p q r before left ts us h k n s = record {
  done = s.done;
  parts = s.parts;
  added = s.added;
  replies = s.replies;
  answers = answers_grow q.seen r.seen (journal_at g q.jseen) (journal_at g r.jseen) (len (journal_at g p.jseen)) s.done s.added k.seen (begins_at g q.jseen r.jseen k.jseen) s.answers;
  rounds = rounds_trans g p q r (highest before) h k s.rounds (rounds_wider g q r (highest left) (highest before) (left_lower s.done left before s.parts) n);
}

-- one ticket more
pub settles_next : (g : GroundView) (p q r : Seen) (before left rest : List Ticket) (ts us vs : List (ℕ × Reply)) → Grew p q → Grew q r → SettlesSome g p q before left ts us → SettlesFirst g q r left rest us vs → SettlesSome g p r before rest ts vs
settles_next g p q r before left rest ts us vs h k s f = record {
  done = s.done ++ f.first ∷ [];
  parts = s.parts ∙ (ap (λ (l : List Ticket). s.done ++ l) f.parts ∙ sym (append_assoc s.done (f.first ∷ []) rest));
  added = s.added ++ f.told ∷ [];
  replies = f.replies ∙ (ap (λ (l : List (ℕ × Reply)). l ++ f.told ∷ []) s.replies ∙ append_assoc ts s.added (f.told ∷ []));
  answers = answers_next q.seen r.seen (journal_at g q.jseen) (journal_at g r.jseen) (len (journal_at g p.jseen)) s.done s.added f.first f.told (len (journal_at g r.jseen)) k.seen (begins_at g q.jseen r.jseen k.jseen) (len_grows g p.jseen q.jseen h.jseen) s.answers f.answered;
  rounds = rounds_trans g p q r (highest before) h k s.rounds (rounds_wider g q r f.first.position (highest before) (omega (arith, first_lower left rest f.first f.parts, left_lower s.done left before s.parts)) f.rounds);
}

-- all were settled
pub settles_all : (g : GroundView) (p q : Seen) (before left : List Ticket) (ts us : List (ℕ × Reply)) → left ≡ [] → SettlesSome g p q before left ts us → SettlesAll g p q before left ts us
settles_all g p q before left ts us none s =
    let all : before ≡ s.done = s.parts ∙ (ap (λ (l : List Ticket). s.done ++ l) none ∙ append-nil s.done) in record {
      added = s.added;
      replies = s.replies;
      answers = subst (λ (l : List Ticket). Answers q.seen (journal_at g q.jseen) (len (journal_at g p.jseen)) l s.added) (sym all) s.answers;
      rounds = s.rounds;
      none = none;
    }

-- the rounds that settle the first ticket
pub rounds_first : (g : GroundView) (p q : Seen) (ts : List Ticket) (t : Ticket) → 0 < length ts → t ≡ get_or ts 0 t → RoundsAdded g p q t.position → RoundsAdded g p q (highest ts)
rounds_first g p q ts t some e r = rounds_wider g p q t.position (highest ts) (first_lower ts (remove ts 0) t (split_first ts t some e)) r

-- a caller that is alone settles as its course does

abbrev none_waits : Course → Course
none_waits c = record c { tickets = [] }

each_none : (ts : List Ticket) (c : Course) → none_waits (settle_each ts c) ≡ settle_each ts (none_waits c)
each_none [] c = refl
each_none (t ∷ ts) c = each_none ts (settle_one t c)

reply_there : (j : Journal) (position : ℕ) (e : Entry) → slice_get (entries j) position ≡ Some e → reply_at j position ≡ Settled position e.verdict e.version (len j)
reply_there j position e h = ap (reply_of position (len j)) h

pub alone_first : (g : GroundView) (q r : Seen) (left rest : List Ticket) (us vs : List (ℕ × Reply)) → q.callers ≡ 1 → SettlesFirst g q r left rest us vs → settle_all (course_of g r rest vs) ≡ settle_all (course_of g q left us)
alone_first g q r left rest us vs one f =
    let both = f.alone one in
    let t : Ticket = f.first in
    let k : Journal = journal_at g r.jseen in
    let j : Journal = settled_at (length q.seen) q.seen t.position (journal_at g q.jseen) in
    let told : f.told ≡ (t.line, reply_at k t.position) = f.answered.told_is ∙ ap (λ (x : Reply). (t.line, x)) (sym (reply_there k t.position f.answered.entry f.answered.there)) in
    let told_at : f.told ≡ (t.line, reply_at j t.position) = told ∙ ap (λ (x : Journal). (t.line, reply_at x t.position)) both.1 in
    let replies : vs ≡ us ++ (t.line, reply_at j t.position) ∷ [] = f.replies ∙ ap (λ (x : ℕ × Reply). us ++ x ∷ []) told_at in
    let now : none_waits (course_of g r rest vs) ≡ none_waits (settle_one t (course_of g q (t ∷ rest) us)) = λ i. record { sent = both.0 i; journal = both.1 i; tickets = []; replies = replies i } in
    let turn : none_waits (settle_each rest (course_of g r rest vs)) ≡ none_waits (settle_each rest (settle_one t (course_of g q (t ∷ rest) us))) =
    each_none rest (course_of g r rest vs) ∙ (ap (settle_each rest) now ∙ sym (each_none rest (settle_one t (course_of g q (t ∷ rest) us)))) in
    turn ∙ ap (λ (l : List Ticket). settle_all (course_of g q l us)) (sym f.parts)

pub alone_done : (g : GroundView) (q : Seen) (left : List Ticket) (us : List (ℕ × Reply)) → left ≡ [] → settle_all (course_of g q left us) ≡ course_of g q left us
alone_done g q left us none = ap (λ (l : List Ticket). settle_all (course_of g q l us)) none ∙ ap (λ (l : List Ticket). course_of g q l us) (sym none)
