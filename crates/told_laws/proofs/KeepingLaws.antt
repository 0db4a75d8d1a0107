-- Each line keeps what is so of its caller.
use Rattle.std.proofs.Common.{◌≡◌, ℕ, ◌+◌, ◌<◌, ◌≤◌, true, false, Some, List, [], ◌∷◌, ◌++◌, length, map, slice_get, refl, ap, sym, ◌∙◌, subst, arith, append_assoc, length-append}
use Rattle.std.proofs.lemmas.List.{append-nil, map-append}
use Rattle.std.proofs.lemmas.List.Concat.{flat_map-append}
use Rattle.journal_laws.proofs.EndLaws.{journal_prefix_self, prefix_entries}
use Rattle.journal_laws.specs.Worlds.{numbered}
use Rattle.keyed.specs.Prefix.{prefix_length, prefix_self}
use Rattle.script_text.specs.declared.script.Job.TheVariants as job
use Rattle.script_text.specs.declared.script.Line.{Line}
use Rattle.switch_model.specs.declared.act.Submission.{Submission}
use Rattle.switch_model.specs.declared.act.Update.{Update}
use Rattle.switch_model.specs.declared.reply.Reply.{Reply}
use Rattle.switch_model.specs.Journal.{Journal, IsJournalPrefix, entries, len}
use Rattle.told_laws.specs.Course.{Ticket}
use Rattle.told_laws.specs.Keeping.{AreGiven, AreOpen, Keeps, Slot, count_after, fates_open, line_of, passed, taken_open}
use Rattle.told_laws.specs.Keeping.Slot.{held, told}
use Rattle.told_laws.specs.Serving.{Answers, Grew, Sight, TakesTicket, next_of}
use Rattle.told_laws.specs.Told.{AreCounted, AreRefused, AreTrue, IsCount, IsTrue, Order, ToldLine, all_of, arranged, fate_of, fates, in_order, none, ordered, passes, put_by, role, settles, taken, taken_by, tell, waiting_after}
use Rattle.told_laws.proofs.FillingLaws.{all_true_grow, answered, answered_tell, fill, fill_arranged, fill_counts, fill_fates, fill_lines, fill_taken, fill_true, given_answers, last_told, last_told_within, open_grows, open_next, true_both}
use Rattle.told_laws.proofs.GivingLaws.{given_grows}
use Rattle.told_laws.proofs.ListLaws.{all_last, length-numbered, line_next, numbered-append, refused_map, refused_not}

taken_next : (os : List Slot) (o : Slot) → taken_open (os ++ o ∷ []) ≡ taken_open os ++ taken_open (o ∷ [])
taken_next [] o = refl
taken_next (held line caller update earlier ∷ os) o = ap (λ (m : List Update). update ∷ m) (taken_next os o)
taken_next (told a ∷ os) o = ap (λ m. taken_by a.line.job a.reply ++ m) (taken_next os o) ∙ sym (append_assoc (taken_by a.line.job a.reply) (taken_open os) (taken_open (o ∷ [])))

fates_next : (os : List Slot) (o : Slot) → fates_open (os ++ o ∷ []) ≡ fates_open os ++ fates_open (o ∷ [])
fates_next [] o = refl
fates_next (held line caller update earlier ∷ os) o = ap (λ m. false ∷ m) (fates_next os o)
fates_next (told a ∷ os) o = ap (λ m. fate_of a.line.job a.reply ++ m) (fates_next os o) ∙ sym (append_assoc (fate_of a.line.job a.reply) (fates_open os) (fates_open (o ∷ [])))

passed_next : (os : List Slot) (o : Slot) → passed (os ++ o ∷ []) ≡ passed os ++ passed (o ∷ [])
passed_next [] o = refl
passed_next (held line caller update earlier ∷ os) o = passed_next os o
passed_next (told a ∷ os) o = ap (λ m. a ∷ m) (passed_next os o)

arranged_both : (o : Order) (xs ys : List ToldLine) → arranged o (xs ++ ys) ≡ arranged (arranged o xs) ys
arranged_both o [] ys = refl
arranged_both o (x ∷ xs) ys = arranged_both (put_by (role x.line.job x.reply) x o) xs ys

counted_both : (n : ℕ) (xs ys : List ToldLine) → AreCounted n xs → AreCounted (count_after n xs) ys → AreCounted n (xs ++ ys)
counted_both n [] ys h t = t
counted_both n (x ∷ xs) ys h t = (h.0, counted_both (waiting_after (role x.line.job x.reply) n) xs ys h.1 t)

count_both : (n : ℕ) (xs ys : List ToldLine) → count_after n (xs ++ ys) ≡ count_after (count_after n xs) ys
count_both n [] ys = refl
count_both n (x ∷ xs) ys = count_both (waiting_after (role x.line.job x.reply) n) xs ys

-- more entries come behind those that are there
pub len_grows : (j k : Journal) → IsJournalPrefix j k → len j ≤ len k
len_grows j k p = prefix_length (entries j) (entries k) (prefix_entries j.rounds k.rounds p.1)

-- how many updates the caller had submitted
rank : (limit i : ℕ) (p : Sight) (ws : List Ticket) (ts : List (ℕ × Reply)) (done : List (List Line)) (now : List Line) (k : Keeps limit i p ws ts done now) → length (taken (all_of k.phases ++ k.closed)) + length (taken_open k.slots) ≡ length p.mine
rank limit i p ws ts done now k =
    let past = taken (all_of k.phases ++ k.closed) in
    sym (ap length k.updates ∙ (length-numbered i 0 (past ++ taken_open k.slots) ∙ length-append past (taken_open k.slots)))

-- a line that settles nothing has its reply
pub keeps_passes : (limit i : ℕ) (p q : Sight) (ws : List Ticket) (ts : List (ℕ × Reply)) (done : List (List Line)) (now : List Line) (l : Line) (r : Reply) → (k : Keeps limit i p ws ts done now) → Grew p q → q.mine ≡ p.mine
    → taken_by l.job r ≡ [] → role l.job r ≡ passes → IsTrue q.journal i (length p.mine) l.job r → AreRefused (limit ≤ length q.sent) ((fates (all_of k.phases ++ k.closed) ++ fates_open k.slots) ++ fate_of l.job r)
    → AreGiven q.journal q.rounds i (len q.journal) (length q.journal.rounds) (k.given ++ record { line = l; reply = r; earlier = length p.mine } ∷ [])
    → Keeps limit i q ws (ts ++ (l.line, r) ∷ []) done (now ++ l ∷ [])
keeps_passes limit i p q ws ts done now l r k g mine nothing passing so refused answers =
    let a : ToldLine = record { line = l; reply = r; earlier = length p.mine } in
    let past = all_of k.phases ++ k.closed in
    let n = length (taken past) in
    let e : n + length (taken_open k.slots) ≡ length p.mine = rank limit i p ws ts done now k in
    let more : taken_open (k.slots ++ told a ∷ []) ≡ taken_open k.slots = taken_next k.slots (told a) ∙ (ap (λ m. taken_open k.slots ++ m) (append-nil (taken_by l.job r) ∙ nothing) ∙ append-nil (taken_open k.slots)) in
    let fate : fates past ++ fates_open (k.slots ++ told a ∷ []) ≡ (fates past ++ fates_open k.slots) ++ fate_of l.job r =
    ap (λ m. fates past ++ m) (fates_next k.slots (told a) ∙ ap (λ m. fates_open k.slots ++ m) (append-nil (fate_of l.job r))) ∙ sym (append_assoc (fates past) (fates_open k.slots) (fate_of l.job r)) in
    let slot : AreOpen q.sent q.journal i (n + length (taken_open k.slots)) (told a ∷ []) [] = (passing, sym e, subst (λ m. IsTrue q.journal i m l.job r) (sym e) so, tt) in
    let opened = open_next q.sent q.journal i n k.slots ws (told a) [] (open_grows p.sent q.sent p.journal q.journal i n k.slots ws g.sent g.journal k.opened) slot in record {
      number_is = g.number ∙ k.number_is;
      phases = k.phases;
      closed = k.closed;
      slots = k.slots ++ told a ∷ [];
      given = k.given ++ a ∷ [];
      phases_are = k.phases_are;
      lines_are = ap (λ m. map (λ (x : ToldLine). x.line) k.closed ++ m) (map-append line_of k.slots (told a ∷ [])) ∙ line_next (map (λ (x : ToldLine). x.line) k.closed) (map line_of k.slots) now l k.lines_are;
      updates = mine ∙ (k.updates ∙ ap (λ m. numbered i 0 (taken past ++ m)) (sym more));
      refused = subst (AreRefused (limit ≤ length q.sent)) (sym fate) refused;
      each = all_true_grow p.journal q.journal i 0 past g.journal k.each;
      opened = subst (AreOpen q.sent q.journal i n (k.slots ++ told a ∷ [])) (append-nil ws) opened;
      order = ap (λ m. in_order k.phases ++ ((arranged none k.closed).given ++ m)) (passed_next k.slots (told a)) ∙ (ap (λ m. in_order k.phases ++ m) (sym (append_assoc (arranged none k.closed).given (passed k.slots) (a ∷ []))) ∙ line_next (in_order k.phases) ((arranged none k.closed).given ++ passed k.slots) k.given a k.order);
      shut = k.shut;
      replies = map-append tell k.given (a ∷ []) ∙ ap (λ m. m ++ tell a ∷ []) k.replies;
      answers = answers;
      counts = k.counts;
      counted = k.counted;
      settled = k.settled;
    }

-- a queued line waits for its ticket
pub keeps_holds : (limit i : ℕ) (p q : Sight) (ws : List Ticket) (ts : List (ℕ × Reply)) (done : List (List Line)) (now : List Line) (line caller : ℕ) (update : Update) (w : Ticket) → (k : Keeps limit i p ws ts done now) → Grew p q → TakesTicket p q line update w → w.position < limit
    → Keeps limit i q (ws ++ w ∷ []) ts done (now ++ record { line = line; caller = caller; job = job.Submit true update } ∷ [])
keeps_holds limit i p q ws ts done now line caller update w k g t below =
    let o : Slot = held line caller update (length p.mine) in
    let past = all_of k.phases ++ k.closed in
    let n = length (taken past) in
    let e : n + length (taken_open k.slots) ≡ length p.mine = rank limit i p ws ts done now k in
    let s : Submission = record { caller = i; seq = length p.mine; update = update } in
    let there : slice_get q.sent w.position ≡ Some s = t.there ∙ (λ x. Some (record { caller = k.number_is x; seq = length p.mine; update = update })) in
    let slot : AreOpen q.sent q.journal i (length p.mine) (o ∷ []) (w ∷ []) = (refl, t.line_is, there, tt) in
    let opened = open_next q.sent q.journal i n k.slots ws o (w ∷ []) (open_grows p.sent q.sent p.journal q.journal i n k.slots ws g.sent g.journal k.opened) (subst (λ m. AreOpen q.sent q.journal i m (o ∷ []) (w ∷ [])) (sym e) slot) in
    let past_it = t.past in
    let out : (limit ≤ length p.sent) → ⊥ = (λ le. absurd (omega arith)) in
    let fate : fates past ++ fates_open (k.slots ++ o ∷ []) ≡ (fates past ++ fates_open k.slots) ++ false ∷ [] = ap (λ m. fates past ++ m) (fates_next k.slots o) ∙ sym (append_assoc (fates past) (fates_open k.slots) (false ∷ [])) in
    let refused : AreRefused (limit ≤ length p.sent) ((fates past ++ fates_open k.slots) ++ false ∷ []) = refused_not (limit ≤ length p.sent) (fates past ++ fates_open k.slots) out k.refused in
    let grown : (limit ≤ length p.sent) → (limit ≤ length q.sent) = (λ le. let more = prefix_length p.sent q.sent g.sent in omega arith) in
    let all : taken past ++ taken_open (k.slots ++ o ∷ []) ≡ (taken past ++ taken_open k.slots) ++ update ∷ [] = ap (λ m. taken past ++ m) (taken_next k.slots o) ∙ sym (append_assoc (taken past) (taken_open k.slots) (update ∷ [])) in
    let long : 0 + length (taken past ++ taken_open k.slots) ≡ length p.mine = (let l = length-append (taken past) (taken_open k.slots) in omega arith) in
    let next : next_of p update ≡ s = (λ x. record { caller = k.number_is x; seq = length p.mine; update = update }) in record {
      number_is = g.number ∙ k.number_is;
      phases = k.phases;
      closed = k.closed;
      slots = k.slots ++ o ∷ [];
      given = k.given;
      phases_are = k.phases_are;
      lines_are = ap (λ m. map (λ (x : ToldLine). x.line) k.closed ++ m) (map-append line_of k.slots (o ∷ [])) ∙ line_next (map (λ (x : ToldLine). x.line) k.closed) (map line_of k.slots) now (line_of o) k.lines_are;
      updates = t.mine ∙ ((λ x. k.updates x ++ next x ∷ []) ∙ (ap (λ m. numbered i 0 (taken past ++ taken_open k.slots) ++ numbered i m (update ∷ [])) (sym long) ∙ (sym (numbered-append i 0 (taken past ++ taken_open k.slots) (update ∷ [])) ∙ ap (numbered i 0) (sym all))));
      refused = refused_map (limit ≤ length p.sent) (limit ≤ length q.sent) (fates past ++ fates_open (k.slots ++ o ∷ [])) grown (subst (AreRefused (limit ≤ length p.sent)) (sym fate) refused);
      each = all_true_grow p.journal q.journal i 0 past g.journal k.each;
      opened = opened;
      order = ap (λ m. in_order k.phases ++ ((arranged none k.closed).given ++ m)) (passed_next k.slots o ∙ append-nil (passed k.slots)) ∙ k.order;
      shut = k.shut;
      replies = k.replies;
      answers = given_grows p.journal q.journal p.rounds q.rounds i (len p.journal) (len q.journal) (length p.journal.rounds) (length q.journal.rounds) k.given g.journal g.rounds (len_grows p.journal q.journal g.journal) (prefix_length p.journal.rounds q.journal.rounds g.journal.1) k.answers;
      counts = k.counts;
      counted = k.counted;
      settled = k.settled;
    }

-- all lines of the phase so far, with the replies of those that waited
record Fills (limit i : ℕ) (p q : Sight) (ws : List Ticket) (ts : List (ℕ × Reply)) (done : List (List Line)) (now : List Line) (k : Keeps limit i p ws ts done now) (added : List (ℕ × Reply)) : Type 0 where
  each : AreTrue q.journal i 0 (all_of k.phases ++ (k.closed ++ fill k.slots added))
  taken_is : taken (all_of k.phases ++ (k.closed ++ fill k.slots added)) ≡ taken (all_of k.phases ++ k.closed) ++ taken_open k.slots
  fates_is : fates (all_of k.phases ++ (k.closed ++ fill k.slots added)) ≡ fates (all_of k.phases ++ k.closed) ++ fates_open k.slots
  lines_is : map (λ a. a.line) (k.closed ++ fill k.slots added) ≡ now
  order : arranged none (k.closed ++ fill k.slots added) ≡ record { given = (arranged none k.closed).given ++ passed k.slots; waiting = answered k.slots added }
  counted : AreCounted 0 (k.closed ++ fill k.slots added)
  count : count_after 0 (k.closed ++ fill k.slots added) ≡ length ws
  answers : AreGiven q.journal q.rounds i (last_told (len p.journal) added) (length q.journal.rounds) (k.given ++ answered k.slots added)
  replies : map tell (k.given ++ answered k.slots added) ≡ ts ++ added
  rises : last_told (len p.journal) added ≤ len q.journal

fills : (limit i : ℕ) (p q : Sight) (ws : List Ticket) (ts : List (ℕ × Reply)) (done : List (List Line)) (now : List Line) (k : Keeps limit i p ws ts done now) (added : List (ℕ × Reply)) → Grew p q → Answers q.sent q.journal (len p.journal) ws added → Fills limit i p q ws ts done now k added
fills limit i p q ws ts done now k added g a =
    let past = all_of k.phases ++ k.closed in
    let n = length (taken past) in
    let f = fill k.slots added in
    let low = len p.journal in
    let opened = open_grows p.sent q.sent p.journal q.journal i n k.slots ws g.sent g.journal k.opened in
    let whole : past ++ f ≡ all_of k.phases ++ (k.closed ++ f) = append_assoc (all_of k.phases) k.closed f in
    let true_all : AreTrue q.journal i 0 (past ++ f) = true_both q.journal i 0 past f (all_true_grow p.journal q.journal i 0 past g.journal k.each) (let z : n ≡ 0 + n = omega arith in subst (λ m. AreTrue q.journal i m f) z (fill_true q.sent q.journal i n low k.slots ws added opened a)) in
    let counts = fill_counts q.sent q.journal i n low 0 k.slots ws added opened a in
    let given = given_grows p.journal q.journal p.rounds q.rounds i low low (length p.journal.rounds) (length q.journal.rounds) k.given g.journal g.rounds (omega arith) (prefix_length p.journal.rounds q.journal.rounds g.journal.1) k.answers in record {
      each = subst (AreTrue q.journal i 0) whole true_all;
      taken_is = ap taken (sym whole) ∙ (flat_map-append (λ (x : ToldLine). taken_by x.line.job x.reply) past f ∙ ap (λ m. taken past ++ m) (fill_taken q.sent q.journal i n low k.slots ws added opened a));
      fates_is = ap fates (sym whole) ∙ (flat_map-append (λ (x : ToldLine). fate_of x.line.job x.reply) past f ∙ ap (λ m. fates past ++ m) (fill_fates q.sent q.journal i n low k.slots ws added opened a));
      lines_is = map-append (λ (x : ToldLine). x.line) k.closed f ∙ (ap (λ m. map (λ (x : ToldLine). x.line) k.closed ++ m) (fill_lines q.sent q.journal i n low k.slots ws added opened a) ∙ k.lines_are);
      order = arranged_both none k.closed f ∙ (fill_arranged q.sent q.journal i n low (arranged none k.closed) k.slots ws added opened a ∙ (λ x. record { given = (arranged none k.closed).given ++ passed k.slots; waiting = k.shut x ++ answered k.slots added }));
      counted = counted_both 0 k.closed f k.counted (subst (λ m. AreCounted m f) (sym k.settled) counts.0);
      count = count_both 0 k.closed f ∙ (ap (λ m. count_after m f) k.settled ∙ (counts.1 ∙ omega arith));
      answers = given_answers q.sent q.journal q.rounds i n low (length q.journal.rounds) k.slots ws added k.given opened a given;
      replies = map-append tell k.given (answered k.slots added) ∙ (λ x. k.replies x ++ answered_tell q.sent q.journal i n low k.slots ws added opened a x);
      rises = last_told_within q.sent q.journal low ws added (len_grows p.journal q.journal g.journal) a;
    }

-- a line that settles: those that waited have their replies, and its own comes last
pub keeps_closes : (limit i : ℕ) (p q : Sight) (ws : List Ticket) (ts : List (ℕ × Reply)) (done : List (List Line)) (now : List Line) (x : ToldLine) (firsts : List (ℕ × Reply)) → (k : Keeps limit i p ws ts done now) → Grew p q → Answers q.sent q.journal (len p.journal) ws firsts
    → x.earlier ≡ length p.mine → role x.line.job x.reply ≡ settles → IsTrue q.journal i (length p.mine) x.line.job x.reply → IsCount (length ws) x.reply → q.mine ≡ p.mine ++ numbered i (length p.mine) (taken_by x.line.job x.reply)
    → AreRefused (limit ≤ length q.sent) ((fates (all_of k.phases ++ k.closed) ++ fates_open k.slots) ++ fate_of x.line.job x.reply)
    → ((given : List ToldLine) → AreGiven q.journal q.rounds i (last_told (len p.journal) firsts) (length q.journal.rounds) given → AreGiven q.journal q.rounds i (len q.journal) (length q.journal.rounds) (given ++ x ∷ []))
    → Keeps limit i q [] (ts ++ (firsts ++ tell x ∷ [])) done (now ++ x.line ∷ [])
keeps_closes limit i p q ws ts done now x firsts k g a earlier settling so count mine refused given =
    let f = fills limit i p q ws ts done now k firsts g a in
    let past = all_of k.phases ++ k.closed in
    let c = k.closed ++ fill k.slots firsts in
    let b = answered k.slots firsts in
    let all : all_of k.phases ++ (c ++ x ∷ []) ≡ (all_of k.phases ++ c) ++ x ∷ [] = sym (append_assoc (all_of k.phases) c (x ∷ [])) in
    let long : length (taken (all_of k.phases ++ c)) ≡ length p.mine = ap length f.taken_is ∙ (length-append (taken past) (taken_open k.slots) ∙ rank limit i p ws ts done now k) in
    let one : AreTrue q.journal i (0 + length (taken (all_of k.phases ++ c))) (x ∷ []) =
    (let z : length p.mine ≡ 0 + length (taken (all_of k.phases ++ c)) = omega arith in subst (λ m. AreTrue q.journal i m (x ∷ [])) z (earlier, so, tt)) in
    let taken_all : taken (all_of k.phases ++ (c ++ x ∷ [])) ≡ (taken past ++ taken_open k.slots) ++ taken_by x.line.job x.reply =
    ap taken all ∙ (flat_map-append (λ (y : ToldLine). taken_by y.line.job y.reply) (all_of k.phases ++ c) (x ∷ []) ∙ (λ z. f.taken_is z ++ append-nil (taken_by x.line.job x.reply) z)) in
    let fates_all : fates (all_of k.phases ++ (c ++ x ∷ [])) ≡ (fates past ++ fates_open k.slots) ++ fate_of x.line.job x.reply =
    ap fates all ∙ (flat_map-append (λ (y : ToldLine). fate_of y.line.job y.reply) (all_of k.phases ++ c) (x ∷ []) ∙ (λ z. f.fates_is z ++ append-nil (fate_of x.line.job x.reply) z)) in
    let put : arranged none (c ++ x ∷ []) ≡ record { given = ((arranged none k.closed).given ++ passed k.slots) ++ (b ++ x ∷ []); waiting = [] } =
    arranged_both none c (x ∷ []) ∙ (ap (λ r. put_by r x (arranged none c)) settling ∙ ap (put_by settles x) f.order) in
    let shape : in_order k.phases ++ ((arranged none (c ++ x ∷ [])).given ++ []) ≡ k.given ++ (b ++ x ∷ []) =
    ap (λ m. in_order k.phases ++ m) (append-nil (arranged none (c ++ x ∷ [])).given) ∙ (ap (λ (o : Order). in_order k.phases ++ o.given) put
    ∙ (sym (append_assoc (in_order k.phases) ((arranged none k.closed).given ++ passed k.slots) (b ++ x ∷ [])) ∙ ap (λ m. m ++ (b ++ x ∷ [])) k.order)) in
    let rank0 : 0 + length (taken past ++ taken_open k.slots) ≡ length p.mine = (let l = length-append (taken past) (taken_open k.slots) in let e = rank limit i p ws ts done now k in omega arith) in
    let after : count_after 0 (c ++ x ∷ []) ≡ 0 = count_both 0 c (x ∷ []) ∙ ap (λ r. waiting_after r (count_after 0 c)) settling in record {
      number_is = g.number ∙ k.number_is;
      phases = k.phases;
      closed = c ++ x ∷ [];
      slots = [];
      given = k.given ++ (b ++ x ∷ []);
      phases_are = k.phases_are;
      lines_are = append-nil (map (λ (y : ToldLine). y.line) (c ++ x ∷ [])) ∙ (map-append (λ (y : ToldLine). y.line) c (x ∷ []) ∙ ap (λ m. m ++ x.line ∷ []) f.lines_is);
      updates = mine ∙ ((λ z. k.updates z ++ numbered i (sym rank0 z) (taken_by x.line.job x.reply)) ∙ (sym (numbered-append i 0 (taken past ++ taken_open k.slots) (taken_by x.line.job x.reply)) ∙ ap (numbered i 0) (sym taken_all ∙ sym (append-nil (taken (all_of k.phases ++ (c ++ x ∷ [])))))));
      refused = subst (AreRefused (limit ≤ length q.sent)) (sym fates_all ∙ sym (append-nil (fates (all_of k.phases ++ (c ++ x ∷ []))))) refused;
      each = subst (AreTrue q.journal i 0) (sym all) (true_both q.journal i 0 (all_of k.phases ++ c) (x ∷ []) f.each one);
      opened = tt;
      order = shape;
      shut = ap (λ (o : Order). o.waiting) put;
      replies = ap (map tell) (sym (append_assoc k.given b (x ∷ []))) ∙ (map-append tell (k.given ++ b) (x ∷ []) ∙ (ap (λ m. m ++ tell x ∷ []) f.replies ∙ append_assoc ts firsts (tell x ∷ [])));
      answers = subst (AreGiven q.journal q.rounds i (len q.journal) (length q.journal.rounds)) (append_assoc k.given b (x ∷ [])) (given (k.given ++ b) f.answers);
      counts = k.counts;
      counted = counted_both 0 c (x ∷ []) f.counted (subst (λ m. IsCount m x.reply) (sym f.count) count, tt);
      settled = after;
    }

-- the end of a phase
pub keeps_ends : (limit i : ℕ) (p q : Sight) (ws : List Ticket) (ts : List (ℕ × Reply)) (done : List (List Line)) (now : List Line) (added : List (ℕ × Reply)) → (k : Keeps limit i p ws ts done now) → Grew p q → q.mine ≡ p.mine → Answers q.sent q.journal (len p.journal) ws added
    → Keeps limit i q [] (ts ++ added) (done ++ now ∷ []) []
keeps_ends limit i p q ws ts done now added k g mine a =
    let f = fills limit i p q ws ts done now k added g a in
    let past = all_of k.phases ++ k.closed in
    let c = k.closed ++ fill k.slots added in
    let b = answered k.slots added in
    let all : all_of (k.phases ++ c ∷ []) ++ [] ≡ all_of k.phases ++ c = append-nil (all_of (k.phases ++ c ∷ [])) ∙ (flat_map-append (λ (y : List ToldLine). y) k.phases (c ∷ []) ∙ ap (λ m. all_of k.phases ++ m) (append-nil c)) in
    let taken_all : taken (all_of (k.phases ++ c ∷ []) ++ []) ≡ taken past ++ taken_open k.slots = ap taken all ∙ f.taken_is in
    let fates_all : fates (all_of (k.phases ++ c ∷ []) ++ []) ≡ fates past ++ fates_open k.slots = ap fates all ∙ f.fates_is in
    let this : ordered c ≡ ((arranged none k.closed).given ++ passed k.slots) ++ b = ap (λ (o : Order). o.given ++ o.waiting) f.order in
    let shape : in_order (k.phases ++ c ∷ []) ++ [] ≡ k.given ++ b =
    append-nil (in_order (k.phases ++ c ∷ [])) ∙ (flat_map-append ordered k.phases (c ∷ []) ∙ (ap (λ m. in_order k.phases ++ m) (append-nil (ordered c) ∙ this)
    ∙ (sym (append_assoc (in_order k.phases) ((arranged none k.closed).given ++ passed k.slots) b) ∙ ap (λ m. m ++ b) k.order))) in
    let grown : (limit ≤ length p.sent) → (limit ≤ length q.sent) = (λ le. let more = prefix_length p.sent q.sent g.sent in omega arith) in record {
      number_is = g.number ∙ k.number_is;
      phases = k.phases ++ c ∷ [];
      closed = [];
      slots = [];
      given = k.given ++ b;
      phases_are = map-append (map (λ (y : ToldLine). y.line)) k.phases (c ∷ []) ∙ (λ z. k.phases_are z ++ f.lines_is z ∷ []);
      lines_are = refl;
      updates = mine ∙ (k.updates ∙ ap (numbered i 0) (sym taken_all ∙ sym (append-nil (taken (all_of (k.phases ++ c ∷ []) ++ [])))));
      refused = subst (AreRefused (limit ≤ length q.sent)) (sym fates_all ∙ sym (append-nil (fates (all_of (k.phases ++ c ∷ []) ++ [])))) (refused_map (limit ≤ length p.sent) (limit ≤ length q.sent) (fates past ++ fates_open k.slots) grown k.refused);
      each = subst (AreTrue q.journal i 0) (sym all) f.each;
      opened = tt;
      order = shape;
      shut = refl;
      replies = f.replies;
      answers = given_grows q.journal q.journal q.rounds q.rounds i (last_told (len p.journal) added) (len q.journal) (length q.journal.rounds) (length q.journal.rounds) (k.given ++ b) (journal_prefix_self q.journal) (prefix_self q.rounds) f.rises (omega arith) f.answers;
      counts = all_last (AreCounted 0) k.phases c k.counts f.counted;
      counted = tt;
      settled = refl;
    }
