-- What a line does, as its caller's record tells it.
use Rattle.std.proofs.Common.{◌≡◌, inl, inr, ℕ, zero, suc, ◌+◌, ◌<◌, ◌≤◌, Bool, true, false, Option, None, Some, List, [], ◌∷◌, ◌++◌, length, take, Contains, slice_get, refl, ap, sym, ◌∙◌, subst, arith, append_assoc, length-append}
use Rattle.std.proofs.lemmas.List.{append-nil}
use Rattle.answer_forms.specs.AnswerText.{answer_text, tables_text}
use Rattle.journal_laws.proofs.EndLaws.{end_last, end_within, entries_upto, journal_prefix_self}
use Rattle.journal_laws.proofs.RoundLaws.{len_push, length-strip}
use Rattle.journal_laws.specs.Worlds.{numbered}
use Rattle.keyed.specs.Prefix.{IsPrefix, prefix_length, prefix_self}
use Rattle.script_text.specs.declared.script.Job.{Job}
use Rattle.script_text.specs.declared.script.Job.TheVariants as job
use Rattle.script_text.specs.declared.script.Line.{Line}
use Rattle.switch_model.specs.declared.act.Update.{Update}
use Rattle.switch_model.specs.declared.journal.Round.{Round}
use Rattle.switch_model.specs.declared.query.Query.TheVariants.{Version}
use Rattle.switch_model.specs.declared.reply.Reply.{Reply}
use Rattle.switch_model.specs.declared.reply.Reply.TheVariants.{HistoryFull, Settle, Pump, Answer}
use Rattle.switch_model.specs.Journal.{Journal, after_entries, entries, entries_of, fold, len, own, strip, upto, version_after, version_of}
use Rattle.switch_model.specs.PlainState.{PlainState}
use Rattle.told_laws.specs.Course.{Ticket}
use Rattle.told_laws.specs.Keeping.{AreGiven, Keeps, done_after, fates_open, now_after}
use Rattle.told_laws.specs.Serving.{Asks, Counts, Does, Grew, IsFull, Pumped, Serves, Sight, Submits, next_of}
use Rattle.told_laws.specs.Told.{AreRefused, IsCount, IsLook, IsRoundOf, IsTrue, ToldLine, all_of, fate_of, fates, passes, role, settles, taken_by, tell}
use Rattle.told_laws.proofs.FillingLaws.{last_answer, last_told, last_told_within, pair_is, reply_is, true_of}
use Rattle.told_laws.proofs.GivingLaws.{given_count, given_full, given_grows, given_look, given_none, given_round, given_settled}
use Rattle.told_laws.proofs.KeepingLaws.{keeps_closes, keeps_ends, keeps_holds, keeps_passes, len_grows}
use Rattle.told_laws.proofs.ListLaws.{last_contained, refused_map, refused_more, refused_not, take_whole}

more_seen : (limit : ℕ) (p q : Sight) → Grew p q → (limit ≤ length p.sent) → (limit ≤ length q.sent)
more_seen limit p q g le = (let more = prefix_length p.sent q.sent g.sent in omega arith)

-- a line without an update is neither refused nor not
refused_same : (limit : ℕ) (p q : Sight) (fs : List Bool) → Grew p q → AreRefused (limit ≤ length p.sent) fs → AreRefused (limit ≤ length q.sent) (fs ++ [])
refused_same limit p q fs g h = subst (AreRefused (limit ≤ length q.sent)) (sym (append-nil fs)) (refused_map (limit ≤ length p.sent) (limit ≤ length q.sent) fs (more_seen limit p q g) h)

refused_full : (limit : ℕ) (p q : Sight) (fs : List Bool) → Grew p q → length q.sent ≡ limit → AreRefused (limit ≤ length p.sent) fs → AreRefused (limit ≤ length q.sent) (fs ++ true ∷ [])
refused_full limit p q fs g full h = refused_more (limit ≤ length q.sent) fs (omega arith) (refused_map (limit ≤ length p.sent) (limit ≤ length q.sent) fs (more_seen limit p q g) h)

refused_room : (limit position : ℕ) (p q : Sight) (fs : List Bool) → Grew p q → length p.sent ≤ position → position < limit → AreRefused (limit ≤ length p.sent) fs → AreRefused (limit ≤ length q.sent) (fs ++ false ∷ [])
refused_room limit position p q fs g past below h =
    refused_map (limit ≤ length p.sent) (limit ≤ length q.sent) (fs ++ false ∷ []) (more_seen limit p q g) (refused_not (limit ≤ length p.sent) fs (λ le. absurd (omega arith)) h)

-- the answers of a caller whose pass saw more
grown : (limit i : ℕ) (p q : Sight) (ws : List Ticket) (ts : List (ℕ × Reply)) (done : List (List Line)) (now : List Line) (k : Keeps limit i p ws ts done now) → Grew p q → AreGiven q.journal q.rounds i (len p.journal) (length p.journal.rounds) k.given
grown limit i p q ws ts done now k g = given_grows p.journal q.journal p.rounds q.rounds i (len p.journal) (len p.journal) (length p.journal.rounds) (length p.journal.rounds) k.given g.journal g.rounds (omega arith) (omega arith) k.answers

wider : (q : Sight) (i top high : ℕ) (given : List ToldLine) → top ≤ len q.journal → high ≤ length q.journal.rounds → AreGiven q.journal q.rounds i top high given → AreGiven q.journal q.rounds i (len q.journal) (length q.journal.rounds) given
wider q i top high given le le' g = given_grows q.journal q.journal q.rounds q.rounds i top (len q.journal) high (length q.journal.rounds) given (journal_prefix_self q.journal) (prefix_self q.rounds) le le' g

-- a look
asks : (limit i : ℕ) (p q : Sight) (ws vs : List Ticket) (ts us : List (ℕ × Reply)) (done : List (List Line)) (now : List Line) (l : Line) (words : PlainState → ℕ → ℕ → List ℕ) → (k : Keeps limit i p ws ts done now) → Grew p q
    → taken_by l.job (Answer (len q.journal) (words (fold q.journal) (version_of q.journal) (len q.journal))) ≡ [] → role l.job (Answer (len q.journal) (words (fold q.journal) (version_of q.journal) (len q.journal))) ≡ passes → fate_of l.job (Answer (len q.journal) (words (fold q.journal) (version_of q.journal) (len q.journal))) ≡ [] → IsTrue q.journal i (length p.mine) l.job (Answer (len q.journal) (words (fold q.journal) (version_of q.journal) (len q.journal)))
    → Asks p q ws vs l.line words ts us → Keeps limit i q vs us done (now ++ l ∷ [])
asks limit i p q ws vs ts us done now l words k g nothing passing fateless so a =
    let r = Answer (len q.journal) (words (fold q.journal) (version_of q.journal) (len q.journal)) in
    let x : ToldLine = record { line = l; reply = r; earlier = length p.mine } in
    let fs = fates (all_of k.phases ++ k.closed) ++ fates_open k.slots in
    let refused = subst (λ m. AreRefused (limit ≤ length q.sent) (fs ++ m)) (sym fateless) (refused_same limit p q fs g k.refused) in
    let given = wider q i (len q.journal) (length p.journal.rounds) (k.given ++ x ∷ []) (omega arith) (prefix_length p.journal.rounds q.journal.rounds g.journal.1)
    (given_look q.journal q.rounds i (len p.journal) (length p.journal.rounds) (len q.journal) (words (fold q.journal) (version_of q.journal) (len q.journal)) k.given x refl (len_grows p.journal q.journal g.journal) (grown limit i p q ws ts done now k g)) in
    let kept = keeps_passes limit i p q ws ts done now l r k g a.mine nothing passing so refused given in
    subst (λ (v : List Ticket). Keeps limit i q v us done (now ++ l ∷ [])) (sym a.left_is) (subst (λ (u : List (ℕ × Reply)). Keeps limit i q ws u done (now ++ l ∷ [])) (sym a.last) kept)

-- up to its end a journal gives what it gives
whole_fold : (j : Journal) → fold (upto j (len j)) ≡ fold j
whole_fold j = ap (after_entries j.opening.state) (entries_upto j (len j) (end_last j) ∙ take_whole (entries j) (len j) refl)

whole_version : (j : Journal) → version_of (upto j (len j)) ≡ version_of j
whole_version j = ap (version_after j.opening.version) (entries_upto j (len j) (end_last j) ∙ take_whole (entries j) (len j) refl)

pub look_now : (j : Journal) (words : PlainState → ℕ → ℕ → List ℕ) → IsLook j words (len j) (words (fold j) (version_of j) (len j))
look_now j words = record {
  end = end_last j;
  text_is = sym (ap (λ (m : PlainState). words m (version_of (upto j (len j))) (len j)) (whole_fold j) ∙ ap (λ (v : ℕ). words (fold j) v (len j)) (whole_version j));
}

-- a pump
pumps : (limit i : ℕ) (p q : Sight) (ws : List Ticket) (ts : List (ℕ × Reply)) (done : List (List Line)) (now : List Line) (line caller count : ℕ) → (k : Keeps limit i p ws ts done now) → Grew p q → q.mine ≡ p.mine → q.mine ≡ own q.number q.sent → Pumped p q count
    → Keeps limit i q ws (ts ++ (line, Pump count) ∷ []) done (now ++ record { line = line; caller = caller; job = job.Pump } ∷ [])
pumps limit i p q ws ts done now line caller zero k g mine own_is h =
    let l : Line = record { line = line; caller = caller; job = job.Pump } in
    let x : ToldLine = record { line = l; reply = Pump 0; earlier = length p.mine } in
    let fs = fates (all_of k.phases ++ k.closed) ++ fates_open k.slots in
    let whole : take (len q.journal) (strip q.journal) ≡ q.sent = take_whole (strip q.journal) (len q.journal) (length-strip q.journal) ∙ sym h.none in
    let all : own i (take (len q.journal) (strip q.journal)) ≡ p.mine =
    ap (own i) whole ∙ (ap (λ (n : ℕ). own n q.sent) (sym (g.number ∙ k.number_is)) ∙ (sym own_is ∙ mine)) in
    let few : length p.mine ≤ length (own i (take (len q.journal) (strip q.journal))) = (let e = ap length all in omega arith) in
    let given = given_none q.journal q.rounds i (len q.journal) (length q.journal.rounds) k.given x refl few (wider q i (len p.journal) (length p.journal.rounds) k.given (len_grows p.journal q.journal g.journal) (prefix_length p.journal.rounds q.journal.rounds g.journal.1) (grown limit i p q ws ts done now k g)) in
    keeps_passes limit i p q ws ts done now l (Pump 0) k g mine refl refl tt (refused_same limit p q fs g k.refused) given
pumps limit i p q ws ts done now line caller (suc n) k g mine own_is h =
    let l : Line = record { line = line; caller = caller; job = job.Pump } in
    let x : ToldLine = record { line = l; reply = Pump (suc n); earlier = length p.mine } in
    let fs = fates (all_of k.phases ++ k.closed) ++ fates_open k.slots in
    let rounds_are : q.journal.rounds ≡ h.before.rounds ++ h.round ∷ [] = ap (λ (j : Journal). j.rounds) h.journal in
    let long : length q.journal.rounds ≡ length h.before.rounds + 1 = ap length rounds_are ∙ length-append h.before.rounds (h.round ∷ []) in
    let ends : len q.journal ≡ len h.before + length h.round.entries = ap len h.journal ∙ len_push h.before h.round in
    let before = len_grows p.journal h.before h.seen_before in
    let past = prefix_length p.journal.rounds h.before.rounds h.seen_before.1 in
    let size = h.size in
    let round : IsRoundOf q.journal q.rounds (length h.before.rounds) (suc n) (len q.journal) = record {
      before = h.before.rounds;
      round = h.round;
      begins = subst (IsPrefix (h.before.rounds ++ h.round ∷ [])) (sym rounds_are) (prefix_self (h.before.rounds ++ h.round ∷ []));
      number_is = refl;
      counted = size;
      ends = ap (λ (rs : List Round). length (entries_of rs)) rounds_are;
      ran = subst (λ (w : List ℕ). Contains w (length h.before.rounds)) (sym h.rounds) (last_contained p.rounds (length h.before.rounds));
    } in
    let given = given_round q.journal q.rounds i (len p.journal) (len q.journal) (length p.journal.rounds) (length q.journal.rounds) (length h.before.rounds) n k.given x refl round (omega arith) past (omega arith) (grown limit i p q ws ts done now k g) in
    keeps_passes limit i p q ws ts done now l (Pump (suc n)) k g mine refl refl tt (refused_same limit p q fs g k.refused) given

-- an update's line
submits : (limit i : ℕ) (p q : Sight) (ws vs : List Ticket) (ts us : List (ℕ × Reply)) (done : List (List Line)) (now : List Line) (line caller : ℕ) (queue : Bool) (update : Update) → (k : Keeps limit i p ws ts done now) → Grew p q → Submits limit p q ws vs line queue update ts us
    → Keeps limit i q vs us done (now ++ record { line = line; caller = caller; job = job.Submit queue update } ∷ [])
submits limit i p q ws vs ts us done now line caller true update k g s =
    let kept = keeps_holds limit i p q ws ts done now line caller update s.ticket k g s.takes s.below in
    subst (λ (v : List Ticket). Keeps limit i q v us done (now ++ record { line = line; caller = caller; job = job.Submit true update } ∷ [])) (sym s.rest.0)
    (subst (λ (u : List (ℕ × Reply)). Keeps limit i q (ws ++ s.ticket ∷ []) u done (now ++ record { line = line; caller = caller; job = job.Submit true update } ∷ [])) (sym s.rest.1) kept)
submits limit i p q ws vs ts us done now line caller false update k g s =
    let a = last_answer q.sent q.journal (len p.journal) ws s.ticket s.rest.added s.rest.answers in
    let l : Line = record { line = line; caller = caller; job = job.Submit false update } in
    let x : ToldLine = record { line = l; reply = a.last.1; earlier = length p.mine } in
    let t = s.takes in
    let there : slice_get q.sent s.ticket.position ≡ Some (record { caller = i; seq = length p.mine; update = update }) = t.there ∙ (λ z. Some (record { caller = k.number_is z; seq = length p.mine; update = update })) in
    let r = reply_is q.sent q.journal (last_told (len p.journal) a.firsts) s.ticket a.last a.front a.this in
    let settling : role (job.Submit false update) a.last.1 ≡ settles = ap (role (job.Submit false update)) r in
    let so = true_of q.sent q.journal i (length p.mine) (last_told (len p.journal) a.firsts) update false s.ticket a.last a.front there a.this in
    let count : IsCount (length ws) a.last.1 = subst (IsCount (length ws)) (sym r) tt in
    let taken : taken_by (job.Submit false update) a.last.1 ≡ update ∷ [] = ap (taken_by (job.Submit false update)) r in
    let next : next_of p update ≡ record { caller = i; seq = length p.mine; update = update } = (λ z. record { caller = k.number_is z; seq = length p.mine; update = update }) in
    let mine : q.mine ≡ p.mine ++ numbered i (length p.mine) (taken_by (job.Submit false update) a.last.1) = t.mine ∙ ((λ z. p.mine ++ next z ∷ []) ∙ ap (λ m. p.mine ++ numbered i (length p.mine) m) (sym taken)) in
    let fs = fates (all_of k.phases ++ k.closed) ++ fates_open k.slots in
    let fate : fate_of (job.Submit false update) a.last.1 ≡ false ∷ [] = ap (fate_of (job.Submit false update)) r in
    let refused = subst (λ m. AreRefused (limit ≤ length q.sent) (fs ++ m)) (sym fate) (refused_room limit s.ticket.position p q fs g t.past s.below k.refused) in
    let given : (xs : List ToldLine) → AreGiven q.journal q.rounds i (last_told (len p.journal) a.firsts) (length q.journal.rounds) xs → AreGiven q.journal q.rounds i (len q.journal) (length q.journal.rounds) (xs ++ x ∷ []) = (λ xs h. wider q i a.front (length q.journal.rounds) (xs ++ x ∷ []) (end_within q.journal a.front a.this.end) (omega arith)
    (given_settled q.journal q.rounds i (last_told (len p.journal) a.firsts) (length q.journal.rounds) a.front xs x s.ticket.position a.this.entry.verdict a.this.entry.version r a.this.rises h)) in
    let kept = keeps_closes limit i p q ws ts done now x a.firsts k g a.before refl settling so count mine refused given in
    let told : tell x ≡ a.last = pair_is a.last line (ap (λ (y : ℕ × Reply). y.0) a.this.told_is ∙ t.line_is) in
    let replies : ts ++ (a.firsts ++ tell x ∷ []) ≡ us = (λ z. ts ++ (a.firsts ++ told z ∷ [])) ∙ (ap (λ m. ts ++ m) (sym a.parts) ∙ sym s.rest.replies) in
    subst (λ (v : List Ticket). Keeps limit i q v us done (now ++ l ∷ [])) (sym s.rest.none) (subst (λ (u : List (ℕ × Reply)). Keeps limit i q [] u done (now ++ l ∷ [])) replies kept)

-- an update's line past the limit
is_full : (limit i : ℕ) (p q : Sight) (ws vs : List Ticket) (ts us : List (ℕ × Reply)) (done : List (List Line)) (now : List Line) (line caller : ℕ) (queue : Bool) (update : Update) → (k : Keeps limit i p ws ts done now) → Grew p q → IsFull limit p q ws vs line queue ts us
    → Keeps limit i q vs us done (now ++ record { line = line; caller = caller; job = job.Submit queue update } ∷ [])
is_full limit i p q ws vs ts us done now line caller true update k g s =
    let l : Line = record { line = line; caller = caller; job = job.Submit true update } in
    let x : ToldLine = record { line = l; reply = HistoryFull; earlier = length p.mine } in
    let fs = fates (all_of k.phases ++ k.closed) ++ fates_open k.slots in
    let given = given_full q.journal q.rounds i (len q.journal) (length q.journal.rounds) k.given x refl (wider q i (len p.journal) (length p.journal.rounds) k.given (len_grows p.journal q.journal g.journal) (prefix_length p.journal.rounds q.journal.rounds g.journal.1) (grown limit i p q ws ts done now k g)) in
    let kept = keeps_passes limit i p q ws ts done now l HistoryFull k g s.mine refl refl tt (refused_full limit p q fs g s.full k.refused) given in
    let replies : ts ++ (line, HistoryFull) ∷ [] ≡ us = ap (λ (m : List (ℕ × Reply)). m ++ (line, HistoryFull) ∷ []) (sym s.rest.1) ∙ sym s.last in
    subst (λ (v : List Ticket). Keeps limit i q v us done (now ++ l ∷ [])) (sym s.rest.0) (subst (λ (u : List (ℕ × Reply)). Keeps limit i q ws u done (now ++ l ∷ [])) replies kept)
is_full limit i p q ws vs ts us done now line caller false update k g s =
    let l : Line = record { line = line; caller = caller; job = job.Submit false update } in
    let x : ToldLine = record { line = l; reply = HistoryFull; earlier = length p.mine } in
    let fs = fates (all_of k.phases ++ k.closed) ++ fates_open k.slots in
    let within = last_told_within q.sent q.journal (len p.journal) ws s.rest.added (len_grows p.journal q.journal g.journal) s.rest.answers in
    let given : (xs : List ToldLine) → AreGiven q.journal q.rounds i (last_told (len p.journal) s.rest.added) (length q.journal.rounds) xs → AreGiven q.journal q.rounds i (len q.journal) (length q.journal.rounds) (xs ++ x ∷ []) = (λ xs h. wider q i (last_told (len p.journal) s.rest.added) (length q.journal.rounds) (xs ++ x ∷ []) within (omega arith)
    (given_full q.journal q.rounds i (last_told (len p.journal) s.rest.added) (length q.journal.rounds) xs x refl h)) in
    let kept = keeps_closes limit i p q ws ts done now x s.rest.added k g s.rest.answers refl refl tt tt (s.mine ∙ sym (append-nil p.mine)) (refused_full limit p q fs g s.full k.refused) given in
    let replies : ts ++ (s.rest.added ++ tell x ∷ []) ≡ us = sym (append_assoc ts s.rest.added (tell x ∷ [])) ∙ (ap (λ (m : List (ℕ × Reply)). m ++ tell x ∷ []) (sym s.rest.replies) ∙ sym s.last) in
    subst (λ (v : List Ticket). Keeps limit i q v us done (now ++ l ∷ [])) (sym s.rest.none) (subst (λ (u : List (ℕ × Reply)). Keeps limit i q [] u done (now ++ l ∷ [])) replies kept)

-- a line that settles
counts : (limit i : ℕ) (p q : Sight) (ws vs : List Ticket) (ts us : List (ℕ × Reply)) (done : List (List Line)) (now : List Line) (line caller : ℕ) → (k : Keeps limit i p ws ts done now) → Grew p q → Counts p q ws vs line ts us
    → Keeps limit i q vs us done (now ++ record { line = line; caller = caller; job = job.Settle } ∷ [])
counts limit i p q ws vs ts us done now line caller k g s =
    let l : Line = record { line = line; caller = caller; job = job.Settle } in
    let x : ToldLine = record { line = l; reply = Settle (length ws); earlier = length p.mine } in
    let fs = fates (all_of k.phases ++ k.closed) ++ fates_open k.slots in
    let within = last_told_within q.sent q.journal (len p.journal) ws s.rest.added (len_grows p.journal q.journal g.journal) s.rest.answers in
    let given : (xs : List ToldLine) → AreGiven q.journal q.rounds i (last_told (len p.journal) s.rest.added) (length q.journal.rounds) xs → AreGiven q.journal q.rounds i (len q.journal) (length q.journal.rounds) (xs ++ x ∷ []) = (λ xs h. wider q i (last_told (len p.journal) s.rest.added) (length q.journal.rounds) (xs ++ x ∷ []) within (omega arith)
    (given_count q.journal q.rounds i (last_told (len p.journal) s.rest.added) (length q.journal.rounds) (length ws) xs x refl h)) in
    let kept = keeps_closes limit i p q ws ts done now x s.rest.added k g s.rest.answers refl refl tt refl (s.mine ∙ sym (append-nil p.mine)) (refused_same limit p q fs g k.refused) given in
    let replies : ts ++ (s.rest.added ++ tell x ∷ []) ≡ us = sym (append_assoc ts s.rest.added (tell x ∷ [])) ∙ (ap (λ (m : List (ℕ × Reply)). m ++ tell x ∷ []) (sym s.rest.replies) ∙ sym s.last) in
    subst (λ (v : List Ticket). Keeps limit i q v us done (now ++ l ∷ [])) (sym s.rest.none) (subst (λ (u : List (ℕ × Reply)). Keeps limit i q [] u done (now ++ l ∷ [])) replies kept)

does : (limit i : ℕ) (p q : Sight) (ws vs : List Ticket) (ts us : List (ℕ × Reply)) (done : List (List Line)) (now : List Line) (line caller : ℕ) (what : Job) → Keeps limit i p ws ts done now → Grew p q → Does limit p q ws vs line what ts us
    → Keeps limit i q vs us done (now ++ record { line = line; caller = caller; job = what } ∷ [])
does limit i p q ws vs ts us done now line caller (job.Submit queue update) k g (inl s) = submits limit i p q ws vs ts us done now line caller queue update k g s
does limit i p q ws vs ts us done now line caller (job.Submit queue update) k g (inr s) = is_full limit i p q ws vs ts us done now line caller queue update k g s
does limit i p q ws vs ts us done now line caller job.Settle k g s = counts limit i p q ws vs ts us done now line caller k g s
does limit i p q ws vs ts us done now line caller job.Pump k g s =
    let l : Line = record { line = line; caller = caller; job = job.Pump } in
    let kept = pumps limit i p q ws ts done now line caller s.count k g s.mine s.own s.pumped in
    subst (λ (v : List Ticket). Keeps limit i q v us done (now ++ l ∷ [])) (sym s.left_is) (subst (λ (u : List (ℕ × Reply)). Keeps limit i q ws u done (now ++ l ∷ [])) (sym s.last) kept)
does limit i p q ws vs ts us done now line caller job.Peek k g s = asks limit i p q ws vs ts us done now (record { line = line; caller = caller; job = job.Peek }) (answer_text Version) k g refl refl refl (look_now q.journal (answer_text Version)) s
does limit i p q ws vs ts us done now line caller job.Tables k g s = asks limit i p q ws vs ts us done now (record { line = line; caller = caller; job = job.Tables }) tables_text k g refl refl refl (look_now q.journal tables_text) s
does limit i p q ws vs ts us done now line caller (job.Show query) k g s = asks limit i p q ws vs ts us done now (record { line = line; caller = caller; job = job.Show query }) (answer_text query) k g refl refl refl (look_now q.journal (answer_text query)) s

-- a line, or the end of a phase
pub serves_keep : (limit i : ℕ) (p q : Sight) (ws vs : List Ticket) (line : Option Line) (ts us : List (ℕ × Reply)) (done : List (List Line)) (now : List Line) → Grew p q → Serves limit p q ws vs line ts us → Keeps limit i p ws ts done now
    → Keeps limit i q vs us (done_after line done now) (now_after line now)
serves_keep limit i p q ws vs None ts us done now g s k =
    let kept = keeps_ends limit i p q ws ts done now s.1.added k g s.0 s.1.answers in
    subst (λ (v : List Ticket). Keeps limit i q v us (done ++ now ∷ []) []) (sym s.1.none) (subst (λ (u : List (ℕ × Reply)). Keeps limit i q [] u (done ++ now ∷ []) []) (sym s.1.replies) kept)
serves_keep limit i p q ws vs (Some l) ts us done now g s k = does limit i p q ws vs ts us done now l.line l.caller l.job k g s
