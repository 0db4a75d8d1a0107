-- A desk, with what is published and what waits.
use Rattle.std.proofs.Common.{◌≡◌, ◌↔◌, ◌≤◌, ◌<◌, ◌+◌, ◌^◌, ℕ, Bool, true, nat_lt, List, [], ◌∷◌, ◌++◌, length, map, drop, IfOk, OnOk, Ok, Err, OnErr, Some, slice_get, refl, sym, ap, subst, ◌∙◌, append_assoc, length-append, arith}
use Rattle.core_laws.specs.Published.{CoreView, IsCore, IsPublished, PublishedView, journal_of}
use Rattle.std.specs.declared.result.Result.{Result}
use Rattle.journal_laws.proofs.MayComeLaws.{pending_next}
use Rattle.journal_laws.proofs.RoundLaws.{length-strip}
use Rattle.net_types.specs.Capacity.{Fits}
use Rattle.std.proofs.lemmas.Bool.{lt-ltb, ltb-true}
use Rattle.std.proofs.lemmas.List.{length-map}
use Rattle.switch_model.specs.declared.act.Submission.{Submission}
use Rattle.switch_model.specs.declared.journal.Entry.{Entry}
use Rattle.switch_model.specs.declared.journal.Round.{Round}
use Rattle.switch_model.specs.Journal.{Journal, entries, entries_of, len, pending, strip, submission_of, with_round}
use Rattle.switch_model.specs.Round.{run}
use Rattle.switch_model.specs.Rows.{rows}
use Rattle.switch_state.specs.Plain.{plain}
use Rattle.agent_shared.specs.Views.{IsNextPublished, IsReadOf, desk_of, ground_of}
use Rattle.shared_laws.proofs.DeskLaws.{desk_grows, desk_settles, desk_starts, pending_is, round_leaves}
use Rattle.shared_laws.specs.Calls.{IsLoaded}
use Rattle.shared_laws.specs.Ground.{DeskView, GroundView, IsDesk, journal_at, submissions_of, with_sent}

-- a desk is opened with what a core published that has settled nothing
pub desk_opened : (c : CoreView) (p : PublishedView) (waiting : List Submission) (limit : ℕ) (sure : List Bool) → IsCore c → p ≡ c.published → waiting ≡ [] → c.published.rounds ≡ [] → c.published.base.version + limit < 2 ^ 64 → IsDesk (desk_of p waiting limit sure)
desk_opened c p waiting limit sure core same none new room =
    let g : GroundView = ground_of p limit sure in
    let rounds : p.rounds ≡ [] = ap (λ (v : PublishedView). v.rounds) same ∙ new in
    let sent : strip (journal_of p) ++ waiting ≡ [] = ap (λ (l : List Round). map submission_of (entries_of l) ++ waiting) rounds ∙ none in
    let fits : Fits (rows g.opening.state) g.opening.caps = subst (λ (v : PublishedView). Fits (rows (plain v.base)) v.caps) (sym same) core.legal.0 in
    let wide : g.opening.version + limit < 2 ^ 64 = subst (λ (v : PublishedView). v.base.version + limit < 2 ^ 64) (sym same) room in
    subst (λ (l : List Submission). IsDesk (record { basis = g; sent = l; rounds = p.rounds })) (sym sent)
    (subst (λ (l : List Round). IsDesk (record { basis = g; sent = []; rounds = l })) (sym rounds) (desk_starts g fits wide))

-- nothing was sent yet
pub desk_new : (c : CoreView) (p : PublishedView) (waiting : List Submission) → p ≡ c.published → waiting ≡ [] → c.published.rounds ≡ [] → strip (journal_of p) ++ waiting ≡ []
desk_new c p waiting same none new = ap (λ (l : List Round). map submission_of (entries_of l) ++ waiting) (ap (λ (v : PublishedView). v.rounds) same ∙ new) ∙ none

-- how many submissions there are
pub desk_count : (p : PublishedView) (waiting : List Submission) → len (journal_of p) + length waiting ≡ length (strip (journal_of p) ++ waiting)
desk_count p waiting = omega (arith, length-append (strip (journal_of p)) waiting, length-strip (journal_of p))

-- with one submission more
pub desk_sent : (p : PublishedView) (waiting more : List Submission) (limit : ℕ) (sure : List Bool) (d : DeskView) (s : Submission) → desk_of p waiting limit sure ≡ d → more ≡ waiting ++ s ∷ [] → desk_of p more limit sure ≡ with_sent d s
desk_sent p waiting more limit sure d s is e =
    let all : strip (journal_of p) ++ more ≡ (strip (journal_of p) ++ waiting) ++ s ∷ [] = ap (λ (l : List Submission). strip (journal_of p) ++ l) e ∙ sym (append_assoc (strip (journal_of p)) waiting (s ∷ [])) in
    (λ i. record { basis = ground_of p limit sure; sent = all i; rounds = p.rounds }) ∙ ap (λ (x : DeskView). with_sent x s) is

pub desk_pushed : (p : PublishedView) (waiting more : List Submission) (limit : ℕ) (sure : List Bool) (s : Submission) → more ≡ waiting ++ s ∷ [] → length (strip (journal_of p) ++ waiting) < limit → IsDesk (desk_of p waiting limit sure) → IsDesk (desk_of p more limit sure)
desk_pushed p waiting more limit sure s e below d =
    let all : strip (journal_of p) ++ more ≡ (strip (journal_of p) ++ waiting) ++ s ∷ [] = ap (λ (l : List Submission). strip (journal_of p) ++ l) e ∙ sym (append_assoc (strip (journal_of p)) waiting (s ∷ [])) in
    desk_grows (ground_of p limit sure) (strip (journal_of p) ++ waiting) (strip (journal_of p) ++ more) p.rounds s all below d

-- the run of what waits
pub desk_loads : (p : PublishedView) (waiting taken : List Submission) (limit : ℕ) (sure : List Bool) (d : DeskView) → desk_of p waiting limit sure ≡ d → taken ≡ run waiting → IsLoaded d.sent (journal_at d.basis d.rounds) taken
desk_loads p waiting taken limit sure d is e =
    let here : IsLoaded (strip (journal_of p) ++ waiting) (journal_of p) taken = record { pending = waiting; all = refl; run_is = e } in
    subst (λ (x : DeskView). IsLoaded x.sent (journal_at x.basis x.rounds) taken) is here

-- how the parts of a desk change by a round

pub round_short : (p : PublishedView) (waiting : List Submission) (limit : ℕ) (sure : List Bool) (q : PublishedView) (k : ℕ) → IsDesk (desk_of p waiting limit sure) → IsNextPublished (desk_of p waiting limit sure) q k → k ≤ length waiting
round_short p waiting limit sure q k d next =
    let j : Journal = journal_of p in
    let sent : List Submission = strip j ++ waiting in
    let r : Round = next.round in
    let parts : pending sent j ≡ submissions_of r ++ pending sent (with_round j r) = pending_next sent j r d.so_far.may_come next.next in
    let all : waiting ≡ submissions_of r ++ pending sent (with_round j r) = sym (pending_is j waiting sent refl) ∙ parts in
    omega (arith, ap length all, length-append (submissions_of r) (pending sent (with_round j r)), length-map r.entries submission_of, next.size)

pub round_moves : (p : PublishedView) (waiting rest : List Submission) (limit : ℕ) (sure : List Bool) (q : PublishedView) (k : ℕ) → IsDesk (desk_of p waiting limit sure) → IsNextPublished (desk_of p waiting limit sure) q k → rest ≡ drop k waiting
    → desk_of q rest limit sure ≡ record (desk_of p waiting limit sure) { rounds = q.rounds }
round_moves p waiting rest limit sure q k d next e =
    let j : Journal = journal_of p in
    let r : Round = next.round in
    let left : rest ≡ drop (length r.entries) waiting = e ∙ ap (λ (n : ℕ). drop n waiting) (sym next.size) in
    let sent : strip (journal_of q) ++ rest ≡ strip j ++ waiting = ap (λ (x : Journal). strip x ++ rest) next.journal ∙ round_leaves j r waiting rest (strip j ++ waiting) refl d.so_far.may_come next.next left in
    let opening : (journal_of q).opening ≡ (journal_of p).opening = ap (λ (x : Journal). x.opening) next.journal in
    λ i. record { basis = record { opening = opening i; limit = limit; sure = sure }; sent = sent i; rounds = q.rounds }

pub round_settles : (p : PublishedView) (waiting rest : List Submission) (limit : ℕ) (sure : List Bool) (q : PublishedView) (k : ℕ) → IsDesk (desk_of p waiting limit sure) → IsNextPublished (desk_of p waiting limit sure) q k → rest ≡ drop k waiting
    → IsDesk (desk_of q rest limit sure)
round_settles p waiting rest limit sure q k d next e =
    let rounds : q.rounds ≡ p.rounds ++ next.round ∷ [] = ap (λ (x : Journal). x.rounds) next.journal in
    subst IsDesk (sym (round_moves p waiting rest limit sure q k d next e)) (desk_settles (ground_of p limit sure) (strip (journal_of p) ++ waiting) p.rounds q.rounds next.round rounds next.next d)

-- what a reader is given of it
pub desk_read : (p : PublishedView) (waiting : List Submission) (limit : ℕ) (sure : List Bool) (d : DeskView) (s : PublishedView) → desk_of p waiting limit sure ≡ d → IsPublished p → s ≡ p → IsReadOf d.basis d.rounds s
desk_read p waiting limit sure d s is published e =
    let here : IsReadOf (ground_of p limit sure) p.rounds p = record { journal = refl; state = published } in
    subst (λ (x : PublishedView). IsReadOf d.basis d.rounds x) (sym e) (subst (λ (x : DeskView). IsReadOf x.basis x.rounds p) is here)

pub desk_reads : {E : Type 0} (p : PublishedView) (waiting : List Submission) (limit : ℕ) (sure : List Bool) (d : DeskView) (r : Result PublishedView E) → desk_of p waiting limit sure ≡ d → IsPublished p → IfOk r (λ s. s ≡ p) → IfOk r (IsReadOf d.basis d.rounds)
desk_reads p waiting limit sure d (Ok s) is published e = desk_read p waiting limit sure d s is published e
desk_reads p waiting limit sure d (Err x) is published e = tt

-- whether any waits
pub desk_waits : (p : PublishedView) (waiting : List Submission) (d : DeskView) (limit : ℕ) (sure : List Bool) → desk_of p waiting limit sure ≡ d → (0 < length waiting) ↔ (len (journal_at d.basis d.rounds) < length d.sent)
desk_waits p waiting d limit sure is =
    let count = desk_count p waiting in
    let here : (0 < length waiting) ↔ (len (journal_of p) < length (strip (journal_of p) ++ waiting)) = ((λ some. omega (arith, count, some)), (λ more. omega (arith, count, more))) in
    subst (λ (x : DeskView). (0 < length waiting) ↔ (len (journal_at x.basis x.rounds) < length x.sent)) is here

-- the run of what waits, where it was loaded
pub desk_loaded : {T E : Type 0} (p : PublishedView) (waiting taken : List Submission) (limit : ℕ) (sure : List Bool) (d : DeskView) (r : Result T E) → desk_of p waiting limit sure ≡ d → OnOk r (taken ≡ run waiting) → OnOk r (IsLoaded d.sent (journal_at d.basis d.rounds) taken)
desk_loaded p waiting taken limit sure d (Ok x) is e = desk_loads p waiting taken limit sure d is e
desk_loaded p waiting taken limit sure d (Err x) is e = tt

-- the same, in terms of a pass that has seen what the desk stands for
pub read_at : (g : GroundView) (d : DeskView) (jseen : List Round) (s : PublishedView) → d.basis ≡ g → jseen ≡ d.rounds → IsReadOf d.basis d.rounds s → IsReadOf g jseen s
read_at g d jseen s basis rounds is = subst (λ (x : GroundView). IsReadOf x jseen s) basis (subst (λ (l : List Round). IsReadOf d.basis l s) (sym rounds) is)

-- whether any waits, as it is told by the count
pub desk_counts : (p : PublishedView) (waiting : List Submission) (d : DeskView) (limit : ℕ) (sure : List Bool) (n : ℕ) → desk_of p waiting limit sure ≡ d → n ≡ length waiting → (nat_lt 0 n ≡ true) ↔ (len (journal_at d.basis d.rounds) < length d.sent)
desk_counts p waiting d limit sure n is e =
    let h = desk_waits p waiting d limit sure is in ((λ t. h.0 (subst (λ (m : ℕ). 0 < m) e (ltb-true 0 n t))), (λ more. lt-ltb 0 n (subst (λ (m : ℕ). 0 < m) (sym e) (h.1 more))))

-- how an entry was settled
pub desk_entry : (p : PublishedView) (waiting : List Submission) (limit : ℕ) (sure : List Bool) (d : DeskView) (position : ℕ) (e : Entry) → desk_of p waiting limit sure ≡ d → slice_get (entries (journal_of p)) position ≡ Some e
    → (x : Entry) × (slice_get (entries (journal_at d.basis d.rounds)) position ≡ Some x) × (e.verdict ≡ x.verdict) × (e.version ≡ x.version)
desk_entry p waiting limit sure d position e is there =
    let here : slice_get (entries (journal_at d.basis d.rounds)) position ≡ Some e = subst (λ (x : DeskView). slice_get (entries (journal_at x.basis x.rounds)) position ≡ Some e) is there in
    (e, here, refl, refl)

-- a push, whether or not there was memory
pub desk_pushes : {T E : Type 0} (p : PublishedView) (waiting more : List Submission) (limit : ℕ) (sure : List Bool) (s : Submission) (r : Result T E) → length (strip (journal_of p) ++ waiting) < limit → IsDesk (desk_of p waiting limit sure) → OnOk r (more ≡ waiting ++ s ∷ []) → OnErr r (more ≡ waiting) → IsDesk (desk_of p more limit sure)
desk_pushes p waiting more limit sure s (Ok x) below d ok err = desk_pushed p waiting more limit sure s ok below d
desk_pushes p waiting more limit sure s (Err x) below d ok err = subst (λ (l : List Submission). IsDesk (desk_of p l limit sure)) (sym err) d
