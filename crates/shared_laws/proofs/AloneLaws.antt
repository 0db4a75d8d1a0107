-- What the rounds of a caller that is alone are.
use Rattle.std.proofs.Common.{◌≡◌, ℕ, zero, suc, ◌+◌, ◌<◌, ◌≤◌, nat_lt, true, false, Bool, if◌then◌else◌, List, [], ◌∷◌, ◌++◌, length, refl, ap, sym, ◌∙◌, subst, arith, append_assoc, append-nil, length-append}
use Rattle.std.proofs.lemmas.List.{append_cancel_left}
use Rattle.std.proofs.lemmas.List.FromFn.{length-range_with_len}
use Rattle.std.proofs.lemmas.Bool.{lt-ltb}
use Rattle.std.proofs.lemmas.Bool.Decides.{nat_tests}
use Rattle.std.specs.List.{AllByRecursion, range_with_len}
use Rattle.keyed.specs.Prefix.{prefix_length, prefix_whole}
use Rattle.switch_model.specs.declared.act.Submission.{Submission}
use Rattle.switch_model.specs.declared.journal.Round.{Round}
use Rattle.switch_model.specs.Journal.{Journal, len, pending, strip, with_round}
use Rattle.switch_model.specs.Round.{next_round, run}
use Rattle.journal_laws.proofs.RoundLaws.{len_push}
use Rattle.journal_laws.specs.SettledAt.{settled_at, with_next}
use Rattle.shared_laws.specs.Callers.{AtRest, Grew, Seen}
use Rattle.shared_laws.specs.Calls.{Counted, IsCounted, IsNext, RoundsAdded}
use Rattle.shared_laws.specs.Ground.{GroundView, journal_at}
use Rattle.shared_laws.proofs.DeskLaws.{pending_is}

-- the rounds are the next ones, each after at most that many entries
abbrev AreNext : GroundView → List Submission → ℕ → List Round → List Round → Type 0
AreNext g sent high before [] = Unit {0}
AreNext g sent high before (r ∷ rs) = (len (journal_at g before) ≤ high) × (1 ≤ length r.entries) × (r ≡ next_round (journal_at g before) (run (pending sent (journal_at g before)))) × AreNext g sent high (before ++ r ∷ []) rs

-- the round settles what is pending
next_is : (g : GroundView) (sent : List Submission) (before : List Round) (round : Round) → IsNext g sent sent before round → round ≡ next_round (journal_at g before) (run (pending sent (journal_at g before)))
next_is g sent before round n =
    let j : Journal = journal_at g before in
    let all : strip j ++ n.pending ≡ sent = prefix_whole (strip j ++ n.pending) sent n.upto (prefix_length sent (strip j ++ n.pending) n.from) in
    let rest : pending sent j ≡ n.pending = pending_is j n.pending sent (sym all) in
    n.right ∙ ap (λ (p : List Submission). next_round j (run p)) (sym rest)

same_split : {A : Type 0} (xs ys : List A) (x y : A) (ws zs : List A) → length xs ≡ length ys → (xs ++ x ∷ []) ++ ws ≡ ys ++ y ∷ zs → (xs ≡ ys) × (x ≡ y)
same_split [] [] x y ws zs l e = (refl, cc e)
same_split [] (b ∷ ys) x y ws zs l e = absurd (omega (arith, l))
same_split (a ∷ xs) [] x y ws zs l e = absurd (omega (arith, l))
same_split (a ∷ xs) (b ∷ ys) x y ws zs l e =
    let first : a ≡ b = cc e in
    let more : (xs ++ x ∷ []) ++ ws ≡ ys ++ y ∷ zs = cc e in
    let rest = same_split xs ys x y ws zs (omega (arith, l)) more in
    ((λ i. first i ∷ rest.0 i), rest.1)

are_next : (g : GroundView) (sent : List Submission) (j before rs : List Round) (low high : ℕ) → j ≡ before ++ rs → AllByRecursion (IsCounted g sent sent j low high) (range_with_len (length before) (length rs)) → AreNext g sent high before rs
are_next g sent j before [] low high e h = tt
are_next g sent j before (r ∷ rs) low high e h =
    let k = h.0 in
    let long : length k.before ≡ length before = sym k.number_is in
    let both : (k.before ++ k.round ∷ []) ++ k.begins.0 ≡ before ++ r ∷ rs = sym k.begins.1 ∙ e in
    let same = same_split k.before before k.round r k.begins.0 rs long both in
    let next = next_is g sent k.before k.round k.next in
    let size : length k.round.entries ≡ length r.entries = ap (λ (x : Round). length x.entries) same.1 in
    let wide : len (journal_at g k.before) ≡ len (journal_at g before) = ap (λ (l : List Round). len (journal_at g l)) same.0 in
    let more : length before + 1 ≡ length (before ++ r ∷ []) = sym (length-append before (r ∷ [])) in (
      omega (arith, wide, k.few),
      omega (arith, size, k.next.some),
      sym same.1 ∙ (next ∙ ap (λ (b : List Round). next_round (journal_at g b) (run (pending sent (journal_at g b)))) same.0),
      are_next g sent j (before ++ r ∷ []) rs low high (e ∙ sym (append_assoc before (r ∷ []) rs)) (subst (λ (n : ℕ). AllByRecursion (IsCounted g sent sent j low high) (range_with_len n (length rs))) more h.1),
    )

if_true : {A : Type 0} (b : Bool) (x y : A) → b ≡ true → (if b then x else y) ≡ x
if_true {A = A} b x y e = ap (λ (c : Bool). if c then x else y) e

if_false : {A : Type 0} (b : Bool) (x y : A) → b ≡ false → (if b then x else y) ≡ y
if_false {A = A} b x y e = ap (λ (c : Bool). if c then x else y) e

-- rounds that are run until a position is settled, and no longer
settled_by : (n : ℕ) (g : GroundView) (sent : List Submission) (position : ℕ) (before rs : List Round) → AreNext g sent position before rs → position < len (journal_at g (before ++ rs)) → position < n + len (journal_at g before) → journal_at g (before ++ rs) ≡ settled_at n sent position (journal_at g before)
settled_by zero g sent position before [] a lt room = ap (journal_at g) (append-nil before)
settled_by zero g sent position before (r ∷ rs) a lt room = absurd (omega (arith, a.0, room))
settled_by (suc n) g sent position before [] a lt room =
    let j : Journal = journal_at g before in
    let here : position < len j = subst (λ (b : List Round). position < len (journal_at g b)) (append-nil before) lt in
    ap (journal_at g) (append-nil before) ∙ sym (if_true (nat_lt position (len j)) j (settled_at n sent position (with_next sent j)) (lt-ltb position (len j) here))
settled_by (suc n) g sent position before (r ∷ rs) a lt room =
    let j : Journal = journal_at g before in
    let few = a.0 in
    let some = a.1 in
    let out : nat_lt position (len j) ≡ false = grind (arith, nat_tests) in
    let more : len (journal_at g (before ++ r ∷ [])) ≡ len j + length r.entries = len_push j r in
    let next : journal_at g (before ++ r ∷ []) ≡ with_next sent j = ap (with_round j) a.2 in
    let rest = settled_by n g sent position (before ++ r ∷ []) rs a.3 (subst (λ (b : List Round). position < len (journal_at g b)) (sym (append_assoc before (r ∷ []) rs)) lt) (omega (arith, more, some, room)) in
    ap (journal_at g) (sym (append_assoc before (r ∷ []) rs)) ∙ (rest ∙ (ap (settled_at n sent position) next ∙ sym (if_false (nat_lt position (len j)) j (settled_at n sent position (with_next sent j)) out)))

range_split : (a n m : ℕ) → range_with_len a (n + m) ≡ range_with_len a n ++ range_with_len (a + n) m
range_split a zero m = (let e : a ≡ a + 0 = omega arith in let z : 0 + m ≡ m = omega arith in ap (range_with_len a) z ∙ ap (λ (k : ℕ). range_with_len k m) e)
range_split a (suc n) m =
    let e : a + 1 + n ≡ a + suc n = omega arith in
    let z : suc n + m ≡ suc (n + m) = omega arith in
    ap (range_with_len a) z ∙ ap (λ (l : List ℕ). a ∷ l) (range_split (a + 1) n m ∙ ap (λ (k : ℕ). range_with_len (a + 1) n ++ range_with_len k m) e)

-- a caller that is alone submitted all that it has seen
pub alone_seen : (g : GroundView) (p q : Seen) → AtRest g p → AtRest g q → p.callers ≡ 1 → q.callers ≡ 1 → q.mine ≡ p.mine → q.seen ≡ p.seen
alone_seen g p q a b one two mine = (b.lists.alone two).0 ∙ (mine ∙ sym ((a.lists.alone one).0))

-- and ran all rounds that it has seen
alone_next : (g : GroundView) (p q : Seen) (high : ℕ) → AtRest g p → AtRest g q → p.callers ≡ 1 → q.callers ≡ 1 → q.mine ≡ p.mine → (h : Grew p q) → RoundsAdded g p q high → AreNext g p.seen high p.jseen h.jseen.0
alone_next g p q high a b one two mine h r =
    let rs = h.jseen.0 in
    let seen = alone_seen g p q a b one two mine in
    let long : length q.jseen ≡ length p.jseen + length rs = ap length h.jseen.1 ∙ length-append p.jseen rs in
    let rounds : range_with_len 0 (length p.jseen) ++ r.added ≡ range_with_len 0 (length p.jseen) ++ range_with_len (length p.jseen) (length rs) =
    ap (λ (l : List ℕ). l ++ r.added) (sym ((a.lists.alone one).1)) ∙ (sym r.rounds ∙ ((b.lists.alone two).1 ∙ (ap (range_with_len 0) long ∙ (range_split 0 (length p.jseen) (length rs) ∙ (let z : 0 + length p.jseen ≡ length p.jseen = omega arith in ap (λ (n : ℕ). range_with_len 0 (length p.jseen) ++ range_with_len n (length rs)) z))))) in
    let added : r.added ≡ range_with_len (length p.jseen) (length rs) = append_cancel_left (range_with_len 0 (length p.jseen)) r.added (range_with_len (length p.jseen) (length rs)) rounds in
    let each : AllByRecursion (IsCounted g p.seen p.seen q.jseen (length p.jseen) high) r.added = subst (λ (s : List Submission). AllByRecursion (IsCounted g p.seen s q.jseen (length p.jseen) high) r.added) seen r.each in
    are_next g p.seen q.jseen p.jseen rs (length p.jseen) high h.jseen.1 (subst (AllByRecursion (IsCounted g p.seen p.seen q.jseen (length p.jseen) high)) added each)

-- what one caller's settle leads to
pub alone_settled : (g : GroundView) (p q : Seen) (position : ℕ) → AtRest g p → AtRest g q → p.callers ≡ 1 → q.callers ≡ 1 → q.mine ≡ p.mine → Grew p q → RoundsAdded g p q position → position < len (journal_at g q.jseen) → position < length p.seen
    → journal_at g q.jseen ≡ settled_at (length p.seen) p.seen position (journal_at g p.jseen)
alone_settled g p q position a b one two mine h r lt within =
    let next = alone_next g p q position a b one two mine h r in
    ap (journal_at g) h.jseen.1 ∙ settled_by (length p.seen) g p.seen position p.jseen h.jseen.0 next (subst (λ (j : List Round). position < len (journal_at g j)) h.jseen.1 lt) (omega (arith, within))

-- what a look leaves
pub alone_same : (g : GroundView) (p q : Seen) → AtRest g p → AtRest g q → p.callers ≡ 1 → q.callers ≡ 1 → Grew p q → q.rounds ≡ p.rounds → q.jseen ≡ p.jseen
alone_same g p q a b one two h r =
    let s : range_with_len 0 (length q.jseen) ≡ range_with_len 0 (length p.jseen) = sym ((b.lists.alone two).1) ∙ (r ∙ (a.lists.alone one).1) in
    let long : length q.jseen ≡ length p.jseen = sym (length-range_with_len 0 (length q.jseen)) ∙ (ap length s ∙ length-range_with_len 0 (length p.jseen)) in
    sym (prefix_whole p.jseen q.jseen h.jseen (omega (arith, long)))

-- what one caller's round is
pub alone_pumped : (g : GroundView) (p q : Seen) (k : ℕ) → AtRest g p → AtRest g q → p.callers ≡ 1 → q.callers ≡ 1 → q.mine ≡ p.mine → Counted g p q k
    → (journal_at g q.jseen ≡ with_next p.seen (journal_at g p.jseen)) × (k ≡ length (next_round (journal_at g p.jseen) (run (pending p.seen (journal_at g p.jseen)))).entries)
alone_pumped g p q k a b one two mine c =
    let seen = alone_seen g p q a b one two mine in
    let both : range_with_len 0 (length q.jseen) ≡ range_with_len 0 (length p.jseen) ++ length c.before ∷ [] = sym ((b.lists.alone two).1) ∙ (c.rounds ∙ ap (λ (l : List ℕ). l ++ length c.before ∷ []) ((a.lists.alone one).1)) in
    let one_more : length q.jseen ≡ length p.jseen + 1 = sym (length-range_with_len 0 (length q.jseen)) ∙ (ap length both ∙ (length-append (range_with_len 0 (length p.jseen)) (length c.before ∷ []) ∙ ap (λ (n : ℕ). n + 1) (length-range_with_len 0 (length p.jseen)))) in
    let long : length q.jseen ≡ length c.before + 1 = ap length c.journal ∙ length-append c.before (c.round ∷ []) in
    let same : p.jseen ≡ c.before = prefix_whole p.jseen c.before c.seen_before (omega (arith, one_more, long)) in
    let next = next_is g p.seen c.before c.round (subst (λ (s : List Submission). IsNext g p.seen s c.before c.round) seen c.next) in
    let round : c.round ≡ next_round (journal_at g p.jseen) (run (pending p.seen (journal_at g p.jseen))) = next ∙ ap (λ (w : List Round). next_round (journal_at g w) (run (pending p.seen (journal_at g w)))) (sym same) in
    (ap (journal_at g) (c.journal ∙ (λ i. sym same i ++ round i ∷ [])), sym c.size ∙ ap (λ (r : Round). length r.entries) round)

-- nothing was pending
pub alone_none : (g : GroundView) (p q : Seen) → q.seen ≡ p.seen → q.jseen ≡ p.jseen → q.seen ≡ strip (journal_at g q.jseen) → pending p.seen (journal_at g p.jseen) ≡ []
alone_none g p q s j e =
    let all : p.seen ≡ strip (journal_at g p.jseen) ++ [] = sym s ∙ (e ∙ (ap (λ (w : List Round). strip (journal_at g w)) j ∙ sym (append-nil (strip (journal_at g p.jseen))))) in
    pending_is (journal_at g p.jseen) [] p.seen all
