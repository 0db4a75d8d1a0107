-- Answers that are given, one after another.
use Rattle.std.proofs.Common.{◌≡◌, ℕ, zero, suc, ◌+◌, ◌<◌, ◌≤◌, List, [], ◌∷◌, ◌++◌, length, take, refl, sym, subst, arith}
use Rattle.std.proofs.lemmas.List.{append-nil}
use Rattle.journal_laws.proofs.EndLaws.{journal_prefix_self}
use Rattle.journal_laws.proofs.MayComeLaws.{strip_prefix}
use Rattle.keyed.specs.Prefix.{IsPrefix, prefix_self, prefix_trans}
use Rattle.switch_model.specs.declared.reply.Reply.{Reply}
use Rattle.switch_model.specs.declared.reply.Reply.TheVariants.{Settled, HistoryFull, Settle, Pump, Answer}
use Rattle.switch_model.specs.declared.verdict.Verdict.{Verdict}
use Rattle.switch_model.specs.Journal.{Journal, IsJournalPrefix, own, strip}
use Rattle.told_laws.specs.Keeping.{AreGiven, last_front, last_low}
use Rattle.told_laws.specs.Told.{ArePumped, IsRoundOf, NeverFall, PumpedBy, ToldLine, front_by, front_or, low_after, next_front}
use Rattle.told_laws.proofs.ListLaws.{contains_more, own_longer, take_fewer, take_longer}

-- fronts
never_next : (before : ℕ) (xs : List ToldLine) (a : ToldLine) → NeverFall before xs → last_front before xs ≤ front_or (last_front before xs) a.reply → NeverFall before (xs ++ a ∷ [])
never_next before [] a h le = (le, tt)
never_next before (x ∷ xs) a h le = (h.0, never_next (front_or before x.reply) xs a h.1 le)

last_next : (before : ℕ) (xs : List ToldLine) (a : ToldLine) → last_front before (xs ++ a ∷ []) ≡ front_or (last_front before xs) a.reply
last_next before [] a = refl
last_next before (x ∷ xs) a = last_next (front_or before x.reply) xs a

-- a pump's reply stays true while the journal grows and the next front rises
pumped_more : (j k : Journal) (rs more : List ℕ) (i earlier low before m : ℕ) (r : Reply) (next later : ℕ) → IsJournalPrefix j k → IsPrefix rs more → next ≤ later → PumpedBy j rs i earlier low before m r next → PumpedBy k more i earlier low before m r later
pumped_more j k rs more i earlier low before m (Pump zero) next later p q le h =
    let long = own_longer i (take next (strip j)) (take later (strip k)) (prefix_trans (take next (strip j)) (take later (strip j)) (take later (strip k)) (take_fewer (strip j) next later le) (take_longer (strip j) (strip k) later (strip_prefix j k p))) in
    omega (arith, h, long)
pumped_more j k rs more i earlier low before m (Pump (suc n)) next later p q le h =
    let r = h.1 in
    let upto = h.4 in
    (h.0, record { before = r.before; round = r.round; begins = prefix_trans (r.before ++ r.round ∷ []) j.rounds k.rounds r.begins p.1; number_is = r.number_is; counted = r.counted; ends = r.ends; ran = contains_more rs more m q r.ran }, h.2, h.3, omega arith)
pumped_more j k rs more i earlier low before m (Settled position verdict version front) next later p q le h = tt
pumped_more j k rs more i earlier low before m HistoryFull next later p q le h = tt
pumped_more j k rs more i earlier low before m (Settle n) next later p q le h = tt
pumped_more j k rs more i earlier low before m (Answer front text) next later p q le h = tt

front_by_more : (r : Reply) (n m : ℕ) → n ≤ m → front_by r n ≤ front_by r m
front_by_more (Settled position verdict version front) n m le = omega arith
front_by_more (Answer front text) n m le = omega arith
front_by_more HistoryFull n m le = le
front_by_more (Settle k) n m le = le
front_by_more (Pump k) n m le = le

-- the next front is no lower where the list has more behind it
next_more : (xs bs : List ToldLine) (end later : ℕ) → end ≤ next_front later bs → next_front end xs ≤ next_front later (xs ++ bs)
next_more [] bs end later le = le
next_more (a ∷ xs) bs end later le = front_by_more a.reply (next_front end xs) (next_front later (xs ++ bs)) (next_more xs bs end later le)

pub pumps_more : (j k : Journal) (rs more : List ℕ) (i end later low before : ℕ) (ms : List ℕ) (xs bs : List ToldLine) (ns : List ℕ) → IsJournalPrefix j k → IsPrefix rs more → end ≤ next_front later bs → ArePumped j rs i end low before ms xs → ArePumped k more i later (last_low low ms xs) (last_front before xs) ns bs
    → ArePumped k more i later low before (ms ++ ns) (xs ++ bs)
pumps_more j k rs more i end later low before [] [] bs ns p q le h t = t
pumps_more j k rs more i end later low before [] (a ∷ xs) bs ns p q le h t = absurd h
pumps_more j k rs more i end later low before (m ∷ ms) [] bs ns p q le h t = absurd h
pumps_more j k rs more i end later low before (m ∷ ms) (a ∷ xs) bs ns p q le h t = (
  pumped_more j k rs more i a.earlier low before m a.reply (next_front end xs) (next_front later (xs ++ bs)) p q (next_more xs bs end later le) h.0,
  pumps_more j k rs more i end later (low_after low m a.reply) (front_or before a.reply) ms xs bs ns p q le h.1 t,
)

pub pumps_grow : (j k : Journal) (rs more : List ℕ) (i end later : ℕ) (ms : List ℕ) (xs : List ToldLine) → IsJournalPrefix j k → IsPrefix rs more → end ≤ later → ArePumped j rs i end 0 0 ms xs → ArePumped k more i later 0 0 ms xs
pumps_grow j k rs more i end later ms xs p q le h = subst (λ l. ArePumped k more i later 0 0 l xs) (append-nil ms) (subst (λ l. ArePumped k more i later 0 0 (ms ++ []) l) (append-nil xs) (pumps_more j k rs more i end later 0 0 ms xs [] [] p q le h tt))

low_next : (j : Journal) (rs : List ℕ) (i end low before : ℕ) (ms : List ℕ) (xs : List ToldLine) (m : ℕ) (a : ToldLine) → ArePumped j rs i end low before ms xs → last_low low (ms ++ m ∷ []) (xs ++ a ∷ []) ≡ low_after (last_low low ms xs) m a.reply
low_next j rs i end low before [] [] m a h = refl
low_next j rs i end low before [] (x ∷ xs) m a h = absurd h
low_next j rs i end low before (n ∷ ms) [] m a h = absurd h
low_next j rs i end low before (n ∷ ms) (x ∷ xs) m a h = low_next j rs i end (low_after low n x.reply) (front_or before x.reply) ms xs m a h.1

-- more was seen, and nothing told
abbrev pub given_grows : (j k : Journal) (rs more : List ℕ) (i top top' high high' : ℕ) (xs : List ToldLine) → IsJournalPrefix j k → IsPrefix rs more → top ≤ top' → high ≤ high' → AreGiven j rs i top high xs → AreGiven k more i top' high' xs
given_grows j k rs more i top top' high high' xs p q le le' g = record {
  marks = g.marks;
  fronts = g.fronts;
  last = (let l = g.last in omega arith);
  pumps = pumps_grow j k rs more i top top' g.marks xs p q le g.pumps;
  low = (let l = g.low in omega arith);
}

-- one answer more
given_next : (j : Journal) (rs : List ℕ) (i top top' high high' m : ℕ) (xs : List ToldLine) (a : ToldLine) → top ≤ next_front top' (a ∷ []) → ((n : ℕ) → n ≤ top → (n ≤ front_or n a.reply) × (front_or n a.reply ≤ top'))
    → ((low before : ℕ) → low ≤ high → before ≤ top → PumpedBy j rs i a.earlier low before m a.reply top' × (low_after low m a.reply ≤ high')) → AreGiven j rs i top high xs → AreGiven j rs i top' high' (xs ++ a ∷ [])
given_next j rs i top top' high high' m xs a le fronts pump g =
    let rises = fronts (last_front 0 xs) g.last in
    let one = pump (last_low 0 g.marks xs) (last_front 0 xs) g.low g.last in
    let self : IsJournalPrefix j j = journal_prefix_self j in
    let same : IsPrefix rs rs = prefix_self rs in record {
      marks = g.marks ++ m ∷ [];
      fronts = never_next 0 xs a g.fronts rises.0;
      last = (let e = last_next 0 xs a in let r = rises.1 in omega arith);
      pumps = pumps_more j j rs rs i top top' 0 0 g.marks xs (a ∷ []) (m ∷ []) self same le g.pumps (one.0, tt);
      low = (let e = low_next j rs i top 0 0 g.marks xs m a g.pumps in let o = one.1 in omega arith);
    }

pub given_settled : (j : Journal) (rs : List ℕ) (i top high front : ℕ) (xs : List ToldLine) (a : ToldLine) (position : ℕ) (verdict : Verdict) (version : ℕ) → a.reply ≡ Settled position verdict version front → top ≤ front → AreGiven j rs i top high xs → AreGiven j rs i front high (xs ++ a ∷ [])
given_settled j rs i top high front xs a position verdict version e le g =
    let b : ToldLine = record { line = a.line; reply = Settled position verdict version front; earlier = a.earlier } in
    let same : b ≡ a = (λ k. record { line = a.line; reply = sym e k; earlier = a.earlier }) in
    subst (λ (x : ToldLine). AreGiven j rs i front high (xs ++ x ∷ [])) same (given_next j rs i top front high high 0 xs b le (λ n h. (omega arith, omega arith)) (λ low before h k. (tt, h)) g)

pub given_look : (j : Journal) (rs : List ℕ) (i top high front : ℕ) (text : List ℕ) (xs : List ToldLine) (a : ToldLine) → a.reply ≡ Answer front text → top ≤ front → AreGiven j rs i top high xs → AreGiven j rs i front high (xs ++ a ∷ [])
given_look j rs i top high front text xs a e le g =
    let b : ToldLine = record { line = a.line; reply = Answer front text; earlier = a.earlier } in
    let same : b ≡ a = (λ k. record { line = a.line; reply = sym e k; earlier = a.earlier }) in
    subst (λ (x : ToldLine). AreGiven j rs i front high (xs ++ x ∷ [])) same (given_next j rs i top front high high 0 xs b le (λ n h. (omega arith, omega arith)) (λ low before h k. (tt, h)) g)

pub given_full : (j : Journal) (rs : List ℕ) (i top high : ℕ) (xs : List ToldLine) (a : ToldLine) → a.reply ≡ HistoryFull → AreGiven j rs i top high xs → AreGiven j rs i top high (xs ++ a ∷ [])
given_full j rs i top high xs a e g =
    let b : ToldLine = record { line = a.line; reply = HistoryFull; earlier = a.earlier } in
    let same : b ≡ a = (λ k. record { line = a.line; reply = sym e k; earlier = a.earlier }) in
    subst (λ (x : ToldLine). AreGiven j rs i top high (xs ++ x ∷ [])) same (given_next j rs i top top high high 0 xs b (omega arith) (λ n h. (omega arith, h)) (λ low before h k. (tt, h)) g)

pub given_count : (j : Journal) (rs : List ℕ) (i top high count : ℕ) (xs : List ToldLine) (a : ToldLine) → a.reply ≡ Settle count → AreGiven j rs i top high xs → AreGiven j rs i top high (xs ++ a ∷ [])
given_count j rs i top high count xs a e g =
    let b : ToldLine = record { line = a.line; reply = Settle count; earlier = a.earlier } in
    let same : b ≡ a = (λ k. record { line = a.line; reply = sym e k; earlier = a.earlier }) in
    subst (λ (x : ToldLine). AreGiven j rs i top high (xs ++ x ∷ [])) same (given_next j rs i top top high high 0 xs b (omega arith) (λ n h. (omega arith, h)) (λ low before h k. (tt, h)) g)

-- nothing was pending: what the caller had submitted stands below the front
pub given_none : (j : Journal) (rs : List ℕ) (i top high : ℕ) (xs : List ToldLine) (a : ToldLine) → a.reply ≡ Pump 0 → a.earlier ≤ length (own i (take top (strip j))) → AreGiven j rs i top high xs → AreGiven j rs i top high (xs ++ a ∷ [])
given_none j rs i top high xs a e few g =
    let b : ToldLine = record { line = a.line; reply = Pump 0; earlier = a.earlier } in
    let same : b ≡ a = (λ k. record { line = a.line; reply = sym e k; earlier = a.earlier }) in
    subst (λ (x : ToldLine). AreGiven j rs i top high (xs ++ x ∷ [])) same (given_next j rs i top top high high 0 xs b (omega arith) (λ n h. (omega arith, h)) (λ low before h k. (few, h)) g)

-- a round was run past all that was known
pub given_round : (j : Journal) (rs : List ℕ) (i top top' high high' m count : ℕ) (xs : List ToldLine) (a : ToldLine) → a.reply ≡ Pump (suc count) → IsRoundOf j rs m (suc count) top' → top < top' → high ≤ m → m + 1 ≤ high' → AreGiven j rs i top high xs
    → AreGiven j rs i top' high' (xs ++ a ∷ [])
given_round j rs i top top' high high' m count xs a e round lt past upto g =
    let b : ToldLine = record { line = a.line; reply = Pump (suc count); earlier = a.earlier } in
    let same : b ≡ a = (λ k. record { line = a.line; reply = sym e k; earlier = a.earlier }) in
    subst (λ (x : ToldLine). AreGiven j rs i top' high' (xs ++ x ∷ [])) same (given_next j rs i top top' high high' m xs b (omega arith) (λ n h. (omega arith, omega arith)) (λ low before h k. ((top', round, omega arith, omega arith, omega arith), omega arith)) g)
