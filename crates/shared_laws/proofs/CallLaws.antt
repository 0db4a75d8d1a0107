-- What a round did, and the rounds that a call counted.
use Rattle.std.proofs.Common.{◌≡◌, ◌⊎◌, inl, inr, true, false, ℕ, zero, suc, ◌<◌, ◌≤◌, List, [], ◌∷◌, ◌++◌, length, IfOk, Ok, Err, refl, ap, sym, ◌∙◌, subst, arith, append_assoc, append-nil}
use Rattle.std.specs.declared.result.Result.{Result}
use Rattle.std.specs.declared.alloc.AllocError.{AllocError}
use Rattle.std.specs.List.{AllByRecursion}
use Rattle.keyed.specs.Prefix.{IsPrefix, prefix_length, prefix_self, prefix_trans}
use Rattle.switch_model.specs.declared.act.Submission.{Submission}
use Rattle.switch_model.specs.declared.journal.Round.{Round}
use Rattle.switch_model.specs.Journal.{len, strip}
use Rattle.switch_model.specs.Round.{next_round}
use Rattle.turn_book.specs.Passes.{IsSameCaller}
use Rattle.shared_laws.specs.Callers.{Grew, Seen}
use Rattle.shared_laws.specs.Calls.{Counted, IsCounted, IsNext, IsTaken, NonePending, Pumped, RoundsAdded, Tried}
use Rattle.shared_laws.specs.Ground.{GroundView, IsSoFar, journal_at}
use Rattle.shared_laws.proofs.DeskLaws.{settled_within}

-- what was seen grows

pub grew_self : (p : Seen) → Grew p p
grew_self p = record { seen = prefix_self p.seen; jseen = prefix_self p.jseen; rounds = prefix_self p.rounds }

pub grew_trans : (p q r : Seen) → Grew p q → Grew q r → Grew p r
grew_trans p q r g h = record {
  seen = prefix_trans p.seen q.seen r.seen g.seen h.seen;
  jseen = prefix_trans p.jseen q.jseen r.jseen g.jseen h.jseen;
  rounds = prefix_trans p.rounds q.rounds r.rounds g.rounds h.rounds;
}

pub same_trans : (p q r : Seen) → IsSameCaller p q → IsSameCaller q r → IsSameCaller p r
same_trans p q r g h = record { book = g.book ∙ h.book; callers = g.callers ∙ h.callers; opening = g.opening ∙ h.opening; number = g.number ∙ h.number }

-- one round

next_wider : (g : GroundView) (least least' most most' : List Submission) (before : List Round) (round : Round) → IsPrefix least' least → IsPrefix most most' → IsNext g least most before round → IsNext g least' most' before round
next_wider g least least' most most' before round p q n = record {
  pending = n.pending;
  from = prefix_trans least' least (strip (journal_at g before) ++ n.pending) p n.from;
  upto = prefix_trans (strip (journal_at g before) ++ n.pending) most most' n.upto q;
  some = n.some;
  right = n.right;
}

abbrev counted_around : (g : GroundView) (a b c d : Seen) (k : ℕ) → IsPrefix a.seen b.seen → IsPrefix a.jseen b.jseen → b.rounds ≡ a.rounds → d.seen ≡ c.seen → d.jseen ≡ c.jseen → d.rounds ≡ c.rounds → Counted g b c k → Counted g a d k
counted_around g a b c d k v p r s j t h = record {
  before = h.before;
  round = h.round;
  seen_before = prefix_trans a.jseen b.jseen h.before p h.seen_before;
  journal = j ∙ h.journal;
  rounds = t ∙ (h.rounds ∙ ap (λ (w : List ℕ). w ++ length h.before ∷ []) r);
  size = h.size;
  next = subst (λ (w : List Submission). IsNext g a.seen w h.before h.round) (sym s) (next_wider g b.seen a.seen c.seen c.seen h.before h.round v (prefix_self c.seen) h.next);
}

tried_from : (g : GroundView) (a b c d : Seen) (most k : ℕ) → IsPrefix a.seen b.seen → IsPrefix a.jseen b.jseen → b.rounds ≡ a.rounds → d.seen ≡ c.seen → d.jseen ≡ c.jseen → d.rounds ≡ c.rounds → Tried g b c most k → Tried g a d most k
tried_from g a b c d most zero v p r s j t h = (
  t ∙ (h.0 ∙ r),
  subst (λ (w : List Round). (d.seen ≡ strip (journal_at g w)) ⊎ (most < len (journal_at g w))) (sym j)
      (subst (λ (w : List Submission). (w ≡ strip (journal_at g c.jseen)) ⊎ (most < len (journal_at g c.jseen))) (sym s) h.1),
)
tried_from g a b c d most (suc k) v p r s j t h = (counted_around g a b c d (suc k) v p r s j t h.0, h.1)

-- what is done before and after a try doesn't count
pub tried_around : (g : GroundView) (a b c d : Seen) (most : ℕ) (r : Result ℕ AllocError) → IsPrefix a.seen b.seen → IsPrefix a.jseen b.jseen → b.rounds ≡ a.rounds → d.seen ≡ c.seen → d.jseen ≡ c.jseen → d.rounds ≡ c.rounds
    → IfOk r (λ k. Tried g b c most k) → IfOk r (λ k. Tried g a d most k)
tried_around g a b c d most (Ok k) v p q s j t h = tried_from g a b c d most k v p q s j t h
tried_around g a b c d most (Err e) v p q s j t h = h

-- nothing was loaded
pub tried_none : (g : GroundView) (old new : Seen) (taken : List Submission) (most k : ℕ) → k ≡ 0 → IsTaken new.seen (journal_at g new.jseen) most taken false → new.rounds ≡ old.rounds → Tried g old new most k
tried_none g old new taken most k e is r = subst (Tried g old new most) (sym e) (r, is)

tried_next : (g : GroundView) (old mid new : Seen) (taken : List Submission) (most n : ℕ) (r : Round) → IsTaken mid.seen (journal_at g mid.jseen) most taken true → r ≡ next_round (journal_at g mid.jseen) taken → length r.entries ≡ suc n → IsPrefix old.seen mid.seen → mid.jseen ≡ old.jseen → IsPrefix mid.seen new.seen
    → new.jseen ≡ mid.jseen ++ r ∷ [] → new.rounds ≡ old.rounds ++ length mid.jseen ∷ [] → Tried g old new most (suc n)
tried_next g old mid new taken most n r is right size v j w journal rounds =
    let next : IsNext g old.seen new.seen mid.jseen r = record {
      pending = is.0.pending;
      from = subst (IsPrefix old.seen) is.0.all v;
      upto = subst (λ (l : List Submission). IsPrefix l new.seen) is.0.all w;
      some = omega (arith, size);
      right = right ∙ ap (next_round (journal_at g mid.jseen)) is.0.run_is;
    } in
    let counted : Counted g old new (suc n) = record {
      before = mid.jseen;
      round = r;
      seen_before = subst (λ (l : List Round). IsPrefix l mid.jseen) j (prefix_self mid.jseen);
      journal = journal;
      rounds = rounds;
      size = size;
      next = next;
    } in (counted, is.2)

-- what was loaded was settled
pub tried_some : (g : GroundView) (old mid new : Seen) (taken : List Submission) (most k : ℕ) (r : Round) → IsTaken mid.seen (journal_at g mid.jseen) most taken true → 1 ≤ k → r ≡ next_round (journal_at g mid.jseen) taken → length r.entries ≡ k → IsPrefix old.seen mid.seen → mid.jseen ≡ old.jseen → IsPrefix mid.seen new.seen
    → new.jseen ≡ mid.jseen ++ r ∷ [] → new.rounds ≡ old.rounds ++ length mid.jseen ∷ [] → Tried g old new most k
tried_some g old mid new taken most zero r is one right size v j w journal rounds = absurd (omega (arith, one))
tried_some g old mid new taken most (suc n) r is one right size v j w journal rounds = tried_next g old mid new taken most n r is right size v j w journal rounds

-- a try at a round is a pump where no number of entries is too great

none_pending : (g : GroundView) (old new : Seen) (most : ℕ) → len (journal_at g new.jseen) ≤ most → new.rounds ≡ old.rounds → (new.seen ≡ strip (journal_at g new.jseen)) ⊎ (most < len (journal_at g new.jseen)) → NonePending g old new
none_pending g old new most le r (inl e) = record { rounds = r; none = e }
none_pending g old new most le r (inr lt) = absurd (omega (arith, le, lt))

pumped_of : (g : GroundView) (old new : Seen) (most k : ℕ) → len (journal_at g new.jseen) ≤ most → Tried g old new most k → Pumped g old new k
pumped_of g old new most zero le h = none_pending g old new most le h.0 h.1
pumped_of g old new most (suc k) le h = h.0

pub try_pumps : (g : GroundView) (old new : Seen) (most k : ℕ) → IsSoFar g new.seen new.jseen → g.limit ≤ most → Tried g old new most k → Pumped g old new k
try_pumps g old new most k so_far wide h = pumped_of g old new most k (omega (arith, settled_within g new.seen new.jseen so_far, so_far.few, wide)) h

pub pumped_ok : (g : GroundView) (old new : Seen) (most : ℕ) (r : Result ℕ AllocError) → IsSoFar g new.seen new.jseen → g.limit ≤ most → IfOk r (λ k. Tried g old new most k) → IfOk r (λ k. Pumped g old new k)
pumped_ok g old new most (Ok k) so_far wide h = try_pumps g old new most k so_far wide h
pumped_ok g old new most (Err e) so_far wide h = h

-- the rounds that a call counted

pub rounds_same : (g : GroundView) (p q : Seen) (high : ℕ) → q.rounds ≡ p.rounds → RoundsAdded g p q high
rounds_same g p q high e = record { added = []; rounds = e ∙ sym (append-nil p.rounds); each = tt }

counted_wider : (g : GroundView) (least least' most most' : List Submission) (j j' : List Round) (low low' high high' : ℕ) (ns : List ℕ) → IsPrefix least' least → IsPrefix most most' → IsPrefix j j' → low' ≤ low → high ≤ high' → AllByRecursion (IsCounted g least most j low high) ns
    → AllByRecursion (IsCounted g least' most' j' low' high') ns
counted_wider g least least' most most' j j' low low' high high' [] a b c d e h = tt
counted_wider g least least' most most' j j' low low' high high' (n ∷ ns) a b c d e h =
    let k = h.0 in (
      record {
        before = k.before;
        round = k.round;
        begins = prefix_trans (k.before ++ k.round ∷ []) j j' k.begins c;
        number_is = k.number_is;
        past = omega (arith, d, k.past);
        few = omega (arith, e, k.few);
        next = next_wider g least least' most most' k.before k.round a b k.next;
      },
      counted_wider g least least' most most' j j' low low' high high' ns a b c d e h.1,
    )

all_both : {A : Type 0} (P : A → Type 0) (xs ys : List A) → AllByRecursion P xs → AllByRecursion P ys → AllByRecursion P (xs ++ ys)
all_both P [] ys a b = b
all_both P (x ∷ xs) ys a b = (a.0, all_both P xs ys a.1 b)

pub rounds_wider : (g : GroundView) (p q : Seen) (high high' : ℕ) → high ≤ high' → RoundsAdded g p q high → RoundsAdded g p q high'
rounds_wider g p q high high' le a = record {
  added = a.added;
  rounds = a.rounds;
  each = counted_wider g p.seen p.seen q.seen q.seen q.jseen q.jseen (length p.jseen) (length p.jseen) high high' a.added (prefix_self p.seen) (prefix_self q.seen) (prefix_self q.jseen) (omega arith) le a.each;
}

-- the rounds of two calls, one after the other
pub rounds_trans : (g : GroundView) (p q r : Seen) (high : ℕ) → Grew p q → Grew q r → RoundsAdded g p q high → RoundsAdded g q r high → RoundsAdded g p r high
rounds_trans g p q r high s t a b = record {
  added = a.added ++ b.added;
  rounds = b.rounds ∙ (ap (λ (l : List ℕ). l ++ b.added) a.rounds ∙ append_assoc p.rounds a.added b.added);
  each = all_both (IsCounted g p.seen r.seen r.jseen (length p.jseen) high) a.added b.added
      (counted_wider g p.seen p.seen q.seen r.seen q.jseen r.jseen (length p.jseen) (length p.jseen) high high a.added (prefix_self p.seen) t.seen t.jseen (omega arith) (omega arith) a.each)
      (counted_wider g q.seen p.seen r.seen r.seen r.jseen r.jseen (length q.jseen) (length p.jseen) high high b.added s.seen (prefix_self r.seen) (prefix_self r.jseen) (prefix_length p.jseen q.jseen s.jseen) (omega arith) b.each);
}

-- a round is counted as one
pub rounds_one : (g : GroundView) (p q : Seen) (k high : ℕ) (c : Counted g p q k) → len (journal_at g c.before) ≤ high → RoundsAdded g p q high
rounds_one g p q k high c few =
    let one : IsCounted g p.seen q.seen q.jseen (length p.jseen) high (length c.before) = record {
      before = c.before;
      round = c.round;
      begins = subst (IsPrefix (c.before ++ c.round ∷ [])) (sym c.journal) (prefix_self (c.before ++ c.round ∷ []));
      number_is = refl;
      past = prefix_length p.jseen c.before c.seen_before;
      few = few;
      next = c.next;
    } in record { added = length c.before ∷ []; rounds = c.rounds; each = (one, tt) }

pub rounds_tried : (g : GroundView) (p q : Seen) (most k : ℕ) → Tried g p q most k → RoundsAdded g p q most
rounds_tried g p q most zero h = rounds_same g p q most h.0
rounds_tried g p q most (suc k) h = rounds_one g p q (suc k) most h.0 h.1
