-- The entry of a ticket is that of its submission.
use Rattle.std.proofs.Common.{◌≡◌, ◌<◌, ℕ, zero, suc, List, [], ◌∷◌, ◌++◌, length, Some, slice_get, sym, ap, ◌∙◌, arith}
use Rattle.keyed.specs.Prefix.{IsPrefix}
use Rattle.switch_model.specs.declared.act.Submission.{Submission}
use Rattle.switch_model.specs.declared.journal.Entry.{Entry}
use Rattle.switch_model.specs.declared.verdict.Verdict.{Verdict}
use Rattle.switch_model.specs.Journal.{Journal, entries, len, submission_of}
use Rattle.switch_model.specs.MayComeOf.{MayComeOf}
use Rattle.journal_laws.proofs.MayComeLaws.{may_come_entry}
use Rattle.shared_laws.specs.Calls.{IsAnswer}

get_front : {A : Type 0} (xs more : List A) (n : ℕ) (x : A) → n < length xs → slice_get (xs ++ more) n ≡ Some x → slice_get xs n ≡ Some x
get_front [] more n x lt is = absurd (omega (arith, lt))
get_front (y ∷ xs) more zero x lt is = is
get_front (y ∷ xs) more (suc n) x lt is = get_front xs more n x (omega (arith, lt)) is

-- what stands in the whole stands in a beginning that is long enough
pub get_within : {A : Type 0} (xs ys : List A) (n : ℕ) (x : A) → IsPrefix xs ys → n < length xs → slice_get ys n ≡ Some x → slice_get xs n ≡ Some x
get_within {A = A} xs ys n x p lt is = get_front xs p.0 n x lt (ap (λ (l : List A). slice_get l n) (sym p.1) ∙ is)

-- the entry that was found at the position of a ticket
pub answer_found : (old sent : List Submission) (j : Journal) (position : ℕ) (e : Entry) (verdict : Verdict) (version front : ℕ) → IsPrefix old sent → MayComeOf sent j → position < length old → slice_get (entries j) position ≡ Some e → verdict ≡ e.verdict → version ≡ e.version → front ≡ len j
    → IsAnswer old j position verdict version front
answer_found old sent j position e verdict version front p may lt there v w f = record {
  entry = e;
  there = there;
  of_ticket = get_within old sent position (submission_of e) p lt (may_come_entry sent j position e may there);
  verdict_is = v;
  version_is = w;
  front_is = f;
}

-- a ticket of what was seen first
pub answer_from : (old mid : List Submission) (j : Journal) (position : ℕ) (verdict : Verdict) (version front : ℕ) → IsPrefix old mid → position < length old → IsAnswer mid j position verdict version front → IsAnswer old j position verdict version front
answer_from old mid j position verdict version front p lt a = record {
  entry = a.entry;
  there = a.there;
  of_ticket = get_within old mid position (submission_of a.entry) p lt a.of_ticket;
  verdict_is = a.verdict_is;
  version_is = a.version_is;
  front_is = a.front_is;
}
