-- The ends of a journal's rounds.
use Rattle.std.proofs.Common.{◌≡◌, ◌≤◌, ◌+◌, ◌-◌, ◌⊎◌, ◌↔◌, ℕ, Bool, true, false, cond, nat_le, List, [], ◌∷◌, ◌++◌, length, take, inl, inr, refl, sym, ap, subst, ◌∙◌, arith}
use Rattle.std.proofs.lemmas.Bool.{cases_Bool, cond-true, cond-false, leb-true, leb-false, le-leb, lt-leb}
use Rattle.std.proofs.lemmas.List.{length-append}
use Rattle.std.specs.List.{AllByRecursion}
use Rattle.switch_model.specs.declared.journal.Round.{Round}
use Rattle.keyed.specs.Prefix.{IsPrefix, prefix_self, prefix_none, prefix_append, prefix_trans, prefix_take, prefix_length, prefix_whole, prefix_within, prefix_between}
use Rattle.switch_model.specs.Journal.{Opening, Journal, IsJournalPrefix, IsRoundEnd, after_entries, entries, entries_of, fold, len, rounds_upto, upto, version_after, version_of, with_round}
use Rattle.switch_model.specs.Legal.{IsLegal}
use Rattle.journal_laws.specs.Beginnings.{HasBeginning}
use Rattle.journal_laws.proofs.LegalLaws.{legal_some}
use Rattle.journal_laws.proofs.RoundLaws.{entries_of-append}

pub prefix_entries : (xs ys : List Round) → IsPrefix xs ys → IsPrefix (entries_of xs) (entries_of ys)
prefix_entries xs ys f = (entries_of f.0, ap entries_of f.1 ∙ entries_of-append xs f.0)

-- the rounds up to n begin the rounds, and have at most n entries

upto_by : (b : Bool) (r : Round) (xs rs : List Round) → IsPrefix xs rs → IsPrefix (cond b (r ∷ xs) []) (r ∷ rs)
upto_by true r xs rs f = (f.0, ap (λ (l : List Round). r ∷ l) f.1)
upto_by false r xs rs f = prefix_none (r ∷ rs)

pub upto_prefix : (n : ℕ) (rs : List Round) → IsPrefix (rounds_upto n rs) rs
upto_prefix n [] = prefix_none []
upto_prefix n (r ∷ rs) = upto_by (nat_le (length r.entries) n) r (rounds_upto (n - length r.entries) rs) rs (upto_prefix (n - length r.entries) rs)

within_by : (b : Bool) (n : ℕ) (r : Round) (xs : List Round) → (b ≡ true → length r.entries ≤ n) → length (entries_of xs) ≤ n - length r.entries → length (entries_of (cond b (r ∷ xs) [])) ≤ n
within_by true n r xs fit most = let here : length r.entries ≤ n = fit refl in omega (arith, here, most, length-append r.entries (entries_of xs))
within_by false n r xs fit most = omega arith

pub upto_within : (n : ℕ) (rs : List Round) → length (entries_of (rounds_upto n rs)) ≤ n
upto_within n [] = omega arith
upto_within n (r ∷ rs) = within_by (nat_le (length r.entries) n) n r (rounds_upto (n - length r.entries) rs) (leb-true (length r.entries) n) (upto_within (n - length r.entries) rs)

-- up to the end of first rounds they have as many entries as those
pub upto_prefix_length : (xs rest : List Round) → length (entries_of (rounds_upto (length (entries_of xs)) (xs ++ rest))) ≡ length (entries_of xs)
upto_prefix_length [] rest = let most = upto_within 0 rest in omega (arith, most)
upto_prefix_length (x ∷ xs) rest =
    let n = length (x.entries ++ entries_of xs) in
    let sum : n ≡ length x.entries + length (entries_of xs) = length-append x.entries (entries_of xs) in
    let left : n - length x.entries ≡ length (entries_of xs) = omega (arith, sum) in
    let test : nat_le (length x.entries) n ≡ true = le-leb (length x.entries) n (omega (arith, sum)) in
    let more : List Round = rounds_upto (n - length x.entries) (xs ++ rest) in
    let rest_is : length (entries_of more) ≡ length (entries_of xs) = ap (λ (k : ℕ). length (entries_of (rounds_upto k (xs ++ rest)))) left ∙ upto_prefix_length xs rest in
    ap (λ (l : List Round). length (entries_of l)) (cond-true (nat_le (length x.entries) n) (x ∷ more) [] test)
    ∙ length-append x.entries (entries_of more)
    ∙ ap (λ (k : ℕ). length x.entries + k) rest_is
    ∙ sym sum

-- they are those first rounds where no round is empty
pub upto_prefix_same : (xs rest : List Round) → AllByRecursion (λ (r : Round). 1 ≤ length r.entries) rest → rounds_upto (length (entries_of xs)) (xs ++ rest) ≡ xs
upto_prefix_same [] [] some = refl
upto_prefix_same [] (r ∷ rest) some = cond-false (nat_le (length r.entries) 0) (r ∷ rounds_upto (0 - length r.entries) rest) [] (lt-leb (length r.entries) 0 (omega (arith, some.0)))
upto_prefix_same (x ∷ xs) rest some =
    let n = length (x.entries ++ entries_of xs) in
    let sum : n ≡ length x.entries + length (entries_of xs) = length-append x.entries (entries_of xs) in
    let left : n - length x.entries ≡ length (entries_of xs) = omega (arith, sum) in
    let test : nat_le (length x.entries) n ≡ true = le-leb (length x.entries) n (omega (arith, sum)) in
    let more : List Round = rounds_upto (n - length x.entries) (xs ++ rest) in
    cond-true (nat_le (length x.entries) n) (x ∷ more) [] test
    ∙ ap (λ (l : List Round). x ∷ l) (ap (λ (k : ℕ). rounds_upto k (xs ++ rest)) left ∙ upto_prefix_same xs rest some)

-- the end of a round, said in three ways

end_to_upto : (j : Journal) (n : ℕ) → IsRoundEnd j n → len (upto j n) ≡ n
end_to_upto j n end =
    ap (λ (k : ℕ). length (entries_of (rounds_upto k j.rounds))) end.2
    ∙ ap (λ (l : List Round). length (entries_of (rounds_upto (length (entries_of end.0)) l))) end.1.1
    ∙ upto_prefix_length end.0 end.1.0
    ∙ sym end.2

pub end_upto : (j : Journal) (n : ℕ) → IsRoundEnd j n ↔ (len (upto j n) ≡ n)
end_upto j n = (end_to_upto j n, (λ e. (rounds_upto n j.rounds, upto_prefix n j.rounds, sym e)))

pub end_beginning : (j : Journal) (n : ℕ) → IsRoundEnd j n ↔ HasBeginning j n
end_beginning j n = (
  (λ end. (record { opening = j.opening; rounds = end.0 }, (refl, end.1), sym end.2)),
  (λ has. (has.0.rounds, has.1.1, sym has.2)),
)

pub journal_prefix_self : (j : Journal) → IsJournalPrefix j j
journal_prefix_self j = (refl, prefix_self j.rounds)

pub journal_prefix_trans : (i j k : Journal) → IsJournalPrefix i j → IsJournalPrefix j k → IsJournalPrefix i k
journal_prefix_trans i j k f g = (f.0 ∙ g.0, prefix_trans i.rounds j.rounds k.rounds f.1 g.1)

pub journal_prefix_push : (j : Journal) (r : Round) → IsJournalPrefix j (with_round j r)
journal_prefix_push j r = (refl, prefix_append j.rounds (r ∷ []))

pub upto_journal_prefix : (j : Journal) (n : ℕ) → IsJournalPrefix (upto j n) j
upto_journal_prefix j n = (refl, upto_prefix n j.rounds)

-- ends stay ends
pub end_grows : (j k : Journal) (n : ℕ) → IsJournalPrefix j k → IsRoundEnd j n → IsRoundEnd k n
end_grows j k n f end = (end.0, prefix_trans end.0 j.rounds k.rounds end.1 f.1, end.2)

pub end_start : (j : Journal) → IsRoundEnd j 0
end_start j = ([], prefix_none j.rounds, refl)

pub end_last : (j : Journal) → IsRoundEnd j (len j)
end_last j = (j.rounds, prefix_self j.rounds, refl)

pub end_within : (j : Journal) (n : ℕ) → IsRoundEnd j n → n ≤ len j
end_within j n end = let within = prefix_length (entries_of end.0) (entries_of j.rounds) (prefix_entries end.0 j.rounds end.1) in omega (arith, within, end.2)

-- the entries up to an end are the first of them
pub entries_upto : (j : Journal) (n : ℕ) → IsRoundEnd j n → entries (upto j n) ≡ take n (entries j)
entries_upto j n end =
    prefix_take (entries (upto j n)) (entries j) (prefix_entries (rounds_upto n j.rounds) j.rounds (upto_prefix n j.rounds))
    ∙ ap (λ (k : ℕ). take k (entries j)) (end_to_upto j n end)

-- so what stood at an end stays there as the journal grows
pub entries_upto_grown : (j k : Journal) (n : ℕ) → IsJournalPrefix j k → IsRoundEnd j n → entries (upto k n) ≡ entries (upto j n)
entries_upto_grown j k n f end =
    entries_upto k n (end_grows j k n f end)
    ∙ prefix_within n (entries j) (entries k) (prefix_entries j.rounds k.rounds f.1) (end_within j n end)
    ∙ sym (entries_upto j n end)

pub fold_upto_grown : (j k : Journal) (n : ℕ) → IsJournalPrefix j k → IsRoundEnd j n → fold (upto k n) ≡ fold (upto j n)
fold_upto_grown j k n f end =
    ap (λ (o : Opening). after_entries o.state (entries (upto k n))) (sym f.0)
    ∙ ap (after_entries j.opening.state) (entries_upto_grown j k n f end)

pub version_upto_grown : (j k : Journal) (n : ℕ) → IsJournalPrefix j k → IsRoundEnd j n → version_of (upto k n) ≡ version_of (upto j n)
version_upto_grown j k n f end =
    ap (λ (o : Opening). version_after o.version (entries (upto k n))) (sym f.0)
    ∙ ap (version_after j.opening.version) (entries_upto_grown j k n f end)

-- a beginning of a legal journal is the journal up to its own length
pub upto_beginning : (j k : Journal) → IsLegal k → IsJournalPrefix j k → upto k (len j) ≡ j
upto_beginning j k legal f =
    let all : AllByRecursion (λ (r : Round). 1 ≤ length r.entries) (j.rounds ++ f.1.0) = subst (λ (l : List Round). AllByRecursion (λ (r : Round). 1 ≤ length r.entries) l) f.1.1 (legal_some k legal) in
    let same : rounds_upto (len j) k.rounds ≡ j.rounds = ap (λ (l : List Round). rounds_upto (len j) l) f.1.1 ∙ upto_prefix_same j.rounds f.1.0 (behind j.rounds f.1.0 all) in
    ap (λ (o : Opening). let x : Journal = record { opening = o; rounds = rounds_upto (len j) k.rounds } in x) (sym f.0)
    ∙ ap (λ (l : List Round). let x : Journal = record { opening = j.opening; rounds = l } in x) same
  where
    behind : (xs ys : List Round) → AllByRecursion (λ (r : Round). 1 ≤ length r.entries) (xs ++ ys) → AllByRecursion (λ (r : Round). 1 ≤ length r.entries) ys
    behind [] ys all = all
    behind (x ∷ xs) ys all = behind xs ys all.1

-- the ends of a journal with one more round

pub end_whole : (j : Journal) (n : ℕ) → n ≡ len j → IsRoundEnd j n
end_whole j n e = (j.rounds, prefix_self j.rounds, e)

prefix_push : (ys xs : List Round) (x : Round) → IsPrefix ys (xs ++ x ∷ []) → IsPrefix ys xs ⊎ (ys ≡ xs ++ x ∷ [])
prefix_push ys xs x f = elim (cases_Bool (nat_le (length ys) (length xs))) [
  | inl short ↦ inl (prefix_between ys xs (xs ++ x ∷ []) f (prefix_append xs (x ∷ [])) (leb-true (length ys) (length xs) short))
  | inr long ↦ inr (prefix_whole ys (xs ++ x ∷ []) f (omega (arith, leb-false (length ys) (length xs) long, length-append xs (x ∷ []))))
]

end_pushed : (j : Journal) (r : Round) (n : ℕ) → IsRoundEnd (with_round j r) n → IsRoundEnd j n ⊎ (n ≡ len (with_round j r))
end_pushed j r n end = elim (prefix_push end.0 j.rounds r end.1) [
  | inl f ↦ inl (end.0, f, end.2)
  | inr all ↦ inr (end.2 ∙ ap (λ (l : List Round). length (entries_of l)) all)
]

end_of_push : (j : Journal) (r : Round) (n : ℕ) → IsRoundEnd j n ⊎ (n ≡ len (with_round j r)) → IsRoundEnd (with_round j r) n
end_of_push j r n h = elim h [
  | inl end ↦ end_grows j (with_round j r) n (journal_prefix_push j r) end
  | inr e ↦ end_whole (with_round j r) n e
]

pub end_push : (j : Journal) (r : Round) (n : ℕ) → IsRoundEnd (with_round j r) n ↔ (IsRoundEnd j n ⊎ (n ≡ len (with_round j r)))
end_push j r n = (end_pushed j r n, end_of_push j r n)

-- up to a later end it is a longer beginning

upto_le_by : (b c : Bool) (r : Round) (xs ys : List Round) → (b ≡ true → c ≡ true) → IsPrefix xs ys → IsPrefix (cond b (r ∷ xs) []) (cond c (r ∷ ys) [])
upto_le_by true true r xs ys less f = (f.0, ap (λ (l : List Round). r ∷ l) f.1)
upto_le_by true false r xs ys less f = let never : (false ≡ true) → ⊥ = λ h. cc in absurd (never (less refl))
upto_le_by false c r xs ys less f = prefix_none (cond c (r ∷ ys) [])

upto_le : (n m : ℕ) (rs : List Round) → n ≤ m → IsPrefix (rounds_upto n rs) (rounds_upto m rs)
upto_le n m [] le = prefix_none []
upto_le n m (r ∷ rs) le =
    upto_le_by (nat_le (length r.entries) n) (nat_le (length r.entries) m) r (rounds_upto (n - length r.entries) rs) (rounds_upto (m - length r.entries) rs)
    (λ e. le-leb (length r.entries) m (omega (arith, le, leb-true (length r.entries) n e)))
    (upto_le (n - length r.entries) (m - length r.entries) rs (omega (arith, le)))

pub upto_order : (j : Journal) (n m : ℕ) → n ≤ m → IsJournalPrefix (upto j n) (upto j m)
upto_order j n m le = (refl, upto_le n m j.rounds le)
