-- The text of a journal, an entry and a round at a time.
use Rattle.std.proofs.Common.{◌≡◌, ◌≤◌, ◌<◌, ◌+◌, ◌-◌, ℕ, zero, suc, Bool, Option, None, Some, slice_get, List, [], ◌∷◌, ◌++◌, Result, Ok, Err, IfOk, length, take, drop, refl, sym, ap, ◌∙◌, subst, arith, add-one, append_assoc, append-nil, length-append, length-drop}
use Rattle.std.specs.List.{between}
use Rattle.std.specs.Option.{option_map}
use Rattle.std.proofs.lemmas.List.{drop-append-le, drop_at, drop_all, length-take-le, take-append-drop, take_at}
use Rattle.std.proofs.lemmas.List.Edits.{between_none}
use Rattle.std.proofs.lemmas.Slice.{between_is}
use Rattle.journal_report.specs.Written.{IsWritten, kind_of}
use Rattle.journal_report.specs.declared.journal.Written.{Written}
use Rattle.report_text.specs.EntryText.{entries_text, entry_text, round_text, rounds_text}
use Rattle.report_text.specs.Report.{journal_line, journal_part}
use Rattle.shared_journal.specs.Ends.{end_of, is_whole}
use Rattle.switch_model.specs.declared.journal.Entry.{Entry}
use Rattle.switch_model.specs.declared.journal.Round.{Round}
use Rattle.switch_model.specs.declared.journal.RoundKind.{RoundKind}
use Rattle.switch_model.specs.declared.journal.RoundKind.TheVariants.{Whole, One}
use Rattle.switch_model.specs.Journal.{entries_of, version_after}

-- texts and versions of lists one after another

entries_text-append : (p q : ℕ) (xs ys : List Entry) → q ≡ p + length xs → entries_text p (xs ++ ys) ≡ entries_text p xs ++ entries_text q ys
entries_text-append p q [] ys is = ap (λ (n : ℕ). entries_text n ys) (sym (omega (arith, is)))
entries_text-append p q (x ∷ xs) ys is =
    ap (λ (t : List ℕ). entry_text p x ++ t) (entries_text-append (p + 1) q xs ys (omega (arith, is)))
    ∙ sym (append_assoc (entry_text p x) (entries_text (p + 1) xs) (entries_text q ys))

entries_of-append : (xs ys : List Round) → entries_of (xs ++ ys) ≡ entries_of xs ++ entries_of ys
entries_of-append [] ys = refl
entries_of-append (x ∷ xs) ys = ap (λ (l : List Entry). x.entries ++ l) (entries_of-append xs ys) ∙ sym (append_assoc x.entries (entries_of xs) (entries_of ys))

version_after-append : (version : ℕ) (xs ys : List Entry) → version_after version (xs ++ ys) ≡ version_after (version_after version xs) ys
version_after-append version [] ys = refl
version_after-append version (x ∷ xs) ys = version_after-append x.version xs ys

-- one item more

take_next : {X : Type 0} (xs : List X) (i : ℕ) → take (suc i) xs ≡ take i xs ++ take 1 (drop i xs)
take_next [] zero = refl
take_next [] (suc i) = refl
take_next (x ∷ xs) zero = refl
take_next {X} (x ∷ xs) (suc i) = ap (λ (l : List X). x ∷ l) (take_next xs i)

pub take_more : {X : Type 0} (xs : List X) (i : ℕ) → take (i + 1) xs ≡ take i xs ++ take 1 (drop i xs)
take_more xs i = ap (λ (n : ℕ). take n xs) (add-one i) ∙ take_next xs i

between_next : {X : Type 0} (xs : List X) (from i : ℕ) → from ≤ i → i ≤ length xs → between from (i + 1) xs ≡ between from i xs ++ take 1 (drop i xs)
between_next {X} xs from i low within =
    let size : length (take i xs) ≡ i = length-take-le i xs within in
    between_is xs from (i + 1) ∙ ap (drop from) (take_more xs i) ∙ drop-append-le from (take i xs) (take 1 (drop i xs)) (omega (arith, low, size)) ∙ ap (λ (l : List X). l ++ take 1 (drop i xs)) (sym (between_is xs from i))

length-between : {X : Type 0} (xs : List X) (from i : ℕ) → i ≤ length xs → length (between from i xs) ≡ i - from
length-between xs from i within =
    let size : length (take i xs) ≡ i = length-take-le i xs within in
    ap length (between_is xs from i) ∙ length-drop from (take i xs) ∙ ap (λ (n : ℕ). n - from) size

between_empty : {X : Type 0} (xs : List X) (from i : ℕ) → i ≤ from → i ≤ length xs → between from i xs ≡ []
between_empty xs from i low within = between_is xs from i ∙ drop_all from (take i xs) (omega (arith, low, length-take-le i xs within))

none-some : {X : Type 0} {x : X} → None ≡ Some x → ⊥
none-some h = cc

some-none : {X : Type 0} {x : X} → Some x ≡ None → ⊥
some-none h = cc

is_inside : {X : Type 0} (xs : List X) (i : ℕ) → i < length xs → slice_get xs i ≡ None → ⊥
is_inside [] i lt none = omega (arith, lt)
is_inside (x ∷ xs) zero lt none = some-none none
is_inside (x ∷ xs) (suc i) lt none = is_inside xs i (omega (arith, lt)) none

pub at_place : {X : Type 0} (xs : List X) (k : ℕ) (x : X) → slice_get xs k ≡ Some x → take 1 (drop k xs) ≡ x ∷ []
at_place [] k x is = absurd (none-some is)
at_place (y ∷ ys) zero x is = let same : y ≡ x = cc in ap (λ z. z ∷ []) same
at_place (y ∷ ys) (suc k) x is = at_place ys k x is

-- the entry at a place, and its text
pub entry-at : (es : List Entry) (i : ℕ) (entry : Entry) → Some entry ≡ slice_get es i → entry_text i entry ≡ entries_text i (take 1 (drop i es))
entry-at es i entry found = sym (ap (entries_text i) (at_place es i entry (sym found)) ∙ append-nil (entry_text i entry))

pub entry-there : (es : List Entry) (i : ℕ) → i < length es → None ≡ slice_get es i → ⊥
entry-there es i lt none = is_inside es i lt (sym none)

-- no entry is written yet
pub entries-none : (es : List Entry) (before : List ℕ) (first : ℕ) → before ≡ before ++ entries_text first (between first first es)
entries-none es before first = sym (ap (λ (l : List Entry). before ++ entries_text first l) (between_none es first) ∙ append-nil before)

-- one more entry is written
pub entries-more : (es : List Entry) (before out after : List ℕ) (first i : ℕ) → first ≤ i → i < length es → out ≡ before ++ entries_text first (between first i es) → after ≡ out ++ entries_text i (take 1 (drop i es)) → after ≡ before ++ entries_text first (between first (i + 1) es)
entries-more es before out after first i low within so_far added =
    let size = length-between es first i (omega (arith, within)) in
    added ∙ ap (λ (t : List ℕ). t ++ entries_text i (take 1 (drop i es))) so_far ∙ append_assoc before (entries_text first (between first i es)) (entries_text i (take 1 (drop i es)))
    ∙ ap (λ (t : List ℕ). before ++ t) (sym (entries_text-append first i (between first i es) (take 1 (drop i es)) (omega (arith, size, low))))
    ∙ ap (λ (l : List Entry). before ++ entries_text first l) (sym (between_next es first i low (omega (arith, within))))

-- the kind of a round is told by whether it is whole
kind-told : (kind : RoundKind) → kind_of (is_whole kind) ≡ kind
kind-told Whole = refl
kind-told One = refl

some-inside : {X : Type 0} (P : X → Type 0) (x y : X) → Some x ≡ Some y → P y → P x
some-inside P x y same holds = let is : x ≡ y = cc in subst P (sym is) holds

abbrev End : Type 0
End = ℕ × Bool

-- the end of the k-th round, where that is the one
abbrev end_from : List Round → ℕ → Option Round → Option End
end_from rounds k o = option_map (λ r. (length (entries_of (take (k + 1) rounds)), is_whole r.kind)) o

-- a round that isn't past the last one has an end
module _ (rounds : List Round) (k : ℕ) where
  no_end : (o : Option Round) → slice_get rounds k ≡ o → None ≡ end_from rounds k o → slice_get rounds k ≡ None
  no_end None is none = is
  no_end (Some r) is none = absurd (none-some none)

  pub has_end : k < length rounds → None ≡ end_of rounds k → ⊥
  has_end there none = is_inside rounds k there (no_end (slice_get rounds k) refl none)

record IsAt (rounds : List Round) (k end : ℕ) (whole : Bool) (r : Round) : Type 0 where
  found : slice_get rounds k ≡ Some r
  ends : end ≡ length (entries_of (take (k + 1) rounds))
  kind : whole ≡ is_whole r.kind

module _ (rounds : List Round) (k end : ℕ) (whole : Bool) where
  abbrev told : Option End
  told = Some (end, whole)

  round-of : (o : Option Round) → slice_get rounds k ≡ o → told ≡ end_from rounds k o → (r : Round) × IsAt rounds k end whole r
  round-of None is found = absurd (some-none found)
  round-of (Some r) is found = (
    r,
    record {
      found = is;
      ends = some-inside (λ (p : End). p.0 ≡ length (entries_of (take (k + 1) rounds))) (end, whole) (length (entries_of (take (k + 1) rounds)), is_whole r.kind) found refl;
      kind = some-inside (λ (p : End). p.1 ≡ is_whole r.kind) (end, whole) (length (entries_of (take (k + 1) rounds)), is_whole r.kind) found refl;
    },
  )

  module _ (found : told ≡ end_of rounds k) where
    there : (r : Round) × IsAt rounds k end whole r
    there = round-of (slice_get rounds k) refl found

    abbrev round : Round
    round = there.0

    abbrev earlier : List Entry
    earlier = entries_of (take k rounds)

    rounds_then : take (k + 1) rounds ≡ take k rounds ++ round ∷ []
    rounds_then = take_more rounds k ∙ ap (λ (l : List Round). take k rounds ++ l) (at_place rounds k round there.1.found)

    entries_then : entries_of (take (k + 1) rounds) ≡ earlier ++ round.entries
    entries_then = ap entries_of rounds_then ∙ entries_of-append (take k rounds) (round ∷ []) ∙ ap (λ (l : List Entry). earlier ++ l) (append-nil round.entries)

    all : entries_of rounds ≡ (earlier ++ round.entries) ++ entries_of (drop (k + 1) rounds)
    all = ap entries_of (sym (take-append-drop (k + 1) rounds)) ∙ entries_of-append (take (k + 1) rounds) (drop (k + 1) rounds) ∙ ap (λ (l : List Entry). l ++ entries_of (drop (k + 1) rounds)) entries_then

    end_is : end ≡ length (earlier ++ round.entries)
    end_is = there.1.ends ∙ ap length entries_then

    -- it ends among the entries
    pub within : end ≤ length (entries_of rounds)
    within = omega (arith, end_is, ap length all, length-append (earlier ++ round.entries) (entries_of (drop (k + 1) rounds)))

    -- where those of the round begin, or after
    pub order : (first : ℕ) → first ≡ length (entries_of (take k rounds)) → first ≤ end
    order first is = omega (arith, is, end_is, length-append earlier round.entries)

    own : (first : ℕ) → first ≡ length earlier → between first end (entries_of rounds) ≡ round.entries
    own first is =
        between_is (entries_of rounds) first end ∙ ap (λ (l : List Entry). drop first (take end l)) all
        ∙ ap (drop first) (take_at (earlier ++ round.entries) (entries_of (drop (k + 1) rounds)) end (sym end_is))
        ∙ drop_at earlier round.entries first (sym is)

    module _ (version : ℕ) (w n : Written) (place : w.rounds ≡ k) (lt : k < length rounds) (written : IsWritten version rounds w)
        (next : n ≡ record { rounds = w.rounds + 1; entries = end; version = version_after w.version (between w.entries end (entries_of rounds)) }) where
      first_is : w.entries ≡ length earlier
      first_is = written.entries ∙ ap (λ (i : ℕ). length (entries_of (take i rounds))) place

      version_is : w.version ≡ version_after version earlier
      version_is = written.version ∙ ap (λ (i : ℕ). version_after version (entries_of (take i rounds))) place

      rounds_is : n.rounds ≡ k + 1
      rounds_is = ap (λ (x : Written). x.rounds) next ∙ ap (λ (i : ℕ). i + 1) place

      after_is : n.version ≡ version_after w.version round.entries
      after_is = ap (λ (x : Written). x.version) next ∙ ap (version_after w.version) (own w.entries first_is)

      -- one more round is written
      pub written-more : IsWritten version rounds n
      written-more = record {
        within = omega (arith, rounds_is, lt);
        entries = ap (λ (x : Written). x.entries) next ∙ there.1.ends ∙ ap (λ (i : ℕ). length (entries_of (take i rounds))) (sym rounds_is);
        version = after_is ∙ ap (λ (v : ℕ). version_after v round.entries) version_is ∙ sym (version_after-append version earlier round.entries) ∙ ap (version_after version) (sym entries_then) ∙ ap (λ (i : ℕ). version_after version (entries_of (take i rounds))) (sym rounds_is);
      }

      abbrev shown : RoundKind → Round
      shown kind = record { kind = kind; entries = between w.entries end (entries_of rounds) }

      shown_is : (kind : RoundKind) → kind ≡ kind_of whole → shown kind ≡ round
      shown_is kind is =
          ap (λ (x : RoundKind). let r : Round = record { kind = x; entries = between w.entries end (entries_of rounds) } in r) is
          ∙ ap (λ (b : Bool). let r : Round = record { kind = kind_of b; entries = between w.entries end (entries_of rounds) } in r) there.1.kind
          ∙ ap (λ (x : RoundKind). let r : Round = record { kind = x; entries = between w.entries end (entries_of rounds) } in r) (kind-told round.kind)
          ∙ ap (λ (l : List Entry). let r : Round = record { kind = round.kind; entries = l } in r) (own w.entries first_is)

      -- with its text
      pub text-more : (kind : RoundKind) → kind ≡ kind_of whole → round_text w.rounds w.entries n.version (shown kind) ≡ rounds_text w.rounds w.entries w.version (take 1 (drop w.rounds rounds))
      text-more kind is =
          ap (round_text w.rounds w.entries n.version) (shown_is kind is) ∙ ap (λ (v : ℕ). round_text w.rounds w.entries v round) after_is
          ∙ sym (append-nil (round_text w.rounds w.entries (version_after w.version round.entries) round))
          ∙ ap (rounds_text w.rounds w.entries w.version) (sym (at_place rounds k round there.1.found))
          ∙ ap (λ (i : ℕ). rounds_text w.rounds w.entries w.version (take 1 (drop i rounds))) (sym place)

-- texts of rounds one after another

rounds_text-append : (n p v m q u : ℕ) (xs ys : List Round) → m ≡ n + length xs → q ≡ p + length (entries_of xs) → u ≡ version_after v (entries_of xs) → rounds_text n p v (xs ++ ys) ≡ rounds_text n p v xs ++ rounds_text m q u ys
rounds_text-append n p v m q u [] ys number place version =
    ap (λ (i : ℕ). rounds_text i p v ys) (sym (omega (arith, number))) ∙ ap (λ (i : ℕ). rounds_text m i v ys) (sym (omega (arith, place))) ∙ ap (λ (i : ℕ). rounds_text m q i ys) (sym version)
rounds_text-append n p v m q u (x ∷ xs) ys number place version =
    let after : ℕ = version_after v x.entries in
    let next : ℕ = p + length x.entries in
    ap (λ (t : List ℕ). round_text n p after x ++ t) (rounds_text-append (n + 1) next after m q u xs ys (omega (arith, number)) (omega (arith, place, length-append x.entries (entries_of xs))) (version ∙ version_after-append v x.entries (entries_of xs)))
    ∙ sym (append_assoc (round_text n p after x) (rounds_text (n + 1) next after xs) (rounds_text m q u ys))

-- no round is written yet
pub rounds-none : (rounds : List Round) (version : ℕ) (before : List ℕ) → before ≡ before ++ rounds_text 0 0 version (take 0 rounds)
rounds-none rounds version before = sym (append-nil before)

-- one more round is written
pub rounds-more : (rounds : List Round) (version : ℕ) (w : Written) (next : ℕ) (before out after : List ℕ) → IsWritten version rounds w → next ≡ w.rounds + 1 → out ≡ before ++ rounds_text 0 0 version (take w.rounds rounds) →
    after ≡ out ++ rounds_text w.rounds w.entries w.version (take 1 (drop w.rounds rounds)) → after ≡ before ++ rounds_text 0 0 version (take next rounds)
rounds-more rounds version w next before out after written is so_far added =
    let front : List Round = take w.rounds rounds in
    let one : List Round = take 1 (drop w.rounds rounds) in
    added ∙ ap (λ (t : List ℕ). t ++ rounds_text w.rounds w.entries w.version one) so_far ∙ append_assoc before (rounds_text 0 0 version front) (rounds_text w.rounds w.entries w.version one)
    ∙ ap (λ (t : List ℕ). before ++ t) (sym (rounds_text-append 0 0 version w.rounds w.entries w.version front one (omega (arith, length-take-le w.rounds rounds written.within)) (omega (arith, written.entries)) written.version))
    ∙ ap (λ (l : List Round). before ++ rounds_text 0 0 version l) (sym (take_more rounds w.rounds))
    ∙ ap (λ (i : ℕ). before ++ rounds_text 0 0 version (take i rounds)) (sym is)

-- the version after entries up to a position

pub version-last : (es : List Entry) (version first end i : ℕ) (entry : Entry) → i + 1 ≡ end → first ≤ i → end ≤ length es → Some entry ≡ slice_get es i → entry.version ≡ version_after version (between first end es)
version-last es version first end i entry next low within found =
    sym (ap (λ (n : ℕ). version_after version (between first n es)) (sym next) ∙ ap (version_after version) (between_next es first i low (omega (arith, next, within)))
    ∙ ap (λ (l : List Entry). version_after version (between first i es ++ l)) (at_place es i entry (sym found)) ∙ version_after-append version (between first i es) (entry ∷ []))

pub version-none : (es : List Entry) (version first end : ℕ) → end ≤ first → end ≤ length es → version ≡ version_after version (between first end es)
version-none es version first end low within = sym (ap (version_after version) (between_empty es first end low within))

-- all entries up to the position are written, none where it isn't past the first
pub entries-all : (es : List Entry) (before out : List ℕ) (first end i : ℕ) → end ≤ i → i ≤ end → out ≡ before ++ entries_text first (between first i es) → out ≡ before ++ entries_text first (between first end es)
entries-all es before out first end i most least so_far = so_far ∙ ap (λ (n : ℕ). before ++ entries_text first (between first n es)) (let same : i ≡ end = omega (arith, most, least) in same)

-- what holds of a value that is there
pub if-ok : {A E : Type 0} (r : Result A E) (P Q R : A → Type 0) → ((a : A) → P a → Q a → R a) → IfOk r P → IfOk r Q → IfOk r R
if-ok (Ok a) P Q R both p q = both a p q
if-ok (Err e) P Q R both p q = tt

-- the journal's line and its rounds
pub journal-text : (version : ℕ) (rounds : List Round) (entries count last : ℕ) → entries ≡ length (entries_of rounds) → count ≡ length rounds → last ≡ version_after version (entries_of rounds) →
    journal_line entries count last ++ rounds_text 0 0 version rounds ≡ journal_part version rounds
journal-text version rounds entries count last entries_are count_is last_is =
    let text : List ℕ = rounds_text 0 0 version rounds in
    ap (λ (n : ℕ). journal_line n count last ++ text) entries_are ∙ ap (λ (n : ℕ). journal_line (length (entries_of rounds)) n last ++ text) count_is ∙ ap (λ (n : ℕ). journal_line (length (entries_of rounds)) (length rounds) n ++ text) last_is
