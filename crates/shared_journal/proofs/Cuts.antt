-- Laws of rounds that are cut out of the entries.
use Rattle.std.proofs.Common.{◌≡◌, ◌<◌, ◌≤◌, ◌-◌, ◌+◌, ℕ, zero, suc, Bool, Option, Some, slice_get, List, [], ◌∷◌, ◌++◌, length, take, drop, refl, ap, sym, ◌∙◌, arith, length-append, length-drop, length-take, add-one}
use Rattle.std.proofs.lemmas.List.{take-append-le, drop-append-le, take-append-drop, take_all}
use Rattle.std.specs.Option.{option_map}
use Rattle.switch_model.specs.declared.journal.Entry.{Entry}
use Rattle.switch_model.specs.declared.journal.Round.{Round}
use Rattle.switch_model.specs.declared.journal.RoundKind.{RoundKind}
use Rattle.switch_model.specs.Journal.{entries_of}
use Rattle.shared_journal.specs.Ends.{cut, AreEnds, end_of, is_whole}
use Rattle.shared_journal.specs.declared.RoundEnd.{RoundEnd}

-- there are as many positions as rounds, or more
ends_within : (from : ℕ) (ends : List RoundEnd) (total : ℕ) → AreEnds from ends total → from + length ends ≤ total
ends_within from [] total are = omega (arith, are)
ends_within from (e ∷ ends) total are = omega (arith, are.0, ends_within e.end ends total are.1)

-- an end is within the entries
within : (from : ℕ) (e : RoundEnd) (ends : List RoundEnd) (es : List Entry) → AreEnds from (e ∷ ends) (from + length es) → e.end - from ≤ length es
within from e ends es are = omega (arith, ends_within e.end ends (from + length es) are.1, are.0)

-- the entries past it end where all do
beyond : (from : ℕ) (e : RoundEnd) (ends : List RoundEnd) (es : List Entry) → AreEnds from (e ∷ ends) (from + length es) → AreEnds e.end ends (e.end + length (drop (e.end - from) es))
beyond from e ends es are =
    let rest : e.end + length (drop (e.end - from) es) ≡ from + length es = omega (arith, length-drop (e.end - from) es, within from e ends es are, are.0) in
    rw rest are.1

-- one more round
cut_more : (from : ℕ) (ends : List RoundEnd) (es new : List Entry) (kind : RoundKind) (t : ℕ) → AreEnds from ends (from + length es) → t ≡ from + length es + length new → cut from (ends ++ (record { kind = kind; end = t }) ∷ []) (es ++ new) ≡ cut from ends es ++ (record { kind = kind; entries = new }) ∷ []
cut_more from [] [] new kind t are t_is = let n : t - from ≡ length new = omega (arith, t_is) in rw (n, take_all (length new) new (omega arith)) refl
cut_more from [] (x ∷ es) new kind t are t_is = absurd (omega (arith, are))
cut_more from (e ∷ ends) es new kind t are t_is =
    let short : e.end - from ≤ length es = within from e ends es are in
    let rest : e.end + length (drop (e.end - from) es) ≡ from + length es = omega (arith, length-drop (e.end - from) es, short, are.0) in
    rw (take-append-le (e.end - from) es new short, drop-append-le (e.end - from) es new short)
    (ap (λ (l : List Round). (record { kind = e.kind; entries = take (e.end - from) es }) ∷ l) (cut_more e.end ends (drop (e.end - from) es) new kind t (beyond from e ends es are) (omega (arith, rest, t_is))))

-- the rounds' entries are all entries
cut_all : (from : ℕ) (ends : List RoundEnd) (es : List Entry) → AreEnds from ends (from + length es) → entries_of (cut from ends es) ≡ es
cut_all from [] [] are = refl
cut_all from [] (x ∷ es) are = absurd (omega (arith, are))
cut_all from (e ∷ ends) es are = ap (λ l. take (e.end - from) es ++ l) (cut_all e.end ends (drop (e.end - from) es) (beyond from e ends es are)) ∙ take-append-drop (e.end - from) es

cut_length : (from : ℕ) (ends : List RoundEnd) (es : List Entry) → length (cut from ends es) ≡ length ends
cut_length from [] es = refl
cut_length from (e ∷ ends) es = ap suc (cut_length e.end ends (drop (e.end - from) es))

-- the end of a round that is cut out is the one that is kept
abbrev end_at : ℕ → List Round → ℕ → Option (ℕ × Bool)
end_at from rounds k = option_map (λ (r : Round). (from + length (entries_of (take (suc k) rounds)), is_whole r.kind)) (slice_get rounds k)

abbrev kept_at : List RoundEnd → ℕ → Option (ℕ × Bool)
kept_at ends k = option_map (λ (e : RoundEnd). (e.end, is_whole e.kind)) (slice_get ends k)

end_past : (from k n : ℕ) (r : Round) (rounds : List Round) → n ≡ from + length r.entries → end_at n rounds k ≡ end_at from (r ∷ rounds) (suc k)
end_past from k n r rounds n_is =
    let same : n + length (entries_of (take (suc k) rounds)) ≡ from + length (r.entries ++ entries_of (take (suc k) rounds)) = omega (arith, n_is, length-append r.entries (entries_of (take (suc k) rounds))) in
    ap (λ (m : ℕ). option_map (λ (x : Round). (m, is_whole x.kind)) (slice_get rounds k)) same

end_first : (from n : ℕ) (r : Round) (rounds : List Round) → n ≡ from + length r.entries → Some (n, is_whole r.kind) ≡ end_at from (r ∷ rounds) 0
end_first from n r rounds n_is =
    let nothing : List Entry = [] in
    let same : n ≡ from + length (r.entries ++ []) = omega (arith, n_is, length-append r.entries nothing) in
    ap (λ (m : ℕ). Some (m, is_whole r.kind)) same

ends_kept : (from : ℕ) (ends : List RoundEnd) (es : List Entry) (k : ℕ) → AreEnds from ends (from + length es) → kept_at ends k ≡ end_at from (cut from ends es) k
ends_kept from [] es k are = refl
ends_kept from (e ∷ ends) es zero are =
    let here : e.end ≡ from + length (take (e.end - from) es) = omega (arith, length-take (e.end - from) es, within from e ends es are, are.0) in
    end_first from e.end (record { kind = e.kind; entries = take (e.end - from) es }) (cut e.end ends (drop (e.end - from) es)) here
ends_kept from (e ∷ ends) es (suc k) are =
    let here : e.end ≡ from + length (take (e.end - from) es) = omega (arith, length-take (e.end - from) es, within from e ends es are, are.0) in
    ends_kept e.end ends (drop (e.end - from) es) k (beyond from e ends es are) ∙ end_past from k e.end (record { kind = e.kind; entries = take (e.end - from) es }) (cut e.end ends (drop (e.end - from) es)) here

-- from the beginning

from_start : (ends : List RoundEnd) (n : ℕ) → AreEnds 0 ends n → AreEnds 0 ends (0 + n)
from_start ends n are = let same : 0 + n ≡ n = omega arith in rw same are

-- a journal's entries are those that are kept
pub entries_are : (ends : List RoundEnd) (es : List Entry) (rounds : List Round) → AreEnds 0 ends (length es) → cut 0 ends es ≡ rounds → es ≡ entries_of rounds
entries_are ends es rounds are is = sym (cut_all 0 ends es (from_start ends (length es) are)) ∙ ap entries_of is

-- it has a round for each end
pub ends_count : (ends : List RoundEnd) (es : List Entry) (rounds : List Round) → cut 0 ends es ≡ rounds → length ends ≡ length rounds
ends_count ends es rounds is = sym (cut_length 0 ends es) ∙ ap length is

start_is : (k : ℕ) (rounds : List Round) → end_at 0 rounds k ≡ end_of rounds k
start_is k rounds =
    let same : 0 + length (entries_of (take (suc k) rounds)) ≡ length (entries_of (take (k + 1) rounds)) = omega arith ∙ ap (λ (n : ℕ). length (entries_of (take n rounds))) (sym (add-one k)) in
    ap (λ (m : ℕ). option_map (λ (x : Round). (m, is_whole x.kind)) (slice_get rounds k)) same

-- and each round ends where it is kept
pub end_is : (ends : List RoundEnd) (es : List Entry) (rounds : List Round) (k : ℕ) (o : Option RoundEnd) → AreEnds 0 ends (length es) → cut 0 ends es ≡ rounds → o ≡ slice_get ends k → option_map (λ (e : RoundEnd). (e.end, is_whole e.kind)) o ≡ end_of rounds k
end_is ends es rounds k o are is o_is = ap (option_map (λ (e : RoundEnd). (e.end, is_whole e.kind))) o_is ∙ ends_kept 0 ends es k (from_start ends (length es) are) ∙ ap (λ (l : List Round). end_at 0 l k) is ∙ start_is k rounds

-- there is room for one more end where there is for the entries
pub room_for_end : (ends : List RoundEnd) (es new : List Entry) (rounds : List Round) (top : ℕ) → AreEnds 0 ends (length es) → cut 0 ends es ≡ rounds → 1 ≤ length new → length (entries_of rounds) + length new < top → length ends + 1 < top
room_for_end ends es new rounds top are is some room =
    let count : length es ≡ length (entries_of rounds) = ap length (entries_are ends es rounds are is) in
    omega (arith, ends_within 0 ends (length es) are, count, some, room)

pub room_for_entries : (ends : List RoundEnd) (es new : List Entry) (rounds : List Round) (top : ℕ) → AreEnds 0 ends (length es) → cut 0 ends es ≡ rounds → length (entries_of rounds) + length new < top → length es + length new < top
room_for_entries ends es new rounds top are is room =
    let count : length es ≡ length (entries_of rounds) = ap length (entries_are ends es rounds are is) in
    omega (arith, count, room)

-- a journal with one more round

ends_more : (from : ℕ) (ends : List RoundEnd) (total t : ℕ) (kind : RoundKind) → AreEnds from ends total → total < t → AreEnds from (ends ++ (record { kind = kind; end = t }) ∷ []) t
ends_more from [] total t kind are grows = (omega (arith, are, grows), refl)
ends_more from (e ∷ ends) total t kind are grows = (are.0, ends_more e.end ends total t kind are.1 grows)

pub extended_ends : (ends ends' : List RoundEnd) (es es' new : List Entry) (t : ℕ) (kind : RoundKind) → AreEnds 0 ends (length es) → 1 ≤ length new → es' ≡ es ++ new → t ≡ length es' → ends' ≡ ends ++ (record { end = t; kind = kind }) ∷ [] → AreEnds 0 ends' (length es')
extended_ends ends ends' es es' new t kind are some es_is t_is ends_are =
    let grows : length es < t = omega (arith, t_is, ap length es_is, length-append es new, some) in
    rw (ends_are, ← t_is) (ends_more 0 ends (length es) t kind are grows)

pub extended_rounds : (ends ends' : List RoundEnd) (es es' new : List Entry) (rounds : List Round) (t : ℕ) (kind : RoundKind) → AreEnds 0 ends (length es) → cut 0 ends es ≡ rounds → es' ≡ es ++ new → t ≡ length es' → ends' ≡ ends ++ (record { end = t; kind = kind }) ∷ [] → cut 0 ends' es' ≡ rounds ++ (record { kind = kind; entries = new }) ∷ []
extended_rounds ends ends' es es' new rounds t kind are is es_is t_is ends_are =
    rw (ends_are, es_is) (cut_more 0 ends es new kind t (from_start ends (length es) are) (omega (arith, t_is, ap length es_is, length-append es new))) ∙ ap (λ (l : List Round). l ++ (record { kind = kind; entries = new }) ∷ []) is
