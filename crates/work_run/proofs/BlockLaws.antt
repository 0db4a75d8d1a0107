-- Lines that are served in blocks.
use Rattle.std.proofs.Common.{◌≡◌, ◌≤◌, ◌<◌, ◌+◌, ◌-◌, ◌*◌, ℕ, zero, suc, None, Some, List, [], ◌∷◌, length, map, take, drop, get_or, refl, sym, ap, subst, ◌∙◌, arith}
use Rattle.std.specs.Int.{div_ceil}
use Rattle.std.specs.List.{AllByRecursion, range_with_len}
use Rattle.core_laws.specs.Published.{CoreView}
use Rattle.script_text.specs.declared.script.Line.{Line}
use Rattle.solo_agent.specs.Views.{IsSameSwitch, Kept, SoloView}
use Rattle.told_laws.specs.Course.{Course, lines, phases, step}
use Rattle.work_laws.specs.Work.{block_at}

-- the switch and the limit stay the same

switch_self : (c : CoreView) → IsSameSwitch c c
switch_self c = record { base = refl; caps = refl; sures = refl }

switch_trans : (a b c : CoreView) → IsSameSwitch a b → IsSameSwitch b c → IsSameSwitch a c
switch_trans a b c p q = record { base = q.base ∙ p.base; caps = q.caps ∙ p.caps; sures = q.sures ∙ p.sures }

pub kept_self : (a : SoloView) → Kept a a
kept_self a = record { switch = switch_self a.core; limit = refl }

pub kept_trans : (a b c : SoloView) → Kept a b → Kept b c → Kept a c
kept_trans a b c p q = record { switch = switch_trans a.core b.core c.core p.switch q.switch; limit = q.limit ∙ p.limit }

-- what holds of all items holds of those of a block

module _ {A : Type 0} (P : A → Type 0) where
  all_drop : (n : ℕ) (xs : List A) → AllByRecursion P xs → AllByRecursion P (drop n xs)
  all_drop zero xs all = all
  all_drop (suc n) [] all = all
  all_drop (suc n) (x ∷ xs) all = all_drop n xs all.1

  all_take : (n : ℕ) (xs : List A) → AllByRecursion P xs → AllByRecursion P (take n xs)
  all_take zero [] all = tt
  all_take zero (x ∷ xs) all = tt
  all_take (suc n) [] all = all
  all_take (suc n) (x ∷ xs) all = (all.0, all_take n xs all.1)

  all_here : (n : ℕ) (xs : List A) (x : A) → n < length xs → x ≡ get_or xs n x → AllByRecursion P xs → P x
  all_here n [] x short is all = absurd (omega (arith, short))
  all_here zero (y ∷ xs) x short is all = subst P (sym is) all.0
  all_here (suc n) (y ∷ xs) x short is all = all_here n xs x (omega (arith, short)) is all.1

pub callers_of_block : (ls block : List Line) (n : ℕ) → block ≡ block_at ls n → AllByRecursion (λ l. l.caller ≡ 0) ls → AllByRecursion (λ l. l.caller ≡ 0) block
callers_of_block ls block n is all = subst (AllByRecursion (λ (l : Line). l.caller ≡ 0)) (sym is) (all_take (λ (l : Line). l.caller ≡ 0) 16 (drop (n * 16) ls) (all_drop (λ (l : Line). l.caller ≡ 0) (n * 16) ls all))

pub caller_of_line : (ls items : List Line) (n : ℕ) (l : Line) → items ≡ ls → n < length items → l ≡ get_or items n l → AllByRecursion (λ l. l.caller ≡ 0) ls → l.caller ≡ 0
caller_of_line ls items n l same short is all = all_here (λ (x : Line). x.caller ≡ 0) n items l short is (subst (AllByRecursion (λ (x : Line). x.caller ≡ 0)) (sym same) all)

-- one line more of a block is served

left_at : {A : Type 0} (xs : List A) (n : ℕ) (x : A) → n < length xs → x ≡ get_or xs n x → drop n xs ≡ x ∷ drop (suc n) xs
left_at [] n x short is = absurd (omega (arith, short))
left_at (y ∷ xs) zero x short is = ap (λ z. z ∷ xs) (sym is)
left_at (y ∷ xs) (suc n) x short is = left_at xs n x (omega (arith, short)) is

pub line_served : (old now new : SoloView) (items ls : List Line) (n : ℕ) (l : Line) (all : Course) → items ≡ ls → n < length items → l ≡ get_or items n l → Kept old now × (lines old.limit now.course (drop n ls) ≡ all) → Kept now new → new.course ≡ step now.limit now.course (Some l) →
    Kept old new × (lines old.limit new.course (drop (n + 1) ls) ≡ all)
line_served old now new items ls n l all items_are below is so_far kept new_is =
    let there : drop n ls ≡ l ∷ drop (suc n) ls = subst (λ (xs : List Line). drop n xs ≡ l ∷ drop (suc n) xs) items_are (left_at items n l below is) in
    let e : n + 1 ≡ suc n = omega arith in
    let limit : now.limit ≡ old.limit = so_far.0.limit in (
      kept_trans old now new so_far.0 kept,
      ap (λ (d : Course). lines old.limit d (drop (n + 1) ls)) (new_is ∙ ap (λ (k : ℕ). step k now.course (Some l)) limit)
          ∙ ap (λ (k : ℕ). lines old.limit (step old.limit now.course (Some l)) (drop k ls)) e
          ∙ sym (ap (lines old.limit now.course) there)
          ∙ so_far.1,
    )

lines_done : (limit : ℕ) (ls : List Line) (n : ℕ) (c : Course) → length ls ≤ n → lines limit c (drop n ls) ≡ step limit c None
lines_done limit [] zero c le = refl
lines_done limit [] (suc n) c le = refl
lines_done limit (l ∷ ls) zero c le = absurd (omega (arith, le))
lines_done limit (l ∷ ls) (suc n) c le = lines_done limit ls n c (omega (arith, le))

-- and its end
pub block_ends : (old now : SoloView) (items ls : List Line) (n : ℕ) → items ≡ ls → length items ≤ n → Kept old now × (lines old.limit now.course (drop n ls) ≡ lines old.limit old.course ls) → step now.limit now.course None ≡ lines old.limit old.course ls
block_ends old now items ls n items_are past so_far =
    ap (λ (k : ℕ). step k now.course None) so_far.0.limit ∙ sym (lines_done old.limit ls n now.course (subst (λ (xs : List Line). length xs ≤ n) items_are past)) ∙ so_far.1

-- blocks from the n-th on
abbrev pub blocks_from : List Line → ℕ → ℕ → List (List Line)
blocks_from ls n end = map (block_at ls) (range_with_len n (end - n))

abbrev pub count_of_blocks : List Line → ℕ
count_of_blocks ls = div_ceil (length ls) 16

-- one block more is served
pub block_served : (old now new : SoloView) (ls block : List Line) (n end : ℕ) (all : Course) → n < end → block ≡ block_at ls n → Kept old now × (phases old.limit now.course (blocks_from ls n end) ≡ all) → Kept now new → new.course ≡ lines now.limit now.course block →
    Kept old new × (phases old.limit new.course (blocks_from ls (n + 1) end) ≡ all)
block_served old now new ls block n end all below is so_far kept new_is =
    let left : end - n ≡ suc (end - (n + 1)) = omega (arith, below) in
    let limit : now.limit ≡ old.limit = so_far.0.limit in (
      kept_trans old now new so_far.0 kept,
      ap (λ (d : Course). phases old.limit d (blocks_from ls (n + 1) end)) (new_is ∙ ap (λ (k : ℕ). lines k now.course block) limit ∙ ap (lines old.limit now.course) is)
          ∙ sym (ap (λ (k : ℕ). phases old.limit now.course (map (block_at ls) (range_with_len n k))) left)
          ∙ so_far.1,
    )

pub blocks_done : (old now : SoloView) (ls : List Line) (n end : ℕ) (all : Course) → end ≤ n → Kept old now × (phases old.limit now.course (blocks_from ls n end) ≡ all) → now.course ≡ all
blocks_done old now ls n end all past so_far =
    let none : end - n ≡ zero = omega (arith, past) in
    sym (ap (λ (k : ℕ). phases old.limit now.course (map (block_at ls) (range_with_len n k))) none) ∙ so_far.1
