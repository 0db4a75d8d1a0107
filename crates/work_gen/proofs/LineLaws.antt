-- What is left of the lines, one line on.
use Rattle.std.proofs.Common.{◌≡◌, ◌∙◌, ◌<◌, ◌≤◌, ◌^◌, ◌-◌, ◌+◌, ℕ, suc, List, [], ◌∷◌, ◌++◌, map, length, sym, ap, ap₂, refl, arith, append_assoc, append-nil}
use Rattle.rand_pcg.specs.Lcg.{Lcg}
use Rattle.switch_model.specs.declared.act.Act.{Act}
use Rattle.switch_model.specs.Built.{placed}
use Rattle.script_text.specs.declared.script.Line.{Line}
use Rattle.work_gen.specs.Base.{base_acts}
use Rattle.work_gen.specs.Draws.{acts, next_act}
use Rattle.work_gen.specs.Generated.{queued}

abbrev pub lines_left : ℕ → ℕ → Lcg → List Line
lines_left first count g = map queued (placed first (acts count g))

pub lines_more : (made next : List Line) (line : Line) (act : Act) (n i : ℕ) (g h : Lcg) → i < n → ◌≡◌ {A = Act × Lcg} (act, h) (next_act g) → line ≡ queued (93 + i, act)
    → next ≡ made ++ line ∷ [] → next ++ lines_left (93 + (i + 1)) (n - (i + 1)) h ≡ made ++ lines_left (93 + i) (n - i) g
unfolding acts
lines_more made next line act n i g h lt drawn is more =
    let fewer : n - i ≡ suc (n - (i + 1)) = omega (arith, lt) in
    let on : 93 + (i + 1) ≡ 93 + i + 1 = omega arith in
    ap (λ xs. xs ++ lines_left (93 + (i + 1)) (n - (i + 1)) h) more
    ∙ append_assoc made (line ∷ []) (lines_left (93 + (i + 1)) (n - (i + 1)) h)
    ∙ ap₂ (λ l k. made ++ l ∷ lines_left k (n - (i + 1)) h) is on
    ∙ ap (λ (p : Act × Lcg). made ++ queued (93 + i, p.0) ∷ lines_left (93 + i + 1) (n - (i + 1)) p.1) drawn
    ∙ sym (ap (λ k. made ++ lines_left (93 + i) k g) fewer)

pub lines_end : (made : List Line) (first n i : ℕ) (g : Lcg) → n ≤ i → made ++ lines_left first (n - i) g ≡ made
unfolding acts
lines_end made first n i g le =
    let none : n - i ≡ 0 = omega (arith, le) in
    ap (λ k. made ++ lines_left first k g) none ∙ append-nil made

-- one act of the base goes from those to come to those with a line
pub placed_more : (made next : List (ℕ × Act)) (line : ℕ) (act : Act) (items left : List Act) (all : List (ℕ × Act)) → items ≡ act ∷ left → next ≡ made ++ (line, act) ∷ []
    → made ++ placed line items ≡ all → next ++ placed (line + 1) left ≡ all
placed_more made next line act items left all first more whole =
    ap (λ xs. xs ++ placed (line + 1) left) more
    ∙ append_assoc made ((line, act) ∷ []) (placed (line + 1) left)
    ∙ sym (ap (λ xs. made ++ placed line xs) first) ∙ whole

pub fewer_left : (items left : List Act) (act : Act) (line n : ℕ) → items ≡ act ∷ left → line + length items ≡ n → line + 1 + length left ≡ n
fewer_left items left act line n first is =
    let one : length items ≡ suc (length left) = ap length first in
    omega (arith, one, is)

pub small_line : (items left : List Act) (act : Act) (line m : ℕ) → items ≡ act ∷ left → line + length items ≡ 4 + m → m ≤ 2 ^ 32 → line + 1 < 2 ^ 64
small_line items left act line m first is few =
    let one : length items ≡ suc (length left) = ap length first in
    omega (arith, one, is, few)

pub base_length : length base_acts ≡ 88
base_length = refl

pub base_is_short : (acts : List Act) → acts ≡ base_acts → length acts ≤ 2 ^ 32
base_is_short acts is = omega (arith, ap length is ∙ base_length)
