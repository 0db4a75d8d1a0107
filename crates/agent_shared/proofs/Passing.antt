-- Passes as they begin, and their seats.
use Rattle.std.proofs.Common.{◌≡◌, ℕ, zero, suc, ◌+◌, ◌<◌, Some, List, [], ◌∷◌, ◌++◌, length, get_or, slice_index_or, refl, ap, sym, ◌∙◌, subst, arith, append_assoc}
use Rattle.std.specs.List.{remove}
use Rattle.switch_model.specs.declared.act.Submission.{Submission}
use Rattle.switch_model.specs.declared.journal.Round.{Round}
use Rattle.turn_book.specs.Closing.{HoldsNothing}
use Rattle.turn_book.specs.Passes.{Book, IsPassOf, new_pass, new_passes}
use Rattle.turn_book.specs.PassLaws.{length-new_passes}
use Rattle.shared_laws.specs.Callers.{AtRest, IsPass, Seen}
use Rattle.shared_laws.specs.Ground.{GroundView, IsSoFar}

-- a new pass is one
pub pass_new : (b : Book GroundView) (n : ℕ) (x : Seen) → x ≡ new_pass b n → IsSoFar b.opening [] [] → IsPass x
pass_new b n x e begins =
    let free : HoldsNothing (new_pass {S = Submission} {R = Round} b n) = record { desk = refl; chip = refl } in
    let rest : AtRest b.opening (new_pass b n) = record { free = free; lists = record { of_seen = refl; numbered = refl; ascend = tt; alone = λ _. (refl, refl) }; so_far = begins } in
    subst IsPass (sym e) (record { basis = b.opening; opening = refl; rest = rest })

-- what is so of a pass, over what its book was opened with
pub pass_rests : (b : Book GroundView) (p : Seen) → IsPassOf b p → IsPass p → AtRest b.opening p
pass_rests b p of is =
    let e : Some is.basis ≡ Some b.opening = sym is.opening ∙ of.opening in
    let same : is.basis ≡ b.opening = cc in
    subst (λ (g : GroundView). AtRest g p) same is.rest

pub pass_is : (b : Book GroundView) (p : Seen) → IsPassOf b p → AtRest b.opening p → IsPass p
pass_is b p of rest = record { basis = b.opening; opening = of.opening; rest = rest }

-- the passes that are made, one seat after another

pub new_front : (b : Book GroundView) (n k : ℕ) (items : List Seen) (x : Seen) → 0 < k → items ≡ new_passes b n k → x ≡ slice_index_or items 0 x → x ≡ new_pass b n
new_front b n zero items x lt e h = absurd (omega (arith, lt))
new_front b n (suc k) items x lt e h = h ∙ ap (λ (l : List Seen). slice_index_or l 0 x) e

pub new_rest : (b : Book GroundView) (n k m : ℕ) (items : List Seen) → k ≡ suc m → items ≡ new_passes b n k → remove items 0 ≡ new_passes b (n + 1) m
new_rest b n k m items s e = ap (λ (l : List Seen). remove l 0) (e ∙ ap (new_passes b n) s)

whole_front : (b : Book GroundView) (n k m : ℕ) (items : List Seen) (x : Seen) → k ≡ suc m → items ≡ new_passes b n k → x ≡ new_pass b n → x ∷ remove items 0 ≡ items
whole_front b n k m items x s e h = (λ i. h i ∷ new_rest b n k m items s e i) ∙ (sym (ap (new_passes b n) s) ∙ sym e)

pub new_moves : (b : Book GroundView) (n k m : ℕ) (passes passes' items all : List Seen) (x : Seen) → k ≡ suc m → items ≡ new_passes b n k → x ≡ new_pass b n → passes' ≡ passes ++ x ∷ [] → passes ++ items ≡ all → passes' ++ remove items 0 ≡ all
new_moves b n k m passes passes' items all x s e h p w =
    ap (λ (l : List Seen). l ++ remove items 0) p ∙ (append_assoc passes (x ∷ []) (remove items 0) ∙ (ap (λ (l : List Seen). passes ++ l) (whole_front b n k m items x s e h) ∙ w))

pub length_new : (b : Book GroundView) (n k : ℕ) (items : List Seen) → items ≡ new_passes b n k → length items ≡ k
length_new b n k items e = ap length e ∙ length-new_passes Submission Round b n k

-- one seat goes from the front of the passes to the end of the seats

split_first : {A : Type 0} (ps : List A) (x : A) → 0 < length ps → x ≡ get_or ps 0 x → x ∷ remove ps 0 ≡ ps
split_first [] x lt h = absurd (omega (arith, lt))
split_first {A = A} (p ∷ ps) x lt h = ap (λ (y : A). y ∷ ps) h

pub moves : {A : Type 0} (seats seats' ps ps' all : List A) (x : A) → 0 < length ps → x ≡ get_or ps 0 x → seats' ≡ seats ++ x ∷ [] → ps' ≡ remove ps 0 → seats ++ ps ≡ all → seats' ++ ps' ≡ all
moves {A = A} seats seats' ps ps' all x lt first next rest is =
    ap (λ (w : List A). w ++ ps') next ∙ (ap (λ (w : List A). (seats ++ x ∷ []) ++ w) rest ∙ (append_assoc seats (x ∷ []) (remove ps 0) ∙ (ap (λ (w : List A). seats ++ w) (split_first ps x lt first) ∙ is)))
