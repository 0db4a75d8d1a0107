-- Texts that are written one after another.
use Rattle.std.proofs.Common.{◌≡◌, ℕ, List, ◌++◌, Result, Ok, Err, OnOk, ap, ◌∙◌, append_assoc}

-- what was written, by another name
pub writes : {E : Type 0} (r : Result (Unit {0}) E) (before after text whole : List ℕ) → OnOk r (after ≡ before ++ text) → text ≡ whole → OnOk r (after ≡ before ++ whole)
writes (Ok _) before after text whole wrote same = wrote ∙ ap (λ t. before ++ t) same
writes (Err _) before after text whole wrote same = tt

-- a text behind one that was written before
pub writes_behind : {E : Type 0} (r : Result (Unit {0}) E) (before between after front back whole : List ℕ) → between ≡ before ++ front → OnOk r (after ≡ between ++ back) → front ++ back ≡ whole → OnOk r (after ≡ before ++ whole)
writes_behind (Ok _) before between after front back whole first second same = second ∙ ap (λ t. t ++ back) first ∙ append_assoc before front back ∙ ap (λ t. before ++ t) same
writes_behind (Err _) before between after front back whole first second same = tt

-- a text behind two that were written before
pub writes_after_two : {E : Type 0} (r : Result (Unit {0}) E) (before one two after first second third whole : List ℕ) → one ≡ before ++ first → two ≡ one ++ second → OnOk r (after ≡ two ++ third) → first ++ (second ++ third) ≡ whole → OnOk r (after ≡ before ++ whole)
writes_after_two r before one two after first second third whole wrote more last same =
    writes_behind r before one after first (second ++ third) whole wrote (behind r last) same
  where
    behind : {E : Type 0} (r : Result (Unit {0}) E) → OnOk r (after ≡ two ++ third) → OnOk r (after ≡ one ++ (second ++ third))
    behind (Ok _) ends = ends ∙ ap (λ t. t ++ third) more ∙ append_assoc one second third
    behind (Err _) ends = tt
