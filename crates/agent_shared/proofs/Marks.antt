-- Which observers are sure.
use Rattle.std.proofs.Common.{◌≡◌, inl, inr, ◌==◌, Bool, true, false, List, [], ◌∷◌, refl, ap, if◌then◌else◌}
use Rattle.observers.specs.Turns.{WasTold}
use Rattle.observers.specs.Watch.{Watch}
use Rattle.std.specs.List.{AllZip}
use Rattle.switch_state.specs.StateView.{StateView}
use Rattle.agent_shared.specs.Views.{marked, marks_of, sure_of}

mark_back : (b : Bool) → ((if b then 1 else 0) == 1) ≡ b
mark_back true = refl
mark_back false = refl

-- they are read back from the marks
pub marks_back : (watches : List Watch) → marked (marks_of watches) ≡ sure_of watches
marks_back [] = refl
marks_back (w ∷ ws) = λ i. mark_back w.sure i ∷ marks_back ws i

told_sure : (s : StateView) (w v : Watch) → WasTold s w v → v.sure ≡ w.sure
told_sure s w v (inl new) = ap (λ (x : Watch). x.sure) new
told_sure s w v (inr old) = ap (λ (x : Watch). x.sure) old.1

-- observers that were told are as sure as before
pub told_sures : (s : StateView) (xs ys : List Watch) → AllZip (WasTold s) xs ys → sure_of ys ≡ sure_of xs
told_sures s [] [] told = refl
told_sures s [] (y ∷ ys) told = absurd told
told_sures s (x ∷ xs) [] told = absurd told
told_sures s (x ∷ xs) (y ∷ ys) told = λ i. told_sure s x y told.0 i ∷ told_sures s xs ys told.1 i
