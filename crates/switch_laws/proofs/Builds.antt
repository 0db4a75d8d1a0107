-- Acts that build a state from another, and a part that is built entry by entry.
use Rattle.std.proofs.Common.{◌≡◌, ◌+◌, ◌++◌, ℕ, List, [], ◌∷◌, Option, None, Some, Result, Ok, Err, refl, sym, ap, ◌∙◌, map}
use Rattle.std.specs.List.{flat_map}
use Rattle.std.proofs.lemmas.List.{append_assoc, append-nil}
use Rattle.keyed.specs.Tests.{NoneHolds}
use Rattle.switch_model.specs.declared.act.Act.{Act}
use Rattle.switch_model.specs.declared.verdict.Reason.{Reason}
use Rattle.switch_model.specs.Effect.{effect}
use Rattle.switch_model.specs.PlainState.{PlainState}
use Rattle.switch_model.specs.Reason.{reasons, reason_of_act}
use Rattle.switch_model.specs.Built.{laid, placed}
use Rattle.switch_laws.proofs.TestLaws.{holds_none}

-- the acts in turn lead from the one to the other, with no reason against any, whatever places they are given
pub record Builds (m : PlainState) (acts : List Act) (n : PlainState) : Type 0 where
  pub built_is : (place : ℕ) → laid m (placed place acts) ≡ Ok n

pub builds_nothing : (m : PlainState) → Builds m [] m
builds_nothing m = record { built_is = λ place. refl }

pub builds_one : (m : PlainState) (act : Act) → NoneHolds (reasons m act) → Builds m (act ∷ []) (effect m act)
builds_one m act none = record { built_is = λ place. rw (holds_none (reasons m act) none) refl }

abbrev Laid : Type 0
Laid = Result PlainState (ℕ × Reason)

pub ok_is : {m n : PlainState} → (let one : Laid = Ok m in one) ≡ Ok n → m ≡ n
ok_is h = cc

err_ok : {x : ℕ × Reason} {n : PlainState} → (let none : Laid = Err x in none) ≡ Ok n → ⊥
err_ok h = cc

-- the first act, and those after it
pub first_act : (m n : PlainState) (x : ℕ × Act) (xs : List (ℕ × Act)) → laid m (x ∷ xs) ≡ Ok n → (reason_of_act m x.1 ≡ None) × (laid (effect m x.1) xs ≡ Ok n)
first_act m n x xs h = cases (reason_of_act m x.1) refl
  where
    cases : (o : Option Reason) → reason_of_act m x.1 ≡ o → (reason_of_act m x.1 ≡ None) × (laid (effect m x.1) xs ≡ Ok n)
    cases None is = (is, rw is at h)
    cases (Some r) is = absurd (err_ok (rw is at h))

joined : (m n o : PlainState) (xs ys : List Act) (place : ℕ) → laid m (placed place xs) ≡ Ok n → ((k : ℕ) → laid n (placed k ys) ≡ Ok o) → laid m (placed place (xs ++ ys)) ≡ Ok o
joined m n o [] ys place h rest = ap (λ (s : PlainState). laid s (placed place ys)) (ok_is h) ∙ rest place
joined m n o (act ∷ xs) ys place h rest = let parts = first_act m n (place, act) (placed (place + 1) xs) h in rw parts.0 (joined (effect m act) n o xs ys (place + 1) parts.1 rest)

pub builds_then : (m n o : PlainState) (xs ys : List Act) → Builds m xs n → Builds n ys o → Builds m (xs ++ ys) o
builds_then m n o xs ys first rest = record { built_is = λ place. joined m n o xs ys place (first.built_is place) rest.built_is }

pub builds_as : (m n o : PlainState) (acts : List Act) → n ≡ o → Builds m acts n → Builds m acts o
builds_as m n o acts same first = record { built_is = λ place. first.built_is place ∙ ap Ok same }

builds_at : (m n : PlainState) → m ≡ n → Builds m [] n
builds_at m n same = builds_as m m n [] same (builds_nothing m)

module _ {E : Type 0} (whole : List E) where
  after_one : (front : List E) (e : E) (es : List E) → front ++ (e ∷ es) ≡ whole → front ++ (e ∷ []) ++ es ≡ whole
  after_one front e es is = append_assoc front (e ∷ []) es ∙ is

  -- entry by entry: each entry's acts lead from the state with a front of the part to the state with one entry more
  module _ (acts : E → List Act) (state : List E → List E → PlainState) where
    pub each_builds : ((front : List E) (e : E) (back : List E) → front ++ (e ∷ back) ≡ whole → Builds (state front (e ∷ back)) (acts e) (state (front ++ (e ∷ [])) back))
        → (front back : List E) → front ++ back ≡ whole → Builds (state front back) (flat_map acts back) (state whole [])
    each_builds step front [] is = builds_at (state front []) (state whole []) (ap (λ (l : List E). state l []) (sym (append-nil front) ∙ is))
    each_builds step front (e ∷ es) is =
        builds_then (state front (e ∷ es)) (state (front ++ (e ∷ [])) es) (state whole []) (acts e) (flat_map acts es)
        (step front e es is)
        (each_builds step (front ++ (e ∷ [])) es (after_one front e es is))

  -- the same with one act an entry
  module _ (act : E → Act) (state : List E → List E → PlainState) where
    pub each_one : ((front : List E) (e : E) (back : List E) → front ++ (e ∷ back) ≡ whole → Builds (state front (e ∷ back)) (act e ∷ []) (state (front ++ (e ∷ [])) back))
        → (front back : List E) → front ++ back ≡ whole → Builds (state front back) (map act back) (state whole [])
    each_one step front [] is = builds_at (state front []) (state whole []) (ap (λ (l : List E). state l []) (sym (append-nil front) ∙ is))
    each_one step front (e ∷ es) is =
        builds_then (state front (e ∷ es)) (state (front ++ (e ∷ [])) es) (state whole []) (act e ∷ []) (map act es)
        (step front e es is)
        (each_one step (front ++ (e ∷ [])) es (after_one front e es is))
