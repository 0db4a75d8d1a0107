-- Cases, and what follows from clauses on results.
use Rattle.std.proofs.Common.{◌≡◌, Bool, true, false, Option, None, Some, Result, Ok, Err, refl, ◌∙◌}
use Rattle.std.specs.Result.{IfOk, IsErr, OnOk}

pub by_bool : {G : Type 0} (b : Bool) → (b ≡ true → G) → (b ≡ false → G) → G
by_bool true f g = f refl
by_bool false f g = g refl

pub by_option : {V G : Type 0} (o : Option V) → (o ≡ None → G) → ((v : V) → o ≡ Some v → G) → G
by_option None f g = f refl
by_option (Some v) f g = g v refl

-- an equation that holds where a call succeeds, with another right side
pub on_ok : {T E A : Type 0} (r : Result T E) (a b c : A) → OnOk r (a ≡ b) → b ≡ c → OnOk r (a ≡ c)
on_ok (Ok x) a b c first second = first ∙ second
on_ok (Err e) a b c first second = first

-- the same of what is read of the result
pub if_ok : {T E A : Type 0} (r : Result T E) (f : T → A) (a b : A) → IfOk r (λ v. f v ≡ a) → a ≡ b → IfOk r (λ v. f v ≡ b)
if_ok (Ok x) f a b first second = first ∙ second
if_ok (Err e) f a b first second = first

-- a fact that holds anyhow
pub at_any : {T E P : Type 0} (r : Result T E) → P → OnOk r P
at_any (Ok x) p = p
at_any (Err e) p = tt

-- an error has no value
pub no_value : {T E : Type 0} (r : Result T E) (P : T → Type 0) → IsErr r → IfOk r P
no_value (Ok x) P h = absurd (cc)
no_value (Err e) P h = tt
