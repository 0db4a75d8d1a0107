-- Cases of a test, and of what a look-up found.
use Rattle.std.proofs.Common.{◌≡◌, Bool, true, false, Option, None, Some, IsSome, refl}
use Rattle.std.specs.Option.{option_map, is_some, is_none}

pub by_bool : {G : Type 0} (b : Bool) → (b ≡ true → G) → (b ≡ false → G) → G
by_bool true f g = f refl
by_bool false f g = g refl

pub some_is : {V : Type 0} {v w : V} → Some v ≡ Some w → v ≡ w
some_is h = cc

pub none_some : {V : Type 0} {v : V} → None ≡ Some v → ⊥
none_some h = cc

pub some_none : {V : Type 0} {v : V} → Some v ≡ None → ⊥
some_none h = cc

pub some_there : {V : Type 0} (o : Option V) (v : V) → o ≡ Some v → IsSome o
some_there o v is = rw is refl

-- a look-up that finds something finds a value
pub found : {V : Type 0} (o : Option V) → is_none o ≡ false → (v : V) × (o ≡ Some v)
found None h = absurd (cc)
found (Some v) h = (v, refl)

pub not_none : {V : Type 0} (o : Option V) (v : V) → o ≡ Some v → is_none o ≡ false
not_none o v h = rw h refl

pub is_nothing : {V : Type 0} (o : Option V) → is_some o ≡ false → o ≡ None
is_nothing None h = refl
is_nothing (Some v) h = absurd (cc)

-- where f was done to what was found
pub mapped : {V W : Type 0} (f : V → W) (o : Option V) (w : W) → option_map f o ≡ Some w → (v : V) × ((o ≡ Some v) × (f v ≡ w))
mapped f None w h = absurd (cc)
mapped f (Some v) w h = (v, (refl, some_is h))
