-- Facts about a result that is Ok.
use Rattle.std.proofs.Common.{◌≡◌, Result, Ok, Err, IfOk, OnOk, IsTrue, Bool, true, false, refl, subst, Option, None, Some, Bor, is_some, option_copied}

pub if_ok : {T E : Type 0} (P : T → Type 0) (r : Result T E) → ((t : T) → r ≡ Ok t → P t) → IfOk r P
if_ok P (Ok t) h = h t refl
if_ok P (Err e) h = tt

pub on_ok_by : {T E : Type 0} (P : Type 0) (r : Result T E) → ((t : T) → r ≡ Ok t → P) → OnOk r P
on_ok_by P (Ok t) h = h t refl
on_ok_by P (Err e) h = tt

pub of_ok : {T E : Type 0} (P : T → Type 0) (r : Result T E) (t : T) → r ≡ Ok t → IfOk r P → P t
of_ok P (Ok x) t is h = let same : x ≡ t = cc in subst P same h
of_ok P (Err e) t is h = absurd (cc)

pub same_fault : {T E : Type 0} (x y : E) → ◌≡◌ {A = Result T E} (Err x) (Err y) → x ≡ y
same_fault x y is = cc

-- a test that failed
pub refused : {P : Type 0} (r : Bool) → (P → IsTrue r) → r ≡ false → P → ⊥
refused true passes failed p = absurd (cc)
refused false passes failed p = let no : false ≡ true = passes p in cc

pub never : {P : Type 0} → IsTrue false → P
never h = absurd (cc)

-- a borrowed value that is there
pub some_copied : {T : Type 0} (o : Option (Bor T)) → is_some o ≡ is_some (option_copied o)
some_copied None = refl
some_copied (Some b) = refl
