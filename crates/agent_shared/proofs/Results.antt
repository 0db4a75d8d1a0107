-- What is said of a result, from what is known of it.
use Rattle.std.proofs.Common.{Ok, Err, IfOk, OnErr, OnOk}
use Rattle.std.specs.declared.result.Result.{Result}

pub on_ok_so : {T E : Type 0} {P Q : Type 0} (r : Result T E) → (P → Q) → OnOk r P → OnOk r Q
on_ok_so (Ok x) f h = f h
on_ok_so (Err e) f h = tt

pub if_ok_so : {T E : Type 0} (Q R : T → Type 0) (r : Result T E) → ((x : T) → Q x → R x) → IfOk r Q → IfOk r R
if_ok_so Q R (Ok x) f h = f x h
if_ok_so Q R (Err e) f h = tt

pub if_ok_both : {T E : Type 0} {P : Type 0} (Q R : T → Type 0) (r : Result T E) → ((x : T) → P → Q x → R x) → OnOk r P → IfOk r Q → IfOk r R
if_ok_both Q R (Ok x) f h k = f x h k
if_ok_both Q R (Err e) f h k = tt

pub on_err_both : {T E : Type 0} {P Q R : Type 0} (r : Result T E) → (P → Q → R) → OnErr r P → OnErr r Q → OnErr r R
on_err_both (Ok x) f h k = tt
on_err_both (Err e) f h k = f h k

-- at the exit of a refusal
pub on_err : {T E : Type 0} {P : Type 0} (r : Result T E) → P → OnErr r P
on_err (Ok x) p = tt
on_err (Err e) p = p
