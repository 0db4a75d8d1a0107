-- What is said of the value of an Ok.
use Rattle.std.proofs.Common.{◌≡◌, Option, Result, Ok, Err, sym, ap, ◌∙◌, subst}
use Rattle.std.specs.Option.{IfSome}
use Rattle.std.specs.Result.{IfOk, OnErr, OnOk, result_err}
use Rattle.net_types.specs.Capacity.{over}
use Rattle.net_types.specs.declared.table.Caps.{Caps}
use Rattle.net_types.specs.declared.table.Table.{Table}
use Rattle.net_types.specs.declared.table.Tables.{Tables}
use Rattle.chip_core.specs.Changes.{changed_rows}
use Rattle.chip_core.specs.Chip.{view_of}
use Rattle.chip_core.specs.declared.changes.RowChanges.{RowChanges}
use Rattle.hw_undo_check.specs.Samples.{MayCommit}
use Rattle.hw_undo_check.specs.declared.cases.Case.{Case}

pub both_parts : {E : Type 0} (r : Result Case E) (tables : Tables) (changes : RowChanges) → IfOk r (λ c. c.tables ≡ tables) → IfOk r (λ c. c.changes ≡ changes) → IfOk r (λ c. c ≡ record { tables = tables; changes = changes })
both_parts (Ok c) tables changes a b = λ i. record { tables = a i; changes = b i }
both_parts (Err e) tables changes a b = tt

pub such_parts : {E : Type 0} (r : Result Case E) (tables : Tables) (changes : RowChanges) → IfOk r (λ c. c.tables ≡ tables) → IfOk r (λ c. c.changes ≡ changes) → MayCommit tables changes → IfOk r (λ c. MayCommit c.tables c.changes)
such_parts (Ok c) tables changes a b may = subst (λ (t : Tables). MayCommit t c.changes) (sym a) (subst (λ (x : RowChanges). MayCommit tables x) (sym b) may)
such_parts (Err e) tables changes a b may = tt

-- what is said of a refusal, and of an answer
pub refused : {A E P Q : Type 0} (r : Result A E) → OnErr r P → (P → Q) → IfSome (result_err r) (λ e. Q)
refused (Ok x) p f = tt
refused (Err e) p f = f p

pub answered : {A E P Q : Type 0} (r : Result A E) → OnOk r P → (P → Q) → OnOk r Q
answered (Ok x) p f = f p
answered (Err e) p f = tt

pub err_as : {A E : Type 0} (answer : Result A E) (raw tables now : Tables) → now ≡ raw → IfSome (result_err answer) (λ e. raw ≡ tables) → IfSome (result_err answer) (λ e. now ≡ tables)
err_as (Ok x) raw tables now copied same = tt
err_as (Err e) raw tables now copied same = copied ∙ same

pub first_as : (answer : Option Table) (changes : RowChanges) (raw tables : Tables) (now caps : Caps) → raw ≡ tables → now ≡ caps → answer ≡ over (changed_rows changes (view_of raw)) now → answer ≡ over (changed_rows changes (view_of tables)) caps
first_as answer changes raw tables now caps same_raw same_caps is =
    is ∙ ap (λ (t : Tables). over (changed_rows changes (view_of t)) now) same_raw ∙ ap (λ (k : Caps). over (changed_rows changes (view_of tables)) k) same_caps
