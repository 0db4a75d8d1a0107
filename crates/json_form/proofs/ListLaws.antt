-- The laws of lists of a form.
use Rattle.std.proofs.Common.{◌≡◌, ℕ, suc, ◌≤◌, List, [], ◌∷◌, ◌++◌, Option, Some, true, false, refl, sym, ap, ◌∙◌, subst, append_assoc, arith}
use Rattle.std.specs.Prelude.{map, option_and_then}
use Rattle.std.specs.List.{AllByRecursion}
use Rattle.std.specs.Ordering.{is_lt}
use Rattle.std.specs.declared.cmp.Ordering.{Ordering}
use Rattle.std.specs.declared.cmp.Ordering.TheVariants.{Less, Equal, Greater}
use Rattle.std.proofs.lemmas.Bool.{true≢false}
use Rattle.std.proofs.lemmas.List.{append-nil}
use Rattle.std.proofs.lemmas.Option.{cond_some, none-some, option_and_then_some, same_Some}
use Rattle.serde_json.specs.Data.{Data, null, boolean, number, string, array, object, Items, no_items, item, depth, items_depth}
use Rattle.serde_json.specs.View.{items_of}
use Rattle.serde_json.specs.Written.{has_float, items_have_float}
use Rattle.json_form.specs.Form.{Form}
use Rattle.json_form.specs.Lists.{Ascends, added, all_added, comes_last, list_of, rows_json, rows_of}
use Rattle.json_form.proofs.FormLaws.{max_within}
use Rattle.json_form.proofs.ReadLists.{listed}

is_less : (o : Ordering) → is_lt o ≡ true → o ≡ Less
is_less Less h = refl
is_less Equal h = absurd (true≢false (sym h))
is_less Greater h = absurd (true≢false (sym h))

-- a row that comes last keeps the order
ascends_on : {A : Type 0} (cmp : A → A → Ordering) (rows : List A) (row : A) → Ascends cmp rows → comes_last cmp rows row ≡ true → Ascends cmp (rows ++ row ∷ [])
ascends_on cmp [] row up h = tt
ascends_on cmp (x ∷ []) row up h = (is_less _ h, tt)
ascends_on cmp (x ∷ y ∷ rest) row up h = (up.0, ascends_on cmp (y ∷ rest) row up.1 h)

-- each row of an ascending list comes last behind those before it
comes_there : {A : Type 0} (cmp : A → A → Ordering) (rows : List A) (row : A) (more : List A) → Ascends cmp (rows ++ row ∷ more) → comes_last cmp rows row ≡ true
comes_there cmp [] row more up = refl
comes_there cmp (x ∷ []) row more up = ap is_lt up.0
comes_there cmp (x ∷ y ∷ rest) row more up = comes_there cmp (y ∷ rest) row more up.1

-- what is added behind the rows
record Adds {A : Type 0} (json_of : A → Data) (Legal : A → Type 0) (cmp : A → A → Ordering) (rows : List A) (ds : List Data) (all : List A) : Type 0 where
  pub more : List A
  pub whole : all ≡ rows ++ more
  pub json : map json_of more ≡ ds
  pub legal : AllByRecursion Legal more
  pub up : Ascends cmp rows → Ascends cmp all

adds : {A : Type 0} {k : ℕ} {row_of : Data → Option A} {json_of : A → Data} {Legal : A → Type 0} → Form k row_of json_of Legal → (cmp : A → A → Ordering) (rows : List A) (ds : List Data) (all : List A) → all_added row_of cmp rows ds ≡ Some all → Adds json_of Legal cmp rows ds all
adds {A} {k} {row_of} {json_of} {Legal} form cmp rows [] all h =
    let same : rows ≡ all = same_Some _ _ h in
    record { more = []; whole = sym same ∙ sym (append-nil rows); json = refl; legal = tt; up = λ u. subst (Ascends cmp) same u }
adds {A} {k} {row_of} {json_of} {Legal} form cmp rows (d ∷ ds) all h =
    option_and_then_some _ (added row_of cmp rows d) all h (λ next is rest. option_and_then_some _ (row_of d) next is (λ row found last.
    let parts = cond_some (comes_last cmp rows row) (rows ++ row ∷ []) next last in
    let later = adds form cmp next ds all rest in
    let one = form.takes d row found in
    record {
      more = row ∷ later.more;
      whole = later.whole ∙ ap (λ r. r ++ later.more) (sym parts.1) ∙ append_assoc rows (row ∷ []) later.more;
      json = ap (λ j. j ∷ map json_of later.more) one.0 ∙ ap (λ js. d ∷ js) later.json;
      legal = (one.1, later.legal);
      up = λ u. later.up (subst (Ascends cmp) parts.1 (ascends_on cmp rows row u parts.0));
    }))

-- an ascending list of legal rows is added
added_again : {A : Type 0} {k : ℕ} {row_of : Data → Option A} {json_of : A → Data} {Legal : A → Type 0} → Form k row_of json_of Legal → (cmp : A → A → Ordering) (rows more : List A) → Ascends cmp (rows ++ more) → AllByRecursion Legal more → all_added row_of cmp rows (map json_of more) ≡ Some (rows ++ more)
added_again {A} {k} {row_of} {json_of} {Legal} form cmp rows [] up legal = ap Some (sym (append-nil rows))
added_again {A} {k} {row_of} {json_of} {Legal} form cmp rows (row ∷ more) up legal =
    let whole : (rows ++ row ∷ []) ++ more ≡ rows ++ row ∷ more = append_assoc rows (row ∷ []) more in
    let one : added row_of cmp rows (json_of row) ≡ Some (rows ++ row ∷ []) = rw (form.again row legal.0, comes_there cmp rows row more up) in
    ap (λ o. option_and_then (λ m. all_added row_of cmp m (map json_of more)) o) one
    ∙ added_again form cmp (rows ++ row ∷ []) more (subst (Ascends cmp) (sym whole) up) legal.1
    ∙ ap Some whole

relisted : (is : Items) → items_of (list_of is) ≡ is
relisted no_items = refl
relisted (item d ds) = ap (item d) (relisted ds)

rows-takes : {A : Type 0} {k : ℕ} {row_of : Data → Option A} {json_of : A → Data} {Legal : A → Type 0} → Form k row_of json_of Legal → (cmp : A → A → Ordering) (d : Data) (rows : List A) → rows_of row_of cmp d ≡ Some rows → (rows_json json_of rows ≡ d) × (Ascends cmp rows × AllByRecursion Legal rows)
rows-takes form cmp null rows h = absurd (none-some _ h)
rows-takes form cmp (boolean b) rows h = absurd (none-some _ h)
rows-takes form cmp (number n) rows h = absurd (none-some _ h)
rows-takes form cmp (string s) rows h = absurd (none-some _ h)
rows-takes form cmp (object ms) rows h = absurd (none-some _ h)
rows-takes {A} {k} {row_of} {json_of} {Legal} form cmp (array is) rows h =
    let a = adds form cmp [] (list_of is) rows h in
    (ap array (ap (λ r. items_of (map json_of r)) a.whole ∙ ap items_of a.json ∙ relisted is), (a.up tt, subst (AllByRecursion Legal) (sym a.whole) a.legal))

items-plain : {A : Type 0} (json_of : A → Data) → ((a : A) → has_float (json_of a) ≡ false) → (rows : List A) → items_have_float (items_of (map json_of rows)) ≡ false
items-plain json_of plain [] = refl
items-plain json_of plain (row ∷ rows) = rw (plain row, items-plain json_of plain rows)

items-shallow : {A : Type 0} (k : ℕ) (json_of : A → Data) → ((a : A) → depth (json_of a) ≤ k) → (rows : List A) → items_depth (items_of (map json_of rows)) ≤ k
items-shallow k json_of shallow [] = omega arith
items-shallow k json_of shallow (row ∷ rows) = let h = shallow row in let l = items-shallow k json_of shallow rows in max_within _ _ k h l

pub rows_form : {A : Type 0} {k : ℕ} {row_of : Data → Option A} {json_of : A → Data} {Legal : A → Type 0} → Form k row_of json_of Legal → (cmp : A → A → Ordering) → Form (suc k) (rows_of row_of cmp) (rows_json json_of) (λ rows. Ascends cmp rows × AllByRecursion Legal rows)
rows_form {A} {k} {row_of} {json_of} {Legal} form cmp = record {
  takes = rows-takes form cmp;
  again = λ rows legal. ap (all_added row_of cmp []) (listed (map json_of rows)) ∙ added_again form cmp [] rows legal.0 legal.1;
  plain = λ rows. items-plain json_of form.plain rows;
  shallow = λ rows. let h = items-shallow k json_of form.shallow rows in omega (arith, h);
}
