-- The laws of objects.
use Rattle.std.proofs.Common.{◌≡◌, ℕ, suc, List, Option, None, Some, cond, bytes_eq, refl, sym, ap, ◌∙◌, subst, arith}
use Rattle.std.proofs.lemmas.Slice.Eq.{bytes_eq-Decides}
use Rattle.std.proofs.lemmas.Option.{cond_some, none-some, option_and_then_some}
use Rattle.serde_json.specs.Data.{Data, null, boolean, number, string, array, object, Members, no_members, member}
use Rattle.json_form.specs.Form.{Form}
use Rattle.json_form.specs.Objects.{next_named, named_of, behind, end_of, field_of, object_of, Fields}
use Rattle.json_form.proofs.FormLaws.{map_some, max_within}

next-takes : (name : List ℕ) (ms : Members) (d : Data) → next_named name ms ≡ Some d → member name d (behind ms) ≡ ms
next-takes name no_members d h = absurd (none-some _ h)
next-takes name (member k e ms) d h =
    let parts = cond_some (bytes_eq k name) e d h in
    let same : k ≡ name = (bytes_eq-Decides k name).0 parts.0 in
    ap (λ n. member n d ms) (sym same) ∙ ap (λ v. member k v ms) (sym parts.1)

next-again : (name : List ℕ) (d : Data) (ms : Members) → next_named name (member name d ms) ≡ Some d
next-again name d ms = ap (λ b. cond b (Some d) None) ((bytes_eq-Decides name name).1 refl)

end-takes : (ms : Members) (a : Unit {0}) → end_of ms ≡ Some a → (no_members ≡ ms) × Unit {0}
end-takes no_members a h = (refl, tt)
end-takes (member k d ms) a h = absurd (none-some _ h)

pub end_form : (k : ℕ) → Fields k end_of (λ _. no_members) (λ _. Unit {0})
end_form k = record { takes = end-takes; again = λ a legal. refl; plain = λ a. refl; shallow = λ a. omega arith }

field-takes : {A B : Type 0} (name : List ℕ) {k : ℕ} {f : Data → Option A} {a : A → Data} {La : A → Type 0} {rest : Members → Option B} {m : B → Members} {Lm : B → Type 0} → Form k f a La → Fields k rest m Lm
    → (ms : Members) (p : A × B) → field_of name f rest ms ≡ Some p → (member name (a p.0) (m p.1) ≡ ms) × (La p.0 × Lm p.1)
field-takes {A} {B} name {k} {f} {a} {La} {rest} {m} {Lm} one others ms p h =
    option_and_then_some _ (named_of name f ms) p h (λ x named last. option_and_then_some _ (next_named name ms) x named (λ d is found.
    let end = map_some _ (rest (behind ms)) p last in
    let first = one.takes d x found in
    let second = others.takes (behind ms) end.0 end.1 in
    let same : (x, end.0) ≡ p = end.2 in
    let json : member name (a x) (m end.0) ≡ ms = ap (λ j. member name j (m end.0)) first.0 ∙ ap (λ r. member name d r) second.0 ∙ next-takes name ms d is in
    subst (λ (r : A × B). (member name (a r.0) (m r.1) ≡ ms) × (La r.0 × Lm r.1)) same (json, (first.1, second.1))))

pub field_form : {A B : Type 0} (name : List ℕ) {k : ℕ} {f : Data → Option A} {a : A → Data} {La : A → Type 0} {rest : Members → Option B} {m : B → Members} {Lm : B → Type 0} → Form k f a La → Fields k rest m Lm
    → Fields k (field_of name f rest) (λ p. member name (a p.0) (m p.1)) (λ p. La p.0 × Lm p.1)
field_form {A} {B} name {k} {f} {a} {La} {rest} {m} {Lm} one others = record {
  takes = field-takes name one others;
  again = λ p legal. rw (next-again name (a p.0) (m p.1), one.again p.0 legal.0, others.again p.1 legal.1);
  plain = λ p. rw (one.plain p.0, others.plain p.1);
  shallow = λ p. max_within _ _ k (one.shallow p.0) (others.shallow p.1);
}

object-takes : {A : Type 0} {k : ℕ} {read : Members → Option A} {m : A → Members} {L : A → Type 0} → Fields k read m L → (d : Data) (a : A) → object_of read d ≡ Some a → (object (m a) ≡ d) × L a
object-takes fields null a h = absurd (none-some _ h)
object-takes fields (boolean b) a h = absurd (none-some _ h)
object-takes fields (number n) a h = absurd (none-some _ h)
object-takes fields (string s) a h = absurd (none-some _ h)
object-takes fields (array ds) a h = absurd (none-some _ h)
object-takes fields (object ms) a h = let t = fields.takes ms a h in (ap object t.0, t.1)

pub object_form : {A : Type 0} {k : ℕ} {read : Members → Option A} {m : A → Members} {L : A → Type 0} → Fields k read m L → Form (suc k) (object_of read) (λ a. object (m a)) L
object_form {A} {k} {read} {m} {L} fields = record {
  takes = object-takes fields;
  again = λ a legal. fields.again a legal;
  plain = λ a. fields.plain a;
  shallow = λ a. let h = fields.shallow a in omega (arith, h);
}
