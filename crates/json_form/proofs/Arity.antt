-- Lists that aren't so long.
use Rattle.std.proofs.Common.{◌≡◌, List, [], ◌∷◌, length, None, Some, refl, ap, arith}
use Rattle.std.proofs.Common.{sym, ◌∙◌}
use Rattle.std.proofs.lemmas.Option.{none-some, same_Some}
use Rattle.serde_json.specs.Data.{Data, Items, no_items, item}
use Rattle.serde_json.specs.View.{items_view, view}
use Rattle.serde_json.specs.declared.value.Value.{Value}
use Rattle.json_form.specs.Arrays.{one_item, two_items, three_items, four_items, five_items}

pub one_none : (vs : List Value) → (length vs ≡ 1 → ⊥) → one_item (items_view vs) ≡ None
one_none [] h = refl
one_none (a ∷ []) h = absurd (h (omega arith))
one_none (a ∷ b ∷ rest) h = refl

pub two_none : (vs : List Value) → (length vs ≡ 2 → ⊥) → two_items (items_view vs) ≡ None
two_none [] h = refl
two_none (a ∷ []) h = refl
two_none (a ∷ b ∷ []) h = absurd (h (omega arith))
two_none (a ∷ b ∷ c ∷ rest) h = refl

pub three_none : (vs : List Value) → (length vs ≡ 3 → ⊥) → three_items (items_view vs) ≡ None
three_none [] h = refl
three_none (a ∷ []) h = refl
three_none (a ∷ b ∷ []) h = refl
three_none (a ∷ b ∷ c ∷ []) h = absurd (h (omega arith))
three_none (a ∷ b ∷ c ∷ d ∷ rest) h = refl

pub four_none : (vs : List Value) → (length vs ≡ 4 → ⊥) → four_items (items_view vs) ≡ None
four_none [] h = refl
four_none (a ∷ []) h = refl
four_none (a ∷ b ∷ []) h = refl
four_none (a ∷ b ∷ c ∷ []) h = refl
four_none (a ∷ b ∷ c ∷ d ∷ []) h = absurd (h (omega arith))
four_none (a ∷ b ∷ c ∷ d ∷ e ∷ rest) h = refl

pub five_none : (vs : List Value) → (length vs ≡ 5 → ⊥) → five_items (items_view vs) ≡ None
five_none [] h = refl
five_none (a ∷ []) h = refl
five_none (a ∷ b ∷ []) h = refl
five_none (a ∷ b ∷ c ∷ []) h = refl
five_none (a ∷ b ∷ c ∷ d ∷ []) h = refl
five_none (a ∷ b ∷ c ∷ d ∷ e ∷ []) h = absurd (h (omega arith))
five_none (a ∷ b ∷ c ∷ d ∷ e ∷ f ∷ rest) h = refl

five_more : (a : Data) (is : Items) (p : Data × Data × Data × Data) → four_items is ≡ Some p → five_items (item a is) ≡ Some (a, p.0, p.1, p.2, p.3)
five_more a no_items p h = absurd (none-some _ h)
five_more a (item b no_items) p h = absurd (none-some _ h)
five_more a (item b (item c no_items)) p h = absurd (none-some _ h)
five_more a (item b (item c (item d no_items))) p h = absurd (none-some _ h)
five_more a (item b (item c (item d (item e no_items)))) p h = ap (λ q. Some (a, q.0, q.1, q.2, q.3)) (same_Some _ _ h)
five_more a (item b (item c (item d (item e (item f more))))) p h = absurd (none-some _ h)

pub five_found : (vs rest : List Value) (v : Value) (b c d e : Data) → vs ≡ v ∷ rest → Some (b, c, d, e) ≡ four_items (items_view rest) → five_items (items_view vs) ≡ Some (view v, b, c, d, e)
five_found vs rest v b c d e is h = ap (λ w. five_items (items_view w)) is ∙ five_more (view v) (items_view rest) (b, c, d, e) (sym h)
