-- What puts and removals of routes do to births.
use Rattle.std.proofs.Common.{◌≡◌, ℕ, Option, None, Some, Result, Ok, Err, refl, sym, ap, ◌∙◌, subst, inl, inr}
use Rattle.std.specs.Result.{OnOk, OnErr}
use Rattle.std.specs.Ordering.{nat_cmp}
use Rattle.keyed.specs.Keyed.{at, put, Ascends}
use Rattle.keyed.specs.KeyOrders.{nat_order}
use Rattle.keyed.specs.KeyedLaws.{decide, at-put, at-put_other, at-without, at-without_other}
use Rattle.node_core.specs.Node.{NodeView}
use Rattle.node_map.specs.Map.{MapView}
use Rattle.switch_state.specs.Edit.{EditView, IsCut, IsPut}
use Rattle.switch_state.specs.StateView.{StateView}
use Rattle.state_update.specs.Births.{SameBirths}
use Rattle.state_update.specs.Sync.{BornAs, Loses, Renews}
use Rattle.state_update.proofs.Keeping.{stored_born}

born_still : {T : Type 0} (found : Option (NodeView T)) → BornAs found found
born_still found was is = (was, is, refl)

pub renews_still : {T : Type 0} (Is : ℕ → Type 0) (m : MapView T) → Renews Is m m
renews_still Is m = record { each = λ key. inl refl }

pub loses_still : {T : Type 0} (Is : ℕ → Type 0) (m : MapView T) → Loses Is m m
loses_still Is m = record { each = λ key. inl refl }

put_renews : {T : Type 0} (version number : ℕ) (value : T) (old new : MapView T) → IsPut version number value old new → Renews (λ n. number ≡ n) old new
put_renews {T} version number value old new put_is =
    let node : NodeView T = put_is.entries.0 in
    let entries : new.entries ≡ put nat_cmp number node old.entries = put_is.entries.2 in
    record {
      each = λ k. elim (decide nat_cmp nat_order k number) [
        | inl same ↦
            let here : at nat_cmp number new.entries ≡ Some node = ap (at nat_cmp number) entries ∙ at-put nat_cmp nat_order number node old.entries in
            let born : BornAs (at nat_cmp number old.entries) (at nat_cmp number new.entries) = λ was is. (node, here, stored_born version value (at nat_cmp number old.entries) was node is put_is.entries.1) in
            inr (sym same, subst (λ (n : ℕ). BornAs (at nat_cmp n old.entries) (at nat_cmp n new.entries)) (sym same) born)
        | inr other ↦ inl (ap (at nat_cmp k) entries ∙ at-put_other nat_cmp nat_order k number node old.entries other)
      ];
    }

cut_loses : {T : Type 0} (version number : ℕ) (old new : MapView T) → Ascends nat_cmp old.entries → IsCut version number old new → Loses (λ n. number ≡ n) old new
cut_loses version number old new ascends cut_is =
    record {
      each = λ k. elim (decide nat_cmp nat_order k number) [
        | inl same ↦
            let here : at nat_cmp number new.entries ≡ None = ap (at nat_cmp number) cut_is.entries ∙ at-without nat_cmp nat_order number old.entries ascends in
            inr (ap (λ (n : ℕ). at nat_cmp n new.entries) same ∙ here, sym same)
        | inr other ↦ inl (ap (at nat_cmp k) cut_is.entries ∙ at-without_other nat_cmp nat_order k number old.entries ascends other)
      ];
    }

-- the same where memory may have been refused
pub put_or_renews : {E T : Type 0} (part : StateView → MapView T) (version number : ℕ) (value : T) (old new : EditView) (r : Result (Unit {0}) E) → OnOk r (IsPut version number value (part old.state) (part new.state)) → OnErr r (new ≡ old) → Renews (λ n. number ≡ n) (part old.state) (part new.state)
put_or_renews part version number value old new (Ok x) put_is same = put_renews version number value (part old.state) (part new.state) put_is
put_or_renews part version number value old new (Err e) put_is same = subst (λ (x : EditView). Renews (λ n. number ≡ n) (part old.state) (part x.state)) (sym same) (renews_still (λ n. number ≡ n) (part old.state))

pub cut_or_loses : {E T : Type 0} (part : StateView → MapView T) (version number : ℕ) (old new : EditView) (r : Result (Unit {0}) E) → Ascends nat_cmp (part old.state).entries → OnOk r (IsCut version number (part old.state) (part new.state)) → OnErr r (new ≡ old) → Loses (λ n. number ≡ n) (part old.state) (part new.state)
cut_or_loses part version number old new (Ok x) ascends cut_is same = cut_loses version number (part old.state) (part new.state) ascends cut_is
cut_or_loses part version number old new (Err e) ascends cut_is same = subst (λ (x : EditView). Loses (λ n. number ≡ n) (part old.state) (part x.state)) (sym same) (loses_still (λ n. number ≡ n) (part old.state))

-- one step more, among keys of a kind
pub renews_more : {T : Type 0} {Is Step : ℕ → Type 0} {old mid new : MapView T} → ((k : ℕ) → Step k → Is k) → Renews Is old mid → Renews Step mid new → Renews Is old new
renews_more {T} {Is} {Step} {old} {mid} {new} weaker first second = record {
  each = λ k. elim (second.each k) [
    | inl same ↦ elim (first.each k) [
      | inl kept ↦ inl (same ∙ kept)
      | inr one ↦ inr (one.0, subst (λ (o : Option (NodeView T)). BornAs (at nat_cmp k old.entries) o) (sym same) one.1)
    ]
    | inr step ↦ elim (first.each k) [
      | inl kept ↦ inr (weaker k step.0, subst (λ (o : Option (NodeView T)). BornAs o (at nat_cmp k new.entries)) kept step.1)
      | inr one ↦ inr (one.0, λ was is. let mid_is = one.1 was is in let new_is = step.1 mid_is.0 mid_is.1 in (new_is.0, new_is.1, new_is.2 ∙ mid_is.2))
    ]
  ];
}

pub loses_more : {T : Type 0} {Is Step : ℕ → Type 0} {old mid new : MapView T} → ((k : ℕ) → Step k → Is k) → Loses Is old mid → Loses Step mid new → Loses Is old new
loses_more weaker first second = record {
  each = λ k. elim (second.each k) [
    | inl same ↦ elim (first.each k) [
      | inl kept ↦ inl (same ∙ kept)
      | inr one ↦ inr (same ∙ one.0, one.1)
    ]
    | inr step ↦ inr (step.0, weaker k step.1)
  ];
}

-- a key that stands before and after has one birth
pub renewed_births : {T : Type 0} {Is : ℕ → Type 0} {old new : MapView T} → Renews Is old new → SameBirths old new
renewed_births {T} {Is} {old} {new} renews k was is a b = elim (renews.each k) [
  | inl same ↦ let one : is ≡ was = cc in ap (λ n. n.born) one
  | inr step ↦ let after = step.1 was a in let there : at nat_cmp k new.entries ≡ Some after.0 = after.1 in let one : is ≡ after.0 = cc in ap (λ n. n.born) one ∙ after.2
]

pub lost_births : {T : Type 0} {Is : ℕ → Type 0} {old new : MapView T} → Loses Is old new → SameBirths old new
lost_births {T} {Is} {old} {new} loses k was is a b = elim (loses.each k) [
  | inl same ↦ let one : is ≡ was = cc in ap (λ n. n.born) one
  | inr gone ↦ let none : at nat_cmp k new.entries ≡ None = gone.0 in absurd (cc)
]

-- what is lost isn't renewed afterwards
pub lost_and_renewed : {T : Type 0} {Lost Is : ℕ → Type 0} {old mid new : MapView T} → ((k : ℕ) → Lost k → Is k → ⊥) → Loses Lost old mid → Renews Is mid new → SameBirths old new
lost_and_renewed {T} {Lost} {Is} {old} {mid} {new} apart loses renews k was is a b = elim (loses.each k) [
  | inl kept ↦ renewed_births renews k was is (kept ∙ a) b
  | inr gone ↦ elim (renews.each k) [
    | inl same ↦ let none : at nat_cmp k new.entries ≡ None = same ∙ gone.0 in absurd (cc)
    | inr step ↦ absurd (apart k gone.1 step.0)
  ]
]
