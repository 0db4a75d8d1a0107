-- Entries of a map that are written one by one.
use Rattle.std.proofs.Common.{◌≡◌, ℕ, List, [], ◌∷◌, ◌++◌, All, map, sym, ap, ◌∙◌, subst, append_assoc, append-nil}
use Rattle.std.specs.List.{AllByRecursion}
use Rattle.std.proofs.lemmas.List.{map-append}
use Rattle.std.proofs.lemmas.List.Elements.{All-head, All-tail}
use Rattle.serde_json.specs.Data.{Data, array}
use Rattle.serde_json.specs.View.{items_of, view}
use Rattle.serde_json.specs.declared.value.Value.{Value}
use Rattle.json_form.specs.Lists.{rows_json}
use Rattle.node_core.specs.Node.{NodeView}
use Rattle.node_map.specs.TreeNode.{Entries}
use Rattle.state_scan.specs.Listed.{listed}
use Rattle.saved_state.proofs.Rows.{by_each, each_and}

pub pushed : (items after : List Value) (v : Value) (d : Data) → after ≡ items ++ v ∷ [] → view v ≡ d → map view after ≡ map view items ++ d ∷ []
pushed items after v d put is = ap (map view) put ∙ map-append view items (v ∷ []) ∙ ap (λ (x : Data). map view items ++ x ∷ []) is

module _ {K T : Type 0} (number : ℕ → Type 0) (key_of : ℕ → K) (json_of : K × T → Data) (legal : K × T → Type 0) where
  -- some entries are written, and the rest is left
  pub record IsWriting (values : List Data) (left all : Entries T) : Type 0 where
    pub done : Entries T
    pub whole : all ≡ done ++ left
    pub values_are : values ≡ map json_of (listed key_of done)
    pub legal_are : AllByRecursion legal (listed key_of done)
    pub numbers : All (λ e. number e.0) left

  pub writing_begins : (values : List Data) (left all : Entries T) → values ≡ [] → left ≡ all → All (λ e. number e.0) all → IsWriting values left all
  writing_begins values left all none same numbers = record { done = []; whole = sym same; values_are = none; legal_are = tt; numbers = subst (λ (es : Entries T). All (λ x. number x.0) es) (sym same) numbers }

  pub number_of_first : (values : List Data) (e : ℕ × NodeView T) (met left all : Entries T) → met ≡ e ∷ left → IsWriting values met all → number e.0
  number_of_first values e met left all first is = All-head (λ (x : ℕ × NodeView T). number x.0) e left (subst (λ (es : Entries T). All (λ x. number x.0) es) first is.numbers)

  pub writes_more : (values after : List Data) (e : ℕ × NodeView T) (met left all : Entries T) → met ≡ e ∷ left → IsWriting values met all → after ≡ values ++ json_of (key_of e.0, e.1.value) ∷ [] → legal (key_of e.0, e.1.value) → IsWriting after left all
  writes_more values after e met left all first is written fine = record {
    done = is.done ++ e ∷ [];
    whole = is.whole ∙ ap (λ (l : Entries T). is.done ++ l) first ∙ sym (append_assoc is.done (e ∷ []) left);
    values_are = written ∙ ap (λ (l : List Data). l ++ json_of (key_of e.0, e.1.value) ∷ []) is.values_are
        ∙ sym (ap (map json_of) (map-append (λ (x : ℕ × NodeView T). (key_of x.0, x.1.value)) is.done (e ∷ [])) ∙ map-append json_of (listed key_of is.done) ((key_of e.0, e.1.value) ∷ []));
    legal_are = subst (AllByRecursion legal) (sym (map-append (λ (x : ℕ × NodeView T). (key_of x.0, x.1.value)) is.done (e ∷ []))) (each_and legal (listed key_of is.done) ((key_of e.0, e.1.value) ∷ []) is.legal_are (fine, tt));
    numbers = All-tail (λ (x : ℕ × NodeView T). number x.0) e left (subst (λ (es : Entries T). All (λ x. number x.0) es) first is.numbers);
  }

  left_none : (values : List Data) (left all : Entries T) → left ≡ [] → (is : IsWriting values left all) → all ≡ is.done
  left_none values left all none is = is.whole ∙ ap (λ (l : Entries T). is.done ++ l) none ∙ append-nil is.done

  pub all_written : (values : List Data) (left all : Entries T) → left ≡ [] → IsWriting values left all → array (items_of values) ≡ rows_json json_of (listed key_of all)
  all_written values left all none is = ap (λ (l : List Data). array (items_of l)) (is.values_are ∙ ap (λ (l : Entries T). map json_of (listed key_of l)) (sym (left_none values left all none is)))

  pub all_legal : (values : List Data) (left all : Entries T) → left ≡ [] → IsWriting values left all → All legal (listed key_of all)
  all_legal values left all none is = by_each legal (listed key_of all) (subst (λ (l : Entries T). AllByRecursion legal (listed key_of l)) (sym (left_none values left all none is)) is.legal_are)

module _ {K T : Type 0} (number : ℕ → Type 0) (key_of : ℕ → K) where
  -- some entries are listed, and the rest is left
  pub record IsListing (rows : List (K × T)) (left all : Entries T) : Type 0 where
    pub whole : listed key_of all ≡ rows ++ listed key_of left
    pub numbers : All (λ e. number e.0) left

  pub listing_begins : (rows : List (K × T)) (left all : Entries T) → rows ≡ [] → left ≡ all → All (λ e. number e.0) all → IsListing rows left all
  listing_begins rows left all none same numbers = record {
    whole = ap (listed key_of) (sym same) ∙ ap (λ (l : List (K × T)). l ++ listed key_of left) (sym none);
    numbers = subst (λ (es : Entries T). All (λ x. number x.0) es) (sym same) numbers;
  }

  pub number_of_next : (rows : List (K × T)) (e : ℕ × NodeView T) (met left all : Entries T) → met ≡ e ∷ left → IsListing rows met all → number e.0
  number_of_next rows e met left all first is = All-head (λ (x : ℕ × NodeView T). number x.0) e left (subst (λ (es : Entries T). All (λ x. number x.0) es) first is.numbers)

  pub lists_more : (rows after : List (K × T)) (e : ℕ × NodeView T) (met left all : Entries T) → met ≡ e ∷ left → IsListing rows met all → after ≡ rows ++ (key_of e.0, e.1.value) ∷ [] → IsListing after left all
  lists_more rows after e met left all first is put = record {
    whole = is.whole ∙ ap (λ (l : Entries T). rows ++ listed key_of l) first ∙ sym (ap (λ (l : List (K × T)). l ++ listed key_of left) put ∙ append_assoc rows ((key_of e.0, e.1.value) ∷ []) (listed key_of left));
    numbers = All-tail (λ (x : ℕ × NodeView T). number x.0) e left (subst (λ (es : Entries T). All (λ x. number x.0) es) first is.numbers);
  }

  pub all_listed : (rows : List (K × T)) (left all : Entries T) → left ≡ [] → IsListing rows left all → rows ≡ listed key_of all
  all_listed rows left all none is = sym (is.whole ∙ ap (λ (l : Entries T). rows ++ listed key_of l) none ∙ append-nil rows)
