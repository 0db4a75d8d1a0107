-- A change of the value under a key.
use Rattle.std.proofs.Common.{◌≡◌, ℕ, List, [], ◌∷◌, None, Some, refl, sym, ap, ◌∙◌}
use Rattle.std.specs.Ordering.{nat_cmp}
use Rattle.std.specs.declared.cmp.Ordering.{Ordering}
use Rattle.keyed.specs.Keyed.{IsKeyOrder, at, change, put}
use Rattle.keyed.specs.KeyOrders.{nat_order}
use Rattle.keyed.specs.KeyedLaws.{by_order}
use Rattle.switch_model.specs.declared.record.IntfRec.{IntfRec}
use Rattle.switch_model.specs.declared.record.PortRec.{PortRec}
use Rattle.switch_model.specs.PlainState.{PlainState}

module _ {K V : Type 0} (cmp : K → K → Ordering) (is_order : IsKeyOrder cmp) where
  pub change-there : (k : K) (f : V → V) (v : V) (l : List (K × V)) → Some v ≡ at cmp k l → change cmp k f l ≡ put cmp k (f v) l
  change-there k f v [] is = absurd (cc)
  change-there k f v (e ∷ es) is = by_order (cmp k e.0)
      (λ h. let no : Some v ≡ None = rw h at is in absurd (cc))
      (λ h. let here : Some v ≡ Some e.1 = rw h at is in let value : v ≡ e.1 = cc in let key : k ≡ e.0 = is_order.exact k e.0 h in rw h (ap (λ (x : K). (x, f e.1) ∷ es) (sym key) ∙ ap (λ (x : V). (k, f x) ∷ es) (sym value)))
      (λ h. let rest : Some v ≡ at cmp k es = rw h at is in rw h (ap (λ r. e ∷ r) (change-there k f v es rest)))

  pub change-absent : (k : K) (f : V → V) (l : List (K × V)) → None ≡ at cmp k l → change cmp k f l ≡ l
  change-absent k f [] none = refl
  change-absent k f (e ∷ es) none = by_order (cmp k e.0)
      (λ h. rw h refl)
      (λ h. let no : None ≡ Some e.1 = rw h at none in absurd (cc))
      (λ h. let rest : None ≡ at cmp k es = rw h at none in rw h (ap (λ r. e ∷ r) (change-absent k f es rest)))

pub ports_changed : (m : PlainState) (port : ℕ) (f : PortRec → PortRec) (rec value : PortRec) → Some rec ≡ at nat_cmp port m.ports → value ≡ f rec → record m { ports = put nat_cmp port value m.ports } ≡ record m { ports = change nat_cmp port f m.ports }
ports_changed m port f rec value is same = ap (λ (v : PortRec). record m { ports = put nat_cmp port v m.ports }) same ∙ ap (λ (l : List (ℕ × PortRec)). record m { ports = l }) (sym (change-there nat_cmp nat_order port f rec m.ports is))

pub ports_unchanged : (m : PlainState) (port : ℕ) (f : PortRec → PortRec) → None ≡ at nat_cmp port m.ports → m ≡ record m { ports = change nat_cmp port f m.ports }
ports_unchanged m port f none = ap (λ (l : List (ℕ × PortRec)). record m { ports = l }) (sym (change-absent nat_cmp nat_order port f m.ports none))

pub intfs_changed : (m : PlainState) (intf : ℕ) (f : IntfRec → IntfRec) (rec value : IntfRec) → Some rec ≡ at nat_cmp intf m.intfs → value ≡ f rec → record m { intfs = put nat_cmp intf value m.intfs } ≡ record m { intfs = change nat_cmp intf f m.intfs }
intfs_changed m intf f rec value is same = ap (λ (v : IntfRec). record m { intfs = put nat_cmp intf v m.intfs }) same ∙ ap (λ (l : List (ℕ × IntfRec)). record m { intfs = l }) (sym (change-there nat_cmp nat_order intf f rec m.intfs is))

pub intfs_unchanged : (m : PlainState) (intf : ℕ) (f : IntfRec → IntfRec) → None ≡ at nat_cmp intf m.intfs → m ≡ record m { intfs = change nat_cmp intf f m.intfs }
intfs_unchanged m intf f none = ap (λ (l : List (ℕ × IntfRec)). record m { intfs = l }) (sym (change-absent nat_cmp nat_order intf f m.intfs none))
