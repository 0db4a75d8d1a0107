-- What the first table whose rows differ says of the rows.
use Rattle.std.proofs.Common.{◌≡◌, ◌↔◌, Bool, true, false, Option, None, Some, IfSome, [], ◌∷◌, refl, sym, ap, subst, ◌∙◌}
use Rattle.std.specs.Bool.{beq, Decides}
use Rattle.std.specs.Cmp.Lexicographic.{pointwise}
use Rattle.std.proofs.lemmas.Bool.{false≢true}
use Rattle.net_types.specs.Differ.{same_host, same_l2, same_target}
use Rattle.net_types.specs.KeyOrder.{group_cmp, host_cmp, l2_cmp, route_cmp}
use Rattle.net_types.specs.Rows.{Rows}
use Rattle.net_types.specs.declared.table.Table.{Table}
use Rattle.net_types.specs.declared.table.Table.TheVariants.{L2, Host, Group, Route}
use Rattle.chip_rows.specs.Difference.{SameBefore, SameIn, first_differing, first_unlike, same_entries}
use Rattle.chip_rows.proofs.SameLaws.{groups_decide, hosts_decide, l2_decide, routes_decide}

module _ (a b : Rows) where
  -- what the comparisons of the tables decide
  record AreDecided (p q r s : Bool) : Type 0 where
    l2 : Decides p (SameIn L2 a b)
    host : Decides q (SameIn Host a b)
    group : Decides r (SameIn Group a b)
    route : Decides s (SameIn Route a b)

  abbrev found : Bool → Bool → Bool → Bool → Option Table
  found p q r s = first_unlike ((record { table = L2; same = p }) ∷ (record { table = Host; same = q }) ∷ (record { table = Group; same = r }) ∷ (record { table = Route; same = s }) ∷ [])

  abbrev l2 : Bool
  l2 = same_entries l2_cmp same_l2 a.l2 b.l2

  abbrev host : Bool
  host = same_entries host_cmp same_host a.host b.host

  abbrev group : Bool
  group = same_entries group_cmp (pointwise beq) a.group b.group

  abbrev route : Bool
  route = same_entries route_cmp same_target a.route b.route

  decided : AreDecided l2 host group route
  decided = record { l2 = l2_decide a.l2 b.l2; host = hosts_decide a.host b.host; group = groups_decide a.group b.group; route = routes_decide a.route b.route }

  differ_in : (p q r s : Bool) → AreDecided p q r s → IfSome (found p q r s) (λ t. SameIn t a b → ⊥)
  differ_in false q r s d = λ same. false≢true (d.l2.1 same)
  differ_in true false r s d = λ same. false≢true (d.host.1 same)
  differ_in true true false s d = λ same. false≢true (d.group.1 same)
  differ_in true true true false d = λ same. false≢true (d.route.1 same)
  differ_in true true true true d = tt

  same_before : (p q r s : Bool) → AreDecided p q r s → IfSome (found p q r s) (λ t. SameBefore t a b)
  same_before false q r s d = tt
  same_before true false r s d = d.l2.0 refl
  same_before true true false s d = (d.l2.0 refl, d.host.0 refl)
  same_before true true true false d = (d.l2.0 refl, d.host.0 refl, d.group.0 refl)
  same_before true true true true d = tt

  some-none : {t : Table} → Some t ≡ None → ⊥
  some-none h = cc

  whole : AreDecided true true true true → a ≡ b
  whole d = ap (λ x. record a { l2 = x }) (d.l2.0 refl) ∙ ap (λ x. record a { l2 = b.l2; host = x }) (d.host.0 refl) ∙ ap (λ x. record a { l2 = b.l2; host = b.host; group = x }) (d.group.0 refl) ∙ ap (λ x. record b { route = x }) (d.route.0 refl)

  none_then : (p q r s : Bool) → AreDecided p q r s → found p q r s ≡ None → a ≡ b
  none_then false q r s d none = absurd (some-none none)
  none_then true false r s d none = absurd (some-none none)
  none_then true true false s d none = absurd (some-none none)
  none_then true true true false d none = absurd (some-none none)
  none_then true true true true d none = whole d

  then_none : (p q r s : Bool) → AreDecided p q r s → a ≡ b → found p q r s ≡ None
  then_none false q r s d is = absurd (false≢true (d.l2.1 (ap (λ (x : Rows). x.l2) is)))
  then_none true false r s d is = absurd (false≢true (d.host.1 (ap (λ (x : Rows). x.host) is)))
  then_none true true false s d is = absurd (false≢true (d.group.1 (ap (λ (x : Rows). x.group) is)))
  then_none true true true false d is = absurd (false≢true (d.route.1 (ap (λ (x : Rows). x.route) is)))
  then_none true true true true d is = refl

  pub differs : (o : Option Table) → o ≡ first_differing a b → IfSome o (λ t. SameIn t a b → ⊥)
  differs o is = subst (λ (x : Option Table). IfSome x (λ t. SameIn t a b → ⊥)) (sym is) (differ_in l2 host group route decided)

  pub before : (o : Option Table) → o ≡ first_differing a b → IfSome o (λ t. SameBefore t a b)
  before o is = subst (λ (x : Option Table). IfSome x (λ t. SameBefore t a b)) (sym is) (same_before l2 host group route decided)

  pub none : (o : Option Table) → o ≡ first_differing a b → (o ≡ None) ↔ (a ≡ b)
  none o is = ((λ gone. none_then l2 host group route decided (sym is ∙ gone)), (λ same. is ∙ then_none l2 host group route decided same))
