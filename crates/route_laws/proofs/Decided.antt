-- Whether two best routes are one is decided.
use Rattle.std.proofs.Common.{◌≡◌, ◌≢◌, ℕ, Bool, true, false, Option, None, Some, List, ◌⊎◌, refl, ap, ◌∙◌, inl, inr}
use Rattle.std.specs.Ordering.{nat_cmp}
use Rattle.keyed.specs.KeyOrders.{nat_order, lists_order}
use Rattle.std.specs.Cmp.Lexicographic.{slice_cmp}
use Rattle.keyed.specs.KeyedLaws.{decide}
use Rattle.net_types.specs.declared.client.Client.{Client}
use Rattle.net_types.specs.declared.hop.Hop.{Hop}
use Rattle.net_types.specs.declared.ip.Ip.TheVariants.{V4}
use Rattle.net_types.specs.KeyOrder.{hop_cmp, hop_order}
use Rattle.switch_model.specs.declared.key.RibKey.{RibKey}
use Rattle.switch_model.specs.declared.record.RouteRec.{RouteRec}
use Rattle.switch_model.specs.declared.record.RouteRec.TheVariants.{Hops, ToCpu, Discard}
use Rattle.switch_model.specs.BestRoute.{BestRoute, connected, learnt}
use Rattle.switch_model.specs.StateKeys.{rib_cmp, rib_order}

abbrev Decided : {A : Type 0} → A → A → Type 0
Decided a b = (a ≡ b) ⊎ (a ≢ b)

pub decide_bool : (a b : Bool) → Decided a b
decide_bool true true = inl refl
decide_bool true false = inr (λ h. cc)
decide_bool false true = inr (λ h. cc)
decide_bool false false = inl refl

abbrev of_client : Client → RibKey
of_client client = record { vrf = 0; prefix = record { ip = V4 0; len = 0 }; client = client }

decide_client : (a b : Client) → Decided a b
decide_client a b = elim (decide rib_cmp rib_order (of_client a) (of_client b)) [
  | inl same ↦ inl (ap (λ (k : RibKey). k.client) same)
  | inr differ ↦ inr (λ is. differ (ap of_client is))
]

abbrev hops_of : RouteRec → List Hop → List Hop
hops_of (Hops hops) other = hops
hops_of ToCpu other = other
hops_of Discard other = other

decide_route : (a b : RouteRec) → Decided a b
decide_route (Hops xs) (Hops ys) = elim (decide (slice_cmp hop_cmp) (lists_order hop_cmp hop_order) xs ys) [
  | inl same ↦ inl (ap Hops same)
  | inr differ ↦ inr (λ is. differ (ap (λ (r : RouteRec). hops_of r xs) is))
]
decide_route (Hops xs) ToCpu = inr (λ h. cc)
decide_route (Hops xs) Discard = inr (λ h. cc)
decide_route ToCpu (Hops ys) = inr (λ h. cc)
decide_route ToCpu ToCpu = inl refl
decide_route ToCpu Discard = inr (λ h. cc)
decide_route Discard (Hops ys) = inr (λ h. cc)
decide_route Discard ToCpu = inr (λ h. cc)
decide_route Discard Discard = inl refl

abbrev intf_of : BestRoute → ℕ → ℕ
intf_of (connected intf) other = intf
intf_of (learnt client route) other = other

abbrev client_of : BestRoute → Client → Client
client_of (connected intf) other = other
client_of (learnt client route) other = client

abbrev route_of : BestRoute → RouteRec → RouteRec
route_of (connected intf) other = other
route_of (learnt client route) other = route

decide_best : (a b : BestRoute) → Decided a b
decide_best (connected i) (connected j) = elim (decide nat_cmp nat_order i j) [
  | inl same ↦ inl (ap connected same)
  | inr differ ↦ inr (λ is. differ (ap (λ (b : BestRoute). intf_of b i) is))
]
decide_best (connected i) (learnt c r) = inr (λ h. cc)
decide_best (learnt c r) (connected i) = inr (λ h. cc)
decide_best (learnt c r) (learnt d s) = elim (decide_client c d) [
  | inl client ↦ elim (decide_route r s) [
    | inl route ↦ inl (ap (λ (x : Client). learnt x r) client ∙ ap (learnt d) route)
    | inr differ ↦ inr (λ is. differ (ap (λ (b : BestRoute). route_of b r) is))
  ]
  | inr differ ↦ inr (λ is. differ (ap (λ (b : BestRoute). client_of b c) is))
]

abbrev best_of : Option BestRoute → BestRoute → BestRoute
best_of None other = other
best_of (Some b) other = b

pub decide_some : (a b : Option BestRoute) → Decided a b
decide_some None None = inl refl
decide_some None (Some b) = inr (λ h. cc)
decide_some (Some a) None = inr (λ h. cc)
decide_some (Some a) (Some b) = elim (decide_best a b) [
  | inl same ↦ inl (ap Some same)
  | inr differ ↦ inr (λ is. differ (ap (λ (o : Option BestRoute). best_of o a) is))
]

-- what doesn't differ is the same
pub same_route : (a b : Option BestRoute) → (a ≢ b → ⊥) → a ≡ b
same_route a b alike = elim (decide_some a b) [ inl same ↦ same | inr differ ↦ absurd (alike differ) ]

pub same_test : (a b : Bool) → (a ≢ b → ⊥) → a ≡ b
same_test a b alike = elim (decide_bool a b) [ inl same ↦ same | inr differ ↦ absurd (alike differ) ]
