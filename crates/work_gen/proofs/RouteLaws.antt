-- A route that is drawn, from its five draws.
use Rattle.std.proofs.Common.{◌≡◌, ◌∙◌, ◌+◌, ℕ, List, ap}
use Rattle.net_types.specs.declared.client.Client.{Client}
use Rattle.net_types.specs.declared.hop.Hop.{Hop}
use Rattle.net_types.specs.Cidr.{Cidr}
use Rattle.rand_pcg.specs.Lcg.{Lcg}
use Rattle.switch_model.specs.declared.act.Act.{Act}
use Rattle.switch_model.specs.declared.act.Act.TheVariants.{RouteSet}
use Rattle.switch_model.specs.declared.via.Via.TheVariants.{Hops}
use Rattle.work_gen.specs.Values.{quad, client_of, hops_from}
use Rattle.work_gen.specs.Draws.{draw, route_set}

abbrev drawn_route : ℕ → ℕ → ℕ → ℕ → ℕ → Act
drawn_route p c i n h = RouteSet 0 (record { ip = quad 20 p 0 0; len = 16 }) (client_of (1 + c)) (Hops (hops_from (1 + n) (1 + i) (2 + h)))

abbrev Drawn : ℕ → Lcg → ℕ → Lcg → Type 0
Drawn n g word next = ◌≡◌ {A = ℕ × Lcg} (word, next) (draw n g)

from_draws : (g gp gc gi gn gh : Lcg) (p c i n h : ℕ) → Drawn 256 g p gp → Drawn 4 gp c gc → Drawn 8 gc i gi → Drawn 4 gi n gn → Drawn 100 gn h gh
    → ◌≡◌ {A = Act × Lcg} (drawn_route p c i n h, gh) (route_set g)
unfolding route_set
from_draws g gp gc gi gn gh p c i n h dp dc di dn dh =
    ap (λ (x : ℕ × Lcg). (drawn_route p c i n x.0, x.1)) dh
    ∙ ap (λ (y : ℕ × Lcg). let x = draw 100 y.1 in (drawn_route p c i y.0 x.0, x.1)) dn
    ∙ ap (λ (z : ℕ × Lcg). let y = draw 4 z.1 in let x = draw 100 y.1 in (drawn_route p c z.0 y.0 x.0, x.1)) di
    ∙ ap (λ (w : ℕ × Lcg). let z = draw 8 w.1 in let y = draw 4 z.1 in let x = draw 100 y.1 in (drawn_route p w.0 z.0 y.0 x.0, x.1)) dc
    ∙ ap (λ (v : ℕ × Lcg). let w = draw 4 v.1 in let z = draw 8 w.1 in let y = draw 4 z.1 in let x = draw 100 y.1 in (drawn_route v.0 w.0 z.0 y.0 x.0, x.1)) dp

pub route_drawn : (g gp gc gi gn gh : Lcg) (p c i n h vrf : ℕ) (prefix : Cidr) (client : Client) (hops : List Hop)
    → Drawn 256 g p gp → Drawn 4 gp c gc → Drawn 8 gc i gi → Drawn 4 gi n gn → Drawn 100 gn h gh
    → vrf ≡ 0 → prefix ≡ record { ip = quad 20 p 0 0; len = 16 } → client ≡ client_of (1 + c) → hops ≡ hops_from (1 + n) (1 + i) (2 + h)
    → ◌≡◌ {A = Act × Lcg} (RouteSet vrf prefix client (Hops hops), gh) (route_set g)
route_drawn g gp gc gi gn gh p c i n h vrf prefix client hops dp dc di dn dh v x k l =
    ap (λ a. (RouteSet a prefix client (Hops hops), gh)) v
    ∙ ap (λ a. (RouteSet 0 a client (Hops hops), gh)) x
    ∙ ap (λ a. (RouteSet 0 (record { ip = quad 20 p 0 0; len = 16 }) a (Hops hops), gh)) k
    ∙ ap (λ a. (RouteSet 0 (record { ip = quad 20 p 0 0; len = 16 }) (client_of (1 + c)) (Hops a), gh)) l
    ∙ from_draws g gp gc gi gn gh p c i n h dp dc di dn dh
