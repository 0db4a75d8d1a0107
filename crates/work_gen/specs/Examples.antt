-- The first words and the first acts of seed 1, as another program computes them.
use Rattle.std.specs.Prelude.{◌≡◌, ◌∷◌, [], refl}
use Rattle.net_types.specs.declared.client.Client.TheVariants.{Openr, Ebgp}
use Rattle.rand_core.specs.Steps.{first_words}
use Rattle.rand_pcg.specs.Pcg.{pcg32}
use Rattle.switch_model.specs.declared.act.Act.TheVariants.{MacSet, NeighborSet, RouteSet, RouteDel}
use Rattle.switch_model.specs.declared.via.Via.TheVariants.{Hops}
use Rattle.work_gen.specs.Values.{quad, hops_from}
use Rattle.work_gen.specs.Draws.{seeded, acts, act_by, mac_set, neighbor_set, route_set, route_del}

pub words_of_one : first_words pcg32 6 (seeded 1) ≡ 3795398737 ∷ 17903413 ∷ 3545275701 ∷ 194195274 ∷ 2326030198 ∷ 2354257974 ∷ []
unfolding first_words
words_of_one = refl

-- route set 0 20.53.0.0/16 openr via 10.3.0.76 10.3.0.77 10.3.0.78, and so on
pub acts_of_one : acts 5 (seeded 1) ≡ RouteSet 0 (record { ip = quad 20 53 0 0; len = 16 }) Openr (Hops (hops_from 3 3 76))
    ∷ NeighborSet 1 (quad 10 1 0 197) 0x020000020ffa 1
    ∷ RouteDel 0 (record { ip = quad 20 36 0 0; len = 16 }) Ebgp
    ∷ RouteDel 0 (record { ip = quad 20 232 0 0; len = 16 }) Openr
    ∷ MacSet 4 0x020000010b56 28 ∷ []
unfolding acts act_by mac_set neighbor_set route_set route_del
acts_of_one = refl
