-- The counts of a state, part by part.
use Rattle.std.proofs.Common.{◌≡◌, ℕ, ◌+◌, Option, None, List, [], ◌∷◌, length, count_by, if◌then◌else◌, refl, sym, ap, ◌∙◌, subst, arith}
use Rattle.std.specs.List.{All}
use Rattle.std.specs.Option.{option_or}
use Rattle.std.specs.declared.cmp.Ordering.{Ordering}
use Rattle.std.proofs.lemmas.List.{length-map}
use Rattle.std.proofs.lemmas.List.Sums.{sum_by-cons}
use Rattle.std.proofs.lemmas.List.Elements.{All-head, All-tail, All-weaker}
use Rattle.keyed.specs.Keyed.{Ascends, IsKeyOrder, at}
use Rattle.keyed.specs.KeyedLaws.{below_at, length-put_new}
use Rattle.node_core.specs.Node.{NodeView}
use Rattle.node_map.specs.Map.{MapView}
use Rattle.node_map.specs.TreeNode.{Entries}
use Rattle.state_keys.specs.KeyLaws.{arp_numbering}
use Rattle.state_keys.specs.PartKeys.{IsArp, arp_of, fib_of, intf_of, ndp_of, port_of, rib_of, station_of, vlan_of}
use Rattle.state_scan.proofs.Joining.{at-together}
use Rattle.state_scan.proofs.Listing.{all-listed}
use Rattle.state_scan.proofs.Neighbors.{arp_list, arps_ascend, ndp_list, no_ndp}
use Rattle.state_scan.specs.Listed.{listed}
use Rattle.state_scan.specs.Neighbors.{AreNeighbors, neighbors}
use Rattle.state_scan.specs.Together.{together}
use Rattle.switch_model.specs.declared.key.NeighborKey.{NeighborKey}
use Rattle.switch_model.specs.declared.record.NeighborRec.{NeighborRec}
use Rattle.switch_model.specs.declared.record.FibEntry.{FibEntry}
use Rattle.switch_model.specs.declared.record.IntfRec.{IntfRec}
use Rattle.switch_model.specs.declared.record.MacRec.{MacRec}
use Rattle.switch_model.specs.declared.record.PortRec.{PortRec}
use Rattle.switch_model.specs.declared.record.RouteRec.{RouteRec}
use Rattle.switch_model.specs.declared.record.VlanRec.{VlanRec}
use Rattle.switch_model.specs.declared.record.Totals.{Totals}
use Rattle.switch_model.specs.StateKeys.{neighbor_cmp, neighbor_order}
use Rattle.switch_model.specs.Totals.{counted}
use Rattle.switch_state.specs.StateView.{StateView}
use Rattle.switch_state.specs.Valid.{IsState}
use Rattle.state_counts.specs.Counted.{KeepsUp, counts_of, ports_up}

-- lists with no key in common
length-together : {K V : Type 0} (cmp : K → K → Ordering) → IsKeyOrder cmp → (es others : List (K × V)) → Ascends cmp es → All (λ e. at cmp e.0 others ≡ None) es → length (together cmp es others) ≡ length es + length others
length-together cmp order [] others asc apart = let none : (n : ℕ) → n ≡ 0 + n = λ n. omega arith in none (length others)
length-together {K} {V} cmp order (e ∷ es) others asc apart =
    let P : K × V → Type 0 = λ x. at cmp x.0 others ≡ None in
    let none : at cmp e.0 (together cmp es others) ≡ None = at-together cmp order e.0 es others asc.1 ∙ ap (λ (o : Option V). option_or o (at cmp e.0 others)) (below_at cmp order e.0 es asc.0) ∙ All-head P e es apart in
    omega (arith, length-put_new cmp order e.0 e.1 (together cmp es others) none, length-together cmp order es others asc.1 (All-tail P e es apart))

apart : (arps ndps : MapView NeighborRec) → AreNeighbors arps ndps → All (λ e. at neighbor_cmp e.0 (ndp_list ndps) ≡ None) (arp_list arps)
apart arps ndps are = All-weaker (λ (e : NeighborKey × NeighborRec). IsArp e.0) (λ (e : NeighborKey × NeighborRec). at neighbor_cmp e.0 (ndp_list ndps) ≡ None) (λ e is. no_ndp e.0 ndps is.family are.by_ndp) (arp_list arps) (all-listed arp_numbering arps.entries are.by_arp)

length-listed : {K T : Type 0} (of : ℕ → K) (es : Entries T) → length (listed of es) ≡ length es
length-listed of es = length-map es (λ e. (of e.0, e.1.value))

length-neighbors : (arps ndps : MapView NeighborRec) → AreNeighbors arps ndps → length (neighbors arps ndps) ≡ length arps.entries + length ndps.entries
length-neighbors arps ndps are =
    length-together neighbor_cmp neighbor_order (arp_list arps) (ndp_list ndps) (arps_ascend arps are.by_arp are.ascends) (apart arps ndps are)
    ∙ ap (λ (n : ℕ). n + length (ndp_list ndps)) (length-listed arp_of arps.entries)
    ∙ ap (λ (n : ℕ). length arps.entries + n) (length-listed ndp_of ndps.entries)

ups_listed : (es : Entries PortRec) → count_by (λ e. e.1.up) (listed port_of es) ≡ ports_up es
ups_listed [] = refl
ups_listed (e ∷ es) =
    sum_by-cons (λ (x : ℕ × PortRec). if x.1.up then 1 else 0) (port_of e.0, e.1.value) (listed port_of es)
    ∙ ap (λ (n : ℕ). (if e.1.value.up then 1 else 0) + n) (ups_listed es)
    ∙ sym (sum_by-cons (λ (x : ℕ × NodeView PortRec). if x.1.value.up then 1 else 0) e es)

abbrev pub totals_of : ℕ → ℕ → ℕ → ℕ → ℕ → ℕ → ℕ → ℕ → Totals
totals_of ports up vlans intfs macs neighbors routes fib = record { ports = ports; up = up; vlans = vlans; intfs = intfs; macs = macs; neighbors = neighbors; routes = routes; fib = fib }

-- the counts of a state's maps, each by itself
abbrev pub map_counts : StateView → Totals
map_counts s = totals_of (counted (length s.ports.entries)) (counted (ports_up s.ports.entries)) (counted (length s.vlans.entries)) (counted (length s.intfs.entries)) (counted (length s.macs.entries)) (counted (length s.arps.entries + length s.ndps.entries)) (counted (length s.routes.entries)) (counted (length s.fibs.entries))

pub totals_same : {ports ports2 up up2 vlans vlans2 intfs intfs2 macs macs2 neighbors neighbors2 routes routes2 fib fib2 : ℕ} → ports ≡ ports2 → up ≡ up2 → vlans ≡ vlans2 → intfs ≡ intfs2 → macs ≡ macs2 → neighbors ≡ neighbors2 → routes ≡ routes2 → fib ≡ fib2 →
    totals_of ports up vlans intfs macs neighbors routes fib ≡ totals_of ports2 up2 vlans2 intfs2 macs2 neighbors2 routes2 fib2
totals_same a b c d e f g h = rw a (rw b (rw c (rw d (rw e (rw f (rw g (rw h refl)))))))

pub counts_by_map : (s : StateView) → IsState s → counts_of s ≡ map_counts s
counts_by_map s is = totals_same
    (ap counted (length-listed port_of s.ports.entries))
    (ap counted (ups_listed s.ports.entries))
    (ap counted (length-listed vlan_of s.vlans.entries))
    (ap counted (length-listed intf_of s.intfs.entries))
    (ap counted (length-listed station_of s.macs.entries))
    (ap counted (length-neighbors s.arps s.ndps (record { by_arp = is.arps.numbers; ascends = is.arps.ascends; by_ndp = is.ndps.numbers })))
    (ap counted (length-listed rib_of s.routes.entries))
    (ap counted (length-listed fib_of s.fibs.entries))

pub counts_are : (s : StateView) (t : Totals) → IsState s → t ≡ map_counts s → t ≡ counts_of s
counts_are s t is made = made ∙ sym (counts_by_map s is)

-- a count of a map, where that is the state's own
of_map : {T : Type 0} (n : ℕ) {seen own : MapView T} → seen ≡ own → n ≡ counted (length seen.entries) → n ≡ counted (length own.entries)
of_map n same is = is ∙ ap (λ (m : MapView _). counted (length m.entries)) same

of_both : (n : ℕ) {arps ndps arps2 ndps2 : MapView NeighborRec} → arps ≡ arps2 → ndps ≡ ndps2 → n ≡ counted (length arps.entries + length ndps.entries) → n ≡ counted (length arps2.entries + length ndps2.entries)
of_both n {arps} {ndps} {arps2} {ndps2} first second is =
    is
    ∙ ap (λ (m : MapView NeighborRec). counted (length m.entries + length ndps.entries)) first
    ∙ ap (λ (m : MapView NeighborRec). counted (length arps2.entries + length m.entries)) second

pub counted_by_map : (s : StateView) → IsState s →
    {ports ports2 : MapView PortRec} {vlans : MapView VlanRec} {intfs : MapView IntfRec} {macs : MapView MacRec} {arps ndps : MapView NeighborRec} {routes : MapView RouteRec} {fibs : MapView FibEntry} →
    ports ≡ s.ports → ports2 ≡ s.ports → vlans ≡ s.vlans → intfs ≡ s.intfs → macs ≡ s.macs → arps ≡ s.arps → ndps ≡ s.ndps → routes ≡ s.routes → fibs ≡ s.fibs →
    {a b c d e f g h : ℕ} → a ≡ counted (length ports.entries) → b ≡ counted (ports_up ports2.entries) → c ≡ counted (length vlans.entries) → d ≡ counted (length intfs.entries) → e ≡ counted (length macs.entries) → f ≡ counted (length arps.entries + length ndps.entries) → g ≡ counted (length routes.entries) → h ≡ counted (length fibs.entries) →
    totals_of a b c d e f g h ≡ counts_of s
counted_by_map s is ports ports2 vlans intfs macs arps ndps routes fibs {a} {b} {c} {d} {e} {f} {g} {h} a_is b_is c_is d_is e_is f_is g_is h_is =
    totals_same
    (of_map a ports a_is)
    (b_is ∙ ap (λ (m : MapView PortRec). counted (ports_up m.entries)) ports2)
    (of_map c vlans c_is)
    (of_map d intfs d_is)
    (of_map e macs e_is)
    (of_both f arps ndps f_is)
    (of_map g routes g_is)
    (of_map h fibs h_is)
    ∙ sym (counts_by_map s is)

-- what was kept up of maps, where these are those of two states
pub after_map : {T : Type 0} (before now : ℕ) {seen seen2 old new : MapView T} → seen ≡ old → seen2 ≡ new → (before ≡ counted (length seen.entries) → now ≡ counted (length seen2.entries)) → before ≡ counted (length old.entries) → now ≡ counted (length new.entries)
after_map before now {seen} {seen2} {old} {new} same same2 keeps whole = keeps (whole ∙ ap (λ (m : MapView _). counted (length m.entries)) (sym same)) ∙ ap (λ (m : MapView _). counted (length m.entries)) same2

pub after_ups : (before now : ℕ) {seen seen2 old new : MapView PortRec} → seen ≡ old → seen2 ≡ new → (before ≡ counted (ports_up seen.entries) → now ≡ counted (ports_up seen2.entries)) → before ≡ counted (ports_up old.entries) → now ≡ counted (ports_up new.entries)
after_ups before now {seen} {seen2} {old} {new} same same2 keeps whole = keeps (whole ∙ ap (λ (m : MapView PortRec). counted (ports_up m.entries)) (sym same)) ∙ ap (λ (m : MapView PortRec). counted (ports_up m.entries)) same2

pub kept_of_maps : (before now : ℕ) {seen seen2 old new : MapView NeighborRec} → seen ≡ old → seen2 ≡ new → KeepsUp before (length seen.entries) now (length seen2.entries) → KeepsUp before (length old.entries) now (length new.entries)
kept_of_maps before now {seen} {seen2} {old} {new} same same2 keeps = subst (λ (m : MapView NeighborRec). KeepsUp before (length m.entries) now (length new.entries)) same (subst (λ (m : MapView NeighborRec). KeepsUp before (length seen.entries) now (length m.entries)) same2 keeps)
