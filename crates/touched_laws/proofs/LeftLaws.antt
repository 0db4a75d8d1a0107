-- What the entries of a round leave as it was.
use Rattle.std.proofs.Common.{List, [], ◌∷◌, ◌++◌, refl, sym, ap, ◌∙◌, inl, inr}
use Rattle.std.specs.List.{Contains}
use Rattle.std.specs.Option.{option_map}
use Rattle.std.specs.Ordering.{nat_cmp}
use Rattle.std.specs.declared.cmp.Ordering.{Ordering}
use Rattle.std.proofs.lemmas.List.Elements.{Contains-append_left, Contains-append_right, Contains-append_cases}
use Rattle.net_types.specs.declared.table.RouteKey.{RouteKey}
use Rattle.net_types.specs.KeyOrder.{l2_cmp}
use Rattle.row_laws.specs.RowAt.{fib_at}
use Rattle.row_laws.specs.Touching.{AreDifferences, DifferOnlyAt}
use Rattle.switch_laws.proofs.OrderLaws.{effect-in_order}
use Rattle.switch_model.specs.declared.act.Update.{Update}
use Rattle.switch_model.specs.declared.journal.Entry.{Entry}
use Rattle.switch_model.specs.declared.record.IntfRec.{IntfRec}
use Rattle.switch_model.specs.declared.verdict.Verdict.{Verdict}
use Rattle.switch_model.specs.declared.verdict.Verdict.TheVariants.{Accepted, Invalid, Full}
use Rattle.switch_model.proofs.Leaving.{leaves}
use Rattle.switch_model.specs.Journal.{after_entries, after_verdict}
use Rattle.switch_model.specs.PlainState.{ArePartsInOrder, PlainState}
use Rattle.switch_model.specs.Rows.{is_up}
use Rattle.switch_model.specs.StateKeys.{rib_cmp}
use Rattle.switch_model.specs.Touched.{Touched, touched_both, touched_entries, touched_verdict, untouched}
use Rattle.switch_model.specs.Untouched.{SameBeside, SameUntouched}
use Rattle.touched_laws.specs.Differences.{differences_of}

-- a state is as itself
unchanged : (m : PlainState) → SameUntouched untouched m m
unchanged m = record { vlans = λ k absent. refl; ports = λ k absent. refl; intfs = λ k absent. refl; macs = λ k absent. refl; neighbors = λ k absent. refl; routes = λ k absent. refl }

-- what neither of two lists of keys has, both changes leave
beside_both : {K V : Type 0} (cmp : K → K → Ordering) (ks js : List K) (l m n : List (K × V)) → SameBeside cmp ks l m → SameBeside cmp js m n → SameBeside cmp (ks ++ js) l n
beside_both cmp ks js l m n first second key absent = second key (λ has. absent (Contains-append_right ks js key has)) ∙ first key (λ has. absent (Contains-append_left ks js key has))

-- the lists of two families, put together
first_of : {K : Type 0} (a b c d : List K) (k : K) → Contains (a ++ c) k → Contains ((a ++ b) ++ (c ++ d)) k
first_of a b c d k has = elim (Contains-append_cases a c k has) [
  | inl here ↦ Contains-append_left (a ++ b) (c ++ d) k (Contains-append_left a b k here)
  | inr there ↦ Contains-append_right (a ++ b) (c ++ d) k (Contains-append_left c d k there)
]

second_of : {K : Type 0} (a b c d : List K) (k : K) → Contains (b ++ d) k → Contains ((a ++ b) ++ (c ++ d)) k
second_of a b c d k has = elim (Contains-append_cases b d k has) [
  | inl here ↦ Contains-append_left (a ++ b) (c ++ d) k (Contains-append_right a b k here)
  | inr there ↦ Contains-append_right (a ++ b) (c ++ d) k (Contains-append_right c d k there)
]

pub left_by_both : (s t : Touched) (m n o : PlainState) → SameUntouched s m n → SameUntouched t n o → SameUntouched (touched_both s t) m o
left_by_both s t m n o first second = record {
  vlans = beside_both nat_cmp s.vlans t.vlans m.vlans n.vlans o.vlans first.vlans second.vlans;
  ports = beside_both nat_cmp s.ports t.ports m.ports n.ports o.ports first.ports second.ports;
  intfs = beside_both nat_cmp s.intfs t.intfs m.intfs n.intfs o.intfs first.intfs second.intfs;
  macs = beside_both l2_cmp s.macs t.macs m.macs n.macs o.macs first.macs second.macs;
  neighbors = λ key absent. second.neighbors key (λ has. absent (second_of s.arps t.arps s.ndps t.ndps key has)) ∙ first.neighbors key (λ has. absent (first_of s.arps t.arps s.ndps t.ndps key has));
  routes = beside_both rib_cmp s.routes t.routes m.routes n.routes o.routes first.routes second.routes;
}

-- one entry
verdict_leaves : (m : PlainState) (update : Update) (verdict : Verdict) → ArePartsInOrder m → SameUntouched (touched_verdict m update verdict) m (after_verdict m update verdict)
verdict_leaves m update Accepted asc = leaves m update.act asc
verdict_leaves m update (Invalid r) asc = unchanged m
verdict_leaves m update (Full t) asc = unchanged m

verdict_in_order : (m : PlainState) (update : Update) (verdict : Verdict) → ArePartsInOrder m → ArePartsInOrder (after_verdict m update verdict)
verdict_in_order m update Accepted asc = effect-in_order m update.act asc
verdict_in_order m update (Invalid r) asc = asc
verdict_in_order m update (Full t) asc = asc

-- and all of them
pub entries-leave : (m : PlainState) (es : List Entry) → ArePartsInOrder m → SameUntouched (touched_entries m es) m (after_entries m es)
entries-leave m [] asc = unchanged m
entries-leave m (e ∷ es) asc =
    let next : PlainState = after_verdict m e.update e.verdict in
    left_by_both (touched_verdict m e.update e.verdict) (touched_entries next es) m next (after_entries next es) (verdict_leaves m e.update e.verdict asc) (entries-leave next es (verdict_in_order m e.update e.verdict asc))

pub entries-in_order : (m : PlainState) (es : List Entry) → ArePartsInOrder m → ArePartsInOrder (after_entries m es)
entries-in_order m [] asc = asc
entries-in_order m (e ∷ es) asc = entries-in_order (after_verdict m e.update e.verdict) es (verdict_in_order m e.update e.verdict asc)

-- what is touched is all that rows ask
pub touched-differences : (t : Touched) (fibs : List RouteKey) (m n : PlainState) → SameUntouched t m n → DifferOnlyAt fibs (fib_at m) (fib_at n) → AreDifferences (differences_of t fibs) m n
touched-differences t fibs m n same of_fibs = record {
  ports = record { same = λ k absent. ap is_up (sym (same.ports k absent)) };
  intfs = record { same = λ k absent. ap (option_map (λ (i : IntfRec). i.vrf)) (sym (same.intfs k absent)) };
  macs = record { same = λ k absent. sym (same.macs k absent) };
  neighbors = record { same = λ k absent. sym (same.neighbors k absent) };
  fibs = of_fibs;
}
